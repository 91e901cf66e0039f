-- A day with a second and a zone.
use mathlib.Core.Path.{ap}
use native.Mathlib.Omega.{arith}
use Rattle.document.specs.Posology as P
use Rattle.document.specs.Date.{minutes_west}
use Rattle.read_fields.specs.DateParts.{day_read, in_zone}
use Rattle.read_fields.proofs.DateLaws.{zone_east, zone_west, west_cell}
use Rattle.read_fields.proofs.date.zoned.Goals as goal
use Rattle.read_fields.proofs.date.zoned.Goals.{in-43, in-45}

pub returns : goal.returns
returns c =
    let d = day_read c.args.day in
    elim c.match-sign.branch [
      | in-43 w ↦ (P.moment d c.args.second (P.east c.args.zone), ap (in_zone d c.args.second) (zone_east c.args.sign c.args.zone (omega arith) w.in-43.is), rw w.west-is)
      | in-45 w ↦ (P.moment d c.args.second (minutes_west c.args.zone), ap (in_zone d c.args.second) (zone_west c.args.sign c.args.zone (omega arith) w.in-45.is), rw w.west-is (west_cell d c.args.second c.args.zone))
    ]
