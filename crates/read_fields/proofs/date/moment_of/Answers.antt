-- A time and a zone behind a day.
use mathlib.Core.Path.{◌≡◌}
use mathlib.Core.Bool.{true, false}
use lib.ListN.{drop}
use Rattle.read_fields.specs.DateParts.{marked, day_read}
use Rattle.read_fields.proofs.DateLaws.{moment_not_over, moment_tests}
use Rattle.read_fields.proofs.date.moment_of.Goals as goal
use Rattle.read_fields.proofs.date.moment_of.Goals.{then-bytes-ne25-via-then-bytes-ne25, then-bytes-ne25-via-else-bytes-ne25+then-not-is_at}

pub returns-then-bytes-ne25 : goal.returns-then-bytes-ne25
returns-then-bytes-ne25 c =
    let over = moment_not_over c.args.bytes.now (day_read c.args.day) _ c.in_ok-minutes.ensures _ c.in_ok-second.ensures _ c.in_ok-zone.ensures in
    let tests = moment_tests c.args.bytes.now (day_read c.args.day) _ c.in_ok-minutes.ensures _ c.in_ok-second.ensures _ c.in_ok-zone.ensures in
    elim c.then-bytes-ne25.branch [
      | then-bytes-ne25-via-then-bytes-ne25 w ↦ over w.if-bytes-ne25.true
      | then-bytes-ne25-via-else-bytes-ne25+then-not-is_at w ↦ let t : marked 84 (drop 10 c.args.bytes.now) ≡ false = cc (w.is_at.ensures, w.if-not-is_at.true) in rw (tests w.if-bytes-ne25.false, t)
    ]

pub returns : goal.returns
returns c =
    let t : marked 84 (drop 10 c.args.bytes.now) ≡ true = cc in
    rw (moment_tests c.args.bytes.now (day_read c.args.day) _ c.in_ok-minutes.ensures _ c.in_ok-second.ensures _ c.in_ok-zone.ensures c.if-bytes-ne25.false, t) c.zoned.ensures
