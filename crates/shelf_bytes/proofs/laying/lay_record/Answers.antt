-- Each part is put behind the one before it.
use native.Mathlib.Omega.{arith}
use mathlib.Core.List.{[]}
use Rattle.write_bytes.proofs.Laid.{lays_then, lays_in}
use Rattle.shelf_bytes.proofs.LayLaws.{record_laid}
use Rattle.shelf_bytes.proofs.laying.lay_record.Goals as goal

pub returns : goal.returns
returns c =
    let parts = lays_then (c.put_all.ensures _) (lays_then (c.put_low_bytes.ensures _) (lays_then (c.put_low_bytes-2.ensures _) (c.put_all-2.ensures []))) in
    record_laid c.args.number c.args.plain.now (omega (arith, c.ranges.from.fits)) (omega arith)
    (lays_in c.new-out.ensures.value (grind (arith, parts.same_buffer, c.new-out.ensures.same_buffer)) parts)
