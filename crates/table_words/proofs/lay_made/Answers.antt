use Prim.Native.Nat.{◌*◌, ◌<◌}
use mathlib.Core.Path.{ap, ◌∙◌}
use native.Mathlib.Omega.{arith}
use Rattle.document.specs.Words.{width}
use Rattle.table_kinds.specs.Kinds.{record_in}
use Rattle.table_kinds.proofs.Tags.{record_inside}
use Rattle.table_rows.specs.Storing.{of_row}
use Rattle.table_rows.proofs.Storing.{stored_length, rest_kept}
use Rattle.table_words.proofs.Anew.{made_more, one_behind}
use Rattle.table_words.proofs.lay_made.Goals as goal

pub loop-i-preserved : goal.loop-i-preserved
loop-i-preserved c =
    let there : c.loop-i.i < 64 = omega arith in
    let here = c.record_at-r.ensures ∙ record_inside c.loop-i.words (c.loop-i.i * width) (omega (arith, c.loop-i.invariant.0)) ∙ ap record_in c.loop-i.invariant.1 in
    let v = of_row c.kind_row.result in
    rw c.put.ensures (
      stored_length c.loop-i.words c.loop-i.i v c.loop-i.invariant.0 there,
      rest_kept c.loop-i.words c.loop-i.i v c.loop-i.invariant.0 there ∙ one_behind c.loop-i.words c.args.words.now c.loop-i.i c.loop-i.invariant.1,
      λ rs m. made_more rs c.loop-i.words c.loop-i.i there (c.loop-i.invariant.2 rs m) v c.record_at-r.result m.size (here ∙ m.each c.loop-i.i c.loop-i-test.true) c.kind_row.ensures,
    )
