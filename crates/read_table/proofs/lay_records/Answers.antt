use Prim.Native.Nat.{ℕ}
use mathlib.Core.Path.{◌≡◌, refl, ap, ◌∙◌}
use native.Mathlib.Omega.{arith}
use lib.ListN.{length}
use Rattle.read_table.specs.Built.{laid_rows}
use Rattle.read_table.proofs.Laid.{laid_length, turn_lays, turn_passes}
use Rattle.read_table.proofs.lay_records.Goals as goal
use Rattle.read_table.proofs.lay_records.Goals.{then-words-at-eq2, else-words-at-eq2}

pub loop-i-init : goal.loop-i-init
unfolding laid_rows
loop-i-init c =
    refl

pub loop-i-preserved : goal.loop-i-preserved
loop-i-preserved c =
    elim c.if-words-at-eq2.branch [
      | then-words-at-eq2 w ↦ turn_lays c.args.text.now c.args.words.now c.args.strings.now c.loop-i.i _ c.if-words-at-eq2.strings c.loop-i.invariant w.if-words-at-eq2.true (w.strings-is ∙ w.lay.ensures.buffer_after)
      | else-words-at-eq2 w ↦ turn_passes c.args.text.now c.args.words.now c.args.strings.now c.loop-i.i _ c.if-words-at-eq2.strings c.loop-i.invariant w.if-words-at-eq2.false w.strings-is
    ]

pub shape_of-strings : goal.shape_of-strings
shape_of-strings c =
    ap length c.loop-i.invariant ∙ laid_length c.args.text.now c.loop-i.i c.args.words.now c.args.strings.now

pub returns : goal.returns
returns c =
    let all : c.loop-i.i ≡ c.args.count = omega arith in
    c.loop-i.invariant ∙ ap (λ (n : ℕ). laid_rows c.args.text.now n c.args.words.now c.args.strings.now) all
