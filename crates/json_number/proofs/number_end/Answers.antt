use mathlib.Core.Path.{refl}
use mathlib.Core.Bool.{false≢true}
use native.Mathlib.Omega.{arith}
use Rattle.json_grammar.specs.Part.{past, if_may_end, number_stop}
use Rattle.json_grammar.specs.declared.number.InNumber.TheVariants.{Start, Whole}
use Rattle.json_grammar.proofs.Passes.{passes_none, passes_one, answers_here, answers_end, skipped}
use Rattle.json_number.proofs.Digits.{number_goes, number_ends, number_none, over_at, whole_passes}
use Rattle.json_number.proofs.number_end.Goals as goal
use Rattle.json_number.proofs.number_end.Goals.{then-begins_whole+else-ends_whole, else-begins_whole}

pub overflow_add-at : goal.overflow_add-at
overflow_add-at c =
    omega (arith, (c.begins_whole.ensures c.if-begins_whole.true).0)

pub returns-then-ends_whole : goal.returns-then-ends_whole
returns-then-ends_whole c =
    let e = c.ends_whole.ensures c.if-ends_whole.true in
    let k = c.digits_end-i.ensures Whole refl in
    (answers_here (whole_passes (c.begins_whole.ensures c.if-begins_whole.true) k) e.0 past (number_ends Whole _ e.1), omega arith, omega arith)

pub loop-i-init : goal.loop-i-init
loop-i-init c =
    elim c.if-begins_whole.branch [
      | then-begins_whole+else-ends_whole w ↦
          let b = c.begins_whole.ensures w.if-begins_whole.true in
          let k = w.digits_end-i.ensures Whole refl in
          rw (w.part-is, w.i-is) (whole_passes b k, λ e. (omega arith, b.0))
      | else-begins_whole w ↦ rw (w.part-is, w.i-is) (passes_none (number_stop Start) _ _, λ e. absurd (false≢true e))
    ]

pub loop-i-preserved : goal.loop-i-preserved
loop-i-preserved c =
    (skipped (passes_one c.loop-i.invariant.0 c.loop-i-test.true (number_goes _ _ (cc))) c.digits_skipped-i.ensures, λ e. (omega arith, omega arith))

pub returns-in-None : goal.returns-in-None
returns-in-None c =
    let p = c.loop-i.invariant in
    over_at _ _ _ _ c.over.result (answers_here p.0 c.loop-i-test.true (if_may_end c.loop-i.part) (number_ends _ _ (cc)))
    (λ e. (p.1 e).0) c.over.ensures

pub returns : goal.returns
returns c =
    let p = c.loop-i.invariant in
    over_at _ _ _ _ c.over-2.result (answers_end p.0 (if_may_end c.loop-i.part) c.loop-i-test.false (number_none _))
    (λ e. (p.1 e).1) c.over-2.ensures
