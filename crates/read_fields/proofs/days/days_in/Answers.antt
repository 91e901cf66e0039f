-- The days of a list: each is refused, or marked; then repeats.
use Prim.Native.Nat.{◌≤◌}
use mathlib.Core.Path.{◌≡◌, refl, sym, ◌∙◌}
use mathlib.Core.Bool.{true, false}
use mathlib.Core.Logic.{◌⊎◌, inl, inr}
use lib.ListN.{replicate, length, drop}
use Rattle.json_move.specs.Moving.{at_end}
use Rattle.read_fields.proofs.DayLaws.{no_marks}
use Rattle.read_fields.proofs.DayElements.{days_start, day_refused, day_more, days_twice, days_once}
use Rattle.read_fields.proofs.Refusals.{raised}
use Rattle.read_fields.proofs.days.days_in.Goals as goal
use Rattle.read_fields.proofs.days.days_in.Goals.{else-loop-test, then-loop-test+then-at_end}

pub loop-init : goal.loop-init
loop-init c =
    days_start c.args.text.now c.args.at c.args.most c.first_in-e.result (replicate 29 false) c.args.first refl (no_marks 29) c.first_in-e.ensures

pub returns-in_err-counted-clause-days_in : goal.returns-in_err-counted-clause-days_in
returns-in_err-counted-clause-days_in c =
    rw (raised c.from_residual.result c.from_residual.ensures.1)
    (day_refused c.args.text.now c.args.at c.args.most c.loop.e c.loop.counter c.loop.stood c.loop.again c.args.first c.loop.used c.loop.invariant (sym c.at_end.ensures ∙ c.if-at_end.false) c.in_err-counted.field-0.0 c.in_err-counted.ensures.counts_at)

pub loop-preserved : goal.loop-preserved
loop-preserved c =
    day_more c.args.text.now c.args.at c.args.most c.loop.e c.loop.counter c.loop.stood c.loop.again c.args.first c.loop.used c.loop.invariant (sym c.at_end.ensures ∙ c.if-at_end.false)
    c.in_ok-counted.counted c.next_after-e.result c.requires c.in_ok-counted.ensures.counts_at c.in_ok-counted.ensures.counts_still c.in_ok-counted.ensures.counts_within c.next_after-e.ensures

pub returns-then-again-clause-days_in : goal.returns-then-again-clause-days_in
returns-then-again-clause-days_in c =
    let over : (at_end (drop c.loop.e c.args.text.now) ≡ true) ⊎ (length c.args.text.now ≤ c.loop.counter) = elim c.loop-test.branch [ else-loop-test w ↦ inr w.loop-test.false | then-loop-test+then-at_end w ↦ inl (sym w.at_end.ensures ∙ w.if-at_end.true) ] in
    days_twice c.args.text.now c.args.at c.args.most c.loop.e c.loop.counter c.loop.stood c.loop.again c.args.first c.loop.used c.loop.invariant over c.if-again.true

pub returns-clause-days_in : goal.returns-clause-days_in
returns-clause-days_in c =
    let over : (at_end (drop c.loop.e c.args.text.now) ≡ true) ⊎ (length c.args.text.now ≤ c.loop.counter) = elim c.loop-test.branch [ else-loop-test w ↦ inr w.loop-test.false | then-loop-test+then-at_end w ↦ inl (sym w.at_end.ensures ∙ w.if-at_end.true) ] in
    days_once c.args.text.now c.args.at c.args.most c.loop.e c.loop.counter c.loop.stood c.loop.again c.args.first c.loop.used c.loop.invariant over c.if-again.false c.set_of.result c.set_of.ensures
