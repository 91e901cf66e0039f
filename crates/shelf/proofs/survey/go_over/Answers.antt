use mathlib.Core.Path.{sym, ◌∙◌}
use Rattle.shelf_bytes.proofs.HeadLaws.{number_in}
use Rattle.shelf.proofs.Turns.{too_long, going_starts, at_end_lem, at_zero, no_record, still_small, going_on}
use Rattle.shelf.proofs.survey.go_over.Goals as goal

pub returns-then-area-gt-AREA : goal.returns-then-area-gt-AREA
returns-then-area-gt-AREA c = too_long _ _ _ c.if-area-gt-AREA.true

pub loop-at-init : goal.loop-at-init
loop-at-init c = going_starts _ _ _ c.if-area-gt-AREA.false

pub returns-then-area-at-eq0 : goal.returns-then-area-at-eq0
returns-then-area-at-eq0 c =
    c.then_some.ensures
    ∙ at_zero _ _ _ c.loop-at.at c.loop-at.set c.loop-at.s c.loop-at.invariant c.if-area-at-eq0.true _ c.zeros_from.ensures

pub returns-in_err-size : goal.returns-in_err-size
returns-in_err-size c =
    c.from_residual.ensures
    ∙ no_record _ _ _ c.loop-at.at c.loop-at.set c.loop-at.s c.loop-at.invariant c.loop-at-test.true c.if-area-at-eq0.false c.in_err-size.ensures

pub with_record-s-requires : goal.with_record-s-requires
with_record-s-requires c =
    still_small _ _ _ c.loop-at.at c.loop-at.set c.loop-at.s c.loop-at.invariant c.loop-at-test.true c.if-area-at-eq0.false _ _ c.in_ok-size.ensures

pub loop-at-preserved : goal.loop-at-preserved
loop-at-preserved c =
    going_on _ _ _ c.loop-at.at c.loop-at.set c.loop-at.s c.loop-at.invariant c.loop-at-test.true c.if-area-at-eq0.false _ _ c.in_ok-size.ensures
    _ (c.number_at.ensures ∙ sym (number_in _ c.loop-at.at 2)) c.with_record-s.ensures

pub returns : goal.returns
returns c = at_end_lem _ _ _ c.loop-at.at c.loop-at.set c.loop-at.s c.loop-at.invariant c.loop-at-test.false
