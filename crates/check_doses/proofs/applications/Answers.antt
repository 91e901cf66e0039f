use native.Mathlib.Omega.{arith}
use borrow.Author.Tests.{eqb-true, eqb-false}
use Rattle.check_doses.proofs.Decided.{applied_rest, applied_ends}
use Rattle.check_doses.specs.Doses.{none, more}
use Rattle.check_doses.proofs.applications.Goals as goal

pub loop-at-preserved : goal.loop-at-preserved
loop-at-preserved c =
    (λ p. c.loop-at.invariant.0 (more (c.application.ensures.yes c.if-not-application.false) p), λ p. applied_rest (c.loop-at.invariant.1 p) c.loop-at-test.true)

pub returns : goal.returns
returns c = record {
  yes = λ e. c.loop-at.invariant.0 (none (eqb-true _ _ e));
  no = λ e p. let h = applied_ends (c.loop-at.invariant.1 p) in eqb-false _ _ e (omega arith);
}
