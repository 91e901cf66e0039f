-- Each turn of the loop reads one element, and what is left settles the whole list.
use mathlib.Core.Path.{refl, sym, ◌∙◌}
use native.Mathlib.Omega.{arith}
use Rattle.read_fields.proofs.Refusals.{refuses_as, raised}
use Rattle.read_dosages.specs.Visiting.{an_application, ApplicationRows}
use Rattle.read_dosages.proofs.Rowed.{did_as, kept_done}
use Rattle.read_dosages.proofs.Chunks.{no_application, applications_join}
use Rattle.read_dosages.proofs.Listing.{going_starts, going_over, going_refused, going_on}
use Rattle.read_dosages.proofs.application.read_applications.Goals as goal

pub loop-terms-init : goal.loop-terms-init
loop-terms-init c =
    (c.requires.0, omega arith, refl, λ l tells p es a. going_starts _ _ _ _ _ _ tells a c.first_in-e.ensures)

pub returns-in_err-v-clause-visits_each : goal.returns-in_err-v-clause-visits_each
returns-in_err-v-clause-visits_each c =
    rw (raised c.from_residual.result c.from_residual.ensures.1) (λ l tells p es a.
    let g = c.loop-terms.invariant.3 l tells p es a in
    going_refused _ _ _ _ g (sym c.at_end.ensures ∙ c.loop-terms-test.true) c.in_err-v.field-0.0 c.loop-terms.words (λ t h. c.in_err-v.ensures.object_at t h (an_application c.args.timed) g.state) refl)

pub returns-in_err-used-clause-visits_each : goal.returns-in_err-used-clause-visits_each
returns-in_err-used-clause-visits_each c =
    rw (raised c.from_residual-in_err-used.result c.from_residual-in_err-used.ensures.1) (λ l tells p es a.
    let g = c.loop-terms.invariant.3 l tells p es a in
    going_refused _ _ _ _ g (sym c.at_end.ensures ∙ c.loop-terms-test.true) c.in_err-used.field-0.0 c.read_application.new.words
    (λ t h.
    let x = c.in_ok-v.ensures.object_at t h in
    refuses_as (x.outcome (an_application c.args.timed) g.state) (c.in_err-used.ensures.visits_object g.state g.tells x.place x.inner x.stands).0)
    c.in_err-used.ensures.kept.size)

pub loop-terms-preserved : goal.loop-terms-preserved
loop-terms-preserved c =
    let grown = c.in_ok-used.ensures.kept.grown in (
      record { size = c.in_ok-used.ensures.kept.size ∙ c.loop-terms.invariant.0.size; few = grown.few; fits = grown.fits },
      omega (arith, c.loop-terms.invariant.1, grown.some),
      c.in_ok-used.ensures.kept.size ∙ c.loop-terms.invariant.2,
      λ l tells p es a.
          let g = c.loop-terms.invariant.3 l tells p es a in
          going_on _ _ _ _ g (sym c.at_end.ensures ∙ c.loop-terms-test.true) {one = ApplicationRows c.args.timed}
          (λ t h.
          let x = c.in_ok-v.ensures.object_at t h in
          did_as (x.outcome (an_application c.args.timed) g.state) (c.in_ok-used.ensures.visits_object g.state g.tells x.place x.inner x.stands))
          (λ end b bs k k' e e'. (applications_join c.args.timed b bs k k' e.0 e'.0, e'.1 ∙ e.1))
          c.next_after-e.ensures,
    )

pub returns : goal.returns
returns c =
    record {
      visits_each = λ l tells p es a. going_over _ _ _ _ (c.loop-terms.invariant.3 l tells p es a) (sym c.at_end.ensures ∙ c.loop-terms-test.false) (no_application c.args.timed, refl);
      kept = kept_done c.loop-terms.invariant.2 (record { some = omega (arith, c.loop-terms.invariant.1); few = c.loop-terms.invariant.0.few; fits = c.loop-terms.invariant.0.fits });
    }
