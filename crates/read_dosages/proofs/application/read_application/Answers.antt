-- An application opened, with a record left for it.
use mathlib.Core.Path.{refl, sym, ◌∙◌}
use mathlib.Core.List.{[]}
use borrow.Author.Tests.{leb-true}
use Rattle.document.specs.Visit.{entries_of}
use Rattle.read_fields.proofs.Refusals.{refuses_as, raised}
use Rattle.read_dosages.specs.Visiting.{an_application, ApplicationRows}
use Rattle.read_dosages.proofs.Rowed.{visited_as}
use Rattle.read_dosages.proofs.Bodies.{object_at, body_full, plain_as}
use Rattle.read_dosages.proofs.Known.{application_plain, application_known}
use Rattle.read_dosages.proofs.application.read_application.Goals as goal

pub returns-in_err-o-clause-visits_object : goal.returns-in_err-o-clause-visits_object
returns-in_err-o-clause-visits_object c =
    rw (raised c.from_residual.result c.from_residual.ensures.1) (λ l tells p ms a. rw (object_at a) (c.in_err-o.ensures p ms a (an_application c.args.timed) l, refl))

pub returns-then-is_full-clause-visits_object : goal.returns-then-is_full-clause-visits_object
returns-then-is_full-clause-visits_object c =
    λ l tells p ms a.
    let g = plain_as (c.in_ok-o.ensures p ms a) (an_application c.args.timed) tells (application_plain c.args.timed) (object_at a) in (
      refuses_as g.outcome
          (body_full (an_application c.args.timed) 0 [] p (entries_of ms) g.tells (application_known c.args.timed refl).counted (leb-true _ _ (sym c.is_full.ensures ∙ c.if-is_full.true)) c.args.at (object_at a) c.requires.1),
      refl,
    )

pub returns-clause-visits_object : goal.returns-clause-visits_object
returns-clause-visits_object c =
    λ l tells p ms a.
    let x = c.in_ok-o.ensures p ms a in
    let g = plain_as x (an_application c.args.timed) tells (application_plain c.args.timed) (object_at a) in
    visited_as c.args.terms c.args.text.now c.args.used c.args.words.now (ApplicationRows c.args.timed) c.application_fields.result c.application_fields.new.words g.outcome (c.application_fields.ensures.visits_body g.state g.tells p ms a x.settled)
