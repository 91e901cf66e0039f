-- A dosage by its type.
use mathlib.Core.Path.{refl, sym, ◌∙◌}
use mathlib.Core.List.{[], ◌∷◌}
use native.Mathlib.Omega.{arith}
use borrow.Author.Tests.{leb-true}
use Rattle.document.specs.Bytes.{bytes}
use Rattle.document.specs.Schema.{a_dosage}
use Rattle.document.specs.Visit.{entries_of}
use Rattle.read_fields.proofs.Refusals.{refuses_as, raised}
use Rattle.read_dosages.specs.Visiting.{DosageRows}
use Rattle.read_dosages.proofs.Rowed.{visited_goes}
use Rattle.read_dosages.proofs.Bodies.{object_at, body_full, typed_as}
use Rattle.read_dosages.proofs.dosage.read_dosage.Goals as goal

pub returns-in_err-o-clause-visits_object : goal.returns-in_err-o-clause-visits_object
returns-in_err-o-clause-visits_object c =
    rw (raised c.from_residual.result c.from_residual.ensures.1) (λ l tells p ms a. rw (object_at a) (c.in_err-o.ensures.opens_typed (omega arith) p ms a a_dosage refl c.args.terms l tells, refl))

pub returns-then-is_full-clause-visits_object : goal.returns-then-is_full-clause-visits_object
returns-then-is_full-clause-visits_object c =
    λ l tells p ms a.
    let x = c.in_ok-o.ensures.opens_typed (omega arith) p ms a in
    let g = typed_as x a_dosage _ tells refl refl refl refl (object_at a) in
    (refuses_as g.outcome (body_full a_dosage _ (bytes "t" ∷ []) p (entries_of ms) g.tells refl (leb-true _ _ (sym c.is_full.ensures ∙ c.if-is_full.true)) c.args.at (object_at a) c.requires.1), refl)

pub returns-in-1-clause-visits_object : goal.returns-in-1-clause-visits_object
returns-in-1-clause-visits_object c =
    λ l tells p ms a.
    let x = c.in_ok-o.ensures.opens_typed (omega arith) p ms a in
    let g = typed_as x a_dosage 1 tells refl c.in-1.is refl refl (object_at a) in
    visited_goes c.args.terms c.args.text.now c.args.words.now DosageRows c.simple.result c.simple.new.words c.in_ok-o.ensures.opens_still g (c.simple.ensures.visits_typed g.state g.tells p ms a x.settled)

pub returns-in-2-clause-visits_object : goal.returns-in-2-clause-visits_object
returns-in-2-clause-visits_object c =
    λ l tells p ms a.
    let x = c.in_ok-o.ensures.opens_typed (omega arith) p ms a in
    let g = typed_as x a_dosage 2 tells refl c.in-2.is refl refl (object_at a) in
    visited_goes c.args.terms c.args.text.now c.args.words.now DosageRows c.from_to.result c.from_to.new.words c.in_ok-o.ensures.opens_still g (c.from_to.ensures.visits_typed g.state g.tells p ms a x.settled)

pub returns-in_default-clause-visits_object : goal.returns-in_default-clause-visits_object
returns-in_default-clause-visits_object c =
    λ l tells p ms a.
    let x = c.in_ok-o.ensures.opens_typed (omega arith) p ms a in
    let g = typed_as x a_dosage 3 tells refl (omega (arith, x.least, x.most)) refl refl (object_at a) in
    visited_goes c.args.terms c.args.text.now c.args.words.now DosageRows c.range.result c.range.new.words c.in_ok-o.ensures.opens_still g (c.range.ensures.visits_typed g.state g.tells p ms a x.settled)
