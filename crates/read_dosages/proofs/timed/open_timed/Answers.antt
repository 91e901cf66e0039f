-- A timed dosage as far as its type, 10 and 15.
use mathlib.Core.Path.{refl, sym, ◌∙◌}
use native.Mathlib.Omega.{arith}
use borrow.Author.Tests.{leb-true}
use Rattle.document.specs.Schema.{a_timed}
use Rattle.read_fields.proofs.Refusals.{raised}
use Rattle.read_records.specs.Under.{types_under}
use Rattle.read_dosages.proofs.Parents.{stands_nowhere, stands_full, under_opened}
use Rattle.read_dosages.proofs.timed.open_timed.Goals as goal

pub returns-in_err-o-clause-opens_timed : goal.returns-in_err-o-clause-opens_timed
returns-in_err-o-clause-opens_timed c =
    rw (raised c.from_residual.result c.from_residual.ensures.1) (λ p ms a. c.in_err-o.ensures.opens_typed (omega arith) p ms a (a_timed (types_under c.args.parent)) refl)

pub returns-then-not-is_allowed-clause-opens_timed : goal.returns-then-not-is_allowed-clause-opens_timed
returns-then-not-is_allowed-clause-opens_timed c p ms a terms st tells =
    stands_nowhere c.args.parent (c.in_ok-o.ensures.opens_typed (omega arith) p ms a) tells (sym c.is_allowed.ensures ∙ c.if-not-is_allowed.true) c.type_place.ensures

pub returns-then-is_full-clause-opens_timed : goal.returns-then-is_full-clause-opens_timed
returns-then-is_full-clause-opens_timed c p ms a terms st tells =
    stands_full c.args.parent (c.in_ok-o.ensures.opens_typed (omega arith) p ms a) tells (sym c.is_allowed.ensures ∙ c.if-not-is_allowed.false) (leb-true _ _ (sym c.is_full.ensures ∙ c.if-is_full.true)) c.requires.1

pub returns-clause-opens_timed : goal.returns-clause-opens_timed
returns-clause-opens_timed c p ms a =
    under_opened c.args.parent (c.in_ok-o.ensures.opens_typed (omega arith) p ms a) (sym c.is_allowed.ensures ∙ c.if-not-is_allowed.false)
