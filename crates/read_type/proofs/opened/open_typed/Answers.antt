-- A name stands twice, or the type is refused, or the object is opened.
use native.Mathlib.Omega.{arith}
use Rattle.read_fields.proofs.Refusals.{raised}
use Rattle.read_type.proofs.Opening.{typed_refused, typed_opened}
use Rattle.read_type.proofs.opened.open_typed.Goals as goal

pub returns-in_err-object-clause-opens_typed : goal.returns-in_err-object-clause-opens_typed
returns-in_err-object-clause-opens_typed c some p ms a =
    rw (raised c.from_residual.result c.from_residual.ensures.1) (λ f t terms l told. c.in_err-object.ensures p ms a f l)

pub returns-in_err-t-clause-opens_typed : goal.returns-in_err-t-clause-opens_typed
returns-in_err-t-clause-opens_typed c some p ms a =
    rw (raised c.from_residual-in_err-t.result c.from_residual-in_err-t.ensures.1)
    (typed_refused c.args.at (c.in_ok-object.ensures p ms a).settled c.args.types some c.args.used c.at.ensures c.in_err-t.field-0.0 (c.in_err-t.ensures.counts_needed (omega (arith, a.inside))))

pub returns-clause-opens_typed : goal.returns-clause-opens_typed
returns-clause-opens_typed c some p ms a =
    typed_opened c.args.at (c.in_ok-object.ensures p ms a).settled c.args.types some c.args.used c.at.ensures c.in_ok-t.t (c.in_ok-t.ensures.counts_needed (omega (arith, a.inside))) c.in_ok-t.ensures.counts_within
