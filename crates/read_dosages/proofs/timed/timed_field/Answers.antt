-- A timed dosage that must be there, by its type.
use mathlib.Core.Path.{refl}
use Rattle.document.specs.Schema.{a_timed}
use Rattle.read_fields.proofs.Refusals.{raised}
use Rattle.read_records.specs.Under.{types_under}
use Rattle.read_dosages.proofs.Parents.{timed_refused, timed_visited}
use Rattle.read_dosages.proofs.timed.timed_field.Goals as goal
use Rattle.read_dosages.proofs.timed.timed_field.Goals.{in_default-via-then-o-lt4, in_default-via-else-o-lt4+else-o-lt6}

pub returns-in_err-at-clause-visits_needed : goal.returns-in_err-at-clause-visits_needed
returns-in_err-at-clause-visits_needed c =
    rw (raised c.from_residual.result c.from_residual.ensures.1) (λ st tells f slot. (c.in_err-at.ensures.object_needed c.requires.1 f slot (a_timed (types_under c.args.parent)) st, refl))

pub returns-in_err-o-clause-visits_needed : goal.returns-in_err-o-clause-visits_needed
returns-in_err-o-clause-visits_needed c =
    rw (raised c.from_residual-in_err-o.result c.from_residual-in_err-o.ensures.1) (λ st tells f slot. (timed_refused c.args.terms c.args.parent c.args.text.now c.args.brace c.args.used (c.in_ok-at.ensures.object_needed c.requires.1) c.in_err-o.field-0.0 c.in_err-o.ensures.opens_timed st tells f slot, refl))

pub returns-in-4-clause-visits_needed : goal.returns-in-4-clause-visits_needed
returns-in-4-clause-visits_needed c =
    timed_visited c.args.terms c.args.parent c.args.text.now c.args.brace c.args.used (c.in_ok-at.ensures.object_needed c.requires.1) c.in_ok-o.ensures.opens_timed c.in_ok-o.ensures.opens_there refl c.args.words.now c.on_days.result c.on_days.new.words (c.on_days.ensures.by_index (types_under c.args.parent))

pub returns-in-6-clause-visits_needed : goal.returns-in-6-clause-visits_needed
returns-in-6-clause-visits_needed c =
    timed_visited c.args.terms c.args.parent c.args.text.now c.args.brace c.args.used (c.in_ok-at.ensures.object_needed c.requires.1) c.in_ok-o.ensures.opens_timed c.in_ok-o.ensures.opens_there c.in-6.is c.args.words.now c.interval.result c.interval.new.words (c.interval.ensures.by_index (types_under c.args.parent))

pub returns-in_default-clause-visits_needed : goal.returns-in_default-clause-visits_needed
returns-in_default-clause-visits_needed c =
    timed_visited c.args.terms c.args.parent c.args.text.now c.args.brace c.args.used (c.in_ok-at.ensures.object_needed c.requires.1) c.in_ok-o.ensures.opens_timed c.in_ok-o.ensures.opens_there refl c.args.words.now c.plain_timed.result c.plain_timed.new.words (c.plain_timed.ensures.by_index (types_under c.args.parent))
