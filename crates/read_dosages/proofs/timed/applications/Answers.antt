-- Its applications stand below it.
use mathlib.Core.Path.{refl, ◌∙◌}
use native.Mathlib.Omega.{arith}
use lib.Dec.{eqb}
use Rattle.document.specs.Visit.{entries_of}
use Rattle.document.proofs.Taken.{one_more_lem, still_same}
use Rattle.read_fields.proofs.Refusals.{raised}
use Rattle.read_records.proofs.Records.{stores}
use Rattle.read_dosages.proofs.Alike.{of_two}
use Rattle.read_dosages.proofs.Bodies.{body_unknown}
use Rattle.read_dosages.proofs.Below.{ready_more, kept_above}
use Rattle.read_dosages.proofs.Known.{applications_row, applications_known}
use Rattle.read_dosages.proofs.TimedBodies.{list_refused, applications_refused, applications_did}
use Rattle.read_dosages.proofs.timed.applications.Goals as goal

pub returns-in_err-knows_all-clause-by_index : goal.returns-in_err-knows_all-clause-by_index
returns-in_err-knows_all-clause-by_index c =
    let timed = eqb c.args.kind 2 in
    rw (raised c.from_residual.result c.from_residual.ensures.1) (λ ts st tells p ms a once.
    (body_unknown (applications_known ts timed (of_two 2 c.args.kind c.requires.3 c.requires.4) c.name_of-own.ensures) tells c.requires.1 p (entries_of ms) c.in_err-knows_all.field-0.0 (c.in_err-knows_all.ensures (applications_row timed c.name_of-own.ensures) p ms a once), refl))

pub returns-in_err-l-clause-by_index : goal.returns-in_err-l-clause-by_index
returns-in_err-l-clause-by_index c =
    let timed = eqb c.args.kind 2 in
    rw (raised c.from_residual-in_err-l.result c.from_residual-in_err-l.ensures.1) (λ ts st tells p ms a once. (list_refused tells c.requires.1 refl a once ts timed (of_two 2 c.args.kind c.requires.3 c.requires.4) c.name_of-own.ensures (c.in_ok-knows_all.ensures (applications_row timed c.name_of-own.ensures) p ms a once) c.at.ensures c.in_err-l.field-0.0 (c.in_err-l.ensures.list_needed c.requires.2), refl))

pub read_applications-requires : goal.read_applications-requires
read_applications-requires c =
    (ready_more c.args.used (one_more_lem c.requires.1 c.one_more-used.ensures) c.requires.0 c.requires.1, omega (arith, c.in_ok-l.ensures.inside))

pub returns-in_err-used-clause-by_index : goal.returns-in_err-used-clause-by_index
returns-in_err-used-clause-by_index c =
    let timed = eqb c.args.kind 2 in
    let one = one_more_lem c.requires.1 c.one_more-used.ensures in
    rw (raised c.from_residual-in_err-used.result c.from_residual-in_err-used.ensures.1) (λ ts st tells p ms a once.
    applications_refused tells c.requires.1 one a once ts timed (of_two 2 c.args.kind c.requires.3 c.requires.4) c.name_of-own.ensures (c.in_ok-knows_all.ensures (applications_row timed c.name_of-own.ensures) p ms a once) c.at.ensures (c.in_ok-l.ensures.list_needed c.requires.2) c.args.words.now c.read_applications.new.words c.in_err-used.field-0.0 c.in_err-used.ensures.visits_each)

pub returns : goal.returns
returns c =
    let timed = eqb c.args.kind 2 in
    let one = one_more_lem c.requires.1 c.one_more-used.ensures in
    let put = stores _ _ _ (c.in_ok-used.ensures.kept.size ∙ c.requires.0.size) c.requires.1 c.store.ensures in record {
      by_index = λ ts st tells p ms a once.
          applications_did tells c.requires.1 one a once ts timed (of_two 2 c.args.kind c.requires.3 c.requires.4) c.name_of-own.ensures (c.in_ok-knows_all.ensures (applications_row timed c.name_of-own.ensures) p ms a once) c.at.ensures (c.in_ok-l.ensures.list_needed c.requires.2) c.args.words.now c.read_applications.new.words c.in_ok-used.ensures.visits_each put;
      kept = kept_above c.args.used one _ c.requires.0 c.requires.1 c.in_ok-used.ensures.kept (still_same refl) c.store.ensures;
    }
