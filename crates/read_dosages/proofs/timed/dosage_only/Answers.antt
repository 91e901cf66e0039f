-- Its dosage stands below it.
use mathlib.Core.Path.{refl, ◌∙◌}
use Rattle.document.specs.Visit.{entries_of}
use Rattle.document.proofs.Taken.{one_more_lem, still_same}
use Rattle.read_fields.proofs.Refusals.{raised}
use Rattle.read_records.proofs.Records.{stores}
use Rattle.read_dosages.proofs.Bodies.{body_unknown}
use Rattle.read_dosages.proofs.Below.{ready_more, kept_above}
use Rattle.read_dosages.proofs.Known.{dosage_only_known}
use Rattle.read_dosages.proofs.TimedBodies.{only_refused, only_did}
use Rattle.read_dosages.proofs.timed.dosage_only.Goals as goal

pub returns-in_err-knows_all-clause-by_index : goal.returns-in_err-knows_all-clause-by_index
returns-in_err-knows_all-clause-by_index c =
    rw (raised c.from_residual.result c.from_residual.ensures.1) (λ ts st tells p ms a once. (body_unknown (dosage_only_known ts) tells c.requires.1 p (entries_of ms) c.in_err-knows_all.field-0.0 (c.in_err-knows_all.ensures refl p ms a once), refl))

pub read_below-requires : goal.read_below-requires
read_below-requires c =
    (ready_more c.args.used (one_more_lem c.requires.1 c.one_more-used.ensures) c.requires.0 c.requires.1, c.requires.2)

pub returns-in_err-used-clause-by_index : goal.returns-in_err-used-clause-by_index
returns-in_err-used-clause-by_index c =
    let one = one_more_lem c.requires.1 c.one_more-used.ensures in
    rw (raised c.from_residual-in_err-used.result c.from_residual-in_err-used.ensures.1) (λ ts st tells p ms a once. only_refused tells c.requires.1 one a once ts (c.in_ok-knows_all.ensures refl p ms a once) c.at.ensures c.args.words.now c.read_below.new.words c.in_err-used.field-0.0 c.in_err-used.ensures.visits_needed)

pub returns : goal.returns
returns c =
    let one = one_more_lem c.requires.1 c.one_more-used.ensures in
    let put = stores _ _ _ (c.in_ok-used.ensures.kept.size ∙ c.requires.0.size) c.requires.1 c.store.ensures in record {
      by_index = λ ts st tells p ms a once. only_did tells c.requires.1 one a once ts (c.in_ok-knows_all.ensures refl p ms a once) c.at.ensures c.args.words.now c.read_below.new.words c.in_ok-used.ensures.visits_needed put;
      kept = kept_above c.args.used one _ c.requires.0 c.requires.1 c.in_ok-used.ensures.kept (still_same refl) c.store.ensures;
    }
