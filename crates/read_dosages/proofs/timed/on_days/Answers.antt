-- Its days, and its timed dosage below it.
use mathlib.Core.Path.{refl, ◌∙◌}
use lib.Dec.{eqb}
use Rattle.document.specs.Visit.{entries_of}
use Rattle.document.proofs.Taken.{one_more_lem, still_same}
use Rattle.read_fields.proofs.Refusals.{raised}
use Rattle.read_records.proofs.Records.{stores}
use Rattle.read_dosages.proofs.Alike.{of_two}
use Rattle.read_dosages.proofs.Bodies.{body_unknown}
use Rattle.read_dosages.proofs.Below.{ready_more, kept_above}
use Rattle.read_dosages.proofs.Known.{days_row, days_known}
use Rattle.read_dosages.proofs.Rowed.{kept_still, ready_still}
use Rattle.read_dosages.proofs.TimedBodies.{days_refused, below_days_refused, days_did}
use Rattle.read_dosages.proofs.timed.on_days.Goals as goal

pub returns-in_err-knows_all-clause-by_index : goal.returns-in_err-knows_all-clause-by_index
returns-in_err-knows_all-clause-by_index c =
    let week = eqb c.args.kind 4 in
    rw (raised c.from_residual.result c.from_residual.ensures.1) (λ ts st tells p ms a once.
    (body_unknown (days_known ts week (of_two 4 c.args.kind c.requires.3 c.requires.4) c.name_of-own.ensures) tells c.requires.1 p (entries_of ms) c.in_err-knows_all.field-0.0 (c.in_err-knows_all.ensures (days_row week c.name_of-own.ensures) p ms a once), refl))

pub returns-in_err-set-clause-by_index : goal.returns-in_err-set-clause-by_index
returns-in_err-set-clause-by_index c =
    let week = eqb c.args.kind 4 in
    let one = one_more_lem c.requires.1 c.one_more-used.ensures in
    rw (raised c.from_residual-in_err-set.result c.from_residual-in_err-set.ensures.1) (λ ts st tells p ms a once. (days_refused tells c.requires.1 one a once ts week (of_two 4 c.args.kind c.requires.3 c.requires.4) c.name_of-own.ensures (c.in_ok-knows_all.ensures (days_row week c.name_of-own.ensures) p ms a once) c.at.ensures c.days_of.ensures c.in_err-set.field-0.0 (c.in_err-set.ensures.reads_days c.requires.2), refl))

pub read_under_days-requires : goal.read_under_days-requires
read_under_days-requires c =
    (ready_still (ready_more c.args.used (one_more_lem c.requires.1 c.one_more-used.ensures) c.requires.0 c.requires.1) c.in_ok-set.ensures.counts_still, c.requires.2)

pub returns-in_err-used-clause-by_index : goal.returns-in_err-used-clause-by_index
returns-in_err-used-clause-by_index c =
    let week = eqb c.args.kind 4 in
    let one = one_more_lem c.requires.1 c.one_more-used.ensures in
    rw (raised c.from_residual-in_err-used.result c.from_residual-in_err-used.ensures.1) (λ ts st tells p ms a once.
    below_days_refused tells c.requires.1 one a once ts week (of_two 4 c.args.kind c.requires.3 c.requires.4) c.name_of-own.ensures (c.in_ok-knows_all.ensures (days_row week c.name_of-own.ensures) p ms a once) c.at.ensures c.days_of.ensures c.in_ok-set.set (c.in_ok-set.ensures.reads_days c.requires.2) c.at-2.ensures c.args.words.now c.read_under_days.new.words c.in_err-used.field-0.0 c.in_err-used.ensures.visits_needed)

pub returns : goal.returns
returns c =
    let week = eqb c.args.kind 4 in
    let one = one_more_lem c.requires.1 c.one_more-used.ensures in
    let still = c.in_ok-set.ensures.counts_still in
    let put = stores _ _ _ (c.in_ok-used.ensures.kept.size ∙ c.requires.0.size) c.requires.1 c.store.ensures in record {
      by_index = λ ts st tells p ms a once.
          days_did tells c.requires.1 one a once ts week (of_two 4 c.args.kind c.requires.3 c.requires.4) c.name_of-own.ensures (c.in_ok-knows_all.ensures (days_row week c.name_of-own.ensures) p ms a once) c.at.ensures c.days_of.ensures c.in_ok-set.set (c.in_ok-set.ensures.reads_days c.requires.2) c.at-2.ensures c.args.words.now c.read_under_days.new.words still c.in_ok-used.ensures.visits_needed put;
      kept = kept_above c.args.used one _ c.requires.0 c.requires.1 (kept_still _ still c.in_ok-used.ensures.kept) (still_same refl) c.store.ensures;
    }
