-- A cyclic: a record above its timed dosage, which its unit allows.
use mathlib.Core.Path.{refl, ◌∙◌}
use mathlib.Core.Option.{get_or}
use Rattle.std.specs.Prelude.{Ok, Err}
use Rattle.document.specs.Visit.{entries_of}
use Rattle.document.specs.Schema.{rows_of, cyclic_rows}
use Rattle.document.proofs.Taken.{one_more_lem, still_then}
use Rattle.read_names.specs.Names.{name_at, names}
use Rattle.read_names.specs.declared.names.Name.TheVariants as N
use Rattle.read_fields.proofs.Refusals.{raised}
use Rattle.read_type.proofs.Typed.{slot_of}
use Rattle.read_records.proofs.Records.{stores}
use Rattle.read_dosages.proofs.Bodies.{object_at, body_unknown, body_opens, took_integer, stopped_integer, took_given, given_hands, given_stopped}
use Rattle.read_dosages.proofs.Rowed.{kept_done, one_ready, grown_above}
use Rattle.read_dosages.proofs.Below as B
use Rattle.read_dosages.specs.Visiting.{TimedRows}
use Rattle.read_details.proofs.Detailed as D
use Rattle.read_details.proofs.detail.cyclic.Goals as goal

pub returns-in_err-knows_all-clause-by_index : goal.returns-in_err-knows_all-clause-by_index
unfolding rows_of cyclic_rows name_at names
returns-in_err-knows_all-clause-by_index c n st tells p ms stands once =
    rw (raised c.from_residual.result c.from_residual.ensures.1)
    (body_unknown (D.cyclic_known n) tells c.requires.1 p (entries_of ms) c.in_err-knows_all.field-0.0 (c.in_err-knows_all.ensures refl p ms stands once), refl)

pub returns-in_err-unit-clause-by_index : goal.returns-in_err-unit-clause-by_index
unfolding rows_of cyclic_rows name_at names
returns-in_err-unit-clause-by_index c n st tells p ms stands once =
    let counted = one_more_lem c.requires.1 c.one_more-used.ensures in
    let b = body_opens (D.cyclic_known n) tells c.requires.1 p (entries_of ms) (c.in_ok-knows_all.ensures refl p ms stands once) counted (object_at stands) in
    rw (raised c.from_residual-in_err-unit.result c.from_residual-in_err-unit.ensures.1) (stopped_integer b c.in_err-unit.field-0.0 (c.in_err-unit.ensures.counts_needed c.requires.2 _ (slot_of N.CyDuU once c.at.ensures)), refl)

pub returns-in_err-span-clause-by_index : goal.returns-in_err-span-clause-by_index
unfolding rows_of cyclic_rows name_at names
returns-in_err-span-clause-by_index c n st tells p ms stands once =
    let counted = one_more_lem c.requires.1 c.one_more-used.ensures in
    let b = body_opens (D.cyclic_known n) tells c.requires.1 p (entries_of ms) (c.in_ok-knows_all.ensures refl p ms stands once) counted (object_at stands) in
    let unit = took_integer b c.in_ok-unit.unit (c.in_ok-unit.ensures.counts_needed c.requires.2 _ (slot_of N.CyDuU once c.at.ensures)) in
    rw (raised c.from_residual-in_err-span.result c.from_residual-in_err-span.ensures.1) (stopped_integer unit c.in_err-span.field-0.0 (c.in_err-span.ensures.counts_needed c.requires.2 _ (slot_of N.CyDu once c.at-2.ensures)), refl)

pub returns-in_err-used-clause-by_index : goal.returns-in_err-used-clause-by_index
unfolding rows_of cyclic_rows name_at names
returns-in_err-used-clause-by_index c n st tells p ms stands once =
    let counted = one_more_lem c.requires.1 c.one_more-used.ensures in
    let one = D.counted_still c.args.used counted (still_then c.in_ok-unit.ensures.counts_still c.in_ok-span.ensures.counts_still) in
    let ready = one_ready c.requires.0 c.requires.1 one in
    let b = body_opens (D.cyclic_known n) tells c.requires.1 p (entries_of ms) (c.in_ok-knows_all.ensures refl p ms stands once) counted (object_at stands) in
    let unit = took_integer b c.in_ok-unit.unit (c.in_ok-unit.ensures.counts_needed c.requires.2 _ (slot_of N.CyDuU once c.at.ensures)) in
    let span = took_integer unit c.in_ok-span.span (c.in_ok-span.ensures.counts_needed c.requires.2 _ (slot_of N.CyDu once c.at-2.ensures)) in
    rw (raised c.from_residual-in_err-used.result c.from_residual-in_err-used.ensures.1)
    (B.object_stopped c.args.at span TimedRows c.args.words.now c.read_timed.new.words (slot_of N.Tdo once c.at-tdo.ensures) c.in_err-used.field-0.0
    (D.timed_under c.args.terms c.args.text.now c.args.at _ _ c.args.words.now (Err c.in_err-used.field-0.0) c.read_timed.new.words c.under_cyclic-under.ensures.0 (c.in_err-used.ensures.reads (ready, c.requires.2, c.under_cyclic-under.ensures.1))))

pub returns-in_err-per-clause-by_index : goal.returns-in_err-per-clause-by_index
unfolding rows_of cyclic_rows name_at names
returns-in_err-per-clause-by_index c n st tells p ms stands once =
    let counted = one_more_lem c.requires.1 c.one_more-used.ensures in
    let one = D.counted_still c.args.used counted (still_then c.in_ok-unit.ensures.counts_still c.in_ok-span.ensures.counts_still) in
    let ready = one_ready c.requires.0 c.requires.1 one in
    let b = body_opens (D.cyclic_known n) tells c.requires.1 p (entries_of ms) (c.in_ok-knows_all.ensures refl p ms stands once) counted (object_at stands) in
    let unit = took_integer b c.in_ok-unit.unit (c.in_ok-unit.ensures.counts_needed c.requires.2 _ (slot_of N.CyDuU once c.at.ensures)) in
    let span = took_integer unit c.in_ok-span.span (c.in_ok-span.ensures.counts_needed c.requires.2 _ (slot_of N.CyDu once c.at-2.ensures)) in
    let d = B.object_did c.args.at span TimedRows c.args.words.now c.read_timed.new.words (slot_of N.Tdo once c.at-tdo.ensures)
    (D.timed_under c.args.terms c.args.text.now c.args.at _ _ c.args.words.now (Ok c.in_ok-used.used) c.read_timed.new.words c.under_cyclic-under.ensures.0 (c.in_ok-used.ensures.reads (ready, c.requires.2, c.under_cyclic-under.ensures.1))) in
    let timed = B.took_below span d in
    rw (raised c.from_residual-in_err-per.result c.from_residual-in_err-per.ensures.1) (given_stopped timed (λ x. get_or x 1) c.in_err-per.field-0.0 (c.in_err-per.ensures.counts_optional _ (slot_of N.Tdpc once c.at-3.ensures) _), (c.in_ok-used.ensures.kept (ready, c.requires.2, c.under_cyclic-under.ensures.1)).size)

pub returns-clause-by_index : goal.returns-clause-by_index
unfolding rows_of cyclic_rows name_at names
returns-clause-by_index c n st tells p ms stands once =
    let counted = one_more_lem c.requires.1 c.one_more-used.ensures in
    let one = D.counted_still c.args.used counted (still_then c.in_ok-unit.ensures.counts_still c.in_ok-span.ensures.counts_still) in
    let ready = one_ready c.requires.0 c.requires.1 one in
    let b = body_opens (D.cyclic_known n) tells c.requires.1 p (entries_of ms) (c.in_ok-knows_all.ensures refl p ms stands once) counted (object_at stands) in
    let unit = took_integer b c.in_ok-unit.unit (c.in_ok-unit.ensures.counts_needed c.requires.2 _ (slot_of N.CyDuU once c.at.ensures)) in
    let span = took_integer unit c.in_ok-span.span (c.in_ok-span.ensures.counts_needed c.requires.2 _ (slot_of N.CyDu once c.at-2.ensures)) in
    let d = B.object_did c.args.at span TimedRows c.args.words.now c.read_timed.new.words (slot_of N.Tdo once c.at-tdo.ensures)
    (D.timed_under c.args.terms c.args.text.now c.args.at _ _ c.args.words.now (Ok c.in_ok-used.used) c.read_timed.new.words c.under_cyclic-under.ensures.0 (c.in_ok-used.ensures.reads (ready, c.requires.2, c.under_cyclic-under.ensures.1))) in
    let timed = B.took_below span d in
    let h = given_hands timed (λ x. get_or x 1) c.in_ok-per.per (c.in_ok-per.ensures.counts_optional _ (slot_of N.Tdpc once c.at-3.ensures) _) in
    D.cyclic_did c.args.text.now c.args.used d one c.in_ok-per.ensures.counts_still _ _ _ h.holds (took_given timed h)
    (stores _ _ _ ((c.in_ok-used.ensures.kept (ready, c.requires.2, c.under_cyclic-under.ensures.1)).size ∙ c.requires.0.size) c.requires.1 c.store.ensures)

pub returns-clause-kept : goal.returns-clause-kept
returns-clause-kept c =
    let counted = one_more_lem c.requires.1 c.one_more-used.ensures in
    let one = D.counted_still c.args.used counted (still_then c.in_ok-unit.ensures.counts_still c.in_ok-span.ensures.counts_still) in
    let kept = c.in_ok-used.ensures.kept (one_ready c.requires.0 c.requires.1 one, c.requires.2, c.under_cyclic-under.ensures.1) in
    kept_done (c.store.auto.words ∙ kept.size) (grown_above one kept.grown c.in_ok-per.ensures.counts_still)
