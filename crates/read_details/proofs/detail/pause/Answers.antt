-- A pause: its duration.
use mathlib.Core.Path.{refl}
use Rattle.document.specs.Visit.{entries_of}
use Rattle.document.specs.Schema.{rows_of, pause_rows}
use Rattle.document.proofs.Taken.{one_more_lem, still_then}
use Rattle.read_names.specs.Names.{name_at, names}
use Rattle.read_names.specs.declared.names.Name.TheVariants as N
use Rattle.read_fields.proofs.Refusals.{raised}
use Rattle.read_type.proofs.Typed.{slot_of}
use Rattle.read_records.proofs.Records.{stores}
use Rattle.read_dosages.proofs.Bodies.{object_at, body_unknown, body_opens, took_integer, stopped_integer}
use Rattle.read_dosages.proofs.Rowed.{kept_done, one_grown}
use Rattle.read_details.proofs.Detailed as D
use Rattle.read_details.proofs.detail.pause.Goals as goal

pub returns-in_err-knows_all-clause-by_index : goal.returns-in_err-knows_all-clause-by_index
unfolding rows_of pause_rows name_at names
returns-in_err-knows_all-clause-by_index c n st tells p ms stands once =
    rw (raised c.from_residual.result c.from_residual.ensures.1)
    (body_unknown (D.pause_known n) tells c.requires.1 p (entries_of ms) c.in_err-knows_all.field-0.0 (c.in_err-knows_all.ensures refl p ms stands once), refl)

pub returns-in_err-span-clause-by_index : goal.returns-in_err-span-clause-by_index
unfolding rows_of pause_rows name_at names
returns-in_err-span-clause-by_index c n st tells p ms stands once =
    let counted = one_more_lem c.requires.1 c.one_more-used.ensures in
    let b = body_opens (D.pause_known n) tells c.requires.1 p (entries_of ms) (c.in_ok-knows_all.ensures refl p ms stands once) counted (object_at stands) in
    rw (raised c.from_residual-in_err-span.result c.from_residual-in_err-span.ensures.1) (stopped_integer b c.in_err-span.field-0.0 (c.in_err-span.ensures.counts_needed c.requires.2 _ (slot_of N.Du once c.at.ensures)), refl)

pub returns-in_err-unit-clause-by_index : goal.returns-in_err-unit-clause-by_index
unfolding rows_of pause_rows name_at names
returns-in_err-unit-clause-by_index c n st tells p ms stands once =
    let counted = one_more_lem c.requires.1 c.one_more-used.ensures in
    let b = body_opens (D.pause_known n) tells c.requires.1 p (entries_of ms) (c.in_ok-knows_all.ensures refl p ms stands once) counted (object_at stands) in
    let span = took_integer b c.in_ok-span.span (c.in_ok-span.ensures.counts_needed c.requires.2 _ (slot_of N.Du once c.at.ensures)) in
    rw (raised c.from_residual-in_err-unit.result c.from_residual-in_err-unit.ensures.1) (stopped_integer span c.in_err-unit.field-0.0 (c.in_err-unit.ensures.counts_needed c.requires.2 _ (slot_of N.DuU once c.at-2.ensures)), refl)

pub returns-clause-by_index : goal.returns-clause-by_index
unfolding rows_of pause_rows name_at names
returns-clause-by_index c n st tells p ms stands once =
    let counted = one_more_lem c.requires.1 c.one_more-used.ensures in
    let one = D.counted_still c.args.used counted (still_then c.in_ok-span.ensures.counts_still c.in_ok-unit.ensures.counts_still) in
    let b = body_opens (D.pause_known n) tells c.requires.1 p (entries_of ms) (c.in_ok-knows_all.ensures refl p ms stands once) counted (object_at stands) in
    let span = took_integer b c.in_ok-span.span (c.in_ok-span.ensures.counts_needed c.requires.2 _ (slot_of N.Du once c.at.ensures)) in
    let unit = took_integer span c.in_ok-unit.unit (c.in_ok-unit.ensures.counts_needed c.requires.2 _ (slot_of N.DuU once c.at-2.ensures)) in
    D.pause_did c.args.text.now _ _ unit one (stores _ _ _ c.requires.0.size c.requires.1 c.store.ensures)

pub returns-clause-kept : goal.returns-clause-kept
returns-clause-kept c =
    let counted = one_more_lem c.requires.1 c.one_more-used.ensures in
    kept_done c.store.auto.words (one_grown c.requires.0 c.requires.1 (D.counted_still c.args.used counted (still_then c.in_ok-span.ensures.counts_still c.in_ok-unit.ensures.counts_still)))
