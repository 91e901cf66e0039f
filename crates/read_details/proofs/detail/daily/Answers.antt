-- A daily: its list of four decimals.
use mathlib.Core.Path.{refl, sym}
use Rattle.document.specs.Visit.{entries_of}
use Rattle.document.specs.Schema.{rows_of, daily_rows}
use Rattle.document.proofs.Taken.{one_more_lem, still_same}
use Rattle.read_names.specs.Names.{name_at, names}
use Rattle.read_names.specs.declared.names.Name.TheVariants as N
use Rattle.read_fields.proofs.Refusals.{raised}
use Rattle.read_type.proofs.Typed.{slot_of}
use Rattle.read_records.proofs.Records.{stores}
use Rattle.read_dosages.proofs.Bodies.{object_at, body_unknown, body_opens}
use Rattle.read_dosages.proofs.Rowed.{kept_done, one_grown}
use Rattle.read_details.proofs.Detailed as D
use Rattle.read_details.proofs.detail.daily.Goals as goal

pub returns-in_err-knows_all-clause-by_index : goal.returns-in_err-knows_all-clause-by_index
unfolding rows_of daily_rows name_at names
returns-in_err-knows_all-clause-by_index c n st tells p ms stands once =
    rw (raised c.from_residual.result c.from_residual.ensures.1)
    (body_unknown (D.daily_known n) tells c.requires.1 p (entries_of ms) c.in_err-knows_all.field-0.0 (c.in_err-knows_all.ensures refl p ms stands once), refl)

pub returns-in_err-four-clause-by_index : goal.returns-in_err-four-clause-by_index
unfolding rows_of daily_rows name_at names
returns-in_err-four-clause-by_index c n st tells p ms stands once =
    let b = body_opens (D.daily_known n) tells c.requires.1 p (entries_of ms) (c.in_ok-knows_all.ensures refl p ms stands once) refl (object_at stands) in
    rw (raised c.from_residual-in_err-four.result c.from_residual-in_err-four.ensures.1) (D.stopped_four b c.in_err-four.field-0.0 (c.in_err-four.ensures c.requires.2 _ (slot_of N.Ds once c.at.ensures)), refl)

pub returns-clause-by_index : goal.returns-clause-by_index
unfolding rows_of daily_rows name_at names
returns-clause-by_index c n st tells p ms stands once =
    let counted = one_more_lem c.requires.1 c.one_more-used.ensures in
    let b = body_opens (D.daily_known n) tells c.requires.1 p (entries_of ms) (c.in_ok-knows_all.ensures refl p ms stands once) counted (object_at stands) in
    D.daily_did c.args.text.now _ _ _ _ (D.took_four b c.in_ok-four.four (c.in_ok-four.ensures c.requires.2 _ (slot_of N.Ds once c.at.ensures))) (still_same (sym counted))
    (stores _ _ _ c.requires.0.size c.requires.1 c.store.ensures)

pub returns-clause-kept : goal.returns-clause-kept
returns-clause-kept c =
    kept_done c.store.auto.words (one_grown c.requires.0 c.requires.1 (still_same (sym (one_more_lem c.requires.1 c.one_more-used.ensures))))
