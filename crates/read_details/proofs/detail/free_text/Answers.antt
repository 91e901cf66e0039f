-- A free text: its record has the string's start and length, and the place of its quote.
use mathlib.Core.Path.{refl, sym}
use Rattle.document.specs.Visit.{entries_of}
use Rattle.document.specs.Schema.{rows_of, free_text_rows}
use Rattle.document.proofs.Taken.{one_more_lem, still_same}
use Rattle.read_names.specs.Names.{name_at, names}
use Rattle.read_names.specs.declared.names.Name.TheVariants as N
use Rattle.read_fields.proofs.Refusals.{raised}
use Rattle.read_type.proofs.Typed.{slot_of}
use Rattle.read_records.proofs.Records.{stores}
use Rattle.read_dosages.proofs.Bodies.{object_at, body_unknown, body_opens, took}
use Rattle.read_dosages.proofs.Rowed.{kept_done, one_ready}
use Rattle.read_details.proofs.Detailed as D
use Rattle.read_details.proofs.detail.free_text.Goals as goal

pub returns-in_err-knows_all-clause-by_index : goal.returns-in_err-knows_all-clause-by_index
unfolding rows_of free_text_rows name_at names
returns-in_err-knows_all-clause-by_index c n st tells p ms stands once =
    rw (raised c.from_residual.result c.from_residual.ensures.1)
    (body_unknown (D.free_text_known n) tells c.requires.1 p (entries_of ms) c.in_err-knows_all.field-0.0 (c.in_err-knows_all.ensures refl p ms stands once), refl)

pub returns-in_err-free-clause-by_index : goal.returns-in_err-free-clause-by_index
unfolding rows_of free_text_rows name_at names
returns-in_err-free-clause-by_index c n st tells p ms stands once =
    let counted = one_more_lem c.requires.1 c.one_more-used.ensures in
    let b = body_opens (D.free_text_known n) tells c.requires.1 p (entries_of ms) (c.in_ok-knows_all.ensures refl p ms stands once) counted (object_at stands) in
    rw (raised c.from_residual-in_err-free.result c.from_residual-in_err-free.ensures.1) (D.stopped_text b c.in_err-free.field-0.0 (c.in_err-free.ensures.reads_text c.requires.2 _ (slot_of N.Text once c.at.ensures)), refl)

pub returns-clause-by_index : goal.returns-clause-by_index
unfolding rows_of free_text_rows name_at names
returns-clause-by_index c n st tells p ms stands once =
    let counted = one_more_lem c.requires.1 c.one_more-used.ensures in
    let longer = c.in_ok-free.ensures.takes_text (one_ready c.requires.0 c.requires.1 (still_same (sym counted))).fits in
    let b = body_opens (D.free_text_known n) tells c.requires.1 p (entries_of ms) (c.in_ok-knows_all.ensures refl p ms stands once) counted (object_at stands) in
    let h = D.text_hands b c.in_ok-free.free (c.in_ok-free.ensures.reads_text c.requires.2 _ (slot_of N.Text once c.at.ensures)) in
    D.free_text_did c.args.text.now h.value _ _ (took b h) h.holds counted longer (stores _ _ _ c.requires.0.size c.requires.1 c.store.ensures)

pub returns-clause-kept : goal.returns-clause-kept
returns-clause-kept c =
    let counted = one_more_lem c.requires.1 c.one_more-used.ensures in
    kept_done c.store.auto.words (D.grown_longer c.requires.1 counted (c.in_ok-free.ensures.takes_text (one_ready c.requires.0 c.requires.1 (still_same (sym counted))).fits))
