-- A single: a record above its timed dosage.
use mathlib.Core.Path.{refl, sym, ◌∙◌}
use native.Mathlib.Omega.{arith}
use Rattle.document.specs.Visit.{entries_of}
use Rattle.document.specs.Schema.{rows_of, single_rows}
use Rattle.document.proofs.Taken.{one_more_lem, still_same}
use Rattle.read_names.specs.Names.{name_at, names}
use Rattle.read_names.specs.declared.names.Name.TheVariants as N
use Rattle.read_fields.proofs.Refusals.{raised}
use Rattle.read_type.proofs.Typed.{slot_of}
use Rattle.read_records.proofs.Records.{stores}
use Rattle.read_dosages.proofs.Bodies.{object_at, body_unknown, body_opens}
use Rattle.read_dosages.proofs.Below as B
use Rattle.read_dosages.specs.Visiting.{TimedRows}
use Rattle.read_details.proofs.Detailed as D
use Rattle.read_details.proofs.detail.single.Goals as goal

pub returns-in_err-knows_all-clause-by_index : goal.returns-in_err-knows_all-clause-by_index
unfolding rows_of single_rows name_at names
returns-in_err-knows_all-clause-by_index c n st tells p ms stands once =
    rw (raised c.from_residual.result c.from_residual.ensures.1)
    (body_unknown (D.single_known n) tells c.requires.1 p (entries_of ms) c.in_err-knows_all.field-0.0 (c.in_err-knows_all.ensures refl p ms stands once), refl)

pub returns-in_err-used-clause-by_index : goal.returns-in_err-used-clause-by_index
unfolding rows_of single_rows name_at names
returns-in_err-used-clause-by_index c n st tells p ms stands once =
    let counted = one_more_lem c.requires.1 c.one_more-used.ensures in
    let ready = B.ready_more c.args.used counted c.requires.0 c.requires.1 in
    let b = body_opens (D.single_known n) tells c.requires.1 p (entries_of ms) (c.in_ok-knows_all.ensures refl p ms stands once) counted (object_at stands) in
    rw (raised c.from_residual-in_err-used.result c.from_residual-in_err-used.ensures.1)
    (B.object_stopped c.args.at b TimedRows c.args.words.now c.read_timed.new.words (slot_of N.Tdo once c.at-tdo.ensures) c.in_err-used.field-0.0 (c.in_err-used.ensures.reads (ready, c.requires.2, omega arith)))

pub returns-clause-by_index : goal.returns-clause-by_index
unfolding rows_of single_rows name_at names
returns-clause-by_index c n st tells p ms stands once =
    let counted = one_more_lem c.requires.1 c.one_more-used.ensures in
    let ready = B.ready_more c.args.used counted c.requires.0 c.requires.1 in
    let b = body_opens (D.single_known n) tells c.requires.1 p (entries_of ms) (c.in_ok-knows_all.ensures refl p ms stands once) counted (object_at stands) in
    let d = B.object_did c.args.at b TimedRows c.args.words.now c.read_timed.new.words (slot_of N.Tdo once c.at-tdo.ensures) (c.in_ok-used.ensures.reads (ready, c.requires.2, omega arith)) in
    D.single_did c.args.text.now c.args.used d (still_same (sym counted)) (still_same refl) (B.took_below b d)
    (stores _ _ _ ((c.in_ok-used.ensures.kept (ready, c.requires.2, omega arith)).size ∙ c.requires.0.size) c.requires.1 c.store.ensures)

pub returns-clause-kept : goal.returns-clause-kept
returns-clause-kept c =
    let counted = one_more_lem c.requires.1 c.one_more-used.ensures in
    let ready = B.ready_more c.args.used counted c.requires.0 c.requires.1 in
    B.kept_above c.args.used counted _ c.requires.0 c.requires.1 (c.in_ok-used.ensures.kept (ready, c.requires.2, omega arith)) (still_same refl) c.store.ensures
