-- A dosage of type 3, field by field.
use mathlib.Core.Path.{refl, ap, sym, ◌∙◌}
use lib.ListN.{length, length-set}
use borrow.Author.Tests.{le-ltb, lt-ltb}
use Rattle.document.specs.Posology as P
use Rattle.document.specs.Schema.{rows_of, range_rows}
use Rattle.document.specs.Visit.{entries_of}
use Rattle.document.specs.Words.{words}
use Rattle.document.proofs.Taken.{one_more_lem, still_same}
use Rattle.read_names.specs.Names.{names, name_at}
use Rattle.read_names.specs.declared.names.Name.TheVariants as N
use Rattle.read_fields.proofs.Refusals.{raised}
use Rattle.read_records.proofs.Records.{stores}
use Rattle.read_type.proofs.Typed.{slot_of}
use Rattle.read_dosages.proofs.Rowed.{kept_done, one_grown}
use Rattle.read_dosages.proofs.Bodies.{object_at, body_opens, body_unknown, took_number, stopped_number, guard_holds, guard_fails}
use Rattle.read_dosages.proofs.Chunks.{dosage_did}
use Rattle.read_dosages.proofs.Known.{range_known}
use Rattle.read_dosages.proofs.dosage.range.Goals as goal

pub returns-in_err-knows_all-clause-visits_typed : goal.returns-in_err-knows_all-clause-visits_typed
returns-in_err-knows_all-clause-visits_typed c =
    rw (raised c.from_residual.result c.from_residual.ensures.1) (λ l tells p ms a once. (body_unknown range_known tells c.requires.1 p (entries_of ms) c.in_err-knows_all.field-0.0 (c.in_err-knows_all.ensures refl p ms a once), refl))

pub returns-in_err-min-clause-visits_typed : goal.returns-in_err-min-clause-visits_typed
unfolding rows_of range_rows name_at names
returns-in_err-min-clause-visits_typed c =
    rw (raised c.from_residual-in_err-min.result c.from_residual-in_err-min.ensures.1) (λ l tells p ms a once.
    let b = body_opens range_known tells c.requires.1 p (entries_of ms) (c.in_ok-knows_all.ensures refl p ms a once) refl (object_at a) in
    (stopped_number b c.in_err-min.field-0.0 (c.in_err-min.ensures c.requires.2 _ (slot_of N.AMin once c.at.ensures)), refl))

pub returns-in_err-max-clause-visits_typed : goal.returns-in_err-max-clause-visits_typed
unfolding rows_of range_rows name_at names
returns-in_err-max-clause-visits_typed c =
    rw (raised c.from_residual-in_err-max.result c.from_residual-in_err-max.ensures.1) (λ l tells p ms a once.
    let b = body_opens range_known tells c.requires.1 p (entries_of ms) (c.in_ok-knows_all.ensures refl p ms a once) refl (object_at a) in
    let b1 = took_number b c.in_ok-min.min (c.in_ok-min.ensures c.requires.2 _ (slot_of N.AMin once c.at.ensures)) in
    (stopped_number b1 c.in_err-max.field-0.0 (c.in_err-max.ensures c.requires.2 _ (slot_of N.AMax once c.at-2.ensures)), refl))

pub returns-then-max-min-clause-visits_typed : goal.returns-then-max-min-clause-visits_typed
unfolding rows_of range_rows name_at names
returns-then-max-min-clause-visits_typed c =
    λ l tells p ms a once.
    let b = body_opens range_known tells c.requires.1 p (entries_of ms) (c.in_ok-knows_all.ensures refl p ms a once) refl (object_at a) in
    let b1 = took_number b c.in_ok-min.min (c.in_ok-min.ensures c.requires.2 _ (slot_of N.AMin once c.at.ensures)) in
    let b2 = took_number b1 c.in_ok-max.max (c.in_ok-max.ensures c.requires.2 _ (slot_of N.AMax once c.at-2.ensures)) in
    (record { outcome = b2.outcome ∙ guard_fails 12 _ _ (le-ltb _ _ c.if-max-min.true); inside = c.requires.2 }, refl)

pub returns : goal.returns
unfolding rows_of range_rows name_at names
returns c =
    let one = one_more_lem c.requires.1 c.one_more-used.ensures in
    let still = still_same (sym one) in
    let put = stores _ _ (words _ 14 _ _ 0 0) c.requires.0.size c.requires.1 c.store.ensures in record {
      visits_typed = λ l tells p ms a once.
          let b = body_opens range_known tells c.requires.1 p (entries_of ms) (c.in_ok-knows_all.ensures refl p ms a once) one (object_at a) in
          let b1 = took_number b c.in_ok-min.min (c.in_ok-min.ensures c.requires.2 _ (slot_of N.AMin once c.at.ensures)) in
          let b2 = took_number b1 c.in_ok-max.max (c.in_ok-max.ensures c.requires.2 _ (slot_of N.AMax once c.at-2.ensures)) in
          dosage_did (P.range _ _) (b2.outcome ∙ guard_holds 12 _ (lt-ltb _ _ c.if-max-min.false)) b2.tells still put;
      kept = kept_done (simp length-set at (ap length put)) (one_grown c.requires.0 c.requires.1 still);
    }
