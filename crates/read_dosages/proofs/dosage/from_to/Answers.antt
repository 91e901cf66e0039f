-- A dosage of type 2, field by field.
use mathlib.Core.Path.{refl, ap, sym, ◌∙◌}
use lib.ListN.{length, length-set}
use borrow.Author.Tests.{le-ltb, lt-ltb}
use Rattle.document.specs.Posology as P
use Rattle.document.specs.Schema.{rows_of, from_to_rows}
use Rattle.document.specs.Visit.{entries_of}
use Rattle.document.specs.Words.{words}
use Rattle.document.proofs.Taken.{one_more_lem, still_same, still_then}
use Rattle.read_names.specs.Names.{names, name_at}
use Rattle.read_names.specs.declared.names.Name.TheVariants as N
use Rattle.read_fields.proofs.Refusals.{raised}
use Rattle.read_records.proofs.Records.{stores}
use Rattle.read_type.proofs.Typed.{slot_of}
use Rattle.read_dosages.proofs.Rowed.{kept_done, one_grown}
use Rattle.read_dosages.proofs.Bodies.{object_at, body_opens, body_unknown, took_number, stopped_number, took_integer, stopped_integer, guard_holds, guard_fails}
use Rattle.read_dosages.proofs.Chunks.{dosage_did}
use Rattle.read_dosages.proofs.Known.{from_to_known}
use Rattle.read_dosages.proofs.dosage.from_to.Goals as goal

pub returns-in_err-knows_all-clause-visits_typed : goal.returns-in_err-knows_all-clause-visits_typed
returns-in_err-knows_all-clause-visits_typed c =
    rw (raised c.from_residual.result c.from_residual.ensures.1) (λ l tells p ms a once. (body_unknown from_to_known tells c.requires.1 p (entries_of ms) c.in_err-knows_all.field-0.0 (c.in_err-knows_all.ensures refl p ms a once), refl))

pub returns-in_err-from-clause-visits_typed : goal.returns-in_err-from-clause-visits_typed
unfolding rows_of from_to_rows name_at names
returns-in_err-from-clause-visits_typed c =
    rw (raised c.from_residual-in_err-from.result c.from_residual-in_err-from.ensures.1) (λ l tells p ms a once.
    let b = body_opens from_to_known tells c.requires.1 p (entries_of ms) (c.in_ok-knows_all.ensures refl p ms a once) refl (object_at a) in
    (stopped_number b c.in_err-from.field-0.0 (c.in_err-from.ensures c.requires.2 _ (slot_of N.AFrom once c.at.ensures)), refl))

pub returns-in_err-to-clause-visits_typed : goal.returns-in_err-to-clause-visits_typed
unfolding rows_of from_to_rows name_at names
returns-in_err-to-clause-visits_typed c =
    rw (raised c.from_residual-in_err-to.result c.from_residual-in_err-to.ensures.1) (λ l tells p ms a once.
    let b = body_opens from_to_known tells c.requires.1 p (entries_of ms) (c.in_ok-knows_all.ensures refl p ms a once) refl (object_at a) in
    let b1 = took_number b c.in_ok-from.from (c.in_ok-from.ensures c.requires.2 _ (slot_of N.AFrom once c.at.ensures)) in
    (stopped_number b1 c.in_err-to.field-0.0 (c.in_err-to.ensures c.requires.2 _ (slot_of N.ATo once c.at-2.ensures)), refl))

pub returns-in_err-unit-clause-visits_typed : goal.returns-in_err-unit-clause-visits_typed
unfolding rows_of from_to_rows name_at names
returns-in_err-unit-clause-visits_typed c =
    rw (raised c.from_residual-in_err-unit.result c.from_residual-in_err-unit.ensures.1) (λ l tells p ms a once.
    let b = body_opens from_to_known tells c.requires.1 p (entries_of ms) (c.in_ok-knows_all.ensures refl p ms a once) (one_more_lem c.requires.1 c.one_more-used.ensures) (object_at a) in
    let b1 = took_number b c.in_ok-from.from (c.in_ok-from.ensures c.requires.2 _ (slot_of N.AFrom once c.at.ensures)) in
    let b2 = took_number b1 c.in_ok-to.to (c.in_ok-to.ensures c.requires.2 _ (slot_of N.ATo once c.at-2.ensures)) in
    (stopped_integer b2 c.in_err-unit.field-0.0 (c.in_err-unit.ensures.counts_needed c.requires.2 _ (slot_of N.DuU once c.at-3.ensures)), refl))

pub returns-in_err-span-clause-visits_typed : goal.returns-in_err-span-clause-visits_typed
unfolding rows_of from_to_rows name_at names
returns-in_err-span-clause-visits_typed c =
    rw (raised c.from_residual-in_err-span.result c.from_residual-in_err-span.ensures.1) (λ l tells p ms a once.
    let b = body_opens from_to_known tells c.requires.1 p (entries_of ms) (c.in_ok-knows_all.ensures refl p ms a once) (one_more_lem c.requires.1 c.one_more-used.ensures) (object_at a) in
    let b1 = took_number b c.in_ok-from.from (c.in_ok-from.ensures c.requires.2 _ (slot_of N.AFrom once c.at.ensures)) in
    let b2 = took_number b1 c.in_ok-to.to (c.in_ok-to.ensures c.requires.2 _ (slot_of N.ATo once c.at-2.ensures)) in
    let b3 = took_integer b2 c.in_ok-unit.unit (c.in_ok-unit.ensures.counts_needed c.requires.2 _ (slot_of N.DuU once c.at-3.ensures)) in
    (stopped_integer b3 c.in_err-span.field-0.0 (c.in_err-span.ensures.counts_needed c.requires.2 _ (slot_of N.Du once c.at-4.ensures)), refl))

pub returns-then-to-from-clause-visits_typed : goal.returns-then-to-from-clause-visits_typed
unfolding rows_of from_to_rows name_at names
returns-then-to-from-clause-visits_typed c =
    λ l tells p ms a once.
    let b = body_opens from_to_known tells c.requires.1 p (entries_of ms) (c.in_ok-knows_all.ensures refl p ms a once) (one_more_lem c.requires.1 c.one_more-used.ensures) (object_at a) in
    let b1 = took_number b c.in_ok-from.from (c.in_ok-from.ensures c.requires.2 _ (slot_of N.AFrom once c.at.ensures)) in
    let b2 = took_number b1 c.in_ok-to.to (c.in_ok-to.ensures c.requires.2 _ (slot_of N.ATo once c.at-2.ensures)) in
    let b3 = took_integer b2 c.in_ok-unit.unit (c.in_ok-unit.ensures.counts_needed c.requires.2 _ (slot_of N.DuU once c.at-3.ensures)) in
    let b4 = took_integer b3 c.in_ok-span.span (c.in_ok-span.ensures.counts_needed c.requires.2 _ (slot_of N.Du once c.at-4.ensures)) in
    (record { outcome = b4.outcome ∙ guard_fails 12 _ _ (le-ltb _ _ c.if-to-from.true); inside = c.requires.2 }, refl)

pub returns : goal.returns
unfolding rows_of from_to_rows name_at names
returns c =
    let one = one_more_lem c.requires.1 c.one_more-used.ensures in
    let still = still_then (still_same (sym one)) (still_then c.in_ok-unit.ensures.counts_still c.in_ok-span.ensures.counts_still) in
    let put = stores _ _ (words _ 13 _ _ _ _) c.requires.0.size c.requires.1 c.store.ensures in record {
      visits_typed = λ l tells p ms a once.
          let b = body_opens from_to_known tells c.requires.1 p (entries_of ms) (c.in_ok-knows_all.ensures refl p ms a once) one (object_at a) in
          let b1 = took_number b c.in_ok-from.from (c.in_ok-from.ensures c.requires.2 _ (slot_of N.AFrom once c.at.ensures)) in
          let b2 = took_number b1 c.in_ok-to.to (c.in_ok-to.ensures c.requires.2 _ (slot_of N.ATo once c.at-2.ensures)) in
          let b3 = took_integer b2 c.in_ok-unit.unit (c.in_ok-unit.ensures.counts_needed c.requires.2 _ (slot_of N.DuU once c.at-3.ensures)) in
          let b4 = took_integer b3 c.in_ok-span.span (c.in_ok-span.ensures.counts_needed c.requires.2 _ (slot_of N.Du once c.at-4.ensures)) in
          dosage_did (P.from_to _ _ _ _) (b4.outcome ∙ guard_holds 12 _ (lt-ltb _ _ c.if-to-from.false)) b4.tells still put;
      kept = kept_done (simp length-set at (ap length put)) (one_grown c.requires.0 c.requires.1 still);
    }
