-- A dosage of type 1.
use mathlib.Core.Path.{refl, ap, sym}
use lib.ListN.{length, length-set}
use Rattle.document.specs.Posology as P
use Rattle.document.specs.Schema.{rows_of, simple_rows}
use Rattle.document.specs.Visit.{entries_of}
use Rattle.document.specs.Words.{words}
use Rattle.document.proofs.Taken.{one_more_lem, still_same}
use Rattle.read_names.specs.Names.{names, name_at}
use Rattle.read_names.specs.declared.names.Name.TheVariants as N
use Rattle.read_fields.proofs.Refusals.{raised}
use Rattle.read_records.proofs.Records.{stores}
use Rattle.read_type.proofs.Typed.{slot_of}
use Rattle.read_dosages.proofs.Rowed.{kept_done, one_grown}
use Rattle.read_dosages.proofs.Bodies.{object_at, body_opens, body_unknown, took_number, stopped_number}
use Rattle.read_dosages.proofs.Chunks.{dosage_did}
use Rattle.read_dosages.proofs.Known.{simple_known}
use Rattle.read_dosages.proofs.dosage.simple.Goals as goal

pub returns-in_err-knows_all-clause-visits_typed : goal.returns-in_err-knows_all-clause-visits_typed
returns-in_err-knows_all-clause-visits_typed c =
    rw (raised c.from_residual.result c.from_residual.ensures.1) (λ l tells p ms a once. (body_unknown simple_known tells c.requires.1 p (entries_of ms) c.in_err-knows_all.field-0.0 (c.in_err-knows_all.ensures refl p ms a once), refl))

pub returns-in_err-amount-clause-visits_typed : goal.returns-in_err-amount-clause-visits_typed
unfolding rows_of simple_rows name_at names
returns-in_err-amount-clause-visits_typed c =
    rw (raised c.from_residual-in_err-amount.result c.from_residual-in_err-amount.ensures.1) (λ l tells p ms a once.
    let b = body_opens simple_known tells c.requires.1 p (entries_of ms) (c.in_ok-knows_all.ensures refl p ms a once) refl (object_at a) in
    (stopped_number b c.in_err-amount.field-0.0 (c.in_err-amount.ensures c.requires.2 _ (slot_of N.A once c.at.ensures)), refl))

pub returns : goal.returns
unfolding rows_of simple_rows name_at names
returns c =
    let one = one_more_lem c.requires.1 c.one_more-used.ensures in
    let still = still_same (sym one) in
    let put = stores _ _ (words _ 12 _ 0 0 0) c.requires.0.size c.requires.1 c.store.ensures in record {
      visits_typed = λ l tells p ms a once.
          let b = body_opens simple_known tells c.requires.1 p (entries_of ms) (c.in_ok-knows_all.ensures refl p ms a once) one (object_at a) in
          let b1 = took_number b c.in_ok-amount.amount (c.in_ok-amount.ensures c.requires.2 _ (slot_of N.A once c.at.ensures)) in
          dosage_did (P.simple _) b1.outcome b1.tells still put;
      kept = kept_done (simp length-set at (ap length put)) (one_grown c.requires.0 c.requires.1 still);
    }
