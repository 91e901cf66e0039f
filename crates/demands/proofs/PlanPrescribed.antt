-- A plan is accepted as a prescription, with the same posology (half of document 02, Wish 12).
use mathlib.Core.Path.{◌≡◌, refl, subst}
use mathlib.Core.List.{List}
use mathlib.Core.Bool.{Bool, true, false, ◌||◌, false≢true}
use mathlib.Core.Option.{Option, none, some}
use Prim.Native.Nat.{ℕ}
use lib.Dec.{eqb}
use borrow.Author.Tests.{eqb-true}
use Rattle.document.specs.Posology.{Posology}
use Rattle.document.specs.Valid.{Valid, valid, is_unit_for}
use Rattle.document.specs.Answer.{taken, read}
use Rattle.document.proofs.ValidParts.{valid_parts, parts_valid, few_records}
use Rattle.document_meaning.proofs.Spelled.{accepted_spells, spelled_accepted}

unit_for_both : (o : Option (List ℕ)) → is_unit_for 1 o ≡ true → is_unit_for 3 o ≡ true
unit_for_both none h = absurd (false≢true h)
unit_for_both (some u) h = h

pub plan_valid : (p : Posology) → valid 1 p ≡ true → valid 3 p ≡ true
plan_valid p v =
    let n = valid_parts 1 p v in
    parts_valid 3 p
    (record {
      from = n.from;
      to = n.to;
      detail = n.detail;
      meal = n.meal;
      unit = unit_for_both p.unit n.unit;
      instructions = n.instructions;
      roa = n.roa;
      moa = n.moa;
      ordered = n.ordered;
    })
    (few_records 1 p v)

pub valid_for_both : (purpose : ℕ) (p : Posology) → Valid purpose p → valid 3 p ≡ true
valid_for_both purpose p v = go (eqb purpose 1) refl v.0
  where
    go : (b : Bool) → eqb purpose 1 ≡ b → (b || eqb purpose 3) ≡ true → valid 3 p ≡ true
    go true one h = plan_valid p (subst (λ (n : ℕ). valid n p ≡ true) (eqb-true purpose 1 one) v.1)
    go false one h = subst (λ (n : ℕ). valid n p ≡ true) (eqb-true purpose 3 h) v.1

-- "a posology accepted as a medication plan is accepted as a prescription with the same table"
pub plan_is_prescription : (room : ℕ) (text : List ℕ) (p : Posology)
    → read (record { purpose = 1; room = room }) text ≡ taken p → read (record { purpose = 3; room = room }) text ≡ taken p
plan_is_prescription room text p e =
    let a = accepted_spells _ text p e in
    spelled_accepted _ text p a.0 (refl, plan_valid p a.1.1) a.2 a.3
