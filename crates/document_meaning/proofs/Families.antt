-- What holds of each family: its rows make what is good, and what is good has the parts that its rows ask for.
use mathlib.Core.Path.{◌≡◌, refl, sym, subst}
use mathlib.Core.List.{List}
use mathlib.Core.Bool.{Bool, true, false, ◌&&◌}
use Prim.Native.Nat.{ℕ}
use lib.Dec.{eqb, leb, ltb}
use Rattle.document.specs.Lookup.{Entry}
use Rattle.document.specs.Schema.{Family, a_posology, a_detail, a_timed, a_dosage, a_sequence_object, an_at_time, an_in_segment, an_object, OfFamily, rows_of, types_of, is_record, may_stand, may_open}
use Rattle.document.specs.Visit.{Left, record_less}
use Rattle.document.specs.Spells.{Meaning, FieldsMean}
use Rattle.document_meaning.proofs.Good.{Opened, Good, Made}
use Rattle.document_meaning.proofs.Makes.{dosage_good, at_time_good, in_segment_good, timed_good, detail_good, object_good, posology_good}
use Rattle.document_meaning.proofs.Parts.{Parts, opens, dosage_parts, at_time_parts, in_segment_parts, timed_parts, detail_parts, object_parts, posology_parts, head_fields_lem}

-- A type of the family; 0 where it has none.
abbrev pub InTypes : Bool → Family → ℕ → Type 0
InTypes true f t = t ≡ 0
InTypes false f t = (leb 1 t && leb t (types_of f)) ≡ true

-- 10 and 14 do not refuse it.
abbrev pub Allowed : Bool → Family → ℕ → Type 0
Allowed true f t = Unit {0}
Allowed false f t = (may_stand f t ≡ true) × (may_open f t ≡ true)

abbrev pub untyped : Family → Bool
untyped f = eqb (types_of f) 0

-- What an object that opens leaves to its fields.
abbrev pub opened_to : Bool → Left → Left
opened_to true l = record_less l
opened_to false l = l

abbrev pub MayOpen : Bool → Left → Type 0
MayOpen true l = ltb 0 l.records ≡ true
MayOpen false l = Unit {0}

pub record Law (f : Family) : Type 1 where
  pub makes : (l l₁ l'' : Left) (t : ℕ) (a : OfFamily f) → Opened (is_record f) l l₁ → InTypes (untyped f) f t → Allowed (untyped f) f t → Made (rows_of f t) l₁ a l'' → Good (an_object f) a l l''
  pub parts : (ds : List (Entry Meaning)) (l l'' : Left) (t : ℕ) (a : OfFamily f) → InTypes (untyped f) f t → FieldsMean (rows_of f t) ds a → Good (an_object f) a l l'' → Allowed (untyped f) f t × MayOpen (is_record f) l × Parts (rows_of f t) ds (opened_to (is_record f) l) a l''

pub law : (f : Family) → Law f
unfolding rows_of
law (a_posology purpose) = record {
  makes = λ l l₁ l'' t a o i w m. posology_good purpose l l'' a (subst (λ (k : Left). Made (rows_of (a_posology purpose) 0) k a l'') (sym o) m);
  parts = λ ds l l'' t a i f g. (tt, tt, posology_parts purpose ds l l'' a (head_fields_lem (eqb purpose 3) ds a f) g);
}
law (a_detail n) = record {
  makes = λ l l₁ l'' t a o i w m. detail_good l l₁ l'' o n t a i w.1 m;
  parts = λ ds l l'' t a i f g. let q = detail_parts ds l l'' n t a i f g in ((refl, q.0), q.1, q.2);
}
law (a_timed ts) = record {
  makes = λ l l₁ l'' t a o i w m. timed_good l l₁ l'' o ts t a i w.0 m;
  parts = λ ds l l'' t a i f g. let q = timed_parts ds l l'' ts t a i f g in ((q.0, refl), q.1, q.2);
}
law a_dosage = record {
  makes = λ l l₁ l'' t a o i w m. dosage_good l l₁ l'' o t a i m;
  parts = λ ds l l'' t a i f g. ((refl, refl), opens 0 0 l l'' g.takes, dosage_parts ds l l'' t a i f g);
}
law (a_sequence_object n) = record {
  makes = λ l l₁ l'' t a o i w m. object_good l l₁ l'' o n t a i m;
  parts = λ ds l l'' t a i f g. let q = object_parts ds l l'' n t a i f g in ((refl, refl), q.0, q.1);
}
law an_at_time = record {
  makes = λ l l₁ l'' t a o i w m. at_time_good l l₁ l'' o a m;
  parts = λ ds l l'' t a i f g. (tt, opens 1 0 l l'' g.takes, at_time_parts ds l l'' a f g);
}
law an_in_segment = record {
  makes = λ l l₁ l'' t a o i w m. in_segment_good l l₁ l'' o a m;
  parts = λ ds l l'' t a i f g. (tt, opens 1 0 l l'' g.takes, in_segment_parts ds l l'' a f g);
}
