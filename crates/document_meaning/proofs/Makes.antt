-- Kind by kind: good values in an object's rows make a good object.
use mathlib.Core.Path.{◌≡◌, refl, ap, sym, subst, ◌∙◌}
use mathlib.Core.List.{List, [], ◌∷◌}
use mathlib.Core.Bool.{Bool, true, false, not, ◌&&◌, ◌||◌, cond, false≢true}
use mathlib.Core.Option.{Option, none, some, get_or}
use Prim.Native.Nat.{ℕ, zero, suc, ◌+◌, ◌-◌, ◌<◌}
use native.Mathlib.Omega.{arith}
use lib.Dec.{eqb, leb, ltb}
use lib.ListN.{length}
use Rattle.document.specs.Utf8.{is_utf8}
use Rattle.document.specs.Posology.{Posology, Date, Dosage, AtTime, InSegment, Timed, Detail, sequence, SequenceObject, ordered}
use Rattle.document.specs.Date.{among, is_date}
use Rattle.document.specs.Schema.{greatest_integer, a_posology, a_detail, a_timed, a_dosage, a_sequence_object, an_at_time, an_in_segment, meal_codes, NumberShape, integer, date, Shape, a_number, a_string, a_flag, an_object, Of, Rows, need, may, a_text, rows_of}
use Rattle.document.specs.Visit.{Left, is_empty}
use Rattle.document.specs.Valid.{is_amount, is_duration, is_text, is_meal, is_unit_for, if_given, every, some_object, valid_dosage, valid_timed, valid_detail, valid_object, valid_objects, valid_fields, detail_records, object_records, objects_records}
use Rattle.json_grammar.proofs.Truth.{and_both, and_left, and_right}
use Rattle.document.proofs.Ranges.{in_range}
use Rattle.document_meaning.proofs.Good.{sum, valid_of, records_of, text_of, detail_text, object_text, objects_text, given_text, Takes, Good, GoodOption, Made}

pub takes_none : {l l' : Left} → l ≡ l' → Takes 0 0 l l'
takes_none {l} {l'} e = let p = ap (λ (k : Left). k.records) e in let q = ap (λ (k : Left). k.room) e in record { taken = omega arith; used = omega arith }

pub takes_then : {a b c d : ℕ} {l l' l'' : Left} → Takes a b l l' → Takes c d l' l'' → Takes (a + c) (b + d) l l''
takes_then s t = let p = s.taken in let q = s.used in let u = t.taken in let v = t.used in record { taken = omega arith; used = omega arith }

pub takes_as : {a b c d : ℕ} {l l' : Left} → a ≡ c → b ≡ d → Takes a b l l' → Takes c d l l'
takes_as e f t = let p = t.taken in let q = t.used in record { taken = omega arith; used = omega arith }

pub good_free : (s : Shape) (x : Of s) (l : Left) → valid_of s x ≡ true → records_of s x ≡ 0 → text_of s x ≡ 0 → Good s x l l
good_free s x l v r t = record { valid = v; takes = takes_as (sym r) (sym t) (takes_none refl) }

-- A type above the last one.
pub above : (n t : ℕ) → n < t → (leb 1 t && leb t n) ≡ true → ⊥
above n t k h = let g = in_range 1 t n h in omega arith

pub sum_two : {A : Type 0} (as' : List A) → sum (λ _. 2) as' ≡ length as' + length as'
sum_two [] = refl
sum_two (a ∷ as') = let e = sum_two as' in omega arith

pub sum_none : {A : Type 0} (as' : List A) → sum (λ _. 0) as' ≡ 0
sum_none [] = refl
sum_none (a ∷ as') = let e = sum_none as' in omega arith

pub objects_valid : (n : ℕ) (os : List SequenceObject) → valid_objects (ordered os) n ≡ every (λ o. valid_object o n) os
unfolding valid_detail
objects_valid n [] = refl
objects_valid n (o ∷ os) = ap (λ (b : Bool). valid_object o n && b) (objects_valid n os)

pub objects_records_lem : (os : List SequenceObject) → objects_records (ordered os) ≡ sum object_records os
unfolding detail_records
objects_records_lem [] = refl
objects_records_lem (o ∷ os) = ap (λ (n : ℕ). object_records o + n) (objects_records_lem os)

pub objects_text_lem : (os : List SequenceObject) → objects_text (ordered os) ≡ sum object_text os
unfolding detail_text
objects_text_lem [] = refl
objects_text_lem (o ∷ os) = ap (λ (n : ℕ). object_text o + n) (objects_text_lem os)

pub some_object_lem : (os : List SequenceObject) → some_object (ordered os) ≡ not (is_empty os)
some_object_lem [] = refl
some_object_lem (o ∷ os) = refl

filled_text : (cs : List ℕ) → is_empty cs ≡ false → is_utf8 cs ≡ true → is_text cs ≡ true
filled_text cs e u = and_both (ap not e) u

abbrev option_records : (s : Shape) → Option (Of s) → ℕ
option_records s none = 0
option_records s (some x) = records_of s x

abbrev option_text : (s : Shape) → Option (Of s) → ℕ
option_text s none = 0
option_text s (some x) = text_of s x

option_takes : (s : Shape) (x : Option (Of s)) (l l' : Left) → GoodOption s x l l' → Takes (option_records s x) (option_text s x) l l'
option_takes s none l l' g = takes_none g
option_takes s (some x) l l' g = g.0.takes

-- A number, a date, a flag takes nothing.
number_takes : (n : NumberShape) (x : Option ℕ) (l l' : Left) → GoodOption (a_number n) x l l' → Takes 0 0 l l'
number_takes n none l l' g = takes_none g
number_takes n (some x) l l' g = g.0.takes

date_takes : (x : Option Date) (l l' : Left) → GoodOption (a_string date) x l l' → Takes 0 0 l l'
date_takes none l l' g = takes_none g
date_takes (some x) l l' g = g.0.takes

flag_takes : (x : Option Bool) (l l' : Left) → GoodOption a_flag x l l' → Takes 0 0 l l'
flag_takes none l l' g = takes_none g
flag_takes (some x) l l' g = g.0.takes

text_takes : (x : Option (List ℕ)) (l l' : Left) → GoodOption a_text x l l' → Takes 0 (given_text x) l l'
text_takes none l l' g = takes_none g
text_takes (some x) l l' g = g.0.takes

-- An absent tdpc is 1.
per_valid : (x : Option ℕ) (l l' : Left) → GoodOption (a_number (integer 1 greatest_integer)) x l l' → is_duration (get_or x 1) ≡ true
per_valid none l l' g = refl
per_valid (some n) l l' g = g.0.valid

date_valid : (x : Option Date) (l l' : Left) → GoodOption (a_string date) x l l' → if_given is_date x ≡ true
date_valid none l l' g = refl
date_valid (some d) l l' g = g.0.valid

meal_valid : (x : Option ℕ) (l l' : Left) → GoodOption (a_number (integer 1 meal_codes)) x l l' → if_given is_meal x ≡ true
meal_valid none l l' g = refl
meal_valid (some n) l l' g = g.0.valid

text_valid : (x : Option (List ℕ)) (l l' : Left) → GoodOption a_text x l l' → if_given is_text x ≡ true
text_valid none l l' g = refl
text_valid (some cs) l l' g = filled_text cs g.1 g.0.valid

sequence_valid : (n : ℕ) (os : List SequenceObject) → ltb 0 n ≡ true → (not (is_empty os) && every (λ o. valid_object o (n - 1)) os) ≡ true → valid_detail (sequence (ordered os)) n ≡ true
unfolding valid_detail
sequence_valid zero os h g = absurd (false≢true h)
sequence_valid (suc k) os h g =
    let e : suc k - 1 ≡ k = omega arith in
    let v : (not (is_empty os) && every (λ o. valid_object o k) os) ≡ true = subst (λ (j : ℕ). (not (is_empty os) && every (λ o. valid_object o j) os) ≡ true) e g in
    and_both (some_object_lem os ∙ and_left (not (is_empty os)) (every (λ o. valid_object o k) os) v) (objects_valid k os ∙ and_right (not (is_empty os)) (every (λ o. valid_object o k) os) v)

-- An object is opened, its fields take what they take, and the object is good.
module _ (l l₁ l'' : Left) (opened : Takes 1 0 l l₁) where
  abbrev GoodDosage : Dosage → Type 0
  GoodDosage d = Good (an_object a_dosage) d l l''

  pub dosage_good : (t : ℕ) (d : Dosage) → (leb 1 t && leb t 3) ≡ true → Made (rows_of a_dosage t) l₁ d l'' → GoodDosage d
  unfolding rows_of valid_dosage
  dosage_good zero d h m = absurd (false≢true h)
  dosage_good (suc zero) d h m = subst GoodDosage m.4.0 (record { valid = m.2.valid; takes = takes_then opened (takes_then m.2.takes (takes_none m.4.1)) })
  dosage_good (suc (suc zero)) d h m =
      let m₁ = m.4 in let m₂ = m₁.4 in let m₃ = m₂.4 in let m₄ = m₃.4 in
      let less : ltb m.0 m₁.0 ≡ true = m₄.0 in
      let most : is_amount m₁.0 ≡ true = and_right (leb 0 m₁.0) (is_amount m₁.0) m₁.2.valid in
      subst GoodDosage m₄.1 (record { valid = and_both (and_both (and_both less most) m₂.2.valid) m₃.2.valid; takes = takes_then opened (takes_then m.2.takes (takes_then m₁.2.takes (takes_then m₂.2.takes (takes_then m₃.2.takes (takes_none m₄.2))))) })
  dosage_good (suc (suc (suc zero))) d h m =
      let m₁ = m.4 in let m₂ = m₁.4 in
      let some_amount_lem : ltb 0 m.0 ≡ true = and_left (ltb 0 m.0) (is_amount m.0) m.2.valid in
      let less : ltb m.0 m₁.0 ≡ true = m₂.0 in
      let most : is_amount m₁.0 ≡ true = and_right (leb 0 m₁.0) (is_amount m₁.0) m₁.2.valid in
      subst GoodDosage m₂.1 (record { valid = and_both (and_both some_amount_lem less) most; takes = takes_then opened (takes_then m.2.takes (takes_then m₁.2.takes (takes_none m₂.2))) })
  dosage_good (suc (suc (suc (suc t)))) d h m = absurd (above 3 (suc (suc (suc (suc t)))) (omega arith) h)

  abbrev GoodAtTime : AtTime → Type 0
  GoodAtTime a = Good (an_object an_at_time) a l l''

  pub at_time_good : (a : AtTime) → Made (rows_of an_at_time 0) l₁ a l'' → GoodAtTime a
  unfolding rows_of valid_dosage
  at_time_good a m =
      let m₁ = m.4 in
      subst GoodAtTime m₁.4.0 (record { valid = and_both m.2.valid m₁.2.valid; takes = takes_then opened (takes_then m.2.takes (takes_then m₁.2.takes (takes_none m₁.4.1))) })

  abbrev GoodInSegment : InSegment → Type 0
  GoodInSegment a = Good (an_object an_in_segment) a l l''

  pub in_segment_good : (a : InSegment) → Made (rows_of an_in_segment 0) l₁ a l'' → GoodInSegment a
  unfolding rows_of valid_dosage
  in_segment_good a m =
      let m₁ = m.4 in
      subst GoodInSegment m₁.4.0 (record { valid = and_both m.2.valid m₁.2.valid; takes = takes_then opened (takes_then m.2.takes (takes_then m₁.2.takes (takes_none m₁.4.1))) })

  module _ (ts : List ℕ) where
    abbrev GoodTimed : Timed → Type 0
    GoodTimed td = Good (an_object (a_timed ts)) td l l''

    pub timed_good : (t : ℕ) (td : Timed) → (leb 1 t && leb t 6) ≡ true → among t ts ≡ true → Made (rows_of (a_timed ts) t) l₁ td l'' → GoodTimed td
    unfolding rows_of valid_timed
    timed_good zero td h k m = absurd (false≢true h)
    timed_good (suc zero) td h k m = subst GoodTimed m.4.0 (record { valid = and_both k m.2.valid; takes = takes_then opened (takes_then m.2.takes (takes_none m.4.1)) })
    timed_good (suc (suc zero)) td h k m =
        let e : sum (λ (a : AtTime). 2) m.0 ≡ length m.0 + length m.0 = sum_two m.0 in
        let f : sum (λ (a : AtTime). 0) m.0 ≡ 0 = sum_none m.0 in
        subst GoodTimed m.4.0 (record { valid = and_both k m.2.valid; takes = takes_as (omega arith) (omega arith) (takes_then opened (takes_then m.2.takes (takes_none m.4.1))) })
    timed_good (suc (suc (suc zero))) td h k m =
        let e : sum (λ (a : InSegment). 2) m.0 ≡ length m.0 + length m.0 = sum_two m.0 in
        let f : sum (λ (a : InSegment). 0) m.0 ≡ 0 = sum_none m.0 in
        subst GoodTimed m.4.0 (record { valid = and_both k m.2.valid; takes = takes_as (omega arith) (omega arith) (takes_then opened (takes_then m.2.takes (takes_none m.4.1))) })
    timed_good (suc (suc (suc (suc zero)))) td h k m =
        let m₁ = m.4 in
        subst GoodTimed m₁.4.0 (record { valid = and_both (and_both k m.2.valid) m₁.2.valid; takes = takes_as (omega arith) (omega arith) (takes_then opened (takes_then m.2.takes (takes_then m₁.2.takes (takes_none m₁.4.1)))) })
    timed_good (suc (suc (suc (suc (suc zero))))) td h k m =
        let m₁ = m.4 in
        subst GoodTimed m₁.4.0 (record { valid = and_both (and_both k m.2.valid) m₁.2.valid; takes = takes_as (omega arith) (omega arith) (takes_then opened (takes_then m.2.takes (takes_then m₁.2.takes (takes_none m₁.4.1)))) })
    timed_good (suc (suc (suc (suc (suc (suc zero)))))) td h k m =
        let m₁ = m.4 in let m₂ = m₁.4 in
        subst GoodTimed m₂.4.0 (record { valid = and_both (and_both (and_both k m.2.valid) m₁.2.valid) m₂.2.valid; takes = takes_then opened (takes_then m.2.takes (takes_then m₁.2.takes (takes_then m₂.2.takes (takes_none m₂.4.1)))) })
    timed_good (suc (suc (suc (suc (suc (suc (suc t))))))) td h k m = absurd (above 6 (suc (suc (suc (suc (suc (suc (suc t))))))) (omega arith) h)

  module _ (n : ℕ) where
    abbrev GoodDetail : Detail → Type 0
    GoodDetail d = Good (an_object (a_detail n)) d l l''

    pub detail_good : (t : ℕ) (d : Detail) → (leb 1 t && leb t 5) ≡ true → (not (eqb t 5) || ltb 0 n) ≡ true → Made (rows_of (a_detail n) t) l₁ d l'' → GoodDetail d
    unfolding rows_of valid_detail detail_records detail_text
    detail_good zero d h k m = absurd (false≢true h)
    detail_good (suc zero) d h k m = subst GoodDetail m.4.0 (record { valid = m.2.valid; takes = takes_then opened (takes_then m.2.takes (takes_none m.4.1)) })
    detail_good (suc (suc zero)) d h k m = subst GoodDetail m.4.0 (record { valid = filled_text m.0 m.3 m.2.valid; takes = takes_as (omega arith) (omega arith) (takes_then opened (takes_then m.2.takes (takes_none m.4.1))) })
    detail_good (suc (suc (suc zero))) d h k m = subst GoodDetail m.4.0 (record { valid = m.2.valid; takes = takes_as (omega arith) (omega arith) (takes_then opened (takes_then m.2.takes (takes_none m.4.1))) })
    detail_good (suc (suc (suc (suc zero)))) d h k m =
        let m₁ = m.4 in let m₂ = m₁.4 in let m₃ = m₂.4 in
        subst GoodDetail m₃.3.0 (record { valid = and_both (and_both (and_both m.2.valid m₁.2.valid) m₂.2.valid) (per_valid m₃.0 m₂.1 m₃.1 m₃.2); takes = takes_as (omega arith) (omega arith) (takes_then opened (takes_then m.2.takes (takes_then m₁.2.takes (takes_then m₂.2.takes (takes_then (number_takes (integer 1 greatest_integer) m₃.0 m₂.1 m₃.1 m₃.2) (takes_none m₃.3.1)))))) })
    detail_good (suc (suc (suc (suc (suc zero))))) d h k m =
        let e = objects_records_lem m.0 in
        let f = objects_text_lem m.0 in
        subst GoodDetail m.4.0 (record { valid = sequence_valid n m.0 k m.2.valid; takes = takes_as (omega arith) (omega arith) (takes_then opened (takes_then m.2.takes (takes_none m.4.1))) })
    detail_good (suc (suc (suc (suc (suc (suc t)))))) d h k m = absurd (above 5 (suc (suc (suc (suc (suc (suc t)))))) (omega arith) h)

    abbrev GoodObject : SequenceObject → Type 0
    GoodObject o = Good (an_object (a_sequence_object n)) o l l''

    pub object_good : (t : ℕ) (o : SequenceObject) → (leb 1 t && leb t 2) ≡ true → Made (rows_of (a_sequence_object n) t) l₁ o l'' → GoodObject o
    unfolding rows_of valid_detail detail_records detail_text
    object_good zero o h m = absurd (false≢true h)
    object_good (suc zero) o h m =
        let m₁ = m.4 in let m₂ = m₁.4 in
        subst GoodObject m₂.4.0 (record { valid = and_both (and_both m.2.valid m₁.2.valid) m₂.2.valid; takes = takes_as (omega arith) (omega arith) (takes_then opened (takes_then m.2.takes (takes_then m₁.2.takes (takes_then m₂.2.takes (takes_none m₂.4.1))))) })
    object_good (suc (suc zero)) o h m =
        let m₁ = m.4 in
        subst GoodObject m₁.4.0 (record { valid = and_both m.2.valid m₁.2.valid; takes = takes_then opened (takes_then m.2.takes (takes_then m₁.2.takes (takes_none m₁.4.1))) })
    object_good (suc (suc (suc t))) o h m = absurd (above 2 (suc (suc (suc t))) (omega arith) h)

-- "unit (optional for use 3)"
unit_made : (purpose : ℕ) (b : Bool) (k : Option (List ℕ) → Rows Posology) (l l'' : Left) (p : Posology) → eqb purpose 3 ≡ b → Made (cond b (may "unit" a_text k) (need "unit" a_text λ u. k (some u))) l p l'' → (u : Option (List ℕ)) × (l' : Left) × (is_unit_for purpose u ≡ true) × Takes 0 (given_text u) l l' × Made (k u) l' p l''
unit_made purpose true k l l'' p e m = (m.0, m.1, unit_valid m.0 m.2, text_takes m.0 l m.1 m.2, m.3)
  where
    unit_valid : (u : Option (List ℕ)) → GoodOption a_text u l m.1 → is_unit_for purpose u ≡ true
    unit_valid none g = e
    unit_valid (some u) g = filled_text u g.1 g.0.valid
unit_made purpose false k l l'' p e m = (some m.0, m.1, filled_text m.0 m.3 m.2.valid, m.2.takes, m.4)

pub posology_good : (purpose : ℕ) (l l'' : Left) (p : Posology) → Made (rows_of (a_posology purpose) 0) l p l'' → Good (an_object (a_posology purpose)) p l l''
unfolding rows_of valid_fields
posology_good purpose l l'' p m =
    let m₁ = m.3 in let m₂ = m₁.3 in let m₃ = m₂.3 in let m₄ = m₃.4 in
    let u = unit_made purpose (eqb purpose 3) _ m₄.1 l'' p refl m₄.3 in
    let m₆ = u.4 in let m₇ = m₆.3 in let m₈ = m₇.3 in let m₉ = m₈.3 in
    subst (λ (q : Posology). Good (an_object (a_posology purpose)) q l l'') m₉.1 (record {
      valid =
          and_both (and_both (and_both (and_both (and_both (and_both (and_both (and_both
          (date_valid m.0 l m.1 m.2)
          (date_valid m₁.0 m.1 m₁.1 m₁.2))
          m₃.2.valid)
          (meal_valid m₄.0 m₃.1 m₄.1 m₄.2))
          u.2)
          (text_valid m₆.0 u.1 m₆.1 m₆.2))
          (text_valid m₇.0 m₆.1 m₇.1 m₇.2))
          (text_valid m₈.0 m₇.1 m₈.1 m₈.2))
          m₉.0;
      takes = takes_as (omega arith) (omega arith)
          (takes_then (date_takes m.0 l m.1 m.2)
          (takes_then (date_takes m₁.0 m.1 m₁.1 m₁.2)
          (takes_then (flag_takes m₂.0 m₁.1 m₂.1 m₂.2)
          (takes_then m₃.2.takes
          (takes_then (number_takes (integer 1 meal_codes) m₄.0 m₃.1 m₄.1 m₄.2)
          (takes_then u.3
          (takes_then (text_takes m₆.0 u.1 m₆.1 m₆.2)
          (takes_then (text_takes m₇.0 m₆.1 m₇.1 m₇.2)
          (takes_then (text_takes m₈.0 m₇.1 m₈.1 m₈.2)
          (takes_none m₉.2))))))))));
    })
