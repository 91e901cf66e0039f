-- Kind by kind: what a good object's fields mean is good too, one behind the other.
use mathlib.Core.Path.{◌≡◌, refl, ap, sym, subst, ◌∙◌}
use mathlib.Core.List.{List}
use mathlib.Core.Bool.{Bool, true, false, not, ◌&&◌, ◌||◌, cond, false≢true}
use mathlib.Core.Option.{Option, none, some, get_or}
use Prim.Native.Nat.{ℕ, zero, suc, ◌+◌, ◌-◌}
use native.Mathlib.Omega.{arith}
use lib.Dec.{eqb, leb, ltb, leb-zero}
use lib.ListN.{length}
use borrow.Author.Tests.{lt-ltb}
use Rattle.document.specs.Bytes.{bytes}
use Rattle.document.specs.Posology.{Posology, Date, Dosage, simple, AtTime, InSegment, Timed, dosage_only, times, day_segments, week_days, days_of_month, interval, Detail, daily, free_text, single, cyclic, sequence, SequenceObject, posology_sequence, pause, ordered}
use Rattle.document.specs.Date.{among, is_date, is_second}
use Rattle.document.specs.Lookup.{Entry, Found, nothing, one, twice, find}
use Rattle.document.specs.Schema.{greatest_decimal, greatest_integer, meal_codes, a_posology, a_detail, a_timed, a_dosage, a_sequence_object, an_at_time, an_in_segment, integer, decimal, date, time, four_decimals, days, Shape, a_number, a_string, a_flag, an_object, a_list, Of, Rows, need, may, gives, gives_if, a_text, posology_rows, rows_of}
use Rattle.document.specs.Visit.{Left, record_less, is_empty}
use Rattle.document.specs.Valid.{is_amount, is_duration, is_text, is_meal, is_unit_for, if_given, every, valid_dosage, valid_at_time, valid_in_segment, valid_detail, valid_object, timed_records, detail_records, object_records}
use Rattle.document.specs.Spells.{Meaning, Given, Perhaps, FieldsMean}
use Rattle.json_grammar.proofs.Truth.{and_both, and_left, and_right}
use Rattle.document_meaning.proofs.Good.{sum, detail_text, object_text, given_text, Takes, Good}
use Rattle.document_meaning.proofs.Makes.{takes_as, good_free, sum_two, sum_none, objects_valid, objects_records_lem, objects_text_lem, some_object_lem, above}
use Rattle.document.proofs.DetailParts.{from_to_parts, range_parts, dosage_only_parts, times_parts, segments_parts, week_parts, month_parts, interval_parts, text_parts, cyclic_parts, sequence_parts, posology_sequence_parts, pause_parts}
use Rattle.document.proofs.ValidParts.{unit_text, fields_parts}

abbrev pub GoodGiven : (s : Shape) → Option (Of s) → Left → Left → Type 0
GoodGiven s none l l' = l ≡ l'
GoodGiven s (some x) l l' = Good s x l l'

-- Values that are meant and good, one behind the other.
abbrev pub Parts : {A : Type 0} → Rows A → List (Entry Meaning) → Left → A → Left → Type 0
Parts (need n s k) ds l a l'' = (x : Of s) × (l' : Left) × Given s (find (bytes n) ds) x × Good s x l l' × Parts (k x) ds l' a l''
Parts (may n s k) ds l a l'' = (x : Option (Of s)) × (l' : Left) × Perhaps s (find (bytes n) ds) x × GoodGiven s x l l' × Parts (k x) ds l' a l''
Parts (gives b) ds l a l'' = (b ≡ a) × (l ≡ l'')
Parts (gives_if test b) ds l a l'' = (test ≡ true) × (b ≡ a) × (l ≡ l'')

pub nothing_taken : (l l' : Left) → Takes 0 0 l l' → l ≡ l'
nothing_taken l l' t =
    let a = t.taken in let b = t.used in
    let p : l.records ≡ l'.records = omega arith in
    let q : l.room ≡ l'.room = omega arith in
    ap (λ (n : ℕ). left n l.room) p ∙ ap (λ (n : ℕ). left l'.records n) q
  where
    left : ℕ → ℕ → Left
    left r t = record { records = r; room = t }

-- Behind the object's own record.
inner : (c d : ℕ) (l l'' : Left) → Takes (1 + c) d l l'' → Takes c d (record_less l) l''
inner c d l l'' t = let a = t.taken in let b = t.used in record { taken = omega arith; used = omega arith }

pub opens : (c d : ℕ) (l l'' : Left) → Takes (1 + c) d l l'' → ltb 0 l.records ≡ true
opens c d l l'' t = let a = t.taken in lt-ltb 0 l.records (omega arith)

pub amount_of : (a : ℕ) → is_amount a ≡ true → (leb 0 a && leb a greatest_decimal) ≡ true
amount_of a h = and_both (leb-zero a) h

module _ (ds : List (Entry Meaning)) (l l'' : Left) where
  abbrev l₁ : Left
  l₁ = record_less l

  pub dosage_parts : (t : ℕ) (x : Dosage) → (leb 1 t && leb t 3) ≡ true → FieldsMean (rows_of a_dosage t) ds x → Good (an_object a_dosage) x l l'' → Parts (rows_of a_dosage t) ds l₁ x l''
  unfolding rows_of valid_dosage
  dosage_parts zero x h f g = absurd (false≢true h)
  dosage_parts (suc zero) x h f g =
      let v : valid_dosage (simple f.0) ≡ true = ap valid_dosage f.2 ∙ g.valid in
      (f.0, l₁, f.1, good_free (a_number (decimal 1)) f.0 l₁ v refl refl, (f.2, nothing_taken l₁ l'' (inner 0 0 l l'' g.takes)))
  dosage_parts (suc (suc zero)) x h f g =
      let a = f.0 in let f₁ = f.2 in let b = f₁.0 in let f₂ = f₁.2 in let unit = f₂.0 in let f₃ = f₂.2 in let du = f₃.0 in
      let v = from_to_parts a b unit du (ap valid_dosage f₃.2 ∙ g.valid) in (
        a,
        l₁,
        f.1,
        good_free (a_number (decimal 0)) a l₁ (amount_of a v.least) refl refl,
        (
          b,
          l₁,
          f₁.1,
          good_free (a_number (decimal 0)) b l₁ (amount_of b v.most) refl refl,
          (
            unit,
            l₁,
            f₂.1,
            good_free (a_number (integer 1 7)) unit l₁ v.unit refl refl,
            (
              du,
              l₁,
              f₃.1,
              good_free (a_number (integer 1 greatest_integer)) du l₁ v.duration refl refl,
              (v.rises, f₃.2, nothing_taken l₁ l'' (inner 0 0 l l'' g.takes)),
            ),
          ),
        ),
      )
  dosage_parts (suc (suc (suc zero))) x h f g =
      let a = f.0 in let f₁ = f.2 in let b = f₁.0 in
      let v = range_parts a b (ap valid_dosage f₁.2 ∙ g.valid) in
      (a, l₁, f.1, good_free (a_number (decimal 1)) a l₁ (and_both v.some v.least) refl refl, (b, l₁, f₁.1, good_free (a_number (decimal 0)) b l₁ (amount_of b v.most) refl refl, (v.rises, f₁.2, nothing_taken l₁ l'' (inner 0 0 l l'' g.takes))))
  dosage_parts (suc (suc (suc (suc t)))) x h f g = absurd (above 3 (suc (suc (suc (suc t)))) (omega arith) h)

  pub at_time_parts : (x : AtTime) → FieldsMean (rows_of an_at_time 0) ds x → Good (an_object an_at_time) x l l'' → Parts (rows_of an_at_time 0) ds l₁ x l''
  unfolding rows_of
  at_time_parts x f g =
      let d = f.0 in let f₁ = f.2 in let dt = f₁.0 in
      let v : (valid_dosage d && is_second dt) ≡ true = ap valid_at_time f₁.2 ∙ g.valid in
      (d, l'', f.1, record { valid = and_left (valid_dosage d) (is_second dt) v; takes = inner 1 0 l l'' g.takes }, (dt, l'', f₁.1, good_free (a_string time) dt l'' (and_right (valid_dosage d) (is_second dt) v) refl refl, (f₁.2, refl)))

  pub in_segment_parts : (x : InSegment) → FieldsMean (rows_of an_in_segment 0) ds x → Good (an_object an_in_segment) x l l'' → Parts (rows_of an_in_segment 0) ds l₁ x l''
  unfolding rows_of
  in_segment_parts x f g =
      let d = f.0 in let f₁ = f.2 in let s = f₁.0 in
      let v : (valid_dosage d && (leb 1 s && leb s 4)) ≡ true = ap valid_in_segment f₁.2 ∙ g.valid in
      (d, l'', f.1, record { valid = and_left (valid_dosage d) (leb 1 s && leb s 4) v; takes = inner 1 0 l l'' g.takes }, (s, l'', f₁.1, good_free (a_number (integer 1 4)) s l'' (and_right (valid_dosage d) (leb 1 s && leb s 4) v) refl refl, (f₁.2, refl)))

  module _ (ts : List ℕ) where
    -- the takes of a timed dosage that is made of its fields
    timed_takes : (y : Timed) (x : Timed) → y ≡ x → Good (an_object (a_timed ts)) x l l'' → Good (an_object (a_timed ts)) y l l''
    timed_takes y x e g = subst (λ (z : Timed). Good (an_object (a_timed ts)) z l l'') (sym e) g

    pub timed_parts : (t : ℕ) (x : Timed) → (leb 1 t && leb t 6) ≡ true → FieldsMean (rows_of (a_timed ts) t) ds x → Good (an_object (a_timed ts)) x l l'' → (among t ts ≡ true) × (ltb 0 l.records ≡ true) × Parts (rows_of (a_timed ts) t) ds l₁ x l''
    unfolding rows_of
    timed_parts zero x h f g = absurd (false≢true h)
    timed_parts (suc zero) x h f g =
        let d = f.0 in let g' = timed_takes (dosage_only d) x f.2 g in
        let v = dosage_only_parts d ts g'.valid in
        (v.allowed, opens 1 0 l l'' g'.takes, (d, l'', f.1, record { valid = v.dosage; takes = inner 1 0 l l'' g'.takes }, (f.2, refl)))
    timed_parts (suc (suc zero)) x h f g =
        let as' = f.0 in let g' = timed_takes (times as') x f.2 g in
        let v = times_parts as' ts g'.valid in
        let e : length as' + length as' ≡ sum (λ (a : AtTime). 2) as' = sym (sum_two as') in
        let z : 0 ≡ sum (λ (a : AtTime). 0) as' = sym (sum_none as') in
        (v.allowed, opens (length as' + length as') 0 l l'' g'.takes, (as', l'', f.1, record { valid = v.each; takes = takes_as e z (inner (length as' + length as') 0 l l'' g'.takes) }, (f.2, refl)))
    timed_parts (suc (suc (suc zero))) x h f g =
        let as' = f.0 in let g' = timed_takes (day_segments as') x f.2 g in
        let v = segments_parts as' ts g'.valid in
        let e : length as' + length as' ≡ sum (λ (a : InSegment). 2) as' = sym (sum_two as') in
        let z : 0 ≡ sum (λ (a : InSegment). 0) as' = sym (sum_none as') in
        (v.allowed, opens (length as' + length as') 0 l l'' g'.takes, (as', l'', f.1, record { valid = v.each; takes = takes_as e z (inner (length as' + length as') 0 l l'' g'.takes) }, (f.2, refl)))
    timed_parts (suc (suc (suc (suc zero)))) x h f g =
        let set = f.0 in let f₁ = f.2 in let td = f₁.0 in let g' = timed_takes (week_days set td) x f₁.2 g in
        let v = week_parts set td ts g'.valid in
        (v.allowed, opens (timed_records td) 0 l l'' g'.takes, (set, l₁, f.1, good_free (a_list (days 7)) set l₁ v.days refl refl, (td, l'', f₁.1, record { valid = v.timed; takes = inner (timed_records td) 0 l l'' g'.takes }, (f₁.2, refl))))
    timed_parts (suc (suc (suc (suc (suc zero))))) x h f g =
        let set = f.0 in let f₁ = f.2 in let td = f₁.0 in let g' = timed_takes (days_of_month set td) x f₁.2 g in
        let v = month_parts set td ts g'.valid in
        (v.allowed, opens (timed_records td) 0 l l'' g'.takes, (set, l₁, f.1, good_free (a_list (days 28)) set l₁ v.days refl refl, (td, l'', f₁.1, record { valid = v.timed; takes = inner (timed_records td) 0 l l'' g'.takes }, (f₁.2, refl))))
    timed_parts (suc (suc (suc (suc (suc (suc zero)))))) x h f g =
        let d = f.0 in let f₁ = f.2 in let du = f₁.0 in let f₂ = f₁.2 in let unit = f₂.0 in let g' = timed_takes (interval d du unit) x f₂.2 g in
        let v = interval_parts d du unit ts g'.valid in (
          v.allowed,
          opens 1 0 l l'' g'.takes,
          (
            d,
            l'',
            f.1,
            record { valid = v.dosage; takes = inner 1 0 l l'' g'.takes },
            (
              du,
              l'',
              f₁.1,
              good_free (a_number (integer 1 greatest_integer)) du l'' v.duration refl refl,
              (unit, l'', f₂.1, good_free (a_number (integer 1 7)) unit l'' v.unit refl refl, (f₂.2, refl)),
            ),
          ),
        )
    timed_parts (suc (suc (suc (suc (suc (suc (suc t))))))) x h f g = absurd (above 6 (suc (suc (suc (suc (suc (suc (suc t))))))) (omega arith) h)

-- An absent tdpc is 1.
per_given : (x : Option ℕ) (l : Left) → is_duration (get_or x 1) ≡ true → GoodGiven (a_number (integer 1 greatest_integer)) x l l
per_given none l v = refl
per_given (some n) l v = good_free (a_number (integer 1 greatest_integer)) n l v refl refl

sequence_back : (n : ℕ) (os : List SequenceObject) → valid_detail (sequence (ordered os)) n ≡ true → (ltb 0 n ≡ true) × ((not (is_empty os) && every (λ o. valid_object o (n - 1)) os) ≡ true)
unfolding valid_detail
sequence_back zero os v = absurd (false≢true v)
sequence_back (suc k) os v =
    let e : k ≡ suc k - 1 = omega arith in
    let w = sequence_parts (ordered os) k v in
    (lt-ltb 0 (suc k) (omega arith), subst (λ (j : ℕ). (not (is_empty os) && every (λ o. valid_object o j) os) ≡ true) e (and_both (sym (some_object_lem os) ∙ w.some) (sym (objects_valid k os) ∙ w.objects)))

module _ (ds : List (Entry Meaning)) (l l'' : Left) (n : ℕ) where
  detail_made : (y : Detail) (x : Detail) → y ≡ x → Good (an_object (a_detail n)) x l l'' → Good (an_object (a_detail n)) y l l''
  detail_made y x e g = subst (λ (z : Detail). Good (an_object (a_detail n)) z l l'') (sym e) g

  pub detail_parts : (t : ℕ) (x : Detail) → (leb 1 t && leb t 5) ≡ true → FieldsMean (rows_of (a_detail n) t) ds x → Good (an_object (a_detail n)) x l l'' → ((not (eqb t 5) || ltb 0 n) ≡ true) × (ltb 0 l.records ≡ true) × Parts (rows_of (a_detail n) t) ds (record_less l) x l''
  unfolding rows_of valid_detail detail_records detail_text
  detail_parts zero x h f g = absurd (false≢true h)
  detail_parts (suc zero) x h f g =
      let four = f.0 in let g' = detail_made (daily four.morning four.noon four.evening four.night) x f.2 g in
      (refl, opens 0 0 l l'' g'.takes, (four, record_less l, f.1, good_free (a_list four_decimals) four (record_less l) g'.valid refl refl, (f.2, nothing_taken (record_less l) l'' (inner 0 0 l l'' g'.takes))))
  detail_parts (suc (suc zero)) x h f g =
      let cs = f.0 in let g' = detail_made (free_text cs) x f.2 g in
      (refl, opens 0 (length cs) l l'' g'.takes, (cs, l'', f.1, record { valid = (text_parts cs g'.valid).utf8; takes = inner 0 (length cs) l l'' g'.takes }, (f.2, refl)))
  detail_parts (suc (suc (suc zero))) x h f g =
      let td = f.0 in let g' = detail_made (single td) x f.2 g in
      (refl, opens (timed_records td) 0 l l'' g'.takes, (td, l'', f.1, record { valid = g'.valid; takes = inner (timed_records td) 0 l l'' g'.takes }, (f.2, refl)))
  detail_parts (suc (suc (suc (suc zero)))) x h f g =
      let unit = f.0 in let f₁ = f.2 in let du = f₁.0 in let f₂ = f₁.2 in let td = f₂.0 in let f₃ = f₂.2 in let per = f₃.0 in
      let g' = detail_made (cyclic unit du td (get_or per 1)) x f₃.2 g in
      let v = cyclic_parts unit du td (get_or per 1) n g'.valid in (
        refl,
        opens (timed_records td) 0 l l'' g'.takes,
        (
          unit,
          record_less l,
          f.1,
          good_free (a_number (integer 1 7)) unit (record_less l) v.unit refl refl,
          (
            du,
            record_less l,
            f₁.1,
            good_free (a_number (integer 1 greatest_integer)) du (record_less l) v.duration refl refl,
            (
              td,
              l'',
              f₂.1,
              record { valid = v.timed; takes = inner (timed_records td) 0 l l'' g'.takes },
              (per, l'', f₃.1, per_given per l'' v.per, (f₃.2, refl)),
            ),
          ),
        ),
      )
  detail_parts (suc (suc (suc (suc (suc zero))))) x h f g =
      let os = f.0 in let g' = detail_made (sequence (ordered os)) x f.2 g in
      let v = sequence_back n os g'.valid in
      let e = objects_records_lem os in let z = objects_text_lem os in
      let t : Takes (1 + sum object_records os) (sum object_text os) l l'' = takes_as (omega arith) (omega arith) g'.takes in
      (v.0, opens (sum object_records os) (sum object_text os) l l'' t, (os, l'', f.1, record { valid = v.1; takes = inner (sum object_records os) (sum object_text os) l l'' t }, (f.2, refl)))
  detail_parts (suc (suc (suc (suc (suc (suc t)))))) x h f g = absurd (above 5 (suc (suc (suc (suc (suc (suc t)))))) (omega arith) h)

  object_made : (y : SequenceObject) (x : SequenceObject) → y ≡ x → Good (an_object (a_sequence_object n)) x l l'' → Good (an_object (a_sequence_object n)) y l l''
  object_made y x e g = subst (λ (z : SequenceObject). Good (an_object (a_sequence_object n)) z l l'') (sym e) g

  pub object_parts : (t : ℕ) (x : SequenceObject) → (leb 1 t && leb t 2) ≡ true → FieldsMean (rows_of (a_sequence_object n) t) ds x → Good (an_object (a_sequence_object n)) x l l'' → (ltb 0 l.records ≡ true) × Parts (rows_of (a_sequence_object n) t) ds (record_less l) x l''
  unfolding rows_of detail_records detail_text
  object_parts zero x h f g = absurd (false≢true h)
  object_parts (suc zero) x h f g =
      let du = f.0 in let f₁ = f.2 in let unit = f₁.0 in let f₂ = f₁.2 in let po = f₂.0 in let g' = object_made (posology_sequence du unit po) x f₂.2 g in
      let v = posology_sequence_parts du unit po n g'.valid in (
        opens (detail_records po) (detail_text po) l l'' g'.takes,
        (
          du,
          record_less l,
          f.1,
          good_free (a_number (integer 1 greatest_integer)) du (record_less l) v.duration refl refl,
          (
            unit,
            record_less l,
            f₁.1,
            good_free (a_number (integer 1 7)) unit (record_less l) v.unit refl refl,
            (po, l'', f₂.1, record { valid = v.detail; takes = inner (detail_records po) (detail_text po) l l'' g'.takes }, (f₂.2, refl)),
          ),
        ),
      )
  object_parts (suc (suc zero)) x h f g =
      let du = f.0 in let f₁ = f.2 in let unit = f₁.0 in let g' = object_made (pause du unit) x f₁.2 g in
      let v = pause_parts du unit n g'.valid in (
        opens 0 0 l l'' g'.takes,
        (
          du,
          record_less l,
          f.1,
          good_free (a_number (integer 1 greatest_integer)) du (record_less l) v.duration refl refl,
          (
            unit,
            record_less l,
            f₁.1,
            good_free (a_number (integer 1 7)) unit (record_less l) v.unit refl refl,
            (f₁.2, nothing_taken (record_less l) l'' (inner 0 0 l l'' g'.takes)),
          ),
        ),
      )
  object_parts (suc (suc (suc t))) x h f g = absurd (above 2 (suc (suc (suc t))) (omega arith) h)

-- The head. What is left before a field is what is left behind it and what the field takes.
abbrev before : ℕ → Left → Left
before d k = record { records = k.records; room = d + k.room }

text_given : (u : Option (List ℕ)) (k : Left) → if_given is_text u ≡ true → GoodGiven a_text u (before (given_text u) k) k
text_given none k v = nothing_taken (before 0 k) k (record { taken = omega arith; used = omega arith })
text_given (some cs) k v = record { valid = (text_parts cs v).utf8; takes = record { taken = omega arith; used = omega arith } }

date_given : (d : Option Date) (k : Left) → if_given is_date d ≡ true → GoodGiven (a_string date) d k k
date_given none k v = refl
date_given (some d) k v = good_free (a_string date) d k v refl refl

flag_given : (b : Option Bool) (k : Left) → GoodGiven a_flag b k k
flag_given none k = refl
flag_given (some b) k = good_free a_flag b k refl refl refl

meal_given : (m : Option ℕ) (k : Left) → if_given is_meal m ≡ true → GoodGiven (a_number (integer 1 meal_codes)) m k k
meal_given none k v = refl
meal_given (some m) k v = good_free (a_number (integer 1 meal_codes)) m k v refl refl

perhaps_given : (s : Shape) (f : Found Meaning) (x : Of s) → Perhaps s f (some x) → Given s f x
perhaps_given s nothing x h = h
perhaps_given s (one m) x h = h
perhaps_given s twice x h = h

unit_parts : (purpose : ℕ) (b : Bool) (k : Option (List ℕ) → Rows Posology) (ds : List (Entry Meaning)) (l l' l'' : Left) (u : Option (List ℕ)) (p : Posology) → eqb purpose 3 ≡ b → is_unit_for purpose u ≡ true → Perhaps a_text (find (bytes "unit") ds) u → GoodGiven a_text u l l' → Parts (k u) ds l' p l'' → Parts (cond b (may "unit" a_text k) (need "unit" a_text λ u. k (some u))) ds l p l''
unit_parts purpose true k ds l l' l'' u p e v h g m = (u, l', h, g, m)
unit_parts purpose false k ds l l' l'' none p e v h g m = absurd (false≢true (sym e ∙ v))
unit_parts purpose false k ds l l' l'' (some u) p e v h g m = (u, l', perhaps_given a_text (find (bytes "unit") ds) u h, g, m)

pub posology_parts : (purpose : ℕ) (ds : List (Entry Meaning)) (l l'' : Left) (p : Posology) → FieldsMean (rows_of (a_posology 3) 0) ds p → Good (an_object (a_posology purpose)) p l l'' → Parts (rows_of (a_posology purpose) 0) ds l p l''
unfolding rows_of
posology_parts purpose ds l l'' p f g =
    let f₁ = f.2 in let f₂ = f₁.2 in let f₃ = f₂.2 in let f₄ = f₃.2 in let f₅ = f₄.2 in let f₆ = f₅.2 in let f₇ = f₆.2 in let f₈ = f₇.2 in
    let from = f.0 in let to = f₁.0 in let reserve = f₂.0 in let po = f₃.0 in let meal = f₄.0 in let unit = f₅.0 in let instr = f₆.0 in let roa = f₇.0 in let moa = f₈.0 in
    let q : Posology = record { dt_from = from; dt_to = to; in_res = get_or reserve false; po = po; rel_meal = meal; unit = unit; appl_instr = instr; roa = roa; moa = moa } in
    let g' : Good (an_object (a_posology purpose)) q l l'' = subst (λ (z : Posology). Good (an_object (a_posology purpose)) z l l'') (sym f₈.2) g in
    let v = fields_parts purpose q g'.valid in
    let l₈ = before (given_text moa) l'' in
    let l₇ = before (given_text roa) l₈ in
    let l₆ = before (given_text instr) l₇ in
    let l₅ = before (given_text unit) l₆ in
    let taken = g'.takes.taken in let used = g'.takes.used in (
      from,
      l,
      f.1,
      date_given from l v.from,
      (
        to,
        l,
        f₁.1,
        date_given to l v.to,
        (
          reserve,
          l,
          f₂.1,
          flag_given reserve l,
          (
            po,
            l₅,
            f₃.1,
            record { valid = v.detail; takes = record { taken = omega arith; used = omega arith } },
            (
              meal,
              l₅,
              f₄.1,
              meal_given meal l₅ v.meal,
              unit_parts purpose (eqb purpose 3) _ ds l₅ l₆ l'' unit p refl v.unit f₅.1 (text_given unit l₆ (unit_text purpose unit v.unit)) (
                instr,
                l₇,
                f₆.1,
                text_given instr l₇ v.instructions,
                (
                  roa,
                  l₈,
                  f₇.1,
                  text_given roa l₈ v.roa,
                  (
                    moa,
                    l'',
                    f₈.1,
                    text_given moa l'' v.moa,
                    (v.ordered, f₈.2, refl),
                  ),
                ),
              ),
            ),
          ),
        ),
      ),
    )

-- The head: a unit that must be given may be given.
given_perhaps : (s : Shape) (f : Found Meaning) (x : Of s) → Given s f x → Perhaps s f (some x)
given_perhaps s nothing x h = h
given_perhaps s (one m) x h = h
given_perhaps s twice x h = h

pub head_fields_lem : (b : Bool) (ds : List (Entry Meaning)) (p : Posology) → FieldsMean (posology_rows b) ds p → FieldsMean (posology_rows true) ds p
unfolding posology_rows
head_fields_lem true ds p f = f
head_fields_lem false ds p f =
    let f₁ = f.2 in let f₂ = f₁.2 in let f₃ = f₂.2 in let f₄ = f₃.2 in let f₅ = f₄.2 in
    (f.0, f.1, (f₁.0, f₁.1, (f₂.0, f₂.1, (f₃.0, f₃.1, (f₄.0, f₄.1, (some f₅.0, given_perhaps a_text (find (bytes "unit") ds) f₅.0 f₅.1, f₅.2))))))
