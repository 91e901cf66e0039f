-- The posology that a table stands for. Of a table that no text reads to it is some posology, and its own table is another.
use Rattle.std.specs.Prelude.{List, [], ◌∷◌, Bool, true, false, cond, ℕ, zero, suc, ◌+◌, ◌-◌, ◌/◌, ◌%◌, eqb, length, take, drop}
use Rattle.std.proofs.Math.Option.{Option, none, some}
use Rattle.json_grammar.specs.Rows.{choose}
use Rattle.document.specs.Posology as P
use Rattle.document.specs.Posology.{Posology, Timed, Detail, Dosage, SequenceObject, SequenceObjects, AtTime, InSegment}
use Rattle.document.specs.Words.{Words, all_words}
use Rattle.document.specs.declared.table.Text.{Text}
use Rattle.document.specs.declared.table.Date.{Date}
use Rattle.document.specs.declared.table.Date.TheVariants as D
use Rattle.document.specs.declared.table.Table.{Table}

-- What some records stand for, and the records behind them.
pub record Grown (A : Type 0) : Type 0 where
  pub value : A
  pub rest : List Words

abbrev pub grown : {A : Type 0} → A → List Words → Grown A
grown a ws = record { value = a; rest = ws }

abbrev pub within : {A B : Type 0} → (A → B) → Grown A → Grown B
within f g = record { value = f g.value; rest = g.rest }

abbrev pub dosage_of : Words → Dosage
dosage_of w =
    cond (eqb w.tag 12) (P.simple w.a)
    (cond (eqb w.tag 13) (P.from_to w.a w.b w.c w.d)
    (P.range w.a w.b))

abbrev pub dosage_next : List Words → Grown Dosage
dosage_next [] = grown (P.simple 0) []
dosage_next (w ∷ ws) = grown (dosage_of w) ws

abbrev pub keep : Bool → ℕ → List ℕ → List ℕ
keep true d ds = d ∷ ds
keep false d ds = ds

-- The days of a set, from `day` on, in n days.
unfoldable pub days_of : ℕ → ℕ → ℕ → List ℕ
days_of zero day set = []
days_of (suc n) day set = keep (eqb (set % 2) 1) day (days_of n (day + 1) (set / 2))

-- n applications: each is a record with its dosage's behind it.
unfoldable pub times_next : ℕ → List Words → Grown (List AtTime)
times_next zero ws = grown [] ws
times_next (suc n) [] = grown [] []
times_next (suc n) (w ∷ ws) = let d = dosage_next ws in within (λ ts. P.at_time d.value w.a ∷ ts) (times_next n d.rest)

unfoldable pub segments_next : ℕ → List Words → Grown (List InSegment)
segments_next zero ws = grown [] ws
segments_next (suc n) [] = grown [] []
segments_next (suc n) (w ∷ ws) = let d = dosage_next ws in within (λ ss. P.in_segment d.value w.a ∷ ss) (segments_next n d.rest)

-- At most n timed dosages one inside the other.
unfoldable pub timed_next : ℕ → List Words → Grown Timed
unfolding days_of times_next segments_next
timed_next n [] = grown (P.times []) []
timed_next zero (w ∷ ws) = grown (P.times []) ws
timed_next (suc n) (w ∷ ws) =
    choose (eqb w.tag 6) (λ _. within P.dosage_only (dosage_next ws)) λ _.
    choose (eqb w.tag 7) (λ _. within P.times (times_next (w.below / 2) ws)) λ _.
    choose (eqb w.tag 8) (λ _. within P.day_segments (segments_next (w.below / 2) ws)) λ _.
    choose (eqb w.tag 9) (λ _. within (λ td. P.week_days (days_of 7 1 w.a) td) (timed_next n ws)) λ _.
    choose (eqb w.tag 10) (λ _. within (λ td. P.days_of_month (days_of 28 1 w.a) td) (timed_next n ws)) λ _.
    within (λ d. P.interval d w.a w.b) (dosage_next ws)

abbrev pub part : List ℕ → ℕ → ℕ → List ℕ
part buffer start len = take len (drop start buffer)

module _ (buffer : List ℕ) where
  -- Behind an object with `below` records below it, c - below of the c behind it are left.
  abbrev pub and_then : SequenceObject → List Words → (List Words → Grown SequenceObjects) → Grown SequenceObjects
  and_then o ws f = within (λ os. P.object_then o os) (f ws)

  unfoldable mutual
    unfolding timed_next

    pub detail_next : ℕ → List Words → Grown Detail
    detail_next zero ws = grown (P.free_text []) ws
    detail_next (suc n) [] = grown (P.free_text []) []
    detail_next (suc n) (w ∷ ws) =
        choose (eqb w.tag 1) (λ _. grown (P.daily w.a w.b w.c w.d) ws) λ _.
        choose (eqb w.tag 2) (λ _. grown (P.free_text (part buffer w.a w.b)) ws) λ _.
        choose (eqb w.tag 3) (λ _. within P.single (timed_next 2 ws)) λ _.
        choose (eqb w.tag 4) (λ _. within (λ td. P.cyclic w.a w.b td w.c) (timed_next 2 ws)) λ _.
        within P.sequence (objects_next n w.below ws)

    -- The objects of a sequence that has c records below it.
    pub objects_next : ℕ → ℕ → List Words → Grown SequenceObjects
    objects_next zero c ws = grown P.no_object ws
    objects_next (suc n) zero ws = grown P.no_object ws
    objects_next (suc n) (suc c) [] = grown P.no_object []
    objects_next (suc n) (suc c) (w ∷ ws) =
        choose (eqb w.tag 15) (λ _.
        let po = detail_next n ws in
        and_then (P.posology_sequence w.a w.b po.value) po.rest (λ vs. objects_next n (c - w.below) vs)) λ _.
        and_then (P.pause w.a w.b) ws (λ vs. objects_next n c vs)

  abbrev pub text_of : Text → Option (List ℕ)
  text_of t = cond (eqb t.len 0) none (some (part buffer t.start t.len))

abbrev pub zone_of : Bool → ℕ → P.Zone
zone_of false n = P.east n
zone_of true n = P.west n

abbrev pub date_of : Date → Option P.Date
date_of D.Absent = none
date_of (D.Bare y m d) = some (P.bare (record { year = y; month = m; day = d }))
date_of (D.Moment y m d s west zone) = some (P.moment (record { year = y; month = m; day = d }) s (zone_of west zone))

abbrev pub meal_of : ℕ → Option ℕ
meal_of m = cond (eqb m 0) none (some m)

unfoldable pub posology_of : Table → List ℕ → Posology
unfolding detail_next
posology_of t buffer = record {
  dt_from = date_of t.head.from;
  dt_to = date_of t.head.to;
  in_res = t.head.reserve;
  po = (detail_next buffer (length t.records) (all_words t.records)).value;
  rel_meal = meal_of t.head.meal;
  unit = text_of buffer t.head.unit;
  appl_instr = text_of buffer t.head.instructions;
  roa = text_of buffer t.head.roa;
  moa = text_of buffer t.head.moa;
}
