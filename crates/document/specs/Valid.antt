-- Which posologies are valid for a use (document 01, "The table" and "Objects"; document 001, each "Limitations and validation").
-- It is said of the posology alone: nothing here looks at a text.
use Rattle.std.specs.Prelude.{◌≡◌, List, [], ◌∷◌, Bool, true, false, not, ◌&&◌, ◌||◌, ℕ, zero, suc, ◌+◌, ◌≤◌, min, eqb, leb, ltb, length}
use Rattle.std.proofs.Math.Option.{Option, none, some}
use Rattle.document.specs.Posology.{Dosage, simple, from_to, range, AtTime, at_time, InSegment, in_segment, Timed, dosage_only, times, day_segments, week_days, days_of_month, interval, Detail, daily, free_text, single, cyclic, sequence, SequenceObject, posology_sequence, pause, SequenceObjects, no_object, object_then, Posology}
use Rattle.document.specs.Utf8.{is_utf8}
use Rattle.document.specs.Date.{among, is_day, is_date, is_second}
use Rattle.document.specs.Moments.{in_order}
use Rattle.document.specs.Schema.{greatest_integer, greatest_decimal, meal_codes, sequences_inside, under_single, under_days, under_cyclic}
use Rattle.document.specs.Visit.{is_empty, records_at_most}

abbrev pub is_amount : ℕ → Bool
is_amount a = leb a greatest_decimal

abbrev pub is_duration : ℕ → Bool
is_duration n = leb 1 n && leb n greatest_integer

abbrev pub is_time_unit : ℕ → Bool
is_time_unit u = leb 1 u && leb u 7

-- A string that a text can hold, not empty.
abbrev pub is_text : List ℕ → Bool
is_text cs = not (is_empty cs) && is_utf8 cs

-- "Weekdays and days of month are sets": each from 1 to hi and above the one before it.
abbrev pub climbs : ℕ → ℕ → List ℕ → Bool
climbs from hi [] = true
climbs from hi (d ∷ ds) = ltb from d && leb d hi && climbs d hi ds

-- "wds and doms hold at least one day"
abbrev pub is_days : ℕ → List ℕ → Bool
is_days hi ds = not (is_empty ds) && climbs 0 hi ds

unfoldable pub valid_dosage : Dosage → Bool
valid_dosage (simple a) = ltb 0 a && is_amount a
valid_dosage (from_to a b unit du) = ltb a b && is_amount b && is_time_unit unit && is_duration du
valid_dosage (range a b) = ltb 0 a && ltb a b && is_amount b

abbrev pub every : {A : Type 0} → (A → Bool) → List A → Bool
every test [] = true
every test (a ∷ as') = test a && every test as'

abbrev pub valid_at_time : AtTime → Bool
valid_at_time (at_time d dt) = valid_dosage d && is_second dt

abbrev pub valid_in_segment : InSegment → Bool
valid_in_segment (in_segment d s) = valid_dosage d && (leb 1 s && leb s 4)

-- A timed dosage where the types ts may stand.
unfoldable pub valid_timed : Timed → List ℕ → Bool
unfolding valid_dosage
valid_timed (dosage_only d) ts = among 1 ts && valid_dosage d
valid_timed (times as') ts = among 2 ts && every valid_at_time as'
valid_timed (day_segments as') ts = among 3 ts && every valid_in_segment as'
valid_timed (week_days ds td) ts = among 4 ts && is_days 7 ds && valid_timed td under_days
valid_timed (days_of_month ds td) ts = among 5 ts && is_days 28 ds && valid_timed td under_days
valid_timed (interval d du unit) ts = among 6 ts && valid_dosage d && is_duration du && is_time_unit unit

abbrev pub some_object : SequenceObjects → Bool
some_object no_object = false
some_object (object_then o os) = true

-- A detail in which n sequences may still open.
unfoldable mutual
  unfolding valid_timed is_utf8

  pub valid_detail : Detail → ℕ → Bool
  valid_detail (daily a b c d) n = is_amount a && is_amount b && is_amount c && is_amount d
  valid_detail (free_text cs) n = is_text cs
  valid_detail (single td) n = valid_timed td under_single
  valid_detail (cyclic unit du td per) n = is_time_unit unit && is_duration du && valid_timed td (under_cyclic unit) && is_duration per
  valid_detail (sequence os) zero = false
  valid_detail (sequence os) (suc n) = some_object os && valid_objects os n

  pub valid_object : SequenceObject → ℕ → Bool
  valid_object (posology_sequence du unit po) n = is_duration du && is_time_unit unit && valid_detail po n
  valid_object (pause du unit) n = is_duration du && is_time_unit unit

  pub valid_objects : SequenceObjects → ℕ → Bool
  valid_objects no_object n = true
  valid_objects (object_then o os) n = valid_object o n && valid_objects os n

-- The records of each object and of those below it.
abbrev pub timed_records : Timed → ℕ
timed_records (dosage_only d) = 2
timed_records (times ts) = 1 + (length ts + length ts)
timed_records (day_segments ss) = 1 + (length ss + length ss)
timed_records (week_days ds td) = 1 + timed_records td
timed_records (days_of_month ds td) = 1 + timed_records td
timed_records (interval d du unit) = 2

unfoldable mutual
  pub detail_records : Detail → ℕ
  detail_records (daily a b c d) = 1
  detail_records (free_text cs) = 1
  detail_records (single td) = 1 + timed_records td
  detail_records (cyclic unit du td per) = 1 + timed_records td
  detail_records (sequence os) = 1 + objects_records os

  pub object_records : SequenceObject → ℕ
  object_records (posology_sequence du unit po) = 1 + detail_records po
  object_records (pause du unit) = 1

  pub objects_records : SequenceObjects → ℕ
  objects_records no_object = 0
  objects_records (object_then o os) = object_records o + objects_records os

abbrev pub if_given : {A : Type 0} → (A → Bool) → Option A → Bool
if_given test none = true
if_given test (some a) = test a

-- "1 is a medication plan, 3 a prescription"
abbrev pub is_use : ℕ → Bool
is_use purpose = eqb purpose 1 || eqb purpose 3

abbrev pub is_meal : ℕ → Bool
is_meal m = leb 1 m && leb m meal_codes

-- "unit (optional for use 3)"
abbrev pub is_unit_for : ℕ → Option (List ℕ) → Bool
is_unit_for purpose none = eqb purpose 3
is_unit_for purpose (some u) = is_text u

unfoldable pub valid_fields : ℕ → Posology → Bool
unfolding valid_detail is_day is_utf8
valid_fields purpose p =
    if_given is_date p.dt_from
    && if_given is_date p.dt_to
    && valid_detail p.po sequences_inside
    && if_given is_meal p.rel_meal
    && is_unit_for purpose p.unit
    && if_given is_text p.appl_instr
    && if_given is_text p.roa
    && if_given is_text p.moa
    && in_order p.dt_from p.dt_to

unfoldable pub valid : ℕ → Posology → Bool
unfolding valid_fields detail_records
valid purpose p = valid_fields purpose p && leb (detail_records p.po) records_at_most

abbrev pub Valid : ℕ → Posology → Type 0
Valid purpose p = (is_use purpose ≡ true) × (valid purpose p ≡ true)

-- "Strings go, decoded, into the lent text buffer in visiting order": the strings, in front of what follows them.
abbrev pub joined : List ℕ → List ℕ → List ℕ
joined [] k = k
joined (c ∷ cs) k = c ∷ joined cs k

abbrev pub given : Option (List ℕ) → List ℕ → List ℕ
given none k = k
given (some cs) k = joined cs k

unfoldable mutual
  pub detail_strings : Detail → List ℕ → List ℕ
  detail_strings (daily a b c d) k = k
  detail_strings (free_text cs) k = joined cs k
  detail_strings (single td) k = k
  detail_strings (cyclic unit du td per) k = k
  detail_strings (sequence os) k = objects_strings os k

  pub object_strings : SequenceObject → List ℕ → List ℕ
  object_strings (posology_sequence du unit po) k = detail_strings po k
  object_strings (pause du unit) k = k

  pub objects_strings : SequenceObjects → List ℕ → List ℕ
  objects_strings no_object k = k
  objects_strings (object_then o os) k = object_strings o (objects_strings os k)

unfoldable pub strings : Posology → List ℕ
unfolding detail_strings
strings p = detail_strings p.po (given p.unit (given p.appl_instr (given p.roa (given p.moa []))))

-- "Text room is the buffer's length or 2,048 bytes, the smaller."
abbrev pub room_of : ℕ → ℕ
room_of length = min length 2048

abbrev pub Fits : ℕ → Posology → Type 0
Fits room p = length (strings p) ≤ room
