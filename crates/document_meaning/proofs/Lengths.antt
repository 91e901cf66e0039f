-- How long a plain text is at most.
use Prim.Native.Nat.{ℕ, zero, suc, ◌+◌, ◌*◌, ◌-◌, ◌/◌, ◌%◌, ◌≤◌}
use mathlib.Core.Path.{◌≡◌}
use mathlib.Core.List.{List, [], ◌∷◌}
use mathlib.Core.Bool.{Bool, true, false, not, false≢true}
use mathlib.Core.Option.{Option, none, some}
use Prim.Native.String.{String}
use native.Mathlib.Omega.{arith}
use lib.Dec.{eqb, leb}
use lib.ListN.{length}
use borrow.Author.Tests.{le-leb}
use Rattle.json_grammar.specs.Rows.{look, choose}
use Rattle.json_grammar.specs.Tree.{Tree, Members, no_member}
use Rattle.json_laws.proofs.Tables.{each}
use Rattle.document.specs.Bytes.{bytes}
use Rattle.document.specs.Posology.{Posology, Day, Zone, east, west, Date, bare, moment, Dosage, simple, from_to, range, AtTime, at_time, InSegment, in_segment, Timed, dosage_only, times, day_segments, week_days, days_of_month, interval, Detail, daily, free_text, single, cyclic, sequence, SequenceObject, posology_sequence, pause, SequenceObjects, no_object, object_then}
use Rattle.document.specs.Schema.{under_single, under_days, under_cyclic}
use Rattle.document.specs.Valid.{climbs, is_days, valid_timed, valid_detail, valid_object, valid_objects, valid, timed_records, detail_records, object_records, objects_records, strings, Fits}
use Rattle.document.specs.Write.{greatest_room}
use Rattle.document.specs.Length.{bound, greatest_length}
use Rattle.document.specs.Plain.{two, clock, zone_text, day_text, whole_digits, fraction_digits, pointed, whole, amount, field_if, text_tree, time_text, dosage_tree, days_tree, times_tree, segments_tree, timed_tree, detail_tree, object_tree, objects_tree, Slot, field_of, members_of, mapped, date_tree, reserve_tree, head_slots, plain_tree, plain_then, plain}
use Rattle.document_meaning.proofs.Good.{detail_text, object_text, objects_text, given_text}
use Rattle.document.proofs.Days.{climbs_parts, days_climb}
use Rattle.document.proofs.DetailParts.{week_parts, month_parts, cyclic_parts, sequence_parts, posology_sequence_parts, objects_parts}
use Rattle.document.proofs.ValidParts.{valid_parts, few_records}
use Rattle.document.proofs.Written.{digits_length, fraction_length}
use Rattle.document_meaning.proofs.Accepts.{strings_length}
use Rattle.document.proofs.Sizes.{escaped_sizes, escaped_size, quoted_size, size, members_size, elements_size, spell_length, quoted_at_most}

-- Numbers.
whole_size : (n : ℕ) → size (whole n) ≤ 6
unfolding size
whole_size n = digits_length 5 n []

pointed_length : (n : ℕ) → length (pointed n) ≤ 7
pointed_length n = go (eqb n 0) (fraction_length 6 100000 n)
  where
    go : (b : Bool) → length (fraction_digits 6 100000 n) ≤ 6 → length (choose b (λ _. []) (λ _. 46 ∷ fraction_digits 6 100000 n)) ≤ 7
    go true h = omega arith
    go false h = omega arith

amount_size : (n : ℕ) → size (amount n) ≤ 13
unfolding size
amount_size n = let a = digits_length 5 (n / 1000000) (pointed (n % 1000000)) in let b = pointed_length (n % 1000000) in omega arith

dosage_size : (d : Dosage) → size (dosage_tree d) ≤ 100
unfolding dosage_tree size quoted_size escaped_size look
dosage_size (simple a) = let t = whole_size 1 in let x = amount_size a in omega arith
dosage_size (from_to a b u du) = let t = whole_size 2 in let x = amount_size a in let y = amount_size b in let z = whole_size u in let w = whole_size du in omega arith
dosage_size (range a b) = let t = whole_size 3 in let x = amount_size a in let y = amount_size b in omega arith

-- A day has two digits at most, and there are hi days at most.
day_size : (n : ℕ) → n ≤ 28 → size (whole n) ≤ 2
unfolding size whole_digits
day_size n h = go (leb n 9) (leb (n / 10) 9) (le-leb (n / 10) 9 (omega arith))
  where
    go : (b c : Bool) → c ≡ true → length (choose b (λ _. (48 + n) ∷ []) (λ _. choose c (λ _. (48 + n / 10) ∷ (48 + n % 10) ∷ []) (λ _. whole_digits 3 (n / 10 / 10) ((48 + n / 10 % 10) ∷ (48 + n % 10) ∷ [])))) ≤ 2
    go true c e = omega arith
    go false true e = omega arith
    go false false e = absurd (false≢true e)

days_size : (from hi : ℕ) (ds : List ℕ) → hi ≤ 28 → climbs from hi ds ≡ true → elements_size (days_tree ds) ≤ 1 + 3 * (hi - from)
unfolding size
days_size from hi [] h c = omega arith
days_size from hi (d ∷ ds) h c =
    let k = climbs_parts from hi d ds c in
    let a = day_size d (omega arith) in
    let b = days_size d hi ds h k.2 in
    omega arith

-- A dosage with its time or its segment: two records.
times_size : (ts : List AtTime) → elements_size (times_tree ts) ≤ 1 + 256 * length ts
unfolding size quoted_size escaped_size look
times_size [] = omega arith
times_size (at_time d dt ∷ ts) = let a = dosage_size d in let b = time_size dt in let c = times_size ts in omega arith
  where
    time_size : (s : ℕ) → quoted_size (time_text s []) ≤ 49
    time_size s = quoted_at_most (time_text s [])

segments_size : (ss : List InSegment) → elements_size (segments_tree ss) ≤ 1 + 256 * length ss
unfolding size quoted_size escaped_size look
segments_size [] = omega arith
segments_size (in_segment d s ∷ ss) = let a = dosage_size d in let b = whole_size s in let c = segments_size ss in omega arith

days_in_lem : (hi : ℕ) (ds : List ℕ) → hi ≤ 28 → is_days hi ds ≡ true → elements_size (days_tree ds) ≤ 1 + 3 * hi
days_in_lem hi ds h v = let a = days_size 0 hi ds h (days_climb hi ds v) in omega arith

timed_size : (td : Timed) (ts : List ℕ) → valid_timed td ts ≡ true → size (timed_tree td) ≤ 128 * timed_records td
unfolding timed_tree size quoted_size escaped_size look
timed_size (dosage_only d) ts v = let t = whole_size 1 in let a = dosage_size d in omega arith
timed_size (times as') ts v = let t = whole_size 2 in let a = times_size as' in omega arith
timed_size (day_segments as') ts v = let t = whole_size 3 in let a = segments_size as' in omega arith
timed_size (week_days ds td) ts v =
    let w = week_parts ds td ts v in
    let t = whole_size 4 in
    let a = days_in_lem 7 ds (omega arith) w.days in
    let b = timed_size td under_days w.timed in
    omega arith
timed_size (days_of_month ds td) ts v =
    let w = month_parts ds td ts v in
    let t = whole_size 5 in
    let a = days_in_lem 28 ds (omega arith) w.days in
    let b = timed_size td under_days w.timed in
    omega arith
timed_size (interval d du u) ts v = let t = whole_size 6 in let a = dosage_size d in let b = whole_size du in let c = whole_size u in omega arith

last_size : (b : Bool) (per : ℕ) → members_size (field_if b "tdpc" (whole per) no_member) ≤ 15
unfolding size quoted_size escaped_size look
last_size true per = let a = whole_size per in omega arith
last_size false per = omega arith

mutual
  unfolding detail_tree valid_detail size quoted_size escaped_size look detail_records detail_text

  detail_size : (d : Detail) (n : ℕ) → valid_detail d n ≡ true → size (detail_tree d) ≤ 128 * detail_records d + 6 * detail_text d
  detail_size (daily a b c d) n v = let t = whole_size 1 in let x = amount_size a in let y = amount_size b in let z = amount_size c in let w = amount_size d in omega arith
  detail_size (free_text cs) n v = let t = whole_size 2 in let a = quoted_at_most cs in omega arith
  detail_size (single td) n v = let t = whole_size 3 in let a = timed_size td under_single v in omega arith
  detail_size (cyclic u du td per) n v =
      let t = whole_size 4 in
      let a = whole_size u in
      let b = whole_size du in
      let c = timed_size td (under_cyclic u) (cyclic_parts u du td per n v).timed in
      let d = last_size (not (eqb per 1)) per in
      omega arith
  detail_size (sequence os) zero v = absurd (false≢true v)
  detail_size (sequence os) (suc n) v = let t = whole_size 5 in let a = objects_size os n (sequence_parts os n v).objects in omega arith

  object_size : (o : SequenceObject) (n : ℕ) → valid_object o n ≡ true → 1 + size (object_tree o) ≤ 128 * object_records o + 6 * object_text o
  object_size (posology_sequence du u po) n v =
      let t = whole_size 1 in
      let a = whole_size du in
      let b = whole_size u in
      let c = detail_size po n (posology_sequence_parts du u po n v).detail in
      omega arith
  object_size (pause du u) n v = let t = whole_size 2 in let a = whole_size du in let b = whole_size u in omega arith

  objects_size : (os : SequenceObjects) (n : ℕ) → valid_objects os n ≡ true → elements_size (objects_tree os) ≤ 1 + (128 * objects_records os + 6 * objects_text os)
  objects_size no_object n v = omega arith
  objects_size (object_then o os) n v =
      let a = object_size o n (objects_parts o os n v).first in
      let b = objects_size os n (objects_parts o os n v).rest in
      omega arith

-- Dates. A byte from 48 on takes at most two.
digit_size : (n : ℕ) → escaped_size (48 + n) ≤ 2
unfolding escaped_size
digit_size n = each (λ m. m ≤ 2) 0 (48 + n) escaped_sizes (omega arith) (omega arith)

two_size : (n : ℕ) (k : List ℕ) → quoted_size (two n k) ≤ 4 + quoted_size k
unfolding quoted_size
two_size n k = let a = digit_size (n / 10) in let b = digit_size (n % 10) in omega arith

clock_size : (m : ℕ) (k : List ℕ) → quoted_size (clock m k) ≤ 9 + quoted_size k
unfolding quoted_size escaped_size look
clock_size m k = let a = two_size (m / 60) (58 ∷ two (m % 60) k) in let b = two_size (m % 60) k in omega arith

zone_size : (z : Zone) → quoted_size (zone_text z) ≤ 11
unfolding quoted_size escaped_size look
zone_size (east n) = let a = clock_size n [] in omega arith
zone_size (west n) = let a = clock_size n [] in omega arith

time_then_size : (s : ℕ) (k : List ℕ) → quoted_size (time_text s k) ≤ 14 + quoted_size k
unfolding quoted_size escaped_size look
time_then_size s k = let a = clock_size (s / 60) (58 ∷ two (s % 60) k) in let b = two_size (s % 60) k in omega arith

day_then_size : (d : Day) (k : List ℕ) → quoted_size (day_text d k) ≤ 18 + quoted_size k
unfolding quoted_size escaped_size look
day_then_size d k =
    let a = two_size (d.year / 100) (two (d.year % 100) (45 ∷ two d.month (45 ∷ two d.day k))) in
    let b = two_size (d.year % 100) (45 ∷ two d.month (45 ∷ two d.day k)) in
    let c = two_size d.month (45 ∷ two d.day k) in
    let e = two_size d.day k in
    omega arith

date_size : (d : Date) → size (date_tree d) ≤ 45
unfolding size quoted_size escaped_size look
date_size (bare d) = let a = day_then_size d [] in omega arith
date_size (moment d s z) = let a = day_then_size d (84 ∷ time_text s (zone_text z)) in let b = time_then_size s (zone_text z) in let c = zone_size z in omega arith

-- The head.
abbrev option_size : Option Tree → ℕ
option_size none = 0
option_size (some t) = size t

slot_size : (name : String) (o : Option Tree) (ms : Members) → members_size (field_of name o ms) ≤ 3 + quoted_size (bytes name) + option_size o + members_size ms
unfolding size
slot_size name none ms = omega arith
slot_size name (some t) ms = omega arith

date_slot : (o : Option Date) → option_size (mapped date_tree o) ≤ 45
date_slot none = omega arith
date_slot (some d) = date_size d

meal_slot : (o : Option ℕ) → option_size (mapped whole o) ≤ 6
meal_slot none = omega arith
meal_slot (some n) = whole_size n

flag_slot : (b : Bool) → option_size (reserve_tree b) ≤ 5
unfolding size
flag_slot true = omega arith
flag_slot false = omega arith

text_slot : (o : Option (List ℕ)) → option_size (mapped text_tree o) ≤ 2 + 6 * given_text o
unfolding size
text_slot none = omega arith
text_slot (some cs) = let a = quoted_at_most cs in omega arith

slots_size : List Slot → ℕ
slots_size [] = 1
slots_size (s ∷ ss) = 3 + quoted_size (bytes s.name) + option_size s.value + slots_size ss

members_size_lem : (ss : List Slot) → members_size (members_of ss) ≤ slots_size ss
unfolding slots_size size
members_size_lem [] = omega arith
members_size_lem (s ∷ ss) = let a = slot_size s.name s.value (members_of ss) in let b = members_size_lem ss in omega arith

head_size_lem : (p : Posology) → size (plain_tree p) ≤ 256 + size (detail_tree p.po) + 6 * (given_text p.unit + (given_text p.appl_instr + (given_text p.roa + given_text p.moa)))
unfolding plain_tree size quoted_size escaped_size look slots_size
head_size_lem p =
    let s = members_size_lem (head_slots p) in
    let a = date_slot p.dt_from in
    let b = date_slot p.dt_to in
    let c = flag_slot p.in_res in
    let d = meal_slot p.rel_meal in
    let e = text_slot p.unit in
    let f = text_slot p.appl_instr in
    let g = text_slot p.roa in
    let h = text_slot p.moa in
    omega arith

-- In front of anything.
pub plain_then_length : (purpose : ℕ) (p : Posology) (k : List ℕ) → valid purpose p ≡ true → length (plain_then p k) ≤ bound (detail_records p.po) (length (strings p)) + length k
unfolding plain_then
plain_then_length purpose p k v =
    let n = valid_parts purpose p v in
    let a = spell_length (plain_tree p) k in
    let b = head_size_lem p in
    let c = detail_size p.po 3 n.detail in
    let d = strings_length p in
    omega arith

-- Six times the text bytes, 128 times the records, and 256 bound a plain text.
pub plain_length_lem : (purpose : ℕ) (p : Posology) → valid purpose p ≡ true → length (plain p) ≤ bound (detail_records p.po) (length (strings p))
plain_length_lem purpose p v = let a = plain_then_length purpose p [] v in omega arith

-- With strings of at most 2,048 bytes it is never longer than 20,736 bytes.
pub plain_at_most : (purpose : ℕ) (p : Posology) (k : List ℕ) → valid purpose p ≡ true → Fits greatest_room p → length (plain_then p k) ≤ greatest_length + length k
plain_at_most purpose p k v f =
    let a = plain_then_length purpose p k v in
    let r = few_records purpose p v in
    omega arith

pub plain_within : (purpose : ℕ) (p : Posology) → valid purpose p ≡ true → Fits greatest_room p → length (plain p) ≤ greatest_length
plain_within purpose p v f = let a = plain_at_most purpose p [] v f in omega arith
