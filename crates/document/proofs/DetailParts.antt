-- What makes a dosage, a timed dosage, a detail and a sequence object valid, part by part.
use mathlib.Core.Path.{◌≡◌}
use mathlib.Core.List.{List, ◌∷◌}
use mathlib.Core.Bool.{Bool, true, false, not, ◌&&◌}
use Prim.Native.Nat.{ℕ, suc}
use native.Mathlib.Omega.{arith}
use lib.Dec.{leb, ltb}
use borrow.Author.Tests.{leb-true, ltb-true, le-leb, not-true}
use Rattle.document.specs.Utf8.{is_utf8}
use Rattle.document.specs.Posology.{Dosage, simple, from_to, range, AtTime, at_time, InSegment, in_segment, Timed, dosage_only, times, day_segments, week_days, days_of_month, interval, Detail, daily, cyclic, sequence, SequenceObject, posology_sequence, pause, SequenceObjects, object_then}
use Rattle.document.specs.Date.{among, is_second}
use Rattle.document.specs.Schema.{greatest_decimal, under_days, under_cyclic}
use Rattle.document.specs.Visit.{is_empty}
use Rattle.document.specs.Valid.{is_amount, is_duration, is_time_unit, is_text, is_days, every, valid_dosage, valid_at_time, valid_in_segment, valid_timed, some_object, valid_detail, valid_object, valid_objects}
use Rattle.json_grammar.proofs.Truth.{and_left, and_right}

pub all_three : (a b c : Bool) → (a && b && c) ≡ true → (a ≡ true) × (b ≡ true) × (c ≡ true)
all_three a b c v = let w = and_left (a && b) c v in (and_left a b w, and_right a b w, and_right (a && b) c v)

pub all_four : (a b c d : Bool) → (a && b && c && d) ≡ true → (a ≡ true) × (b ≡ true) × (c ≡ true) × (d ≡ true)
all_four a b c d v = let w = all_three a b c (and_left (a && b && c) d v) in (w.0, w.1, w.2, and_right (a && b && c) d v)

-- Dosages. The lesser of two amounts is an amount too.
lesser : (a b : ℕ) → ltb a b ≡ true → is_amount b ≡ true → is_amount a ≡ true
lesser a b h v = let p = ltb-true a b h in let q = leb-true b greatest_decimal v in le-leb a greatest_decimal (omega arith)

pub simple_parts : (a : ℕ) → valid_dosage (simple a) ≡ true → record { some : ltb 0 a ≡ true; most : is_amount a ≡ true }
unfolding valid_dosage
simple_parts a v = record { some = and_left (ltb 0 a) (is_amount a) v; most = and_right (ltb 0 a) (is_amount a) v }

pub from_to_parts : (a b u du : ℕ) → valid_dosage (from_to a b u du) ≡ true → record { rises : ltb a b ≡ true; least : is_amount a ≡ true; most : is_amount b ≡ true; unit : is_time_unit u ≡ true; duration : is_duration du ≡ true }
unfolding valid_dosage
from_to_parts a b u du v =
    let n = all_four (ltb a b) (is_amount b) (is_time_unit u) (is_duration du) v in
    record { rises = n.0; least = lesser a b n.0 n.1; most = n.1; unit = n.2; duration = n.3 }

pub range_parts : (a b : ℕ) → valid_dosage (range a b) ≡ true → record { some : ltb 0 a ≡ true; rises : ltb a b ≡ true; least : is_amount a ≡ true; most : is_amount b ≡ true }
unfolding valid_dosage
range_parts a b v =
    let n = all_three (ltb 0 a) (ltb a b) (is_amount b) v in
    record { some = n.0; rises = n.1; least = lesser a b n.1 n.2; most = n.2 }

-- The first application of a list, and the others.
pub first_time : (d : Dosage) (dt : ℕ) (ts : List AtTime) → every valid_at_time (at_time d dt ∷ ts) ≡ true → record { dosage : valid_dosage d ≡ true; time : is_second dt ≡ true; rest : every valid_at_time ts ≡ true }
first_time d dt ts v =
    let n = all_three (valid_dosage d) (is_second dt) (every valid_at_time ts) v in
    record { dosage = n.0; time = n.1; rest = n.2 }

pub first_segment : (d : Dosage) (s : ℕ) (ss : List InSegment) → every valid_in_segment (in_segment d s ∷ ss) ≡ true → record { dosage : valid_dosage d ≡ true; segment : (leb 1 s && leb s 4) ≡ true; rest : every valid_in_segment ss ≡ true }
first_segment d s ss v =
    let n = all_three (valid_dosage d) (leb 1 s && leb s 4) (every valid_in_segment ss) v in
    record { dosage = n.0; segment = n.1; rest = n.2 }

-- Timed dosages.
pub dosage_only_parts : (d : Dosage) (ts : List ℕ) → valid_timed (dosage_only d) ts ≡ true → record { allowed : among 1 ts ≡ true; dosage : valid_dosage d ≡ true }
unfolding valid_timed
dosage_only_parts d ts v = record { allowed = and_left (among 1 ts) (valid_dosage d) v; dosage = and_right (among 1 ts) (valid_dosage d) v }

pub times_parts : (as' : List AtTime) (ts : List ℕ) → valid_timed (times as') ts ≡ true → record { allowed : among 2 ts ≡ true; each : every valid_at_time as' ≡ true }
unfolding valid_timed
times_parts as' ts v = record { allowed = and_left (among 2 ts) (every valid_at_time as') v; each = and_right (among 2 ts) (every valid_at_time as') v }

pub segments_parts : (as' : List InSegment) (ts : List ℕ) → valid_timed (day_segments as') ts ≡ true → record { allowed : among 3 ts ≡ true; each : every valid_in_segment as' ≡ true }
unfolding valid_timed
segments_parts as' ts v = record { allowed = and_left (among 3 ts) (every valid_in_segment as') v; each = and_right (among 3 ts) (every valid_in_segment as') v }

pub week_parts : (ds : List ℕ) (td : Timed) (ts : List ℕ) → valid_timed (week_days ds td) ts ≡ true → record { allowed : among 4 ts ≡ true; days : is_days 7 ds ≡ true; timed : valid_timed td under_days ≡ true }
unfolding valid_timed
week_parts ds td ts v =
    let n = all_three (among 4 ts) (is_days 7 ds) (valid_timed td under_days) v in
    record { allowed = n.0; days = n.1; timed = n.2 }

pub month_parts : (ds : List ℕ) (td : Timed) (ts : List ℕ) → valid_timed (days_of_month ds td) ts ≡ true → record { allowed : among 5 ts ≡ true; days : is_days 28 ds ≡ true; timed : valid_timed td under_days ≡ true }
unfolding valid_timed
month_parts ds td ts v =
    let n = all_three (among 5 ts) (is_days 28 ds) (valid_timed td under_days) v in
    record { allowed = n.0; days = n.1; timed = n.2 }

pub interval_parts : (d : Dosage) (du u : ℕ) (ts : List ℕ) → valid_timed (interval d du u) ts ≡ true → record { allowed : among 6 ts ≡ true; dosage : valid_dosage d ≡ true; duration : is_duration du ≡ true; unit : is_time_unit u ≡ true }
unfolding valid_timed
interval_parts d du u ts v =
    let n = all_four (among 6 ts) (valid_dosage d) (is_duration du) (is_time_unit u) v in
    record { allowed = n.0; dosage = n.1; duration = n.2; unit = n.3 }

-- Details.
pub daily_parts : (a b c d n : ℕ) → valid_detail (daily a b c d) n ≡ true → record { morning : is_amount a ≡ true; noon : is_amount b ≡ true; evening : is_amount c ≡ true; night : is_amount d ≡ true }
unfolding valid_detail
daily_parts a b c d n v =
    let w = all_four (is_amount a) (is_amount b) (is_amount c) (is_amount d) v in
    record { morning = w.0; noon = w.1; evening = w.2; night = w.3 }

pub text_parts : (cs : List ℕ) → is_text cs ≡ true → record { some : is_empty cs ≡ false; utf8 : is_utf8 cs ≡ true }
text_parts cs v = record { some = not-true (is_empty cs) (and_left (not (is_empty cs)) (is_utf8 cs) v); utf8 = and_right (not (is_empty cs)) (is_utf8 cs) v }

pub cyclic_parts : (u du : ℕ) (td : Timed) (per n : ℕ) → valid_detail (cyclic u du td per) n ≡ true → record { unit : is_time_unit u ≡ true; duration : is_duration du ≡ true; timed : valid_timed td (under_cyclic u) ≡ true; per : is_duration per ≡ true }
unfolding valid_detail
cyclic_parts u du td per n v =
    let w = all_four (is_time_unit u) (is_duration du) (valid_timed td (under_cyclic u)) (is_duration per) v in
    record { unit = w.0; duration = w.1; timed = w.2; per = w.3 }

pub sequence_parts : (os : SequenceObjects) (n : ℕ) → valid_detail (sequence os) (suc n) ≡ true → record { some : some_object os ≡ true; objects : valid_objects os n ≡ true }
unfolding valid_detail
sequence_parts os n v = record { some = and_left (some_object os) (valid_objects os n) v; objects = and_right (some_object os) (valid_objects os n) v }

-- Sequence objects.
pub posology_sequence_parts : (du u : ℕ) (po : Detail) (n : ℕ) → valid_object (posology_sequence du u po) n ≡ true → record { duration : is_duration du ≡ true; unit : is_time_unit u ≡ true; detail : valid_detail po n ≡ true }
unfolding valid_detail
posology_sequence_parts du u po n v =
    let w = all_three (is_duration du) (is_time_unit u) (valid_detail po n) v in
    record { duration = w.0; unit = w.1; detail = w.2 }

pub pause_parts : (du u n : ℕ) → valid_object (pause du u) n ≡ true → record { duration : is_duration du ≡ true; unit : is_time_unit u ≡ true }
unfolding valid_detail
pause_parts du u n v = record { duration = and_left (is_duration du) (is_time_unit u) v; unit = and_right (is_duration du) (is_time_unit u) v }

pub objects_parts : (o : SequenceObject) (os : SequenceObjects) (n : ℕ) → valid_objects (object_then o os) n ≡ true → record { first : valid_object o n ≡ true; rest : valid_objects os n ≡ true }
unfolding valid_detail
objects_parts o os n v = record { first = and_left (valid_object o n) (valid_objects os n) v; rest = and_right (valid_object o n) (valid_objects os n) v }
