-- The rows of a valid detail, read back one by one, are its records.
use Prim.Native.Nat.{ℕ, zero, suc, ◌+◌, ◌%◌}
use mathlib.Core.Path.{◌≡◌, refl, ap, ◌∙◌}
use mathlib.Core.List.{List, [], ◌∷◌, ◌++◌, append_assoc}
use mathlib.Core.Bool.{true}
use native.Mathlib.Nat.{mod-eq_of_lt}
use native.Mathlib.Omega.{arith}
use lib.ListN.{length}
use borrow.Author.Tests.{leb-true}
use Rattle.document.specs.Posology as P
use Rattle.document.specs.Date.{is_second}
use Rattle.document.specs.Schema.{under_single, under_days, under_cyclic}
use Rattle.document.specs.Table.{day_set, dosage_row, times_rows, segments_rows, timed_rows, detail_rows, object_rows, objects_rows}
use Rattle.document.specs.Valid.{every, valid_dosage, valid_at_time, valid_in_segment, valid_timed, valid_detail, valid_object, valid_objects, timed_records, detail_records, object_records, objects_records, object_strings}
use Rattle.document.specs.Words.{Words, words, record_words, row, rows, all_words}
use Rattle.document.specs.declared.table.Kind.{Kind}
use Rattle.document.specs.declared.table.Kind.TheVariants as K
use Rattle.document.specs.declared.table.Record.{Record}
use Rattle.table_kinds.specs.Kinds.{kind_of, record_in, groups}
use Rattle.read_table.specs.Built.{records_of}
use Rattle.read_details.specs.Rows.{DetailRows, ObjectRows, ObjectsRows}
use Rattle.document.proofs.DetailParts.{from_to_parts, first_time, first_segment, dosage_only_parts, times_parts, segments_parts, week_parts, month_parts, interval_parts, cyclic_parts, sequence_parts, posology_sequence_parts, pause_parts, objects_parts}
use Rattle.read_table.proofs.Carried.{duration_carried, unit_carried, small_carried, days_carried}

-- A record in front of others.
then : (n m : ℕ) (w : Words) (k rest : List ℕ) {r : Record} {rs : List Record} → n ≡ suc m → record_in (row w []) ≡ r → records_of m (k ++ rest) ≡ rs → records_of n (row w k ++ rest) ≡ r ∷ rs
unfolding groups record_in
then n m w k rest {rs = rs} e f g = ap (λ (i : ℕ). records_of i (row w k ++ rest)) e ∙ ap (λ (l : List Record). record_in (row w []) ∷ l) g ∙ ap (λ (x : Record). x ∷ rs) f

of_kind : {k l : Kind} (n : ℕ) → k ≡ l → ◌≡◌ {A = Record} (record { kind = k; below = n }) (record { kind = l; below = n })
of_kind n e = ap (λ (x : Kind). record { kind = x; below = n }) e

dosage_back : (d : P.Dosage) → valid_dosage d ≡ true → record_in (row (record_words (dosage_row d)) []) ≡ dosage_row d
unfolding kind_of record_in
dosage_back (P.simple a) h = refl
dosage_back (P.from_to a b unit du) h =
    let own = from_to_parts a b unit du h in
    let u = unit_carried unit own.unit in
    let v = duration_carried du own.duration in
    of_kind 0 (rw (u, v))
dosage_back (P.range a b) h = refl

-- A dosage that is a record's only one below it.
over_dosage : (n m : ℕ) (w : Words) (d : P.Dosage) (k rest : List ℕ) {r : Record} {rs : List Record} → n ≡ suc (suc m) → record_in (row w []) ≡ r → valid_dosage d ≡ true → records_of m (k ++ rest) ≡ rs
    → records_of n (row w (row (record_words (dosage_row d)) k) ++ rest) ≡ r ∷ dosage_row d ∷ rs
over_dosage n m w d k rest e f h g = then n (suc m) w (row (record_words (dosage_row d)) k) rest e f (then (suc m) m (record_words (dosage_row d)) k rest refl (dosage_back d h) g)

second_carried : (s : ℕ) → is_second s ≡ true → s % 0x100000000 ≡ s
second_carried s h = mod-eq_of_lt (omega (arith, leb-true s 86399 h))

times_back : (ts : List P.AtTime) → every valid_at_time ts ≡ true → (m : ℕ) (rest : List ℕ) → records_of (length ts + length ts + m) (rows (all_words (times_rows ts [])) ++ rest) ≡ times_rows ts (records_of m rest)
unfolding valid_dosage kind_of record_in
times_back [] h m rest = let none : 0 + 0 + m ≡ m = omega arith in ap (λ (n : ℕ). records_of n rest) none
times_back (P.at_time d dt ∷ ts) h m rest =
    let own = first_time d dt ts h in
    over_dosage (suc (length ts) + suc (length ts) + m) (length ts + length ts + m) (words 1 17 dt 0 0 0) d (rows (all_words (times_rows ts []))) rest
    (omega arith)
    (of_kind 1 (ap K.AtTime (second_carried dt own.time)))
    own.dosage
    (times_back ts own.rest m rest)

segments_back : (ss : List P.InSegment) → every valid_in_segment ss ≡ true → (m : ℕ) (rest : List ℕ) → records_of (length ss + length ss + m) (rows (all_words (segments_rows ss [])) ++ rest) ≡ segments_rows ss (records_of m rest)
unfolding valid_dosage kind_of record_in
segments_back [] h m rest = let none : 0 + 0 + m ≡ m = omega arith in ap (λ (n : ℕ). records_of n rest) none
segments_back (P.in_segment d s ∷ ss) h m rest =
    let own = first_segment d s ss h in
    over_dosage (suc (length ss) + suc (length ss) + m) (length ss + length ss + m) (words 1 18 s 0 0 0) d (rows (all_words (segments_rows ss []))) rest
    (omega arith)
    (of_kind 1 (ap K.InSegment (small_carried s 4 (omega arith) own.segment)))
    own.dosage
    (segments_back ss own.rest m rest)

pub timed_back : (td : P.Timed) (ts : List ℕ) → valid_timed td ts ≡ true → (m : ℕ) (rest : List ℕ) → records_of (timed_records td + m) (rows (all_words (timed_rows td [])) ++ rest) ≡ timed_rows td (records_of m rest)
unfolding timed_rows kind_of record_in
timed_back (P.dosage_only d) ts h m rest = over_dosage (2 + m) m (words 1 6 0 0 0 0) d [] rest (omega arith) refl (dosage_only_parts d ts h).dosage refl
timed_back (P.times as') ts h m rest =
    then (1 + (length as' + length as') + m) (length as' + length as' + m) (words (length as' + length as') 7 0 0 0 0) (rows (all_words (times_rows as' []))) rest (omega arith) refl
    (times_back as' (times_parts as' ts h).each m rest)
timed_back (P.day_segments as') ts h m rest =
    then (1 + (length as' + length as') + m) (length as' + length as' + m) (words (length as' + length as') 8 0 0 0 0) (rows (all_words (segments_rows as' []))) rest (omega arith) refl
    (segments_back as' (segments_parts as' ts h).each m rest)
timed_back (P.week_days ds td) ts h m rest =
    let own = week_parts ds td ts h in
    then (1 + timed_records td + m) (timed_records td + m) (words (timed_records td) 9 (day_set ds) 0 0 0) (rows (all_words (timed_rows td []))) rest (omega arith)
    (of_kind (timed_records td) (ap K.WeekDays (days_carried 7 ds (omega arith) own.days)))
    (timed_back td under_days own.timed m rest)
timed_back (P.days_of_month ds td) ts h m rest =
    let own = month_parts ds td ts h in
    then (1 + timed_records td + m) (timed_records td + m) (words (timed_records td) 10 (day_set ds) 0 0 0) (rows (all_words (timed_rows td []))) rest (omega arith)
    (of_kind (timed_records td) (ap K.DaysOfMonth (days_carried 28 ds (omega arith) own.days)))
    (timed_back td under_days own.timed m rest)
timed_back (P.interval d du unit) ts h m rest =
    let own = interval_parts d du unit ts h in
    let u = unit_carried unit own.unit in
    let v = duration_carried du own.duration in
    over_dosage (2 + m) m (words 1 11 du unit 0 0) d [] rest (omega arith) (of_kind 1 (rw (u, v))) own.dosage refl

mutual
  unfolding valid_detail detail_records detail_rows DetailRows kind_of record_in

  pub detail_back : (d : P.Detail) (n : ℕ) → valid_detail d n ≡ true → (text : List ℕ) (at : ℕ) (chunk : List ℕ) → DetailRows d text at chunk → (m : ℕ) (rest : List ℕ)
      → records_of (detail_records d + m) (chunk ++ rest) ≡ detail_rows d at (records_of m rest)
  detail_back (P.daily a b c d) n h text at chunk e m rest = rw e (then (1 + m) m (words 0 1 a b c d) [] rest (omega arith) refl refl)
  detail_back (P.free_text cs) n h text at chunk e m rest = rw e.1 (then (1 + m) m (words 0 2 at (length cs) e.0 0) [] rest (omega arith) refl refl)
  detail_back (P.single td) n h text at chunk e m rest =
      rw e (then (1 + timed_records td + m) (timed_records td + m) (words (timed_records td) 3 0 0 0 0) (rows (all_words (timed_rows td []))) rest (omega arith) refl (timed_back td under_single h m rest))
  detail_back (P.cyclic unit du td per) n h text at chunk e m rest =
      let own = cyclic_parts unit du td per n h in
      let u = unit_carried unit own.unit in
      let v = duration_carried du own.duration in
      let w = duration_carried per own.per in
      rw e
      (then (1 + timed_records td + m) (timed_records td + m) (words (timed_records td) 4 unit du per 0) (rows (all_words (timed_rows td []))) rest (omega arith)
      (of_kind (timed_records td) (rw (u, v, w)))
      (timed_back td (under_cyclic unit) own.timed m rest))
  detail_back (P.sequence os) zero h text at chunk e m rest = cc
  detail_back (P.sequence os) (suc n) h text at chunk e m rest =
      rw e.1
      (then (1 + objects_records os + m) (objects_records os + m) (words (objects_records os) 5 0 0 0 0) e.0 rest (omega arith) refl
      (objects_back os n (sequence_parts os n h).objects text at e.0 e.2 m rest))

  pub object_back : (o : P.SequenceObject) (n : ℕ) → valid_object o n ≡ true → (text : List ℕ) (at : ℕ) (chunk : List ℕ) → ObjectRows o text at chunk → (m : ℕ) (rest : List ℕ)
      → records_of (object_records o + m) (chunk ++ rest) ≡ object_rows o at (records_of m rest)
  object_back (P.posology_sequence du unit po) n h text at chunk e m rest =
      let own = posology_sequence_parts du unit po n h in
      let u = unit_carried unit own.unit in
      let v = duration_carried du own.duration in
      rw e.1
      (then (1 + detail_records po + m) (detail_records po + m) (words (detail_records po) 15 du unit 0 0) e.0 rest (omega arith) (of_kind (detail_records po) (rw (u, v)))
      (detail_back po n own.detail text at e.0 e.2 m rest))
  object_back (P.pause du unit) n h text at chunk e m rest =
      let own = pause_parts du unit n h in
      let u = unit_carried unit own.unit in
      let v = duration_carried du own.duration in
      rw e (then (1 + m) m (words 0 16 du unit 0 0) [] rest (omega arith) (of_kind 0 (rw (u, v))) refl)

  pub objects_back : (os : P.SequenceObjects) (n : ℕ) → valid_objects os n ≡ true → (text : List ℕ) (at : ℕ) (chunk : List ℕ) → ObjectsRows os text at chunk → (m : ℕ) (rest : List ℕ)
      → records_of (objects_records os + m) (chunk ++ rest) ≡ objects_rows os at (records_of m rest)
  objects_back P.no_object n h text at chunk e m rest = let none : 0 + m ≡ m = omega arith in rw (e, none)
  objects_back (P.object_then o os) n h text at chunk e m rest =
      let sum : object_records o + objects_records os + m ≡ object_records o + (objects_records os + m) = omega arith in
      rw (e.2, append_assoc e.0 e.1 rest, sum)
      (object_back o n (objects_parts o os n h).first text at e.0 e.3 (objects_records os + m) (e.1 ++ rest)
      ∙ ap (λ (rs : List Record). object_rows o at rs) (objects_back os n (objects_parts o os n h).rest text (at + length (object_strings o [])) e.1 e.4 m rest))
