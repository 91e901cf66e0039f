-- The records of a posology stand for it.
use mathlib.Core.Path.{◌≡◌, refl, ap, sym, ◌∙◌}
use mathlib.Core.List.{List, [], ◌∷◌, ◌++◌, append_assoc, append-nil}
use mathlib.Core.Bool.{true, false≢true}
use Prim.Native.Nat.{ℕ, zero, suc, ◌+◌, ◌-◌, ◌/◌, ◌≤◌}
use native.Mathlib.Omega.{arith}
use lib.ListN.{length, take, drop, length-append}
use lib.Seq.{take_at, drop_at}
use Rattle.document.specs.Posology as P
use Rattle.document.specs.Posology.{Dosage, AtTime, InSegment, Timed, Detail, SequenceObject, SequenceObjects}
use Rattle.document.specs.Schema.{under_days, under_single, under_cyclic}
use Rattle.document.specs.Valid.{valid_timed, valid_detail, valid_object, valid_objects, detail_records, object_records, objects_records, joined, detail_strings, object_strings, objects_strings}
use Rattle.document.specs.Table.{dosage_row, times_rows, segments_rows, timed_rows, detail_rows, object_rows, objects_rows, day_set}
use Rattle.document.specs.Words.{record_words, all_words}
use Rattle.document.specs.Untable.{Grown, grown, within, dosage_of, days_of, times_next, segments_next, timed_next, part, detail_next, objects_next, and_then}
use Rattle.document.specs.declared.table.Record.{Record}
use Rattle.document.proofs.DetailParts.{week_parts, month_parts, cyclic_parts, sequence_parts, posology_sequence_parts, objects_parts}
use Rattle.document.proofs.DaySets.{set_back}

dosage_back : (d : Dosage) → dosage_of (record_words (dosage_row d)) ≡ d
dosage_back (P.simple a) = refl
dosage_back (P.from_to a b u du) = refl
dosage_back (P.range a b) = refl

times_back : (ts : List AtTime) (k : List Record) → times_next (length ts) (all_words (times_rows ts k)) ≡ grown ts (all_words k)
unfolding times_next
times_back [] k = refl
times_back (P.at_time d dt ∷ ts) k =
    ap (within (λ (as' : List AtTime). P.at_time (dosage_of (record_words (dosage_row d))) dt ∷ as')) (times_back ts k)
    ∙ ap (λ (e : Dosage). grown (P.at_time e dt ∷ ts) (all_words k)) (dosage_back d)

segments_back : (ss : List InSegment) (k : List Record) → segments_next (length ss) (all_words (segments_rows ss k)) ≡ grown ss (all_words k)
unfolding segments_next
segments_back [] k = refl
segments_back (P.in_segment d s ∷ ss) k =
    ap (within (λ (as' : List InSegment). P.in_segment (dosage_of (record_words (dosage_row d))) s ∷ as')) (segments_back ss k)
    ∙ ap (λ (e : Dosage). grown (P.in_segment e s ∷ ss) (all_words k)) (dosage_back d)

half : (n : ℕ) → (n + n) / 2 ≡ n
half n = omega arith

-- A timed dosage in which no other stands.
flat_back : (n : ℕ) (td : Timed) (k : List Record) → valid_timed td under_days ≡ true → timed_next (suc n) (all_words (timed_rows td k)) ≡ grown td (all_words k)
unfolding timed_next timed_rows valid_timed
flat_back n (P.dosage_only d) k v = ap (λ (e : Dosage). grown (P.dosage_only e) (all_words k)) (dosage_back d)
flat_back n (P.times ts) k v = ap (λ (m : ℕ). within P.times (times_next m (all_words (times_rows ts k)))) (half (length ts)) ∙ ap (within P.times) (times_back ts k)
flat_back n (P.day_segments ss) k v = ap (λ (m : ℕ). within P.day_segments (segments_next m (all_words (segments_rows ss k)))) (half (length ss)) ∙ ap (within P.day_segments) (segments_back ss k)
flat_back n (P.week_days ds td) k v = absurd (false≢true v)
flat_back n (P.days_of_month ds td) k v = absurd (false≢true v)
flat_back n (P.interval d du u) k v = absurd (false≢true v)

timed_back : (td : Timed) (ts : List ℕ) (k : List Record) → valid_timed td ts ≡ true → timed_next 2 (all_words (timed_rows td k)) ≡ grown td (all_words k)
unfolding timed_next timed_rows
timed_back (P.dosage_only d) ts k v = ap (λ (e : Dosage). grown (P.dosage_only e) (all_words k)) (dosage_back d)
timed_back (P.times as') ts k v = ap (λ (m : ℕ). within P.times (times_next m (all_words (times_rows as' k)))) (half (length as')) ∙ ap (within P.times) (times_back as' k)
timed_back (P.day_segments as') ts k v = ap (λ (m : ℕ). within P.day_segments (segments_next m (all_words (segments_rows as' k)))) (half (length as')) ∙ ap (within P.day_segments) (segments_back as' k)
timed_back (P.week_days ds td) ts k v =
    let w = week_parts ds td ts v in
    ap (within (λ (t : Timed). P.week_days (days_of 7 1 (day_set ds)) t)) (flat_back 0 td k w.timed)
    ∙ ap (λ (e : List ℕ). grown (P.week_days e td) (all_words k)) (set_back 7 ds w.days)
timed_back (P.days_of_month ds td) ts k v =
    let w = month_parts ds td ts v in
    ap (within (λ (t : Timed). P.days_of_month (days_of 28 1 (day_set ds)) t)) (flat_back 0 td k w.timed)
    ∙ ap (λ (e : List ℕ). grown (P.days_of_month e td) (all_words k)) (set_back 28 ds w.days)
timed_back (P.interval d du u) ts k v = ap (λ (e : Dosage). grown (P.interval e du u) (all_words k)) (dosage_back d)

-- Strings in front of others.
pub joined_append : (cs k : List ℕ) → joined cs k ≡ cs ++ k
joined_append [] k = refl
joined_append (c ∷ cs) k = ap (λ (s : List ℕ). c ∷ s) (joined_append cs k)

mutual
  unfolding detail_strings

  pub detail_append : (d : Detail) (k : List ℕ) → detail_strings d k ≡ detail_strings d [] ++ k
  detail_append (P.daily a b c d) k = refl
  detail_append (P.free_text cs) k = joined_append cs k ∙ ap (λ (s : List ℕ). s ++ k) (sym (joined_append cs [] ∙ append-nil cs))
  detail_append (P.single td) k = refl
  detail_append (P.cyclic u du td per) k = refl
  detail_append (P.sequence os) k = objects_append os k

  pub object_append : (o : SequenceObject) (k : List ℕ) → object_strings o k ≡ object_strings o [] ++ k
  object_append (P.posology_sequence du u po) k = detail_append po k
  object_append (P.pause du u) k = refl

  objects_append : (os : SequenceObjects) (k : List ℕ) → objects_strings os k ≡ objects_strings os [] ++ k
  objects_append P.no_object k = refl
  objects_append (P.object_then o os) k =
      object_append o (objects_strings os k)
      ∙ ap (λ (s : List ℕ). object_strings o [] ++ s) (objects_append os k)
      ∙ sym (append_assoc (object_strings o []) (objects_strings os []) k)
      ∙ ap (λ (s : List ℕ). s ++ k) (sym (object_append o (objects_strings os [])))

pub part_back : (buffer pre cs post : List ℕ) (at : ℕ) → buffer ≡ pre ++ (cs ++ post) → length pre ≡ at → part buffer at (length cs) ≡ cs
part_back buffer pre cs post at e f =
    ap (λ (s : List ℕ). take (length cs) (drop at s)) e
    ∙ ap (take (length cs)) (drop_at pre (cs ++ post) at f)
    ∙ take_at cs post (length cs) refl

-- The second of two strings, behind the first.
behind : (buffer pre a b post : List ℕ) → buffer ≡ pre ++ ((a ++ b) ++ post) → buffer ≡ (pre ++ a) ++ (b ++ post)
behind buffer pre a b post e = e ∙ ap (λ (s : List ℕ). pre ++ s) (append_assoc a b post) ∙ sym (append_assoc pre a (b ++ post))

some_records : (o : SequenceObject) → 1 ≤ object_records o
unfolding detail_records
some_records (P.posology_sequence du u po) = omega arith
some_records (P.pause du u) = omega arith

module _ (buffer : List ℕ) where
  mutual
    unfolding detail_next detail_rows detail_records detail_strings valid_detail

    pub detail_back : (d : Detail) (n m at : ℕ) (k : List Record) (pre post : List ℕ) → buffer ≡ pre ++ (detail_strings d [] ++ post) → length pre ≡ at → valid_detail d m ≡ true → detail_records d ≤ n → detail_next buffer n (all_words (detail_rows d at k)) ≡ grown d (all_words k)
    detail_back (P.daily a b c d) zero m at k pre post e f v h = absurd (omega arith)
    detail_back (P.daily a b c d) (suc n) m at k pre post e f v h = refl
    detail_back (P.free_text cs) zero m at k pre post e f v h = absurd (omega arith)
    detail_back (P.free_text cs) (suc n) m at k pre post e f v h =
        ap (λ (s : List ℕ). grown (P.free_text s) (all_words k)) (part_back buffer pre cs post at (e ∙ ap (λ (s : List ℕ). pre ++ (s ++ post)) (joined_append cs [] ∙ append-nil cs)) f)
    detail_back (P.single td) zero m at k pre post e f v h = absurd (omega arith)
    detail_back (P.single td) (suc n) m at k pre post e f v h = ap (within P.single) (timed_back td under_single k v)
    detail_back (P.cyclic u du td per) zero m at k pre post e f v h = absurd (omega arith)
    detail_back (P.cyclic u du td per) (suc n) m at k pre post e f v h = ap (within (λ (t : Timed). P.cyclic u du t per)) (timed_back td (under_cyclic u) k (cyclic_parts u du td per m v).timed)
    detail_back (P.sequence os) zero m at k pre post e f v h = absurd (omega arith)
    detail_back (P.sequence os) (suc n) zero at k pre post e f v h = absurd (false≢true v)
    detail_back (P.sequence os) (suc n) (suc m) at k pre post e f v h = ap (within P.sequence) (objects_back os n m at k pre post e f (sequence_parts os m v).objects (omega arith))

    objects_back : (os : SequenceObjects) (n m at : ℕ) (k : List Record) (pre post : List ℕ) → buffer ≡ pre ++ (objects_strings os [] ++ post) → length pre ≡ at → valid_objects os m ≡ true → objects_records os ≤ n → objects_next buffer n (objects_records os) (all_words (objects_rows os at k)) ≡ grown os (all_words k)
    objects_back P.no_object zero m at k pre post e f v h = refl
    objects_back P.no_object (suc n) m at k pre post e f v h = refl
    objects_back (P.object_then o os) zero m at k pre post e f v h = let g = some_records o in absurd (omega arith)
    objects_back (P.object_then o os) (suc n) m at k pre post e f v h =
        let g = some_records o in
        let e' : buffer ≡ pre ++ ((object_strings o [] ++ objects_strings os []) ++ post) = e ∙ ap (λ (s : List ℕ). pre ++ (s ++ post)) (object_append o (objects_strings os [])) in
        let e'' : buffer ≡ pre ++ (object_strings o [] ++ (objects_strings os [] ++ post)) = e' ∙ ap (λ (s : List ℕ). pre ++ s) (append_assoc (object_strings o []) (objects_strings os []) post) in
        object_back o n m at (objects_records os) (objects_rows os (at + length (object_strings o [])) k) pre (objects_strings os [] ++ post) e'' f (objects_parts o os m v).first (omega arith)
        ∙ ap (within (P.object_then o)) (objects_back os n m (at + length (object_strings o [])) k (pre ++ object_strings o []) post (behind buffer pre (object_strings o []) (objects_strings os []) post e') (omega (arith, length-append pre (object_strings o []))) (objects_parts o os m v).rest (omega arith))

    object_back : (o : SequenceObject) (n m at c : ℕ) (k : List Record) (pre post : List ℕ) → buffer ≡ pre ++ (object_strings o [] ++ post) → length pre ≡ at → valid_object o m ≡ true → object_records o ≤ suc n → objects_next buffer (suc n) (object_records o + c) (all_words (object_rows o at k)) ≡ within (P.object_then o) (objects_next buffer n c (all_words k))
    object_back (P.posology_sequence du u po) n m at c k pre post e f v h =
        let s : 1 + detail_records po + c ≡ suc (detail_records po + c) = omega arith in
        let d : detail_records po + c - detail_records po ≡ c = omega arith in
        ap (λ (x : ℕ). objects_next buffer (suc n) x (all_words (object_rows (P.posology_sequence du u po) at k))) s
        ∙ ap (λ (g : Grown Detail). and_then buffer (P.posology_sequence du u g.value) g.rest (λ vs. objects_next buffer n (detail_records po + c - detail_records po) vs)) (detail_back po n m at k pre post e f (posology_sequence_parts du u po m v).detail (omega arith))
        ∙ ap (λ (x : ℕ). within (P.object_then (P.posology_sequence du u po)) (objects_next buffer n x (all_words k))) d
    object_back (P.pause du u) n m at c k pre post e f v h =
        let s : 1 + c ≡ suc c = omega arith in
        ap (λ (x : ℕ). objects_next buffer (suc n) x (all_words (object_rows (P.pause du u) at k))) s
