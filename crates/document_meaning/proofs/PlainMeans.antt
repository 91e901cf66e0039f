-- The plain tree of a valid posology means it.
use mathlib.Core.Path.{◌≡◌, refl, ap, sym}
use mathlib.Core.List.{List, [], ◌∷◌}
use mathlib.Core.Bool.{Bool, true, false, not, false≢true}
use mathlib.Core.Option.{none, some}
use Prim.Native.Nat.{ℕ, zero, suc, ◌-◌, ◌≤◌}
use native.Mathlib.Omega.{arith}
use lib.Dec.{eqb}
use borrow.Author.Tests.{leb-true, eqb-true}
use Rattle.json_grammar.specs.Tree.{Tree, object, list, string, number, bool, null, no_member}
use Rattle.document.specs.Posology.{Dosage, simple, from_to, range, AtTime, at_time, InSegment, in_segment, Timed, dosage_only, times, day_segments, week_days, days_of_month, interval, Detail, daily, free_text, single, cyclic, sequence, SequenceObject, posology_sequence, pause, SequenceObjects, no_object, object_then, ordered, listed}
use Rattle.document.specs.Schema.{greatest_decimal, greatest_integer, Family, OfFamily, a_detail, a_timed, a_dosage, a_sequence_object, an_at_time, an_in_segment, integer, a_number, an_object, days, under_single, under_days, under_cyclic, rows_of}
use Rattle.document.specs.Valid.{is_amount, is_duration, is_time_unit, climbs, is_days, every, valid_dosage, valid_at_time, valid_in_segment, valid_timed, valid_detail, valid_object, valid_objects}
use Rattle.document.specs.Spells.{meaning_of, meant_elements, EachMeans, ElementsMean}
use Rattle.document.specs.Plain as P
use Rattle.document.specs.Plain.{whole_digits, dosage_tree, days_tree, times_tree, segments_tree, timed_tree, detail_tree, object_tree, objects_tree}
use Rattle.document.proofs.Ranges.{in_range}
use Rattle.document.proofs.Days.{climbs_parts, climbs_same, climbs_distinct, days_climb}
use Rattle.document.proofs.DetailParts.{simple_parts, from_to_parts, range_parts, first_time, first_segment, dosage_only_parts, times_parts, segments_parts, week_parts, month_parts, interval_parts, daily_parts, text_parts, cyclic_parts, sequence_parts, posology_sequence_parts, pause_parts, objects_parts}
use Rattle.document.proofs.Written.{whole_means, amount_means}
use Rattle.document.proofs.WrittenDates.{time_reads}

pub duration : (n : ℕ) → is_duration n ≡ true → n ≤ 999999
duration n v = let h = in_range 1 n greatest_integer v in omega arith

pub unit : (n : ℕ) → is_time_unit n ≡ true → n ≤ 999999
unit n v = let h = in_range 1 n 7 v in omega arith

pub amount : (n : ℕ) → is_amount n ≡ true → n ≤ 999999999999
amount n v = leb-true n greatest_decimal v

pub dosage_means : (d : Dosage) → valid_dosage d ≡ true → (meaning_of (dosage_tree d)).means (an_object a_dosage) d
unfolding meaning_of dosage_tree rows_of
dosage_means (simple a) v = (refl, (1, (refl, whole_means 1 3 1 (omega arith)), refl, (refl, (a, (refl, amount_means 1 a (amount a (simple_parts a v).most)), refl))))
dosage_means (from_to a b u du) v =
    let w = from_to_parts a b u du v in (
      refl,
      (
        2,
        (refl, whole_means 1 3 2 (omega arith)),
        refl,
        (
          refl,
          (
            a,
            (refl, amount_means 0 a (amount a w.least)),
            (
              b,
              (refl, amount_means 0 b (amount b w.most)),
              (
                u,
                (refl, whole_means 1 7 u (unit u w.unit)),
                (du, (refl, whole_means 1 greatest_integer du (duration du w.duration)), refl),
              ),
            ),
          ),
        ),
      ),
    )
dosage_means (range a b) v =
    let w = range_parts a b v in
    (refl, (3, (refl, whole_means 1 3 3 (omega arith)), refl, (refl, (a, (refl, amount_means 1 a (amount a w.least)), (b, (refl, amount_means 0 b (amount b w.most)), refl)))))

-- A value that means an object is not absent.
there : (t : Tree) (f : Family) (x : OfFamily f) → (meaning_of t).means (an_object f) x → (meaning_of t).absent (an_object f) ≡ false
unfolding meaning_of
there (object p ms) f x m = refl
there (list p es) f x m = refl
there (string p cs) f x m = refl
there (number p raw) f x m = refl
there (bool p b) f x m = refl
there (null p) f x m = absurd m

pub given_object : (t : Tree) (f : Family) (x : OfFamily f) → (meaning_of t).means (an_object f) x → ((meaning_of t).absent (an_object f) ≡ false) × (meaning_of t).means (an_object f) x
given_object t f x m = (there t f x m, m)

times_mean : (ts : List AtTime) → every valid_at_time ts ≡ true → EachMeans (an_object an_at_time) (meant_elements (times_tree ts)) ts
unfolding meaning_of rows_of
times_mean [] v = tt
times_mean (at_time d dt ∷ ts) v =
    let w = first_time d dt ts v in
    ((refl, (refl, (d, given_object (dosage_tree d) a_dosage d (dosage_means d w.dosage), (dt, (refl, time_reads dt w.time), refl)))), times_mean ts w.rest)

segments_mean : (ss : List InSegment) → every valid_in_segment ss ≡ true → EachMeans (an_object an_in_segment) (meant_elements (segments_tree ss)) ss
unfolding meaning_of rows_of
segments_mean [] v = tt
segments_mean (in_segment d s ∷ ss) v =
    let w = first_segment d s ss v in
    let h = in_range 1 s 4 w.segment in
    ((refl, (refl, (d, given_object (dosage_tree d) a_dosage d (dosage_means d w.dosage), (s, (refl, whole_means 1 4 s (omega arith)), refl)))), segments_mean ss w.rest)

each_day_lem : (hi from : ℕ) (ds : List ℕ) → hi ≤ 28 → climbs from hi ds ≡ true → EachMeans (a_number (integer 1 hi)) (meant_elements (days_tree ds)) ds
unfolding meaning_of
each_day_lem hi from [] h c = tt
each_day_lem hi from (d ∷ ds) h c = let k = climbs_parts from hi d ds c in (whole_means 1 hi d (omega arith), each_day_lem hi d ds h k.2)

days_mean : (hi : ℕ) (ds : List ℕ) → hi ≤ 28 → is_days hi ds ≡ true → ElementsMean (days hi) (meant_elements (days_tree ds)) ds
days_mean hi ds h v = let c = days_climb hi ds v in (ds, each_day_lem hi 0 ds h c, climbs_distinct 0 hi ds c, climbs_same 0 hi ds c)

pub timed_means : (td : Timed) (ts us : List ℕ) → valid_timed td ts ≡ true → (meaning_of (timed_tree td)).means (an_object (a_timed us)) td
unfolding meaning_of timed_tree rows_of
timed_means (dosage_only d) ts us v = (refl, (1, (refl, whole_means 1 6 1 (omega arith)), refl, (refl, (d, given_object (dosage_tree d) a_dosage d (dosage_means d (dosage_only_parts d ts v).dosage), refl))))
timed_means (times as') ts us v = (refl, (2, (refl, whole_means 1 6 2 (omega arith)), refl, (refl, (as', (refl, times_mean as' (times_parts as' ts v).each), refl))))
timed_means (day_segments as') ts us v = (refl, (3, (refl, whole_means 1 6 3 (omega arith)), refl, (refl, (as', (refl, segments_mean as' (segments_parts as' ts v).each), refl))))
timed_means (week_days ds td) ts us v =
    let w = week_parts ds td ts v in
    (refl, (4, (refl, whole_means 1 6 4 (omega arith)), refl, (refl, (ds, (refl, days_mean 7 ds (omega arith) w.days), (td, given_object (timed_tree td) (a_timed under_days) td (timed_means td under_days under_days w.timed), refl)))))
timed_means (days_of_month ds td) ts us v =
    let w = month_parts ds td ts v in
    (refl, (5, (refl, whole_means 1 6 5 (omega arith)), refl, (refl, (ds, (refl, days_mean 28 ds (omega arith) w.days), (td, given_object (timed_tree td) (a_timed under_days) td (timed_means td under_days under_days w.timed), refl)))))
timed_means (interval d du u) ts us v =
    let w = interval_parts d du u ts v in (
      refl,
      (
        6,
        (refl, whole_means 1 6 6 (omega arith)),
        refl,
        (
          refl,
          (
            d,
            given_object (dosage_tree d) a_dosage d (dosage_means d w.dosage),
            (
              du,
              (refl, whole_means 1 greatest_integer du (duration du w.duration)),
              (u, (refl, whole_means 1 7 u (unit u w.unit)), refl),
            ),
          ),
        ),
      ),
    )

abbrev cyclic_tree : ℕ → ℕ → Timed → ℕ → Bool → Tree
cyclic_tree u du td per one = P.typed 4 (P.field "cyDuU" (P.whole u) (P.field "cyDu" (P.whole du) (P.field "tdo" (timed_tree td) (P.field_if (not one) "tdpc" (P.whole per) no_member))))

-- "tdpc of 1 left out"
cyclic_means : (u du : ℕ) (td : Timed) (per m : ℕ) (one : Bool) → eqb per 1 ≡ one → is_time_unit u ≡ true → is_duration du ≡ true → valid_timed td (under_cyclic u) ≡ true → is_duration per ≡ true → (meaning_of (cyclic_tree u du td per one)).means (an_object (a_detail m)) (cyclic u du td per)
unfolding meaning_of rows_of whole_digits
cyclic_means u du td per m true e vu vd vt vp = (
  refl,
  (
    4,
    (refl, whole_means 1 5 4 (omega arith)),
    refl,
    (
      refl,
      (
        u,
        (refl, whole_means 1 7 u (unit u vu)),
        (
          du,
          (refl, whole_means 1 greatest_integer du (duration du vd)),
          (
            td,
            given_object (timed_tree td) (a_timed (under_cyclic u)) td (timed_means td (under_cyclic u) (under_cyclic u) vt),
            (none, tt, ap (cyclic u du td) (sym (eqb-true per 1 e))),
          ),
        ),
      ),
    ),
  ),
)
cyclic_means u du td per m false e vu vd vt vp = (
  refl,
  (
    4,
    (refl, whole_means 1 5 4 (omega arith)),
    refl,
    (
      refl,
      (
        u,
        (refl, whole_means 1 7 u (unit u vu)),
        (
          du,
          (refl, whole_means 1 greatest_integer du (duration du vd)),
          (
            td,
            given_object (timed_tree td) (a_timed (under_cyclic u)) td (timed_means td (under_cyclic u) (under_cyclic u) vt),
            (some per, (refl, whole_means 1 greatest_integer per (duration per vp)), refl),
          ),
        ),
      ),
    ),
  ),
)

ordered_listed : (os : SequenceObjects) → ordered (listed os) ≡ os
ordered_listed no_object = refl
ordered_listed (object_then o os) = ap (object_then o) (ordered_listed os)

mutual
  unfolding meaning_of detail_tree rows_of valid_detail

  pub detail_means : (d : Detail) (n : ℕ) (m : ℕ) → valid_detail d n ≡ true → (meaning_of (detail_tree d)).means (an_object (a_detail m)) d
  detail_means (daily a b c d) n m v =
      let w = daily_parts a b c d n v in (
        refl,
        (
          1,
          (refl, whole_means 1 5 1 (omega arith)),
          refl,
          (
            refl,
            (
              record { morning = a; noon = b; evening = c; night = d },
              (refl, (amount_means 0 a (amount a w.morning), (amount_means 0 b (amount b w.noon), (amount_means 0 c (amount c w.evening), (amount_means 0 d (amount d w.night), tt))))),
              refl,
            ),
          ),
        ),
      )
  detail_means (free_text cs) n m v = (refl, (2, (refl, whole_means 1 5 2 (omega arith)), refl, (refl, (cs, ((text_parts cs v).some, refl), refl))))
  detail_means (single td) n m v = (refl, (3, (refl, whole_means 1 5 3 (omega arith)), refl, (refl, (td, given_object (timed_tree td) (a_timed under_single) td (timed_means td under_single under_single v), refl))))
  detail_means (cyclic u du td per) n m v =
      let w = cyclic_parts u du td per n v in
      cyclic_means u du td per m (eqb per 1) refl w.unit w.duration w.timed w.per
  detail_means (sequence os) zero m v = absurd (false≢true v)
  detail_means (sequence os) (suc n) m v = (refl, (5, (refl, whole_means 1 5 5 (omega arith)), refl, (refl, (listed os, (refl, objects_mean os n (m - 1) (sequence_parts os n v).objects), ap sequence (ordered_listed os)))))

  pub object_means : (o : SequenceObject) (n : ℕ) (m : ℕ) → valid_object o n ≡ true → (meaning_of (object_tree o)).means (an_object (a_sequence_object m)) o
  object_means (posology_sequence du u po) n m v =
      let w = posology_sequence_parts du u po n v in (
        refl,
        (
          1,
          (refl, whole_means 1 2 1 (omega arith)),
          refl,
          (
            refl,
            (
              du,
              (refl, whole_means 1 greatest_integer du (duration du w.duration)),
              (
                u,
                (refl, whole_means 1 7 u (unit u w.unit)),
                (po, given_object (detail_tree po) (a_detail m) po (detail_means po n m w.detail), refl),
              ),
            ),
          ),
        ),
      )
  object_means (pause du u) n m v = (
    refl,
    (
      2,
      (refl, whole_means 1 2 2 (omega arith)),
      refl,
      (
        refl,
        (
          du,
          (refl, whole_means 1 greatest_integer du (duration du (pause_parts du u n v).duration)),
          (u, (refl, whole_means 1 7 u (unit u (pause_parts du u n v).unit)), refl),
        ),
      ),
    ),
  )

  objects_mean : (os : SequenceObjects) (n : ℕ) (m : ℕ) → valid_objects os n ≡ true → EachMeans (an_object (a_sequence_object m)) (meant_elements (objects_tree os)) (listed os)
  objects_mean no_object n m v = tt
  objects_mean (object_then o os) n m v = let w = objects_parts o os n v in (object_means o n m w.first, objects_mean os n m w.rest)
