-- Words of a valid value are found right: dosages and timed dosages.
use mathlib.Core.Path.{◌≡◌, refl, ap, ◌∙◌}
use mathlib.Core.List.{List, [], ◌∷◌}
use mathlib.Core.Bool.{Bool, true, false, ◌&&◌, false≢true}
use Rattle.std.specs.Prelude.{Option, Some, None, IsSome}
use Prim.Native.Nat.{ℕ, ◌+◌, ◌≤◌, ◌<◌}
use native.Mathlib.Omega.{arith}
use lib.Dec.{eqb, leb, ltb}
use lib.ListN.{length}
use borrow.Author.Tests.{ltb-true, leb-true, eqb-true}
use Rattle.document.specs.Posology as P
use Rattle.document.specs.Posology.{Dosage, AtTime, InSegment, Timed}
use Rattle.document.specs.Schema.{under_single, under_days, under_cyclic}
use Rattle.document.specs.Date.{among}
use Rattle.document.specs.Valid.{valid_dosage, valid_at_time, valid_in_segment, every, valid_timed, timed_records}
use Rattle.document.specs.Table.{dosage_row, times_rows, segments_rows, timed_rows}
use Rattle.document.specs.Words.{Words, record_words, all_words}
use Rattle.document.specs.declared.table.Record.{Record}
use Rattle.table_rows.specs.Standing.{below_at, At, Lies}
use Rattle.document.proofs.Ranges.{in_range}
use Rattle.document.proofs.DetailParts.{simple_parts, from_to_parts, range_parts, first_time, first_segment, dosage_only_parts, times_parts, segments_parts, week_parts, month_parts, interval_parts}
use Rattle.table_rows.proofs.Standing.{moved}
use Rattle.check_doses.proofs.DaySums.{days_sum}
use Rattle.check_doses.proofs.Lies.{types_under}
use Rattle.check_doses.specs.declared.records.Shape.{Shape}
use Rattle.check_doses.specs.Shapes.{Holds, Row, between, time_shape, segment_shape}
use Rattle.check_doses.specs.Doses.{DosageAt, simple, from_to, range, ApplicationsAt, none, more, PlainAt, dosage_only, times, segments, TimedAt, plain, interval, week_days, days_of_month}

-- A timed dosage where the types ts may stand, under a unit that lets them.
pub record Lets (ts : List ℕ) (unit : Option ℕ) : Type 0 where
  pub week : among 4 ts ≡ true → unit ≡ Some 5
  pub month : among 5 ts ≡ true → unit ≡ Some 6
  pub interval : among 6 ts ≡ true → IsSome unit

-- Words within bounds.
pub exact : (n : ℕ) → Holds (between n n) n
exact n = record { least = omega arith; most = omega arith }

pub up_to : (n most : ℕ) → leb n most ≡ true → Holds (between 0 most) n
up_to n most h = record { least = omega arith; most = leb-true n most h }

positive : (n most : ℕ) → ltb 0 n ≡ true → leb n most ≡ true → Holds (between 1 most) n
positive n most g h = record { least = ltb-true 0 n g; most = leb-true n most h }

pub among_bounds : (least n most : ℕ) → leb least n && leb n most ≡ true → Holds (between least most) n
among_bounds least n most h = let r = in_range least n most h in record { least = r.0; most = r.1 }

-- Words that stand at a record, within a shape's bounds.
pub row_of : {ws : List ℕ} {i : ℕ} {w : Words} {s : Shape} → At ws i w → w.tag ≡ s.tag → Holds s.below w.below → Holds s.a w.a → Holds s.b w.b → Holds s.c w.c → Holds s.d w.d → Row ws i s
row_of p e below a b c d = record { inside = p.inside; tag = p.tag ∙ e; below = rw p.below below; a = rw p.a a; b = rw p.b b; c = rw p.c c; d = rw p.d d }

module _ {ws : List ℕ} where
  pub dosage_found : {i : ℕ} (d : Dosage) → valid_dosage d ≡ true → At ws i (record_words (dosage_row d)) → DosageAt ws i
  dosage_found (P.simple a) v p =
      let w = simple_parts a v in
      let g : 0 < a = ltb-true 0 a w.some in
      let h : a ≤ 999999999999 = leb-true a 999999999999 w.most in
      simple (row_of p refl (exact 0) (positive a _ w.some w.most) (exact 0) (exact 0) (exact 0))
  dosage_found (P.from_to a b u n) v p =
      let w = from_to_parts a b u n v in
      let g : a < b = ltb-true a b w.rises in
      let h : b ≤ 999999999999 = leb-true b 999999999999 w.most in
      let u-in = in_range 1 u 7 w.unit in
      let n-in = in_range 1 n 99999 w.duration in
      from_to (record { row = row_of p refl (exact 0) (record { least = omega arith; most = omega arith }) (record { least = omega arith; most = omega arith }) (among_bounds 1 u 7 w.unit) (among_bounds 1 n 99999 w.duration); rises = omega arith })
  dosage_found (P.range a b) v p =
      let w = range_parts a b v in
      let f : 0 < a = ltb-true 0 a w.some in
      let g : a < b = ltb-true a b w.rises in
      let h : b ≤ 999999999999 = leb-true b 999999999999 w.most in
      range (record { row = row_of p refl (exact 0) (record { least = omega arith; most = omega arith }) (record { least = omega arith; most = omega arith }) (exact 0) (exact 0); rises = omega arith })

  pub times_found : {i : ℕ} (end : ℕ) (ts : List AtTime) (k : List Record) → every valid_at_time ts ≡ true → i + (length ts + length ts) ≡ end → Lies ws i (all_words (times_rows ts k)) → ApplicationsAt ws end time_shape i × Lies ws end (all_words k)
  times_found {i} end [] k v e l = let n : i ≡ end = omega arith in (none n, moved ws (all_words k) n l)
  times_found {i} end (P.at_time d t ∷ ts) k v e l =
      let w = first_time d t ts v in
      let h : t ≤ 86399 = leb-true t 86399 w.time in
      let p = l.0 in
      let n : i + 1 + 1 ≡ i + 2 = omega arith in
      let r = times_found {i = i + 2} end ts k w.rest (omega arith) (moved ws (all_words (times_rows ts k)) n l.1.1) in
      (more (record { row = row_of p refl (exact 1) (up_to t _ w.time) (exact 0) (exact 0) (exact 0); dosage = dosage_found d w.dosage l.1.0 }) r.0, r.1)

  pub segments_found : {i : ℕ} (end : ℕ) (ts : List InSegment) (k : List Record) → every valid_in_segment ts ≡ true → i + (length ts + length ts) ≡ end → Lies ws i (all_words (segments_rows ts k)) → ApplicationsAt ws end segment_shape i × Lies ws end (all_words k)
  segments_found {i} end [] k v e l = let n : i ≡ end = omega arith in (none n, moved ws (all_words k) n l)
  segments_found {i} end (P.in_segment d t ∷ ts) k v e l =
      let w = first_segment d t ts v in
      let t-in = in_range 1 t 4 w.segment in
      let p = l.0 in
      let n : i + 1 + 1 ≡ i + 2 = omega arith in
      let r = segments_found {i = i + 2} end ts k w.rest (omega arith) (moved ws (all_words (segments_rows ts k)) n l.1.1) in
      (more (record { row = row_of p refl (exact 1) (among_bounds 1 t 4 w.segment) (exact 0) (exact 0) (exact 0); dosage = dosage_found d w.dosage l.1.0 }) r.0, r.1)

  -- A timed dosage of type 1, 2 or 3.
  pub plain_found : {i : ℕ} (td : Timed) (k : List Record) → valid_timed td under_days ≡ true → i + timed_records td ≤ 64 → Lies ws i (all_words (timed_rows td k)) → PlainAt ws i × ((below_at ws i + 1 ≡ timed_records td) × Lies ws (i + timed_records td) (all_words k))
  unfolding valid_timed timed_rows
  plain_found {i} (P.dosage_only d) k v f l =
      let p = l.0 in
      let n : i + 1 + 1 ≡ i + 2 = omega arith in
      (dosage_only (record { row = row_of p refl (exact 1) (exact 0) (exact 0) (exact 0) (exact 0); dosage = dosage_found d v l.1.0 }), (omega arith, moved ws (all_words k) n l.1.1))
  plain_found {i} (P.times ts) k v f l =
      let p = l.0 in
      let n : i + 1 + (length ts + length ts) ≡ i + 1 + below_at ws i = omega arith in
      let m : i + 1 + below_at ws i ≡ i + (1 + (length ts + length ts)) = omega arith in
      let r = times_found (i + 1 + below_at ws i) ts k v n l.1 in
      (times (record { row = row_of p refl (record { least = omega arith; most = omega arith }) (exact 0) (exact 0) (exact 0) (exact 0); items = r.0 }), (omega arith, moved ws (all_words k) m r.1))
  plain_found {i} (P.day_segments ts) k v f l =
      let p = l.0 in
      let n : i + 1 + (length ts + length ts) ≡ i + 1 + below_at ws i = omega arith in
      let m : i + 1 + below_at ws i ≡ i + (1 + (length ts + length ts)) = omega arith in
      let r = segments_found (i + 1 + below_at ws i) ts k v n l.1 in
      (segments (record { row = row_of p refl (record { least = omega arith; most = omega arith }) (exact 0) (exact 0) (exact 0) (exact 0); items = r.0 }), (omega arith, moved ws (all_words k) m r.1))
  plain_found (P.week_days ds td) k v f l = absurd (false≢true v)
  plain_found (P.days_of_month ds td) k v f l = absurd (false≢true v)
  plain_found (P.interval d du u) k v f l = absurd (false≢true v)

  pub timed_found : {i : ℕ} (td : Timed) (ts : List ℕ) (unit : Option ℕ) (k : List Record) → Lets ts unit → valid_timed td ts ≡ true → i + timed_records td ≤ 64 → Lies ws i (all_words (timed_rows td k)) → TimedAt ws i unit × ((below_at ws i + 1 ≡ timed_records td) × Lies ws (i + timed_records td) (all_words k))
  unfolding valid_timed timed_rows
  timed_found (P.dosage_only d) ts unit k h v f l = let r = plain_found (P.dosage_only d) k (dosage_only_parts d ts v).dosage f l in (plain r.0, r.1)
  timed_found (P.times as') ts unit k h v f l = let r = plain_found (P.times as') k (times_parts as' ts v).each f l in (plain r.0, r.1)
  timed_found (P.day_segments as') ts unit k h v f l = let r = plain_found (P.day_segments as') k (segments_parts as' ts v).each f l in (plain r.0, r.1)
  timed_found {i} (P.week_days ds td) ts unit k h v f l =
      let w = week_parts ds td ts v in
      let s = days_sum 7 ds w.days in
      let r = plain_found td k w.timed (omega arith) l.1 in
      let p = l.0 in
      let s₀ = s.0 in
      let s₁ = s.1 in
      let c = r.1.0 in
      let n : i + 1 + timed_records td ≡ i + (1 + timed_records td) = omega arith in
      (week_days (h.week w.allowed) (record { row = row_of p refl (record { least = omega arith; most = omega arith }) (record { least = omega arith; most = omega arith }) (exact 0) (exact 0) (exact 0); inner = r.0; nested = omega arith }), (omega arith, moved ws (all_words k) n r.1.1))
  timed_found {i} (P.days_of_month ds td) ts unit k h v f l =
      let w = month_parts ds td ts v in
      let s = days_sum 28 ds w.days in
      let r = plain_found td k w.timed (omega arith) l.1 in
      let p = l.0 in
      let s₀ = s.0 in
      let s₁ = s.1 in
      let c = r.1.0 in
      let n : i + 1 + timed_records td ≡ i + (1 + timed_records td) = omega arith in
      (days_of_month (h.month w.allowed) (record { row = row_of p refl (record { least = omega arith; most = omega arith }) (record { least = omega arith; most = omega arith }) (exact 0) (exact 0) (exact 0); inner = r.0; nested = omega arith }), (omega arith, moved ws (all_words k) n r.1.1))
  timed_found {i} (P.interval d n u) ts unit k h v f l =
      let w = interval_parts d n u ts v in
      let u-in = in_range 1 u 7 w.unit in
      let n-in = in_range 1 n 99999 w.duration in
      let p = l.0 in
      let m : i + 1 + 1 ≡ i + 2 = omega arith in
      (interval (h.interval w.allowed) (record { row = row_of p refl (exact 1) (among_bounds 1 n 99999 w.duration) (among_bounds 1 u 7 w.unit) (exact 0) (exact 0); dosage = dosage_found d w.dosage l.1.0 }), (omega arith, moved ws (all_words k) m l.1.1))

pub lets_single : Lets under_single None
lets_single = record { week = λ e. absurd (false≢true e); month = λ e. absurd (false≢true e); interval = λ e. absurd (false≢true e) }

lets_by : (unit : ℕ) (b c : Bool) → eqb unit 5 ≡ b → eqb unit 6 ≡ c → Lets (types_under b c) (Some unit)
lets_by unit true c e f = record { week = λ g. ap (λ n. Some n) (eqb-true unit 5 e); month = λ g. absurd (false≢true g); interval = λ g. refl }
lets_by unit false true e f = record { week = λ g. absurd (false≢true g); month = λ g. ap (λ n. Some n) (eqb-true unit 6 f); interval = λ g. refl }
lets_by unit false false e f = record { week = λ g. absurd (false≢true g); month = λ g. absurd (false≢true g); interval = λ g. refl }

pub lets_cyclic : (unit : ℕ) → Lets (under_cyclic unit) (Some unit)
lets_cyclic unit = lets_by unit (eqb unit 5) (eqb unit 6) refl refl
