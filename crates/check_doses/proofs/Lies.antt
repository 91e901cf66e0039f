-- Words that are checked are those of a value: dosages and timed dosages.
use mathlib.Core.Path.{◌≡◌, refl, ap, sym}
use mathlib.Core.List.{List, [], ◌∷◌}
use mathlib.Core.Bool.{Bool, true, false, cond, false≢true}
use Rattle.std.specs.Prelude.{Some, None}
use Prim.Native.Nat.{ℕ, ◌+◌}
use native.Mathlib.Omega.{arith}
use lib.Dec.{eqb}
use lib.ListN.{length}
use borrow.Author.Tests.{lt-ltb, le-leb}
use Rattle.document.specs.Posology as P
use Rattle.document.specs.Posology.{Dosage, AtTime, InSegment, Timed}
use Rattle.document.specs.Schema.{under_single, under_days, under_cyclic}
use Rattle.document.specs.Date.{among}
use Rattle.document.specs.Valid.{valid_dosage, valid_at_time, valid_in_segment, every, valid_timed, timed_records}
use Rattle.document.specs.Table.{dosage_row, times_rows, segments_rows, timed_rows}
use Rattle.document.specs.Words.{record_words, all_words}
use Rattle.document.specs.declared.table.Record.{Record}
use Rattle.table_rows.proofs.Standing.{moved}
use Rattle.table_rows.specs.Standing.{below_at, a_at, b_at, c_at, d_at, At, Lies}
use Rattle.check_doses.proofs.DaySums.{days_are}
use Rattle.check_doses.specs.Shapes.{week_shape, month_shape, time_shape, segment_shape}
use Rattle.check_doses.specs.Doses.{DosageAt, simple, from_to, range, ApplicationsAt, none, more, PlainAt, dosage_only, times, segments, DaysAt, IntervalAt, TimedAt, plain, interval, week_days, days_of_month}
use Rattle.json_grammar.proofs.Truth.{and_both}

pub record DosageIs (ws : List ℕ) (i : ℕ) : Type 0 where
  pub value : Dosage
  pub valid : valid_dosage value ≡ true
  pub at : At ws i (record_words (dosage_row value))

pub record TimesAre (ws : List ℕ) (end i : ℕ) : Type 0 where
  pub value : List AtTime
  pub valid : every valid_at_time value ≡ true
  pub lies : (k : List Record) → Lies ws end (all_words k) → Lies ws i (all_words (times_rows value k))
  pub count : i + (length value + length value) ≡ end

pub record SegmentsAre (ws : List ℕ) (end i : ℕ) : Type 0 where
  pub value : List InSegment
  pub valid : every valid_in_segment value ≡ true
  pub lies : (k : List Record) → Lies ws end (all_words k) → Lies ws i (all_words (segments_rows value k))
  pub count : i + (length value + length value) ≡ end

-- A timed dosage where the types ts may stand.
pub record TimedIs (ws : List ℕ) (i : ℕ) (ts : List ℕ) : Type 0 where
  pub value : Timed
  pub valid : valid_timed value ts ≡ true
  pub lies : (k : List Record) → Lies ws (i + timed_records value) (all_words k) → Lies ws i (all_words (timed_rows value k))
  pub count : below_at ws i + 1 ≡ timed_records value

abbrev pub types_under : Bool → Bool → List ℕ
types_under b c = cond {A = List ℕ} b (1 ∷ 2 ∷ 3 ∷ 4 ∷ 6 ∷ []) (cond {A = List ℕ} c (1 ∷ 2 ∷ 3 ∷ 5 ∷ 6 ∷ []) (1 ∷ 2 ∷ 3 ∷ 6 ∷ []))

abbrev Under : List ℕ → Type 0
Under ts = (among 1 ts ≡ true) × ((among 2 ts ≡ true) × ((among 3 ts ≡ true) × (among 6 ts ≡ true)))

under_by : (b c : Bool) → Under (types_under b c)
under_by true c = (refl, (refl, (refl, refl)))
under_by false true = (refl, (refl, (refl, refl)))
under_by false false = (refl, (refl, (refl, refl)))

under : (unit : ℕ) → Under (under_cyclic unit)
under unit = under_by (eqb unit 5) (eqb unit 6)

module _ {ws : List ℕ} where
  pub dosage_is : {i : ℕ} → DosageAt ws i → DosageIs ws i
  unfolding valid_dosage
  dosage_is {i} (simple p) = record {
    value = P.simple (a_at ws i);
    valid = and_both (lt-ltb 0 (a_at ws i) p.a.least) (le-leb (a_at ws i) 999999999999 p.a.most);
    at = record { inside = p.inside; tag = p.tag; below = omega arith; a = refl; b = omega arith; c = omega arith; d = omega arith };
  }
  dosage_is {i} (from_to q) = let p = q.row in record {
    value = P.from_to (a_at ws i) (b_at ws i) (c_at ws i) (d_at ws i);
    valid = and_both (and_both (and_both (lt-ltb (a_at ws i) (b_at ws i) q.rises) (le-leb (b_at ws i) 999999999999 p.b.most)) (and_both (le-leb 1 (c_at ws i) p.c.least) (le-leb (c_at ws i) 7 p.c.most))) (and_both (le-leb 1 (d_at ws i) p.d.least) (le-leb (d_at ws i) 99999 p.d.most));
    at = record { inside = p.inside; tag = p.tag; below = omega arith; a = refl; b = refl; c = refl; d = refl };
  }
  dosage_is {i} (range q) = let p = q.row in record {
    value = P.range (a_at ws i) (b_at ws i);
    valid = and_both (and_both (lt-ltb 0 (a_at ws i) p.a.least) (lt-ltb (a_at ws i) (b_at ws i) q.rises)) (le-leb (b_at ws i) 999999999999 p.b.most);
    at = record { inside = p.inside; tag = p.tag; below = omega arith; a = refl; b = refl; c = omega arith; d = omega arith };
  }

  pub times_are : {end i : ℕ} → ApplicationsAt ws end time_shape i → TimesAre ws end i
  times_are (none e) = record { value = []; valid = refl; lies = λ k l. moved ws (all_words k) (sym e) l; count = omega arith }
  times_are {end} {i} (more p q) =
      let r = times_are q in
      let d = dosage_is p.dosage in
      let o = p.row in
      let n : i + 2 ≡ i + 1 + 1 = omega arith in
      record {
        value = P.at_time d.value (a_at ws i) ∷ r.value;
        valid = and_both (and_both d.valid (le-leb (a_at ws i) 86399 o.a.most)) r.valid;
        lies = λ k l. (record { inside = o.inside; tag = o.tag; below = omega arith; a = refl; b = omega arith; c = omega arith; d = omega arith }, (d.at, moved ws (all_words (times_rows r.value k)) n (r.lies k l)));
        count = omega (arith, r.count);
      }

  pub segments_are : {end i : ℕ} → ApplicationsAt ws end segment_shape i → SegmentsAre ws end i
  segments_are (none e) = record { value = []; valid = refl; lies = λ k l. moved ws (all_words k) (sym e) l; count = omega arith }
  segments_are {end} {i} (more p q) =
      let r = segments_are q in
      let d = dosage_is p.dosage in
      let o = p.row in
      let n : i + 2 ≡ i + 1 + 1 = omega arith in
      record {
        value = P.in_segment d.value (a_at ws i) ∷ r.value;
        valid = and_both (and_both d.valid (and_both (le-leb 1 (a_at ws i) o.a.least) (le-leb (a_at ws i) 4 o.a.most))) r.valid;
        lies = λ k l. (record { inside = o.inside; tag = o.tag; below = omega arith; a = refl; b = omega arith; c = omega arith; d = omega arith }, (d.at, moved ws (all_words (segments_rows r.value k)) n (r.lies k l)));
        count = omega (arith, r.count);
      }

  pub plain_is : {i : ℕ} (ts : List ℕ) → among 1 ts ≡ true → among 2 ts ≡ true → among 3 ts ≡ true → PlainAt ws i → TimedIs ws i ts
  unfolding valid_timed timed_rows
  plain_is {i} ts e f g (dosage_only p) =
      let d = dosage_is p.dosage in
      let o = p.row in
      let n : i + 2 ≡ i + 1 + 1 = omega arith in
      record {
        value = P.dosage_only d.value;
        valid = and_both e d.valid;
        lies = λ k l. (record { inside = o.inside; tag = o.tag; below = omega arith; a = omega arith; b = omega arith; c = omega arith; d = omega arith }, (d.at, moved ws (all_words k) n l));
        count = omega arith;
      }
  plain_is {i} ts e f g (times p) =
      let r = times_are p.items in
      let o = p.row in
      let n : i + (1 + (length r.value + length r.value)) ≡ i + 1 + below_at ws i = omega (arith, r.count) in
      record {
        value = P.times r.value;
        valid = and_both f r.valid;
        lies = λ k l. (record { inside = o.inside; tag = o.tag; below = omega (arith, r.count); a = omega arith; b = omega arith; c = omega arith; d = omega arith }, r.lies k (moved ws (all_words k) n l));
        count = omega (arith, r.count);
      }
  plain_is {i} ts e f g (segments p) =
      let r = segments_are p.items in
      let o = p.row in
      let n : i + (1 + (length r.value + length r.value)) ≡ i + 1 + below_at ws i = omega (arith, r.count) in
      record {
        value = P.day_segments r.value;
        valid = and_both g r.valid;
        lies = λ k l. (record { inside = o.inside; tag = o.tag; below = omega (arith, r.count); a = omega arith; b = omega arith; c = omega arith; d = omega arith }, r.lies k (moved ws (all_words k) n l));
        count = omega (arith, r.count);
      }

  interval_is : {i : ℕ} (ts : List ℕ) → among 6 ts ≡ true → IntervalAt ws i → TimedIs ws i ts
  unfolding valid_timed timed_rows
  interval_is {i} ts e p =
      let d = dosage_is p.dosage in
      let o = p.row in
      let n : i + 2 ≡ i + 1 + 1 = omega arith in
      record {
        value = P.interval d.value (a_at ws i) (b_at ws i);
        valid = and_both (and_both (and_both e d.valid) (and_both (le-leb 1 (a_at ws i) o.a.least) (le-leb (a_at ws i) 99999 o.a.most))) (and_both (le-leb 1 (b_at ws i) o.b.least) (le-leb (b_at ws i) 7 o.b.most));
        lies = λ k l. (record { inside = o.inside; tag = o.tag; below = omega arith; a = refl; b = refl; c = omega arith; d = omega arith }, (d.at, moved ws (all_words k) n l));
        count = omega arith;
      }

  week_days_are : {i : ℕ} (ts : List ℕ) → among 4 ts ≡ true → DaysAt ws i week_shape → TimedIs ws i ts
  unfolding valid_timed timed_rows
  week_days_are {i} ts e p =
      let t = plain_is under_days refl refl refl p.inner in
      let s = days_are 7 (a_at ws i) p.row.a.least (omega (arith, p.row.a.most)) in
      let o = p.row in
      let n : i + (1 + timed_records t.value) ≡ i + 1 + timed_records t.value = omega arith in
      record {
        value = P.week_days s.value t.value;
        valid = and_both (and_both e s.valid) t.valid;
        lies = λ k l. (record { inside = o.inside; tag = o.tag; below = omega (arith, p.nested, t.count); a = sym s.sum; b = omega arith; c = omega arith; d = omega arith }, t.lies k (moved ws (all_words k) n l));
        count = omega (arith, p.nested, t.count);
      }

  month_days_are : {i : ℕ} (ts : List ℕ) → among 5 ts ≡ true → DaysAt ws i month_shape → TimedIs ws i ts
  unfolding valid_timed timed_rows
  month_days_are {i} ts e p =
      let t = plain_is under_days refl refl refl p.inner in
      let s = days_are 28 (a_at ws i) p.row.a.least (omega (arith, p.row.a.most)) in
      let o = p.row in
      let n : i + (1 + timed_records t.value) ≡ i + 1 + timed_records t.value = omega arith in
      record {
        value = P.days_of_month s.value t.value;
        valid = and_both (and_both e s.valid) t.valid;
        lies = λ k l. (record { inside = o.inside; tag = o.tag; below = omega (arith, p.nested, t.count); a = sym s.sum; b = omega arith; c = omega arith; d = omega arith }, t.lies k (moved ws (all_words k) n l));
        count = omega (arith, p.nested, t.count);
      }

  pub single_is : {i : ℕ} → TimedAt ws i None → TimedIs ws i under_single
  single_is (plain p) = plain_is under_single refl refl refl p
  single_is (interval e p) = absurd (false≢true e)
  single_is (week_days e p) = absurd (cc)
  single_is (days_of_month e p) = absurd (cc)

  pub cyclic_is : {i unit : ℕ} → TimedAt ws i (Some unit) → TimedIs ws i (under_cyclic unit)
  cyclic_is {i} {unit} (plain p) = plain_is (under_cyclic unit) (under unit).0 (under unit).1.0 (under unit).1.1.0 p
  cyclic_is {i} {unit} (interval e p) = interval_is (under_cyclic unit) (under unit).1.1.1 p
  cyclic_is {i} {unit} (week_days e p) = week_days_are (under_cyclic unit) (let n : unit ≡ 5 = cc in ap (λ u. among 4 (under_cyclic u)) n) p
  cyclic_is {i} {unit} (days_of_month e p) = month_days_are (under_cyclic unit) (let n : unit ≡ 6 = cc in ap (λ u. among 5 (under_cyclic u)) n) p
