-- The words of a valid value are written as the value's tree: dosages and timed dosages.
use mathlib.Core.Path.{◌≡◌, subst}
use mathlib.Core.List.{List, [], ◌∷◌}
use mathlib.Core.Bool.{true, false≢true}
use Prim.Native.Nat.{ℕ, ◌+◌, ◌≤◌}
use native.Mathlib.Omega.{arith}
use lib.ListN.{length}
use borrow.Author.Tests.{leb-true}
use Rattle.json_grammar.specs.Tree.{list, no_member}
use Rattle.document.specs.Posology as P
use Rattle.document.specs.Posology.{Dosage, AtTime, InSegment, Timed}
use Rattle.document.specs.Schema.{greatest_integer, greatest_decimal, under_days}
use Rattle.document.specs.Valid.{is_amount, is_duration, is_time_unit, every, valid_dosage, valid_at_time, valid_in_segment, valid_timed, timed_records}
use Rattle.document.specs.Table.{dosage_row, times_rows, segments_rows, timed_rows}
use Rattle.document.specs.Words.{record_words, all_words}
use Rattle.document.specs.Plain.{field, typed, dosage_tree, days_tree, times_tree, segments_tree, timed_tree}
use Rattle.document.specs.declared.table.Record.{Record}
use Rattle.document.proofs.Ranges.{in_range}
use Rattle.document.proofs.DetailParts.{simple_parts, from_to_parts, range_parts, first_time, first_segment, dosage_only_parts, times_parts, segments_parts, week_parts, month_parts, interval_parts}
use Rattle.document.proofs.DaySets.{set_back}
use Rattle.table_rows.specs.Standing.{At, Lies}
use Rattle.write_details.specs.Prints.{DosagePrints, simple, from_to, range, at_time, in_segment, ApplicationsPrint, none, more, PlainPrints, dosage_only, times, segments, TimedPrints, plain, week_days, days_of_month, interval}

pub amount : (a : ℕ) → is_amount a ≡ true → a ≤ greatest_decimal
amount a v = leb-true a greatest_decimal v

pub duration : (n : ℕ) → is_duration n ≡ true → n ≤ greatest_integer
duration n v = (in_range 1 n greatest_integer v).1

pub unit : (u : ℕ) → is_time_unit u ≡ true → u ≤ 7
unit u v = (in_range 1 u 7 v).1

module _ {ws : List ℕ} where
  dosage_prints : (d : Dosage) (i : ℕ) → valid_dosage d ≡ true → At ws i (record_words (dosage_row d)) → DosagePrints ws i (dosage_tree d)
  unfolding dosage_tree
  dosage_prints (P.simple a) i v p = simple p (amount a (simple_parts a v).most)
  dosage_prints (P.from_to a b u du) i v p =
      let w = from_to_parts a b u du v in
      from_to p (amount a w.least) (amount b w.most) (unit u w.unit) (duration du w.duration)
  dosage_prints (P.range a b) i v p = let w = range_parts a b v in range p (amount a w.least) (amount b w.most)

  times_print : (ts : List AtTime) (rs : List Record) (i end : ℕ) → every valid_at_time ts ≡ true → i + (length ts + length ts) ≡ end → Lies ws i (all_words (times_rows ts rs)) → ApplicationsPrint ws end i (times_tree ts)
  times_print [] rs i end v e l = none {i = i} (omega arith)
  times_print (P.at_time d dt ∷ ts) rs i end v e l =
      let w = first_time d dt ts v in
      let n : i + 1 + 1 ≡ i + 2 = omega arith in
      let rest = subst (λ x. Lies ws x (all_words (times_rows ts rs))) n l.1.1 in
      more {i = i} (omega arith) (at_time l.0 (leb-true dt 86399 w.time) (dosage_prints d (i + 1) w.dosage l.1.0))
      (times_print ts rs (i + 2) end w.rest (omega arith) rest)

  segments_print : (ss : List InSegment) (rs : List Record) (i end : ℕ) → every valid_in_segment ss ≡ true → i + (length ss + length ss) ≡ end → Lies ws i (all_words (segments_rows ss rs)) → ApplicationsPrint ws end i (segments_tree ss)
  segments_print [] rs i end v e l = none {i = i} (omega arith)
  segments_print (P.in_segment d s ∷ ss) rs i end v e l =
      let w = first_segment d s ss v in
      let n : i + 1 + 1 ≡ i + 2 = omega arith in
      let rest = subst (λ x. Lies ws x (all_words (segments_rows ss rs))) n l.1.1 in
      more {i = i} (omega arith) (in_segment l.0 (in_range 1 s 4 w.segment).1 (dosage_prints d (i + 1) w.dosage l.1.0))
      (segments_print ss rs (i + 2) end w.rest (omega arith) rest)

  plain_prints : (td : Timed) (rs : List Record) (i : ℕ) → valid_timed td under_days ≡ true → i + timed_records td ≤ 64 → Lies ws i (all_words (timed_rows td rs)) → PlainPrints ws i (timed_tree td)
  unfolding valid_timed timed_rows timed_tree
  plain_prints (P.dosage_only d) rs i v f l = dosage_only l.0 (dosage_prints d (i + 1) v l.1.0)
  plain_prints (P.times ts) rs i v f l = times l.0 (omega arith) (times_print ts rs (i + 1) (i + 1 + (length ts + length ts)) v (omega arith) l.1)
  plain_prints (P.day_segments ss) rs i v f l = segments l.0 (omega arith) (segments_print ss rs (i + 1) (i + 1 + (length ss + length ss)) v (omega arith) l.1)
  plain_prints (P.week_days ds td) rs i v f l = absurd (false≢true v)
  plain_prints (P.days_of_month ds td) rs i v f l = absurd (false≢true v)
  plain_prints (P.interval d du u) rs i v f l = absurd (false≢true v)

  pub timed_prints : (td : Timed) (ts : List ℕ) (rs : List Record) (i : ℕ) → valid_timed td ts ≡ true → i + timed_records td ≤ 64 → Lies ws i (all_words (timed_rows td rs)) → TimedPrints ws i (timed_tree td)
  unfolding valid_timed timed_rows timed_tree
  timed_prints (P.dosage_only d) ts rs i v f l = plain (dosage_only l.0 (dosage_prints d (i + 1) (dosage_only_parts d ts v).dosage l.1.0))
  timed_prints (P.times as') ts rs i v f l = plain (times l.0 (omega arith) (times_print as' rs (i + 1) (i + 1 + (length as' + length as')) (times_parts as' ts v).each (omega arith) l.1))
  timed_prints (P.day_segments ss) ts rs i v f l = plain (segments l.0 (omega arith) (segments_print ss rs (i + 1) (i + 1 + (length ss + length ss)) (segments_parts ss ts v).each (omega arith) l.1))
  timed_prints (P.week_days ds td) ts rs i v f l =
      let w = week_parts ds td ts v in
      let inner = plain_prints td rs (i + 1) w.timed (omega arith) l.1 in
      subst (λ xs. TimedPrints ws i (typed 4 (field "wds" (list [] (days_tree xs)) (field "tdo" (timed_tree td) no_member)))) (set_back 7 ds w.days) (week_days l.0 inner)
  timed_prints (P.days_of_month ds td) ts rs i v f l =
      let w = month_parts ds td ts v in
      let inner = plain_prints td rs (i + 1) w.timed (omega arith) l.1 in
      subst (λ xs. TimedPrints ws i (typed 5 (field "doms" (list [] (days_tree xs)) (field "tdo" (timed_tree td) no_member)))) (set_back 28 ds w.days) (days_of_month l.0 inner)
  timed_prints (P.interval d du u) ts rs i v f l =
      let w = interval_parts d du u ts v in
      interval l.0 (duration du w.duration) (unit u w.unit) (dosage_prints d (i + 1) w.dosage l.1.0)
