-- The table of a posology that can be read fits its types.
use Prim.Native.Nat.{ℕ, zero, suc, ◌+◌, ◌-◌, ◌^◌, ◌≤◌}
use mathlib.Core.Path.{◌≡◌, ap, subst, ◌∙◌}
use mathlib.Core.List.{List, [], ◌∷◌, append-nil}
use mathlib.Core.Bool.{true, false≢true}
use mathlib.Core.Option.{Option, none, some, get_or}
use native.Mathlib.Omega.{arith}
use lib.Pow.{pow_mono}
use lib.ListN.{length, replicate, length-append, length-replicate}
use borrow.Author.Tests.{leb-true}
use Rattle.document.specs.Posology as P
use Rattle.document.specs.Posology.{Posology, Timed, Detail, SequenceObject, SequenceObjects, AtTime, InSegment}
use Rattle.document.specs.Date.{is_day, is_second, is_date}
use Rattle.document.specs.Schema.{greatest_integer, greatest_decimal, meal_codes, sequences_inside, under_single, under_days, under_cyclic}
use Rattle.document.specs.Valid.{is_amount, is_duration, is_time_unit, is_days, every, valid_dosage, valid_at_time, valid_in_segment, valid_timed, valid_detail, valid_object, valid_objects, timed_records, detail_records, object_records, objects_records, if_given, is_meal, valid, detail_strings, object_strings, objects_strings, strings}
use Rattle.document.specs.Table.{no_record, date_cell, text_cell, length_of, dosage_cell, day_set, times_rows, segments_rows, timed_rows, detail_rows, object_rows, objects_rows, filled, head_of, table_of, records_in_table}
use Rattle.document.specs.Write.{readable}
use Rattle.document.specs.declared.table.Record.{Record}
use Rattle.document.specs.declared.table.Table.{Table}
use Rattle.document.proofs.Ranges.{in_range}
use Rattle.document.proofs.DetailParts.{simple_parts, from_to_parts, range_parts, first_time, first_segment, dosage_only_parts, times_parts, segments_parts, week_parts, month_parts, interval_parts, daily_parts, cyclic_parts, sequence_parts, posology_sequence_parts, pause_parts, objects_parts}
use Rattle.document.proofs.ValidParts.{valid_parts, few_records}
use Rattle.document.proofs.WrittenDates.{small_day, moment_parts}
use Rattle.document.proofs.Strings.{strings_size}
use Rattle.document.proofs.Untables.{joined_append, object_append}
use Rattle.document.proofs.Tables.{stands_for}
use Rattle.document.proofs.Untabled.{detail_length, filled_is}
use Rattle.check_doses.proofs.DaySums.{days_sum}
use Rattle.c_area_back.specs.Fits.{U8, U32, U64, TextFits, DayFits, DateFits, DosageFits, AllFit, Fitting}

amount : (a : ℕ) → is_amount a ≡ true → U64 a
amount a v = let h = leb-true a greatest_decimal v in omega arith

duration : (n : ℕ) → is_duration n ≡ true → U32 n
duration n v = let h = in_range 1 n greatest_integer v in omega arith

unit : (u : ℕ) → is_time_unit u ≡ true → U8 u
unit u v = let h = in_range 1 u 7 v in omega arith

second : (s : ℕ) → is_second s ≡ true → U32 s
second s v = let h = leb-true s 86399 v in omega arith

days : (hi : ℕ) (ds : List ℕ) → is_days hi ds ≡ true → hi ≤ 28 → U32 (day_set ds)
days hi ds v h = let s = (days_sum hi ds v).1 in let p : 2 ^ hi ≤ 2 ^ 28 = pow_mono h in omega arith

dosage_fits : (d : P.Dosage) → valid_dosage d ≡ true → DosageFits (dosage_cell d)
dosage_fits (P.simple a) v = amount a (simple_parts a v).most
dosage_fits (P.from_to a b u du) v =
    let w = from_to_parts a b u du v in
    (amount a w.least, amount b w.most, unit u w.unit, duration du w.duration)
dosage_fits (P.range a b) v = let w = range_parts a b v in (amount a w.least, amount b w.most)

times_fit : (ts : List AtTime) (k : List Record) → every valid_at_time ts ≡ true → AllFit k → AllFit (times_rows ts k)
times_fit [] k v f = f
times_fit (P.at_time d dt ∷ ts) k v f =
    let w = first_time d dt ts v in
    ((second dt w.time, omega arith), ((dosage_fits d w.dosage, omega arith), times_fit ts k w.rest f))

segments_fit : (ss : List InSegment) (k : List Record) → every valid_in_segment ss ≡ true → AllFit k → AllFit (segments_rows ss k)
segments_fit [] k v f = f
segments_fit (P.in_segment d s ∷ ss) k v f =
    let w = first_segment d s ss v in
    let h = in_range 1 s 4 w.segment in
    ((omega arith, omega arith), ((dosage_fits d w.dosage, omega arith), segments_fit ss k w.rest f))

timed_fits : (td : Timed) (ts : List ℕ) (k : List Record) → valid_timed td ts ≡ true → timed_records td ≤ 64 → AllFit k → AllFit (timed_rows td k)
unfolding timed_rows
timed_fits (P.dosage_only d) ts k v r f = ((tt, omega arith), ((dosage_fits d (dosage_only_parts d ts v).dosage, omega arith), f))
timed_fits (P.times as') ts k v r f = ((tt, omega arith), times_fit as' k (times_parts as' ts v).each f)
timed_fits (P.day_segments as') ts k v r f = ((tt, omega arith), segments_fit as' k (segments_parts as' ts v).each f)
timed_fits (P.week_days ds td) ts k v r f =
    let w = week_parts ds td ts v in
    ((days 7 ds w.days (omega arith), omega arith), timed_fits td under_days k w.timed (omega arith) f)
timed_fits (P.days_of_month ds td) ts k v r f =
    let w = month_parts ds td ts v in
    ((days 28 ds w.days (omega arith), omega arith), timed_fits td under_days k w.timed (omega arith) f)
timed_fits (P.interval d du u) ts k v r f =
    let w = interval_parts d du u ts v in
    (((duration du w.duration, unit u w.unit), omega arith), ((dosage_fits d w.dosage, omega arith), f))

-- The text of an object and of those behind it.
object_text_lem : (o : SequenceObject) (k : List ℕ) → length (object_strings o k) ≡ length (object_strings o []) + length k
object_text_lem o k = ap length (object_append o k) ∙ length-append (object_strings o []) k

mutual
  unfolding detail_rows detail_records detail_strings valid_detail

  detail_fits : (d : Detail) (n at : ℕ) (k : List Record) → valid_detail d n ≡ true → detail_records d ≤ 64 → at + length (detail_strings d []) ≤ 2048 → AllFit k → AllFit (detail_rows d at k)
  detail_fits (P.daily a b c d) n at k v r s f =
      let w = daily_parts a b c d n v in
      (((amount a w.morning, amount b w.noon, amount c w.evening, amount d w.night), omega arith), f)
  detail_fits (P.free_text cs) n at k v r s f =
      let e = ap length (joined_append cs [] ∙ append-nil cs) in
      ((record { start = omega arith; len = omega arith }, omega arith), f)
  detail_fits (P.single td) n at k v r s f = ((tt, omega arith), timed_fits td under_single k v (omega arith) f)
  detail_fits (P.cyclic u du td per) n at k v r s f =
      let w = cyclic_parts u du td per n v in
      (((unit u w.unit, duration du w.duration, duration per w.per), omega arith), timed_fits td (under_cyclic u) k w.timed (omega arith) f)
  detail_fits (P.sequence os) zero at k v r s f = absurd (false≢true v)
  detail_fits (P.sequence os) (suc n) at k v r s f = ((tt, omega arith), objects_fit os n at k (sequence_parts os n v).objects (omega arith) s f)

  object_fits : (o : SequenceObject) (n at : ℕ) (k : List Record) → valid_object o n ≡ true → object_records o ≤ 64 → at + length (object_strings o []) ≤ 2048 → AllFit k → AllFit (object_rows o at k)
  object_fits (P.posology_sequence du u po) n at k v r s f =
      let w = posology_sequence_parts du u po n v in
      (((duration du w.duration, unit u w.unit), omega arith), detail_fits po n at k w.detail (omega arith) s f)
  object_fits (P.pause du u) n at k v r s f = let w = pause_parts du u n v in (((duration du w.duration, unit u w.unit), omega arith), f)

  objects_fit : (os : SequenceObjects) (n at : ℕ) (k : List Record) → valid_objects os n ≡ true → objects_records os ≤ 64 → at + length (objects_strings os []) ≤ 2048 → AllFit k → AllFit (objects_rows os at k)
  objects_fit P.no_object n at k v r s f = f
  objects_fit (P.object_then o os) n at k v r s f =
      let e = object_text_lem o (objects_strings os []) in
      object_fits o n at (objects_rows os (at + length (object_strings o [])) k) (objects_parts o os n v).first (omega arith) (omega arith)
      (objects_fit os n (at + length (object_strings o [])) k (objects_parts o os n v).rest (omega arith) (omega arith) f)

filled_fits : (n : ℕ) (rs : List Record) → AllFit rs → AllFit (filled n rs)
filled_fits zero [] f = tt
filled_fits (suc n) [] f = ((tt, omega arith), filled_fits n [] tt)
filled_fits zero (r ∷ rs) f = tt
filled_fits (suc n) (r ∷ rs) f = (f.0, filled_fits n rs f.1)

day_fits : (d : P.Day) → is_day d ≡ true → DayFits d.year d.month d.day
day_fits d v = let s = small_day d v in record { year = omega (arith, s.0); month = omega (arith, s.1); day = omega (arith, s.2) }

date_fits : (d : Option P.Date) → if_given is_date d ≡ true → DateFits (date_cell d)
date_fits none v = tt
date_fits (some (P.bare d)) v = day_fits d v
date_fits (some (P.moment d s (P.east n))) v =
    let w = moment_parts d s (P.east n) v in
    let z = leb-true n 840 w.zone in
    (day_fits d w.day, second s w.second, omega arith)
date_fits (some (P.moment d s (P.west n))) v =
    let w = moment_parts d s (P.west n) v in
    let z = in_range 1 n 840 w.zone in
    (day_fits d w.day, second s w.second, omega arith)

meal_fits : (m : Option ℕ) → if_given is_meal m ≡ true → U8 (get_or m 0)
meal_fits none v = omega arith
meal_fits (some m) v = let h = in_range 1 m meal_codes v in omega arith

text_fits : (at : ℕ) (u : Option (List ℕ)) → at + length_of u ≤ 2048 → TextFits (text_cell at u)
text_fits at none h = record { start = omega arith; len = omega arith }
text_fits at (some cs) h = record { start = omega arith; len = omega arith }

pub read_fits : (purpose : ℕ) (p : Posology) → valid purpose p ≡ true → length (strings p) ≤ 2048 → Fitting (table_of p)
unfolding table_of head_of
read_fits purpose p v s =
    let n = valid_parts purpose p v in
    let most = few_records purpose p v in
    let t = strings_size p in
    let l = detail_length p.po 0 [] in
    record {
      head =
          record {
            from = date_fits p.dt_from n.from;
            to = date_fits p.dt_to n.to;
            meal = meal_fits p.rel_meal n.meal;
            unit = text_fits _ p.unit (omega arith);
            instructions = text_fits _ p.appl_instr (omega arith);
            roa = text_fits _ p.roa (omega arith);
            moa = text_fits _ p.moa (omega arith);
          };
      count = omega arith;
      text = omega arith;
      all = filled_length (detail_rows p.po 0 []) (omega arith);
      records = filled_fits records_in_table (detail_rows p.po 0 []) (detail_fits p.po sequences_inside 0 [] n.detail most (omega arith) tt);
    }
  where
    filled_length : (rs : List Record) → length rs ≤ records_in_table → length (filled records_in_table rs) ≡ records_in_table
    filled_length rs h =
        ap length (filled_is records_in_table rs h) ∙ length-append rs (replicate (records_in_table - length rs) no_record)
        ∙ ap (λ (m : ℕ). length rs + m) (length-replicate (records_in_table - length rs) no_record) ∙ omega arith

-- So does every readable table.
pub readable_fits : (purpose : ℕ) (t : Table) (bytes : List ℕ) → readable purpose t bytes ≡ true → Fitting t
readable_fits purpose t bytes h =
    let s = stands_for purpose t bytes h in
    subst Fitting s.table (read_fits purpose s.is s.valid s.fits)
