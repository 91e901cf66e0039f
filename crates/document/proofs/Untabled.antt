-- The table of a valid posology, with its strings first in the buffer, stands for it.
use mathlib.Core.Path.{◌≡◌, refl, ap, sym, ◌∙◌}
use mathlib.Core.List.{List, [], ◌∷◌, ◌++◌, append_assoc}
use mathlib.Core.Bool.{Bool, true, false, cond, true≢false}
use mathlib.Core.Option.{Option, none, some, get_or}
use Prim.Native.Nat.{ℕ, zero, suc, ◌+◌, ◌-◌, ◌≤◌}
use native.Mathlib.Omega.{arith}
use lib.Dec.{eqb}
use lib.ListN.{length, replicate, length-append}
use borrow.Author.Tests.{ne_eqb}
use Rattle.document.specs.Posology as P
use Rattle.document.specs.Posology.{Posology, AtTime, InSegment, Timed, Detail, SequenceObject, SequenceObjects}
use Rattle.document.specs.Moments.{in_order}
use Rattle.document.specs.Schema.{meal_codes, sequences_inside}
use Rattle.document.specs.Visit.{is_empty}
use Rattle.document.specs.Valid.{is_text, is_meal, if_given, valid, valid_detail, timed_records, detail_records, object_records, objects_records, given, detail_strings, object_strings, strings}
use Rattle.document.specs.Table.{records_in_table, no_record, date_cell, text_cell, length_of, times_rows, segments_rows, timed_rows, detail_rows, object_rows, objects_rows, filled, head_of, table_of}
use Rattle.document.specs.Words.{all_words}
use Rattle.document.specs.Untable.{Grown, part, detail_next, text_of, date_of, meal_of, posology_of}
use Rattle.document.specs.declared.table.Date.{Date}
use Rattle.document.specs.declared.table.Record.{Record}
use Rattle.document.proofs.Ranges.{in_range}
use Rattle.document.proofs.DetailParts.{text_parts}
use Rattle.document.proofs.ValidParts.{valid_parts, few_records, unit_text}
use Rattle.document.proofs.Untables.{joined_append, detail_append, part_back, detail_back}

-- Records in front of others, and how many they are.
under : {r : Record} {xs ys : List Record} → xs ≡ ys → (r ∷ xs) ≡ (r ∷ ys)
under {r} e = ap (λ (rs : List Record). r ∷ rs) e

times_rows_lem : (ts : List AtTime) (k : List Record) → times_rows ts k ≡ times_rows ts [] ++ k
times_rows_lem [] k = refl
times_rows_lem (P.at_time d dt ∷ ts) k = under (under (times_rows_lem ts k))

segments_rows_lem : (ss : List InSegment) (k : List Record) → segments_rows ss k ≡ segments_rows ss [] ++ k
segments_rows_lem [] k = refl
segments_rows_lem (P.in_segment d s ∷ ss) k = under (under (segments_rows_lem ss k))

timed_rows_lem : (td : Timed) (k : List Record) → timed_rows td k ≡ timed_rows td [] ++ k
unfolding timed_rows
timed_rows_lem (P.dosage_only d) k = refl
timed_rows_lem (P.times ts) k = under (times_rows_lem ts k)
timed_rows_lem (P.day_segments ss) k = under (segments_rows_lem ss k)
timed_rows_lem (P.week_days ds td) k = under (timed_rows_lem td k)
timed_rows_lem (P.days_of_month ds td) k = under (timed_rows_lem td k)
timed_rows_lem (P.interval d du u) k = refl

times_length : (ts : List AtTime) (k : List Record) → length (times_rows ts k) ≡ length ts + length ts + length k
times_length [] k = omega arith
times_length (P.at_time d dt ∷ ts) k = let e = times_length ts k in omega arith

segments_length : (ss : List InSegment) (k : List Record) → length (segments_rows ss k) ≡ length ss + length ss + length k
segments_length [] k = omega arith
segments_length (P.in_segment d s ∷ ss) k = let e = segments_length ss k in omega arith

timed_length : (td : Timed) (k : List Record) → length (timed_rows td k) ≡ timed_records td + length k
unfolding timed_rows
timed_length (P.dosage_only d) k = omega arith
timed_length (P.times ts) k = let e = times_length ts k in omega arith
timed_length (P.day_segments ss) k = let e = segments_length ss k in omega arith
timed_length (P.week_days ds td) k = let e = timed_length td k in omega arith
timed_length (P.days_of_month ds td) k = let e = timed_length td k in omega arith
timed_length (P.interval d du u) k = omega arith

mutual
  unfolding detail_rows

  pub detail_rows_lem : (d : Detail) (at : ℕ) (k : List Record) → detail_rows d at k ≡ detail_rows d at [] ++ k
  detail_rows_lem (P.daily a b c d) at k = refl
  detail_rows_lem (P.free_text cs) at k = refl
  detail_rows_lem (P.single td) at k = under (timed_rows_lem td k)
  detail_rows_lem (P.cyclic u du td per) at k = under (timed_rows_lem td k)
  detail_rows_lem (P.sequence os) at k = under (objects_rows_lem os at k)

  object_rows_lem : (o : SequenceObject) (at : ℕ) (k : List Record) → object_rows o at k ≡ object_rows o at [] ++ k
  object_rows_lem (P.posology_sequence du u po) at k = under (detail_rows_lem po at k)
  object_rows_lem (P.pause du u) at k = refl

  objects_rows_lem : (os : SequenceObjects) (at : ℕ) (k : List Record) → objects_rows os at k ≡ objects_rows os at [] ++ k
  objects_rows_lem P.no_object at k = refl
  objects_rows_lem (P.object_then o os) at k =
      object_rows_lem o at _ ∙ ap (λ (rs : List Record). object_rows o at [] ++ rs) (objects_rows_lem os _ k)
      ∙ sym (append_assoc (object_rows o at []) _ k)
      ∙ ap (λ (rs : List Record). rs ++ k) (sym (object_rows_lem o at _))

mutual
  unfolding detail_rows detail_records

  pub detail_length : (d : Detail) (at : ℕ) (k : List Record) → length (detail_rows d at k) ≡ detail_records d + length k
  detail_length (P.daily a b c d) at k = omega arith
  detail_length (P.free_text cs) at k = omega arith
  detail_length (P.single td) at k = let e = timed_length td k in omega arith
  detail_length (P.cyclic u du td per) at k = let e = timed_length td k in omega arith
  detail_length (P.sequence os) at k = let e = objects_length os at k in omega arith

  object_length : (o : SequenceObject) (at : ℕ) (k : List Record) → length (object_rows o at k) ≡ object_records o + length k
  object_length (P.posology_sequence du u po) at k = let e = detail_length po at k in omega arith
  object_length (P.pause du u) at k = omega arith

  objects_length : (os : SequenceObjects) (at : ℕ) (k : List Record) → length (objects_rows os at k) ≡ objects_records os + length k
  objects_length P.no_object at k = omega arith
  objects_length (P.object_then o os) at k =
      let e = object_length o at (objects_rows os (at + length (object_strings o [])) k) in
      let f = objects_length os (at + length (object_strings o [])) k in
      omega arith

-- Unused records fill the table.
pub filled_is : (n : ℕ) (rs : List Record) → length rs ≤ n → filled n rs ≡ rs ++ replicate (n - length rs) no_record
filled_is n [] h = let e : n ≡ n - 0 = omega arith in ap (λ (m : ℕ). replicate m no_record) e
filled_is zero (r ∷ rs) h = absurd (omega arith)
filled_is (suc n) (r ∷ rs) h = let e : n - length rs ≡ suc n - suc (length rs) = omega arith in under (filled_is n rs (omega arith) ∙ ap (λ (m : ℕ). rs ++ replicate m no_record) e)

-- The strings, one behind the other.
abbrev pub bytes_of : Option (List ℕ) → List ℕ
bytes_of none = []
bytes_of (some cs) = cs

given_append : (u : Option (List ℕ)) (k b : List ℕ) → given u k ++ b ≡ bytes_of u ++ (k ++ b)
given_append none k b = refl
given_append (some cs) k b = ap (λ (s : List ℕ). s ++ b) (joined_append cs k) ∙ append_assoc cs k b

length_of_lem : (u : Option (List ℕ)) → length (bytes_of u) ≡ length_of u
length_of_lem none = refl
length_of_lem (some cs) = refl

pub strings_append : (p : Posology) (b : List ℕ) → strings p ++ b ≡ detail_strings p.po [] ++ (bytes_of p.unit ++ (bytes_of p.appl_instr ++ (bytes_of p.roa ++ (bytes_of p.moa ++ b))))
unfolding strings
strings_append p b =
    ap (λ (s : List ℕ). s ++ b) (detail_append p.po (given p.unit (given p.appl_instr (given p.roa (given p.moa [])))))
    ∙ append_assoc (detail_strings p.po []) (given p.unit (given p.appl_instr (given p.roa (given p.moa [])))) b
    ∙ ap (λ (s : List ℕ). detail_strings p.po [] ++ s)
    (given_append p.unit (given p.appl_instr (given p.roa (given p.moa []))) b
    ∙ ap (λ (s : List ℕ). bytes_of p.unit ++ s)
    (given_append p.appl_instr (given p.roa (given p.moa [])) b
    ∙ ap (λ (s : List ℕ). bytes_of p.appl_instr ++ s)
    (given_append p.roa (given p.moa []) b
    ∙ ap (λ (s : List ℕ). bytes_of p.roa ++ s) (given_append p.moa [] b))))

not_empty : (cs : List ℕ) → is_empty cs ≡ false → eqb (length cs) 0 ≡ false
not_empty [] h = absurd (true≢false h)
not_empty (c ∷ cs) h = ne_eqb (suc (length cs)) 0 (λ e. omega arith)

text_back : (buffer pre post : List ℕ) (u : Option (List ℕ)) (at : ℕ) → buffer ≡ pre ++ (bytes_of u ++ post) → length pre ≡ at → if_given is_text u ≡ true → text_of buffer (text_cell at u) ≡ u
text_back buffer pre post none at e f v = refl
text_back buffer pre post (some cs) at e f v =
    ap (λ (b : Bool). cond b none (some (part buffer at (length cs)))) (not_empty cs (text_parts cs v).some)
    ∙ ap some (part_back buffer pre cs post at e f)

meal_back : (m : Option ℕ) → if_given is_meal m ≡ true → meal_of (get_or m 0) ≡ m
meal_back none v = refl
meal_back (some m) v =
    let h = in_range 1 m meal_codes v in
    ap (λ (b : Bool). cond b none (some m)) (ne_eqb m 0 (λ e. omega arith))

pub date_back : (d : Option P.Date) → date_of (date_cell d) ≡ d
date_back none = refl
date_back (some (P.bare d)) = refl
date_back (some (P.moment d s (P.east n))) = refl
date_back (some (P.moment d s (P.west n))) = refl

pub order_back : (x y : Option P.Date) {from to : Date} → date_cell x ≡ from → date_cell y ≡ to → in_order (date_of from) (date_of to) ≡ in_order x y
order_back x y e f = rw (← e, ← f, date_back x, date_back y)

abbrev built : Option P.Date → Option P.Date → Bool → Detail → Option ℕ → Option (List ℕ) → Option (List ℕ) → Option (List ℕ) → Option (List ℕ) → Posology
built from to reserve po meal unit instr roa moa = record { dt_from = from; dt_to = to; in_res = reserve; po = po; rel_meal = meal; unit = unit; appl_instr = instr; roa = roa; moa = moa }

same_posology : (p q : Posology) → p.dt_from ≡ q.dt_from → p.dt_to ≡ q.dt_to → p.in_res ≡ q.in_res → p.po ≡ q.po → p.rel_meal ≡ q.rel_meal → p.unit ≡ q.unit → p.appl_instr ≡ q.appl_instr → p.roa ≡ q.roa → p.moa ≡ q.moa → p ≡ q
same_posology p q a b c d e f g h i =
    ap (λ (x : Option P.Date). built x p.dt_to p.in_res p.po p.rel_meal p.unit p.appl_instr p.roa p.moa) a
    ∙ ap (λ (x : Option P.Date). built q.dt_from x p.in_res p.po p.rel_meal p.unit p.appl_instr p.roa p.moa) b
    ∙ ap (λ (x : Bool). built q.dt_from q.dt_to x p.po p.rel_meal p.unit p.appl_instr p.roa p.moa) c
    ∙ ap (λ (x : Detail). built q.dt_from q.dt_to q.in_res x p.rel_meal p.unit p.appl_instr p.roa p.moa) d
    ∙ ap (λ (x : Option ℕ). built q.dt_from q.dt_to q.in_res q.po x p.unit p.appl_instr p.roa p.moa) e
    ∙ ap (λ (x : Option (List ℕ)). built q.dt_from q.dt_to q.in_res q.po q.rel_meal x p.appl_instr p.roa p.moa) f
    ∙ ap (λ (x : Option (List ℕ)). built q.dt_from q.dt_to q.in_res q.po q.rel_meal q.unit x p.roa p.moa) g
    ∙ ap (λ (x : Option (List ℕ)). built q.dt_from q.dt_to q.in_res q.po q.rel_meal q.unit q.appl_instr x p.moa) h
    ∙ ap (λ (x : Option (List ℕ)). built q.dt_from q.dt_to q.in_res q.po q.rel_meal q.unit q.appl_instr q.roa x) i

po_back : (buffer post : List ℕ) (d : Detail) → buffer ≡ detail_strings d [] ++ post → valid_detail d sequences_inside ≡ true → detail_records d ≤ records_in_table → (detail_next buffer (length (filled records_in_table (detail_rows d 0 []))) (all_words (filled records_in_table (detail_rows d 0 [])))).value ≡ d
po_back buffer post d e v h =
    let n = detail_length d 0 [] in
    let R = replicate (records_in_table - length (detail_rows d 0 [])) no_record in
    let f : filled records_in_table (detail_rows d 0 []) ≡ detail_rows d 0 (replicate (records_in_table - length (detail_rows d 0 [])) no_record) = filled_is records_in_table (detail_rows d 0 []) (omega arith) ∙ sym (detail_rows_lem d 0 (replicate (records_in_table - length (detail_rows d 0 [])) no_record)) in
    let m = detail_length d 0 (replicate (records_in_table - length (detail_rows d 0 [])) no_record) in
    ap (λ (rs : List Record). (detail_next buffer (length rs) (all_words rs)).value) f
    ∙ ap (λ (g : Grown Detail). g.value) (detail_back buffer d (length (detail_rows d 0 (replicate (records_in_table - length (detail_rows d 0 [])) no_record))) sequences_inside 0 (replicate (records_in_table - length (detail_rows d 0 [])) no_record) [] post e refl v (omega arith))

pub untabled : (purpose : ℕ) (p : Posology) (behind : List ℕ) → valid purpose p ≡ true → posology_of (table_of p) (strings p ++ behind) ≡ p
unfolding posology_of table_of head_of
untabled purpose p b v =
    let most = few_records purpose p v in
    let n = valid_parts purpose p v in
    let D = detail_strings p.po [] in
    let U = bytes_of p.unit in let I = bytes_of p.appl_instr in let R = bytes_of p.roa in let M = bytes_of p.moa in
    let e₀ : strings p ++ b ≡ D ++ (U ++ (I ++ (R ++ (M ++ b)))) = strings_append p b in
    let e₁ : strings p ++ b ≡ (D ++ U) ++ (I ++ (R ++ (M ++ b))) = e₀ ∙ sym (append_assoc D U (I ++ (R ++ (M ++ b)))) in
    let e₂ : strings p ++ b ≡ ((D ++ U) ++ I) ++ (R ++ (M ++ b)) = e₁ ∙ sym (append_assoc (D ++ U) I (R ++ (M ++ b))) in
    let e₃ : strings p ++ b ≡ (((D ++ U) ++ I) ++ R) ++ (M ++ b) = e₂ ∙ sym (append_assoc ((D ++ U) ++ I) R (M ++ b)) in
    let k₁ : length (D ++ U) ≡ length D + length_of p.unit = length-append D U ∙ ap (λ (x : ℕ). length D + x) (length_of_lem p.unit) in
    let k₂ : length ((D ++ U) ++ I) ≡ length D + length_of p.unit + length_of p.appl_instr = length-append (D ++ U) I ∙ ap (λ (x : ℕ). x + length I) k₁ ∙ ap (λ (x : ℕ). length D + length_of p.unit + x) (length_of_lem p.appl_instr) in
    let k₃ : length (((D ++ U) ++ I) ++ R) ≡ length D + length_of p.unit + length_of p.appl_instr + length_of p.roa = length-append ((D ++ U) ++ I) R ∙ ap (λ (x : ℕ). x + length R) k₂ ∙ ap (λ (x : ℕ). length D + length_of p.unit + length_of p.appl_instr + x) (length_of_lem p.roa) in
    same_posology (posology_of (table_of p) (strings p ++ b)) p
    (date_back p.dt_from) (date_back p.dt_to) refl
    (po_back (strings p ++ b) (U ++ (I ++ (R ++ (M ++ b)))) p.po e₀ n.detail most)
    (meal_back p.rel_meal n.meal)
    (text_back (strings p ++ b) D (I ++ (R ++ (M ++ b))) p.unit (length D) e₀ refl (unit_text purpose p.unit n.unit))
    (text_back (strings p ++ b) (D ++ U) (R ++ (M ++ b)) p.appl_instr (length D + length_of p.unit) e₁ k₁ n.instructions)
    (text_back (strings p ++ b) ((D ++ U) ++ I) (M ++ b) p.roa (length D + length_of p.unit + length_of p.appl_instr) e₂ k₂ n.roa)
    (text_back (strings p ++ b) (((D ++ U) ++ I) ++ R) b p.moa (length D + length_of p.unit + length_of p.appl_instr + length_of p.roa) e₃ k₃ n.moa)
