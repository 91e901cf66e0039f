-- A plain text of a valid posology is not deep: three sequences inside one another reach no deeper than 16 brackets.
use mathlib.Core.List.{List, [], ◌∷◌}
use mathlib.Core.Bool.{Bool, true, false, not, false≢true}
use mathlib.Core.Option.{Option, none, some}
use mathlib.Core.Path.{◌≡◌}
use Prim.Native.Nat.{ℕ, zero, suc, ◌+◌, ◌*◌, ◌≤◌}
use Prim.Native.String.{String}
use native.Mathlib.Omega.{arith}
use native.Mathlib.Nat.{max-le}
use lib.Dec.{eqb}
use Rattle.json_grammar.specs.Tree.{Tree, object, list, Members, no_member, Elements, no_element, element}
use Rattle.json_laws.specs.Depth.{depth, depth_of_members, depth_of_elements}
use Rattle.document.specs.Posology.{Posology, Dosage, simple, from_to, range, AtTime, at_time, InSegment, in_segment, Timed, dosage_only, times, day_segments, week_days, days_of_month, interval, Detail, daily, free_text, single, cyclic, sequence, SequenceObject, posology_sequence, pause, SequenceObjects, no_object, object_then}
use Rattle.document.specs.Schema.{under_single, under_days, under_cyclic}
use Rattle.document.specs.Valid.{valid_timed, valid_detail, valid_object, valid_objects, valid}
use Rattle.document.proofs.ValidParts.{valid_parts}
use Rattle.document.specs.Plain.{field, field_if, typed, whole, dosage_tree, days_tree, times_tree, segments_tree, timed_tree, detail_tree, object_tree, objects_tree, Slot, field_of, members_of, mapped, text_tree, date_tree, reserve_tree, head_slots, plain_tree, time_text, date_text}
use Rattle.document.proofs.DetailParts.{week_parts, month_parts, cyclic_parts, sequence_parts, posology_sequence_parts, objects_parts}

-- Members and elements no deeper than n.
member_depth : (name : String) (t : Tree) (ms : Members) (n : ℕ) → depth t ≤ n → depth_of_members ms ≤ n → depth_of_members (field name t ms) ≤ n
unfolding depth
member_depth name t ms n a b = max-le a b

element_depth : (t : Tree) (ts : Elements) (n : ℕ) → depth t ≤ n → depth_of_elements ts ≤ n → depth_of_elements (element t ts) ≤ n
unfolding depth
element_depth t ts n a b = max-le a b

no_depth : (n : ℕ) → depth_of_members no_member ≤ n
unfolding depth
no_depth n = omega arith

dosage_depth : (d : Dosage) → depth (dosage_tree d) ≤ 1
unfolding depth dosage_tree
dosage_depth (simple a) = omega arith
dosage_depth (from_to a b u du) = omega arith
dosage_depth (range a b) = omega arith

days_depth : (ds : List ℕ) → depth_of_elements (days_tree ds) ≤ 0
unfolding depth
days_depth [] = omega arith
days_depth (d ∷ ds) = max-le (omega arith) (days_depth ds)

whole_depth : (m n : ℕ) → depth (whole m) ≤ n
unfolding depth
whole_depth m n = omega arith

text_depth : (cs : List ℕ) (n : ℕ) → depth (text_tree cs) ≤ n
unfolding depth
text_depth cs n = omega arith

list_depth : (ts : Elements) (n : ℕ) → depth_of_elements ts ≤ n → depth (list [] ts) ≤ suc n
unfolding depth
list_depth ts n h = omega arith

object_is : (ms : Members) (n : ℕ) → depth_of_members ms ≤ n → depth (object [] ms) ≤ suc n
unfolding depth
object_is ms n h = omega arith

typed_depth : (t : ℕ) (ms : Members) (n : ℕ) → depth_of_members ms ≤ n → depth (typed t ms) ≤ suc n
typed_depth t ms n h = object_is (field "t" (whole t) ms) n (member_depth "t" (whole t) ms n (whole_depth t n) h)

-- A last member, and one whole number in front of others.
only_member : (name : String) (t : Tree) (n : ℕ) → depth t ≤ n → depth_of_members (field name t no_member) ≤ n
only_member name t n h = member_depth name t no_member n h (no_depth n)

whole_then : (name : String) (m : ℕ) (ms : Members) (n : ℕ) → depth_of_members ms ≤ n → depth_of_members (field name (whole m) ms) ≤ n
whole_then name m ms n h = member_depth name (whole m) ms n (whole_depth m n) h

only_whole : (name : String) (m n : ℕ) → depth_of_members (field name (whole m) no_member) ≤ n
only_whole name m n = whole_then name m no_member n (no_depth n)

no_element_depth : (n : ℕ) → depth_of_elements no_element ≤ n
unfolding depth
no_element_depth n = omega arith

times_depth : (ts : List AtTime) → depth_of_elements (times_tree ts) ≤ 2
times_depth [] = no_element_depth 2
times_depth (at_time d dt ∷ ts) =
    element_depth (object [] (field "do" (dosage_tree d) (field "dt" (text_tree (time_text dt [])) no_member))) (times_tree ts) 2
    (object_is (field "do" (dosage_tree d) (field "dt" (text_tree (time_text dt [])) no_member)) 1 (member_depth "do" (dosage_tree d) (field "dt" (text_tree (time_text dt [])) no_member) 1 (dosage_depth d) (only_member "dt" (text_tree (time_text dt [])) 1 (text_depth (time_text dt []) 1))))
    (times_depth ts)

segments_depth : (ss : List InSegment) → depth_of_elements (segments_tree ss) ≤ 2
segments_depth [] = no_element_depth 2
segments_depth (in_segment d s ∷ ss) =
    element_depth (object [] (field "do" (dosage_tree d) (field "s" (whole s) no_member))) (segments_tree ss) 2
    (object_is (field "do" (dosage_tree d) (field "s" (whole s) no_member)) 1 (member_depth "do" (dosage_tree d) (field "s" (whole s) no_member) 1 (dosage_depth d) (only_whole "s" s 1)))
    (segments_depth ss)

weaker : {a b c : ℕ} → a ≤ b → b ≤ c → a ≤ c
weaker h k = omega arith

dosage_in : (d : Dosage) (n : ℕ) → 1 ≤ n → depth (dosage_tree d) ≤ n
dosage_in d n h = weaker (dosage_depth d) h

flat_depth : (td : Timed) → valid_timed td under_days ≡ true → depth (timed_tree td) ≤ 4
unfolding timed_tree valid_timed
flat_depth (dosage_only d) v = typed_depth 1 (field "do" (dosage_tree d) no_member) 3 (only_member "do" (dosage_tree d) 3 (dosage_in d 3 (omega arith)))
flat_depth (times ts) v = typed_depth 2 (field "ts" (list [] (times_tree ts)) no_member) 3 (only_member "ts" (list [] (times_tree ts)) 3 (list_depth (times_tree ts) 2 (times_depth ts)))
flat_depth (day_segments ss) v = typed_depth 3 (field "ss" (list [] (segments_tree ss)) no_member) 3 (only_member "ss" (list [] (segments_tree ss)) 3 (list_depth (segments_tree ss) 2 (segments_depth ss)))
flat_depth (week_days ds td) v = absurd (false≢true v)
flat_depth (days_of_month ds td) v = absurd (false≢true v)
flat_depth (interval d du u) v = absurd (false≢true v)

days_list : (ds : List ℕ) → depth (list [] (days_tree ds)) ≤ 4
days_list ds = weaker (list_depth (days_tree ds) 0 (days_depth ds)) (omega arith)

timed_depth : (td : Timed) (ts : List ℕ) → valid_timed td ts ≡ true → depth (timed_tree td) ≤ 5
unfolding timed_tree
timed_depth (dosage_only d) ts v = typed_depth 1 (field "do" (dosage_tree d) no_member) 4 (only_member "do" (dosage_tree d) 4 (dosage_in d 4 (omega arith)))
timed_depth (times as') ts v = typed_depth 2 (field "ts" (list [] (times_tree as')) no_member) 4 (only_member "ts" (list [] (times_tree as')) 4 (weaker (list_depth (times_tree as') 2 (times_depth as')) (omega arith)))
timed_depth (day_segments as') ts v = typed_depth 3 (field "ss" (list [] (segments_tree as')) no_member) 4 (only_member "ss" (list [] (segments_tree as')) 4 (weaker (list_depth (segments_tree as') 2 (segments_depth as')) (omega arith)))
timed_depth (week_days ds td) ts v = typed_depth 4 (field "wds" (list [] (days_tree ds)) (field "tdo" (timed_tree td) no_member)) 4 (member_depth "wds" (list [] (days_tree ds)) (field "tdo" (timed_tree td) no_member) 4 (days_list ds) (only_member "tdo" (timed_tree td) 4 (flat_depth td (week_parts ds td ts v).timed)))
timed_depth (days_of_month ds td) ts v = typed_depth 5 (field "doms" (list [] (days_tree ds)) (field "tdo" (timed_tree td) no_member)) 4 (member_depth "doms" (list [] (days_tree ds)) (field "tdo" (timed_tree td) no_member) 4 (days_list ds) (only_member "tdo" (timed_tree td) 4 (flat_depth td (month_parts ds td ts v).timed)))
timed_depth (interval d du u) ts v = typed_depth 6 (field "do" (dosage_tree d) (field "miDu" (whole du) (field "miDuU" (whole u) no_member))) 4 (member_depth "do" (dosage_tree d) (field "miDu" (whole du) (field "miDuU" (whole u) no_member)) 4 (dosage_in d 4 (omega arith)) (whole_then "miDu" du (field "miDuU" (whole u) no_member) 4 (only_whole "miDuU" u 4)))

last_depth : (b : Bool) (m n : ℕ) → depth_of_members (field_if b "tdpc" (whole m) no_member) ≤ n
last_depth true m n = only_whole "tdpc" m n
last_depth false m n = no_depth n

daily_depth : (a b c d : ℕ) → depth (detail_tree (daily a b c d)) ≤ 2
unfolding depth detail_tree
daily_depth a b c d = omega arith

free_depth : (cs : List ℕ) → depth (detail_tree (free_text cs)) ≤ 2
unfolding depth detail_tree
free_depth cs = omega arith

mutual
  unfolding detail_tree valid_detail

  detail_depth : (d : Detail) (n : ℕ) → valid_detail d n ≡ true → depth (detail_tree d) ≤ 6 + 3 * n
  detail_depth (daily a b c d) n v = weaker (daily_depth a b c d) (omega arith)
  detail_depth (free_text cs) n v = weaker (free_depth cs) (omega arith)
  detail_depth (single td) n v = weaker (typed_depth 3 (field "tdo" (timed_tree td) no_member) 5 (only_member "tdo" (timed_tree td) 5 (timed_depth td under_single v))) (omega arith)
  detail_depth (cyclic u du td per) n v =
      let t = (cyclic_parts u du td per n v).timed in
      weaker (typed_depth 4 (field "cyDuU" (whole u) (field "cyDu" (whole du) (field "tdo" (timed_tree td) (field_if (not (eqb per 1)) "tdpc" (whole per) no_member)))) 5
      (whole_then "cyDuU" u (field "cyDu" (whole du) (field "tdo" (timed_tree td) (field_if (not (eqb per 1)) "tdpc" (whole per) no_member))) 5
      (whole_then "cyDu" du (field "tdo" (timed_tree td) (field_if (not (eqb per 1)) "tdpc" (whole per) no_member)) 5
      (member_depth "tdo" (timed_tree td) (field_if (not (eqb per 1)) "tdpc" (whole per) no_member) 5 (timed_depth td (under_cyclic u) t) (last_depth (not (eqb per 1)) per 5))))) (omega arith)
  detail_depth (sequence os) zero v = absurd (false≢true v)
  detail_depth (sequence os) (suc n) v =
      let o = objects_depth os n (sequence_parts os n v).objects in
      weaker (typed_depth 5 (field "sos" (list [] (objects_tree os)) no_member) (suc (7 + 3 * n)) (only_member "sos" (list [] (objects_tree os)) (suc (7 + 3 * n)) (list_depth (objects_tree os) (7 + 3 * n) o))) (omega arith)

  object_depth : (o : SequenceObject) (n : ℕ) → valid_object o n ≡ true → depth (object_tree o) ≤ 7 + 3 * n
  object_depth (posology_sequence du u po) n v =
      let d = detail_depth po n (posology_sequence_parts du u po n v).detail in
      weaker (typed_depth 1 (field "du" (whole du) (field "duU" (whole u) (field "po" (detail_tree po) no_member))) (6 + 3 * n)
      (whole_then "du" du (field "duU" (whole u) (field "po" (detail_tree po) no_member)) (6 + 3 * n)
      (whole_then "duU" u (field "po" (detail_tree po) no_member) (6 + 3 * n) (only_member "po" (detail_tree po) (6 + 3 * n) d)))) (omega arith)
  object_depth (pause du u) n v = weaker (typed_depth 2 (field "du" (whole du) (field "duU" (whole u) no_member)) 0 (whole_then "du" du (field "duU" (whole u) no_member) 0 (only_whole "duU" u 0))) (omega arith)

  objects_depth : (os : SequenceObjects) (n : ℕ) → valid_objects os n ≡ true → depth_of_elements (objects_tree os) ≤ 7 + 3 * n
  objects_depth no_object n v = no_element_depth (7 + 3 * n)
  objects_depth (object_then o os) n v = element_depth (object_tree o) (objects_tree os) (7 + 3 * n) (object_depth o n (objects_parts o os n v).first) (objects_depth os n (objects_parts o os n v).rest)

-- The head.
abbrev Shallow : ℕ → Option Tree → Type 0
Shallow n none = Unit {0}
Shallow n (some t) = depth t ≤ n

abbrev Each : List Slot → Type 0
Each [] = Unit {0}
Each (s ∷ ss) = Shallow 15 s.value × Each ss

slot_depth : (name : String) (o : Option Tree) (ms : Members) (n : ℕ) → Shallow n o → depth_of_members ms ≤ n → depth_of_members (field_of name o ms) ≤ n
slot_depth name none ms n a b = b
slot_depth name (some t) ms n a b = member_depth name t ms n a b

mapped_shallow : {A : Type 0} (f : A → Tree) (o : Option A) → ((a : A) → depth (f a) ≤ 15) → Shallow 15 (mapped f o)
mapped_shallow f none h = tt
mapped_shallow f (some a) h = h a

reserve_shallow : (b : Bool) → Shallow 15 (reserve_tree b)
unfolding depth
reserve_shallow true = omega arith
reserve_shallow false = tt

slots_depth : (ss : List Slot) → Each ss → depth_of_members (members_of ss) ≤ 15
slots_depth [] h = no_depth 15
slots_depth (s ∷ ss) h = slot_depth s.name s.value (members_of ss) 15 h.0 (slots_depth ss h.1)

pub plain_depth : (purpose : ℕ) (p : Posology) → valid purpose p ≡ true → depth (plain_tree p) ≤ 16
unfolding plain_tree
plain_depth purpose p v =
    let n = valid_parts purpose p v in
    object_is (members_of (head_slots p)) 15 (slots_depth (head_slots p) (
      mapped_shallow date_tree p.dt_from (λ d. text_depth (date_text d) 15),
      (
        mapped_shallow date_tree p.dt_to (λ d. text_depth (date_text d) 15),
        (
          reserve_shallow p.in_res,
          (
            detail_depth p.po 3 n.detail,
            (mapped_shallow whole p.rel_meal (λ m. whole_depth m 15), (mapped_shallow text_tree p.unit (λ cs. text_depth cs 15), (mapped_shallow text_tree p.appl_instr (λ cs. text_depth cs 15), (mapped_shallow text_tree p.roa (λ cs. text_depth cs 15), (mapped_shallow text_tree p.moa (λ cs. text_depth cs 15), tt))))),
          ),
        ),
      ),
    ))
