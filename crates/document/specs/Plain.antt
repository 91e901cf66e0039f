-- Document 01, "The plain text": fields in table order; absent members, false inRes and tdpc of 1 left out; days ascending;
-- decimals without trailing zeros or bare dot; times as hh:mm:ss. The plain tree has no places.
use Rattle.std.specs.Prelude.{List, [], ◌∷◌, Bool, true, false, not, ℕ, zero, suc, ◌+◌, ◌/◌, ◌%◌, eqb, leb}
use Rattle.std.proofs.Math.Option.{Option, none, some}
use Prim.Native.String.{String}
use Rattle.json_grammar.specs.Rows.{choose}
use Rattle.json_grammar.specs.Tree.{Tree, object, list, string, number, bool, Members, no_member, member, Elements, no_element, element}
use Rattle.document.specs.Bytes.{bytes}
use Rattle.document.specs.Posology.{Day, Zone, east, west, Date, bare, moment, Dosage, simple, from_to, range, AtTime, at_time, InSegment, in_segment, Timed, dosage_only, times, day_segments, week_days, days_of_month, interval, Detail, daily, free_text, single, cyclic, sequence, SequenceObject, posology_sequence, pause, SequenceObjects, no_object, object_then, Posology}
use Rattle.document.specs.Spell.{spell}

-- The digits of n in front of k, at most f + 1 of them.
unfoldable pub whole_digits : ℕ → ℕ → List ℕ → List ℕ
whole_digits zero n k = (48 + n) ∷ k
whole_digits (suc f) n k =
    let more = whole_digits f (n / 10) ((48 + n % 10) ∷ k) in
    choose (leb n 9) (λ _. (48 + n) ∷ k) (λ _. more)

-- Digits behind the point as long as something is left: the first counts `scale` millionths.
unfoldable pub fraction_digits : ℕ → ℕ → ℕ → List ℕ
fraction_digits zero scale n = []
fraction_digits (suc f) scale n =
    let more = (48 + n / scale) ∷ fraction_digits f (scale / 10) (n % scale) in
    choose (eqb n 0) (λ _. []) (λ _. more)

abbrev pub pointed : ℕ → List ℕ
pointed n = choose (eqb n 0) (λ _. []) (λ _. 46 ∷ fraction_digits 6 100000 n)

abbrev pub whole : ℕ → Tree
whole n = number [] (whole_digits 5 n [])

abbrev pub amount : ℕ → Tree
amount n = number [] (whole_digits 5 (n / 1000000) (pointed (n % 1000000)))

abbrev pub two : ℕ → List ℕ → List ℕ
two n k = (48 + n / 10) ∷ (48 + n % 10) ∷ k

-- hh:mm and hh:mm:ss; 58 is the colon
abbrev pub clock : ℕ → List ℕ → List ℕ
clock minutes k = two (minutes / 60) (58 ∷ two (minutes % 60) k)

abbrev pub time_text : ℕ → List ℕ → List ℕ
time_text s k = clock (s / 60) (58 ∷ two (s % 60) k)

abbrev pub day_text : Day → List ℕ → List ℕ
day_text d k = two (d.year / 100) (two (d.year % 100) (45 ∷ two d.month (45 ∷ two d.day k)))

abbrev pub zone_text : Zone → List ℕ
zone_text (east n) = 43 ∷ clock n []
zone_text (west n) = 45 ∷ clock n []

abbrev pub date_text : Date → List ℕ
date_text (bare d) = day_text d []
date_text (moment d s z) = day_text d (84 ∷ time_text s (zone_text z))

-- A member, or none where it is left out.
abbrev pub field : String → Tree → Members → Members
field n t ms = member [] (bytes n) t ms

abbrev pub field_if : Bool → String → Tree → Members → Members
field_if true n t ms = field n t ms
field_if false n t ms = ms

abbrev pub text_tree : List ℕ → Tree
text_tree cs = string [] cs

abbrev pub typed : ℕ → Members → Tree
typed t ms = object [] (field "t" (whole t) ms)

unfoldable pub dosage_tree : Dosage → Tree
unfolding whole_digits fraction_digits
dosage_tree (simple a) = typed 1 (field "a" (amount a) no_member)
dosage_tree (from_to a b unit du) = typed 2 (field "aFrom" (amount a) (field "aTo" (amount b) (field "duU" (whole unit) (field "du" (whole du) no_member))))
dosage_tree (range a b) = typed 3 (field "aMin" (amount a) (field "aMax" (amount b) no_member))

abbrev pub days_tree : List ℕ → Elements
days_tree [] = no_element
days_tree (d ∷ ds) = element (whole d) (days_tree ds)

abbrev pub times_tree : List AtTime → Elements
times_tree [] = no_element
times_tree (at_time d dt ∷ ts) = element (object [] (field "do" (dosage_tree d) (field "dt" (text_tree (time_text dt [])) no_member))) (times_tree ts)

abbrev pub segments_tree : List InSegment → Elements
segments_tree [] = no_element
segments_tree (in_segment d s ∷ ss) = element (object [] (field "do" (dosage_tree d) (field "s" (whole s) no_member))) (segments_tree ss)

unfoldable pub timed_tree : Timed → Tree
unfolding dosage_tree whole_digits
timed_tree (dosage_only d) = typed 1 (field "do" (dosage_tree d) no_member)
timed_tree (times ts) = typed 2 (field "ts" (list [] (times_tree ts)) no_member)
timed_tree (day_segments ss) = typed 3 (field "ss" (list [] (segments_tree ss)) no_member)
timed_tree (week_days ds td) = typed 4 (field "wds" (list [] (days_tree ds)) (field "tdo" (timed_tree td) no_member))
timed_tree (days_of_month ds td) = typed 5 (field "doms" (list [] (days_tree ds)) (field "tdo" (timed_tree td) no_member))
timed_tree (interval d du unit) = typed 6 (field "do" (dosage_tree d) (field "miDu" (whole du) (field "miDuU" (whole unit) no_member)))

unfoldable mutual
  unfolding timed_tree whole_digits fraction_digits

  pub detail_tree : Detail → Tree
  detail_tree (daily a b c d) = typed 1 (field "ds" (list [] (element (amount a) (element (amount b) (element (amount c) (element (amount d) no_element))))) no_member)
  detail_tree (free_text cs) = typed 2 (field "text" (text_tree cs) no_member)
  detail_tree (single td) = typed 3 (field "tdo" (timed_tree td) no_member)
  detail_tree (cyclic unit du td per) = typed 4 (field "cyDuU" (whole unit) (field "cyDu" (whole du) (field "tdo" (timed_tree td) (field_if (not (eqb per 1)) "tdpc" (whole per) no_member))))
  detail_tree (sequence os) = typed 5 (field "sos" (list [] (objects_tree os)) no_member)

  pub object_tree : SequenceObject → Tree
  object_tree (posology_sequence du unit po) = typed 1 (field "du" (whole du) (field "duU" (whole unit) (field "po" (detail_tree po) no_member)))
  object_tree (pause du unit) = typed 2 (field "du" (whole du) (field "duU" (whole unit) no_member))

  pub objects_tree : SequenceObjects → Elements
  objects_tree no_object = no_element
  objects_tree (object_then o os) = element (object_tree o) (objects_tree os)

-- Members of which some are left out.
pub record Slot : Type 0 where
  pub name : String
  pub value : Option Tree

abbrev pub slot : String → Option Tree → Slot
slot n o = record { name = n; value = o }

abbrev pub field_of : String → Option Tree → Members → Members
field_of n none ms = ms
field_of n (some t) ms = field n t ms

abbrev pub members_of : List Slot → Members
members_of [] = no_member
members_of (s ∷ ss) = field_of s.name s.value (members_of ss)

abbrev pub mapped : {A : Type 0} → (A → Tree) → Option A → Option Tree
mapped f none = none
mapped f (some a) = some (f a)

abbrev pub date_tree : Date → Tree
date_tree d = text_tree (date_text d)

abbrev pub reserve_tree : Bool → Option Tree
reserve_tree true = some (bool [] true)
reserve_tree false = none

abbrev pub head_slots : Posology → List Slot
head_slots p =
    slot "dtFrom" (mapped date_tree p.dt_from)
    ∷ slot "dtTo" (mapped date_tree p.dt_to)
    ∷ slot "inRes" (reserve_tree p.in_res)
    ∷ slot "po" (some (detail_tree p.po))
    ∷ slot "relMeal" (mapped whole p.rel_meal)
    ∷ slot "unit" (mapped text_tree p.unit)
    ∷ slot "applInstr" (mapped text_tree p.appl_instr)
    ∷ slot "roa" (mapped text_tree p.roa)
    ∷ slot "moa" (mapped text_tree p.moa)
    ∷ []

unfoldable pub plain_tree : Posology → Tree
unfolding detail_tree whole_digits
plain_tree p = object [] (members_of (head_slots p))

-- The plain text of a posology, in front of what follows it.
unfoldable pub plain_then : Posology → List ℕ → List ℕ
unfolding plain_tree spell
plain_then p k = spell (plain_tree p) k

abbrev pub plain : Posology → List ℕ
plain p = plain_then p []
