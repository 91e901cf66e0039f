-- The plain tree of a valid posology can be spelled: its numbers are numbers, its strings UTF-8.
use Prim.Native.Nat.{ℕ, zero, suc, ◌+◌, ◌/◌, ◌%◌, ◌≤◌, ◌<◌}
use Prim.Native.String.{String}
use mathlib.Core.Path.{◌≡◌, refl}
use mathlib.Core.List.{List, [], ◌∷◌}
use mathlib.Core.Bool.{Bool, true, false, not, false≢true}
use mathlib.Core.Option.{Option, none, some}
use native.Mathlib.Omega.{arith}
use lib.Dec.{eqb}
use borrow.Author.Tests.{leb-true, lt-ltb}
use Rattle.json_grammar.specs.Rows.{look}
use Rattle.json_grammar.specs.Tree.{Tree, Members, no_member}
use Rattle.document.specs.Bytes.{bytes}
use Rattle.document.specs.Utf8.{well_formed, is_utf8}
use Rattle.document.specs.Posology.{Posology, Day, Zone, east, west, Date, bare, moment, Dosage, simple, from_to, range, AtTime, at_time, InSegment, in_segment, Timed, dosage_only, times, day_segments, week_days, days_of_month, interval, Detail, daily, free_text, single, cyclic, sequence, SequenceObject, posology_sequence, pause, SequenceObjects, no_object, object_then}
use Rattle.document.specs.Date.{is_day, is_second, is_zone, is_date}
use Rattle.document.specs.Schema.{meal_codes, sequences_inside, under_single, under_days, under_cyclic}
use Rattle.document.specs.Valid.{is_duration, is_text, climbs, is_days, every, is_meal, if_given, valid_dosage, valid_at_time, valid_in_segment, valid_timed, valid_detail, valid_object, valid_objects, valid}
use Rattle.document.specs.Plain.{two, clock, time_text, day_text, zone_text, date_text, field_if, whole, text_tree, dosage_tree, days_tree, times_tree, segments_tree, timed_tree, detail_tree, object_tree, objects_tree, Slot, field_of, members_of, mapped, date_tree, reserve_tree, head_slots}
use Rattle.document.proofs.Ranges.{in_range}
use Rattle.document.proofs.Days.{climbs_parts, days_climb}
use Rattle.document.proofs.DetailParts.{simple_parts, from_to_parts, range_parts, first_time, first_segment, dosage_only_parts, times_parts, segments_parts, week_parts, month_parts, interval_parts, daily_parts, text_parts, cyclic_parts, sequence_parts, posology_sequence_parts, pause_parts, objects_parts}
use Rattle.document.proofs.ValidParts.{valid_parts, unit_text}
use Rattle.document.proofs.WrittenDates.{small_day, moment_parts}
use Rattle.document_meaning.proofs.PlainMeans.{duration, unit, amount}
use Rattle.document_meaning.proofs.Numerals.{whole_numeral, amount_numeral}
use Rattle.document_meaning.proofs.PlainSpells.{Spellable, SpellableMembers, SpellableElements}

-- Times and dates are ASCII.
ascii_first : (b : ℕ) (s : List ℕ) → b < 128 → is_utf8 s ≡ true → is_utf8 (b ∷ s) ≡ true
unfolding is_utf8 well_formed look
ascii_first b s h u = rw (lt-ltb b 0x80 h) u

two_ascii : (n : ℕ) (k : List ℕ) → n ≤ 99 → is_utf8 k ≡ true → is_utf8 (two n k) ≡ true
two_ascii n k h u = ascii_first (48 + n / 10) ((48 + n % 10) ∷ k) (omega arith) (ascii_first (48 + n % 10) k (omega arith) u)

clock_ascii : (m : ℕ) (k : List ℕ) → m < 1440 → is_utf8 k ≡ true → is_utf8 (clock m k) ≡ true
clock_ascii m k h u = two_ascii (m / 60) (58 ∷ two (m % 60) k) (omega arith) (ascii_first 58 (two (m % 60) k) (omega arith) (two_ascii (m % 60) k (omega arith) u))

no_byte : is_utf8 [] ≡ true
unfolding is_utf8 well_formed
no_byte = refl

time_ascii : (s : ℕ) (k : List ℕ) → is_second s ≡ true → is_utf8 k ≡ true → is_utf8 (time_text s k) ≡ true
time_ascii s k v u =
    let h : s ≤ 86399 = leb-true s 86399 v in
    clock_ascii (s / 60) (58 ∷ two (s % 60) k) (omega arith) (ascii_first 58 (two (s % 60) k) (omega arith) (two_ascii (s % 60) k (omega arith) u))

day_ascii : (d : Day) (k : List ℕ) → is_day d ≡ true → is_utf8 k ≡ true → is_utf8 (day_text d k) ≡ true
day_ascii d k v u =
    let s = small_day d v in
    let y = s.0 in let m = s.1 in let e = s.2 in
    two_ascii (d.year / 100) (two (d.year % 100) (45 ∷ two d.month (45 ∷ two d.day k))) (omega arith)
    (two_ascii (d.year % 100) (45 ∷ two d.month (45 ∷ two d.day k)) (omega arith)
    (ascii_first 45 (two d.month (45 ∷ two d.day k)) (omega arith)
    (two_ascii d.month (45 ∷ two d.day k) (omega arith)
    (ascii_first 45 (two d.day k) (omega arith)
    (two_ascii d.day k (omega arith) u)))))

zone_ascii : (z : Zone) → is_zone z ≡ true → is_utf8 (zone_text z) ≡ true
zone_ascii (east n) v = let h : n ≤ 840 = leb-true n 840 v in ascii_first 43 (clock n []) (omega arith) (clock_ascii n [] (omega arith) no_byte)
zone_ascii (west n) v = let h = in_range 1 n 840 v in ascii_first 45 (clock n []) (omega arith) (clock_ascii n [] (omega arith) no_byte)

date_ascii : (d : Date) → is_date d ≡ true → is_utf8 (date_text d) ≡ true
date_ascii (bare d) v = day_ascii d [] v no_byte
date_ascii (moment d s z) v =
    let w = moment_parts d s z v in
    day_ascii d (84 ∷ time_text s (zone_text z)) w.day (ascii_first 84 (time_text s (zone_text z)) (omega arith) (time_ascii s (zone_text z) w.second (zone_ascii z w.zone)))

-- Dosages.
dosage_spells : (d : Dosage) → valid_dosage d ≡ true → Spellable (dosage_tree d)
unfolding dosage_tree Spellable is_utf8 well_formed look
dosage_spells (simple a) v = (refl, (whole_numeral 1 (omega arith), (refl, (amount_numeral a (amount a (simple_parts a v).most), tt))))
dosage_spells (from_to a b u du) v =
    let w = from_to_parts a b u du v in
    (refl, (whole_numeral 2 (omega arith), (refl, (amount_numeral a (amount a w.least), (refl, (amount_numeral b (amount b w.most), (refl, (whole_numeral u (unit u w.unit), (refl, (whole_numeral du (duration du w.duration), tt))))))))))
dosage_spells (range a b) v =
    let w = range_parts a b v in
    (refl, (whole_numeral 3 (omega arith), (refl, (amount_numeral a (amount a w.least), (refl, (amount_numeral b (amount b w.most), tt))))))

times_spell : (ts : List AtTime) → every valid_at_time ts ≡ true → SpellableElements (times_tree ts)
unfolding Spellable is_utf8 well_formed look
times_spell [] v = tt
times_spell (at_time d dt ∷ ts) v =
    let w = first_time d dt ts v in
    ((refl, (dosage_spells d w.dosage, (refl, (time_ascii dt [] w.time no_byte, tt)))), times_spell ts w.rest)

segments_spell : (ss : List InSegment) → every valid_in_segment ss ≡ true → SpellableElements (segments_tree ss)
unfolding Spellable is_utf8 well_formed look
segments_spell [] v = tt
segments_spell (in_segment d s ∷ ss) v =
    let w = first_segment d s ss v in
    let h = in_range 1 s 4 w.segment in
    ((refl, (dosage_spells d w.dosage, (refl, (whole_numeral s (omega arith), tt)))), segments_spell ss w.rest)

each_day_lem : (hi from : ℕ) (ds : List ℕ) → hi ≤ 28 → climbs from hi ds ≡ true → SpellableElements (days_tree ds)
unfolding Spellable
each_day_lem hi from [] h c = tt
each_day_lem hi from (d ∷ ds) h c = let k = climbs_parts from hi d ds c in (whole_numeral d (omega arith), each_day_lem hi d ds h k.2)

days_spell : (hi : ℕ) (ds : List ℕ) → hi ≤ 28 → is_days hi ds ≡ true → SpellableElements (days_tree ds)
days_spell hi ds h v = each_day_lem hi 0 ds h (days_climb hi ds v)

timed_spells : (td : Timed) (ts : List ℕ) → valid_timed td ts ≡ true → Spellable (timed_tree td)
unfolding timed_tree Spellable is_utf8 well_formed look
timed_spells (dosage_only d) ts v = (refl, (whole_numeral 1 (omega arith), (refl, (dosage_spells d (dosage_only_parts d ts v).dosage, tt))))
timed_spells (times as') ts v = (refl, (whole_numeral 2 (omega arith), (refl, (times_spell as' (times_parts as' ts v).each, tt))))
timed_spells (day_segments as') ts v = (refl, (whole_numeral 3 (omega arith), (refl, (segments_spell as' (segments_parts as' ts v).each, tt))))
timed_spells (week_days ds td) ts v =
    let w = week_parts ds td ts v in
    (refl, (whole_numeral 4 (omega arith), (refl, (days_spell 7 ds (omega arith) w.days, (refl, (timed_spells td under_days w.timed, tt))))))
timed_spells (days_of_month ds td) ts v =
    let w = month_parts ds td ts v in
    (refl, (whole_numeral 5 (omega arith), (refl, (days_spell 28 ds (omega arith) w.days, (refl, (timed_spells td under_days w.timed, tt))))))
timed_spells (interval d du u) ts v =
    let w = interval_parts d du u ts v in
    (refl, (whole_numeral 6 (omega arith), (refl, (dosage_spells d w.dosage, (refl, (whole_numeral du (duration du w.duration), (refl, (whole_numeral u (unit u w.unit), tt))))))))

-- Details.
last_spells : (b : Bool) (per : ℕ) → is_duration per ≡ true → SpellableMembers (field_if b "tdpc" (whole per) no_member)
unfolding Spellable is_utf8 well_formed look
last_spells true per v = (refl, (whole_numeral per (duration per v), tt))
last_spells false per v = tt

mutual
  unfolding detail_tree valid_detail Spellable is_utf8 well_formed look

  detail_spells : (d : Detail) (n : ℕ) → valid_detail d n ≡ true → Spellable (detail_tree d)
  detail_spells (daily a b c d) n v =
      let w = daily_parts a b c d n v in
      (refl, (whole_numeral 1 (omega arith), (refl, ((amount_numeral a (amount a w.morning), (amount_numeral b (amount b w.noon), (amount_numeral c (amount c w.evening), (amount_numeral d (amount d w.night), tt)))), tt))))
  detail_spells (free_text cs) n v = (refl, (whole_numeral 2 (omega arith), (refl, ((text_parts cs v).utf8, tt))))
  detail_spells (single td) n v = (refl, (whole_numeral 3 (omega arith), (refl, (timed_spells td under_single v, tt))))
  detail_spells (cyclic u du td per) n v =
      let w = cyclic_parts u du td per n v in
      (refl, (whole_numeral 4 (omega arith), (refl, (whole_numeral u (unit u w.unit), (refl, (whole_numeral du (duration du w.duration), (refl, (timed_spells td (under_cyclic u) w.timed, last_spells (not (eqb per 1)) per w.per))))))))
  detail_spells (sequence os) zero v = absurd (false≢true v)
  detail_spells (sequence os) (suc n) v = (refl, (whole_numeral 5 (omega arith), (refl, (objects_spell os n (sequence_parts os n v).objects, tt))))

  object_spells : (o : SequenceObject) (n : ℕ) → valid_object o n ≡ true → Spellable (object_tree o)
  object_spells (posology_sequence du u po) n v =
      let w = posology_sequence_parts du u po n v in
      (refl, (whole_numeral 1 (omega arith), (refl, (whole_numeral du (duration du w.duration), (refl, (whole_numeral u (unit u w.unit), (refl, (detail_spells po n w.detail, tt))))))))
  object_spells (pause du u) n v =
      let w = pause_parts du u n v in
      (refl, (whole_numeral 2 (omega arith), (refl, (whole_numeral du (duration du w.duration), (refl, (whole_numeral u (unit u w.unit), tt))))))

  objects_spell : (os : SequenceObjects) (n : ℕ) → valid_objects os n ≡ true → SpellableElements (objects_tree os)
  objects_spell no_object n v = tt
  objects_spell (object_then o os) n v = let w = objects_parts o os n v in (object_spells o n w.first, objects_spell os n w.rest)

-- The head.
abbrev SpellableIf : Option Tree → Type 0
SpellableIf none = Unit {0}
SpellableIf (some t) = Spellable t

abbrev SpellableSlots : List Slot → Type 0
SpellableSlots [] = Unit {0}
SpellableSlots (s ∷ ss) = (is_utf8 (bytes s.name) ≡ true) × (SpellableIf s.value × SpellableSlots ss)

slot_spells : (n : String) (o : Option Tree) (ms : Members) → is_utf8 (bytes n) ≡ true → SpellableIf o → SpellableMembers ms → SpellableMembers (field_of n o ms)
unfolding Spellable
slot_spells n none ms e g h = h
slot_spells n (some t) ms e g h = (e, (g, h))

slots_spell : (ss : List Slot) → SpellableSlots ss → SpellableMembers (members_of ss)
unfolding Spellable
slots_spell [] g = tt
slots_spell (s ∷ ss) g = slot_spells s.name s.value (members_of ss) g.0 g.1.0 (slots_spell ss g.1.1)

date_slot : (o : Option Date) → if_given is_date o ≡ true → SpellableIf (mapped date_tree o)
unfolding Spellable
date_slot none v = tt
date_slot (some d) v = date_ascii d v

flag_slot : (b : Bool) → SpellableIf (reserve_tree b)
unfolding Spellable
flag_slot true = tt
flag_slot false = tt

meal_slot : (o : Option ℕ) → if_given is_meal o ≡ true → SpellableIf (mapped whole o)
unfolding Spellable
meal_slot none v = tt
meal_slot (some m) v = let h = in_range 1 m meal_codes v in whole_numeral m (omega arith)

text_slot : (o : Option (List ℕ)) → if_given is_text o ≡ true → SpellableIf (mapped text_tree o)
unfolding Spellable
text_slot none v = tt
text_slot (some cs) v = (text_parts cs v).utf8

pub plain_spellable : (purpose : ℕ) (p : Posology) → valid purpose p ≡ true → SpellableMembers (members_of (head_slots p))
unfolding is_utf8 well_formed look
plain_spellable purpose p v =
    let n = valid_parts purpose p v in
    slots_spell (head_slots p) (
      refl,
      (
        date_slot p.dt_from n.from,
        (
          refl,
          (
            date_slot p.dt_to n.to,
            (
              refl,
              (
                flag_slot p.in_res,
                (
                  refl,
                  (
                    detail_spells p.po sequences_inside n.detail,
                    (
                      refl,
                      (
                        meal_slot p.rel_meal n.meal,
                        (
                          refl,
                          (
                            text_slot p.unit (unit_text purpose p.unit n.unit),
                            (refl, (text_slot p.appl_instr n.instructions, (refl, (text_slot p.roa n.roa, (refl, (text_slot p.moa n.moa, tt)))))),
                          ),
                        ),
                      ),
                    ),
                  ),
                ),
              ),
            ),
          ),
        ),
      ),
    )
