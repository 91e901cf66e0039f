-- What reading's answer says of a call.
use Prim.Native.Nat.{ℕ}
use mathlib.Core.Path.{◌≡◌, refl, sym, ap, subst, ◌∙◌}
use mathlib.Core.List.{List}
use Rattle.std.specs.Prelude.{Result, Ok, Err}
use lib.ListN.{length}
use borrow.Author.Tests.{eq-eqb, ne_eqb}
use Rattle.document.specs.declared.refusal.Refusal.{Refusal}
use Rattle.json_grammar.proofs.Truth.{never}
use Rattle.document.specs.Values.{Values, accepted, number}
use Rattle.document.specs.Answer.{Read, taken, refused, read, read_values, table_after, buffer_after, in_room}
use Rattle.c_area.specs.Area.{area_bytes, area_of}
use Rattle.read_records.specs.declared.read.HeadRead.{HeadRead}
use Rattle.read_table.specs.Built.{built}
use Rattle.posology.specs.Reader.{words_table, WordsOf, ReadsWords}
use Rattle.c_answers.specs.Telling.{told, told_refusal}
use Rattle.hospital.specs.Calls.{called, wholly, told_read, area_after, ReadsInto}

-- A refusal leaves the area, an acceptance lays the table.
kept : (area : List ℕ) (x : Read) {n at : ℕ} → read_values x ≡ number n at → area ≡ area_after x area
unfolding area_after
kept area (taken p) e = never (cc)
kept area (refused n at) e = refl

laid : (area : List ℕ) (x : Read) → read_values x ≡ accepted → area_of (table_after x) ≡ area_after x area
unfolding area_after
laid area (taken p) e = refl
laid area (refused n at) e = never (cc)

-- A number above 0 leaves all as lent.
pub refused_leaves : (x : Read) (text strings area : List ℕ) {n : ℕ} {strings' area' : List ℕ} → n ≡ (told_read text x).number → strings' ≡ buffer_after x strings → area' ≡ area_after x area
    → (n ≡ 0 → ⊥) → (strings' ≡ strings) × (area' ≡ area)
unfolding area_after
refused_leaves (taken p) text strings area e s a h = absurd (h e)
refused_leaves (refused n at) text strings area e s a h = (s, a)

module _ (purpose : ℕ) (text strings area : List ℕ) where
  pub other_size : (length area ≡ area_bytes → ⊥) → ReadsInto purpose text strings area 19 area_bytes strings area
  unfolding called area_after
  other_size h = record { number = rw (ne_eqb _ _ h); place = rw (ne_eqb _ _ h); strings_left = rw (ne_eqb _ _ h); area_left = rw (ne_eqb _ _ h) }

  pub sized : length area ≡ area_bytes → read (in_room purpose (length strings)) text ≡ called purpose text (length strings) (length area)
  unfolding called
  sized h = rw (eq-eqb _ _ h)

  -- What was read, by its head and the words of its records.
  abbrev x : Read
  x = called purpose text (length strings) (length area)

  module _ (ws : List ℕ) {strings' : List ℕ} (n : length area ≡ area_bytes) where
    words : (r : Result HeadRead Refusal) → ReadsWords purpose text strings r ws strings' → WordsOf x strings r ws strings'
    words r w = subst (λ (y : Read). WordsOf y strings r ws strings') (sized n) w

    pub read_refused : (why : Refusal) → ReadsWords purpose text strings (Err why) ws strings'
        → ReadsInto purpose text strings area (told_refusal why).number (told_refusal why).place strings' area
    read_refused why r =
        let w = words (Err why) r in
        record {
          number = ap (λ (v : Values). (told (wholly (length text) v)).number) w.answer;
          place = ap (λ (v : Values). (told (wholly (length text) v)).place) w.answer;
          strings_left = w.left;
          area_left = kept area x (sym w.answer);
        }

    pub read_taken : (h : HeadRead) {area' : List ℕ} → ReadsWords purpose text strings (Ok h) ws strings' → area' ≡ area_of (built h ws)
        → ReadsInto purpose text strings area 0 (length text) strings' area'
    unfolding words_table
    read_taken h r l =
        let w = words (Ok h) r in
        record {
          number = ap (λ (v : Values). (told (wholly (length text) v)).number) w.answer;
          place = ap (λ (v : Values). (told (wholly (length text) v)).place) w.answer;
          strings_left = w.left;
          area_left = l ∙ ap area_of w.table ∙ laid area x (sym w.answer);
        }
