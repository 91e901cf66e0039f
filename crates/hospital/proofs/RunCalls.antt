-- What the answer to a run says of a call.
use Prim.Native.Nat.{ℕ}
use mathlib.Core.Path.{◌≡◌, refl, ap, subst, ◌∙◌}
use mathlib.Core.List.{List}
use lib.ListN.{length}
use borrow.Author.Tests.{eq-eqb, ne_eqb}
use Rattle.std.specs.Prelude.{Result, Ok, Err}
use Rattle.document.specs.Values.{Values, accepted, ends, blanks_only, number}
use Rattle.document.specs.Answer.{ReadNext, taken_to, blank_to, refused_at, read_next, read_next_values, next_table_after, next_buffer_after, in_room}
use Rattle.document.specs.declared.refusal.Refusal.{Refusal}
use Rattle.document.specs.declared.table.Table.{Table}
use Rattle.c_area.specs.Area.{area_bytes, area_of}
use Rattle.read_records.specs.declared.read.HeadRead.{HeadRead}
use Rattle.read_table.specs.Built.{built}
use Rattle.posology.specs.Next.{next_words_values, next_words_table, NextWordsOf, ReadsNextWords}
use Rattle.posology.specs.declared.next.NextWords.{NextWords}
use Rattle.posology.specs.declared.next.NextWords.TheVariants as N
use Rattle.c_answers.specs.Telling.{only_blanks, told, told_refusal}
use Rattle.hospital.specs.Calls.{called_next, next_area_after, ReadsNextInto}

-- Only what was taken is laid.
abbrev laid_next : Values → List ℕ → List ℕ → List ℕ
laid_next accepted laid area = laid
laid_next (ends e) laid area = laid
laid_next (blanks_only n) laid area = area
laid_next (number n place) laid area = area

-- The area by the answer's values and the table.
by_values : (area : List ℕ) (x : ReadNext) → laid_next (read_next_values x) (area_of (next_table_after x)) area ≡ next_area_after x area
unfolding next_area_after
by_values area (taken_to p e) = refl
by_values area (blank_to n) = refl
by_values area (refused_at n at) = refl

-- A number above 0, also that of only blanks, leaves all as lent.
pub next_refused_leaves : (x : ReadNext) (strings area : List ℕ) {n : ℕ} {strings' area' : List ℕ} → n ≡ (told (read_next_values x)).number → strings' ≡ next_buffer_after x strings → area' ≡ next_area_after x area
    → (n ≡ 0 → ⊥) → (strings' ≡ strings) × (area' ≡ area)
unfolding next_area_after
next_refused_leaves (taken_to p e) strings area f s a h = absurd (h f)
next_refused_leaves (blank_to n) strings area f s a h = (s, a)
next_refused_leaves (refused_at n at) strings area f s a h = (s, a)

module _ (purpose : ℕ) (run strings area : List ℕ) where
  pub other_size : (length area ≡ area_bytes → ⊥) → ReadsNextInto purpose run strings area 19 area_bytes strings area
  unfolding called_next next_area_after
  other_size h = record { number = rw (ne_eqb _ _ h); place = rw (ne_eqb _ _ h); strings_left = rw (ne_eqb _ _ h); area_left = rw (ne_eqb _ _ h) }

  sized : length area ≡ area_bytes → read_next (in_room purpose (length strings)) run ≡ called_next purpose run (length strings) (length area)
  unfolding called_next
  sized h = rw (eq-eqb _ _ h)

  -- What was read, by its answer, its head and the words of its records.
  module _ (ws : List ℕ) {strings' : List ℕ} (n : length area ≡ area_bytes) where
    read_as : (w : Result NextWords Refusal) {area' : List ℕ} → ReadsNextWords purpose run strings w ws strings'
        → area' ≡ laid_next (next_words_values w) (area_of (next_words_table w ws)) area
        → ReadsNextInto purpose run strings area (told (next_words_values w)).number (told (next_words_values w)).place strings' area'
    read_as w r l =
        let x = called_next purpose run (length strings) (length area) in
        let o : NextWordsOf x strings w ws strings' = subst (λ (y : ReadNext). NextWordsOf y strings w ws strings') (sized n) r in
        record {
          number = ap (λ (v : Values). (told v).number) o.answer;
          place = ap (λ (v : Values). (told v).place) o.answer;
          strings_left = o.left;
          area_left =
              l ∙ ap (λ (v : Values). laid_next v (area_of (next_words_table w ws)) area) o.answer
              ∙ ap (λ (t : Table). laid_next (read_next_values x) (area_of t) area) o.table
              ∙ by_values area x;
        }

    pub next_refused : (why : Refusal) → ReadsNextWords purpose run strings (Err why) ws strings'
        → ReadsNextInto purpose run strings area (told_refusal why).number (told_refusal why).place strings' area
    next_refused why r = read_as (Err why) r refl

    pub next_blank : (m : ℕ) → ReadsNextWords purpose run strings (Ok (N.Blank m)) ws strings'
        → ReadsNextInto purpose run strings area only_blanks m strings' area
    next_blank m r = read_as (Ok (N.Blank m)) r refl

    pub next_taken : (e : ℕ) (h : HeadRead) {area' : List ℕ} → ReadsNextWords purpose run strings (Ok (N.Taken e h)) ws strings'
        → area' ≡ area_of (built h ws) → ReadsNextInto purpose run strings area 0 e strings' area'
    unfolding next_words_table
    next_taken e h r l = read_as (Ok (N.Taken e h)) r l
