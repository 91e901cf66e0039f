-- Document 02, Wish 2, called from a C program: what a call of the shelf comes to, and its promise: the number that it returns, what it stores
-- beside it, and each lent byte.
use Rattle.std.specs.Prelude.{ℕ, ◌≡◌, List, eqb, length}
use Rattle.json_grammar.specs.Rows.{choose}
use Rattle.document.specs.Plain.{plain}
use Rattle.document.specs.Answer as R
use Rattle.document.specs.Answer.{Read, buffer_after}
use Rattle.c_answers.specs.Telling.{tells}
use Rattle.c_answers.specs.declared.Told.{Told}
use Rattle.c_area.specs.Area.{area_bytes}
use Rattle.shelf_list.specs.Calls.{put, remove, at, Answer, stored, fetched, removed, standing, refused, on_area, fetch_answer, fetched_from}
use Rattle.hospital.specs.Calls.{area_after}

-- 0 or a refusal's number, and L or a refusal's place.
abbrev pub told_answer : Answer → Told
told_answer (stored l) = tells 0 l
told_answer (fetched p) = tells 0 (length (plain p))
told_answer removed = tells 0 0
told_answer (standing n) = tells 0 0
told_answer (refused m place) = tells m place

-- The promise of posology_shelf_put: its number, the place and the area that it leaves.
module _ (key purpose : ℕ) (text area : List ℕ) where
  pub record PutsInto (n place' : ℕ) (area' : List ℕ) : Type 0 where
    pub number : n ≡ (told_answer (on_area (put key purpose text) area).answer).number
    pub place : place' ≡ (told_answer (on_area (put key purpose text) area).answer).place
    pub area_left : area' ≡ (on_area (put key purpose text) area).state

-- The promise of posology_shelf_remove.
module _ (key : ℕ) (area : List ℕ) where
  pub record RemovesFrom (n : ℕ) (area' : List ℕ) : Type 0 where
    pub number : n ≡ (told_answer (on_area (remove key) area).answer).number
    pub area_left : area' ≡ (on_area (remove key) area).state

-- "which number stands at a position .., with 0 past the last"; 0 on a refusal.
abbrev pub standing_number : Answer → ℕ
standing_number (stored l) = 0
standing_number (fetched p) = 0
standing_number removed = 0
standing_number (standing n) = n
standing_number (refused m place) = 0

-- The promise of posology_shelf_at.
module _ (position : ℕ) (area : List ℕ) where
  pub record StandsAt (n stands' : ℕ) : Type 0 where
    pub number : n ≡ (told_answer (on_area (at position) area).answer).number
    pub stands : stands' ≡ standing_number (on_area (at position) area).answer

-- A table of another size is 19 with that size as the place, before all else.
unfoldable pub called_fetch : List ℕ → ℕ → ℕ → ℕ → Read
called_fetch area key room table =
    choose (eqb table area_bytes) (λ _. fetched_from area key room) λ _.
    R.refused 19 area_bytes

-- The promise of posology_shelf_fetch: its number, the place, the strings and the table that it leaves.
module _ (key : ℕ) (area strings table : List ℕ) where
  abbrev fetch_call : Read
  fetch_call = called_fetch area key (length strings) (length table)

  pub record FetchesInto (n place' : ℕ) (strings' table' : List ℕ) : Type 0 where
    pub number : n ≡ (told_answer (fetch_answer fetch_call)).number
    pub place : place' ≡ (told_answer (fetch_answer fetch_call)).place
    pub strings_left : strings' ≡ buffer_after fetch_call strings
    pub table_left : table' ≡ area_after fetch_call table
