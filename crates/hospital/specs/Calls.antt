-- Document 01, "The hospital side calls reading and writing from a C program": what a call comes to, and its promise: the number that it
-- returns, the place, and each lent byte.
use Rattle.std.specs.Prelude.{ℕ, ◌≡◌, List, eqb, length}
use Rattle.json_grammar.specs.Rows.{choose}
use Rattle.document.specs.Valid.{is_use}
use Rattle.document.specs.Table.{table_of}
use Rattle.document.specs.Values.{Values, accepted, ends, blanks_only, number}
use Rattle.document.specs.Answer.{Read, taken, refused, read, read_values, buffer_after, ReadNext, taken_to, blank_to, refused_at, read_next, read_next_values, next_buffer_after, in_room}
use Rattle.document.specs.Write as W
use Rattle.document.specs.Write.{Write, refuses, write, write_values}
use Rattle.document.specs.Length.{length_of}
use Rattle.c_answers.specs.Telling.{told}
use Rattle.c_answers.specs.declared.Told.{Told}
use Rattle.c_area.specs.Area.{area_bytes, area_of, table_in, is_area}

-- "An area of another size is 19 with that size as the place, before all else"
unfoldable pub called : ℕ → List ℕ → ℕ → ℕ → Read
called purpose text room area =
    choose (eqb area area_bytes) (λ _. read (in_room purpose room) text) λ _.
    refused 19 area_bytes

-- An accepted text ends at its length.
abbrev pub wholly : ℕ → Values → Values
wholly n accepted = ends n
wholly n (ends e) = ends e
wholly n (blanks_only m) = blanks_only m
wholly n (number m place) = number m place

abbrev pub told_read : List ℕ → Read → Told
told_read text x = told (wholly (length text) (read_values x))

-- "a refusal leaves the area too as lent"
unfoldable pub area_after : Read → List ℕ → List ℕ
area_after (taken p) area = area_of (table_of p)
area_after (refused n place) area = area

-- The promise of posology_read: its number, the place, the strings and the area that it leaves.
module _ (purpose : ℕ) (text strings area : List ℕ) where
  abbrev call : Read
  call = called purpose text (length strings) (length area)

  pub record ReadsInto (n at : ℕ) (strings' area' : List ℕ) : Type 0 where
    pub number : n ≡ (told_read text call).number
    pub place : at ≡ (told_read text call).place
    pub strings_left : strings' ≡ buffer_after call strings
    pub area_left : area' ≡ area_after call area

unfoldable pub called_next : ℕ → List ℕ → ℕ → ℕ → ReadNext
called_next purpose run room area =
    choose (eqb area area_bytes) (λ _. read_next (in_room purpose room) run) λ _.
    refused_at 19 area_bytes

unfoldable pub next_area_after : ReadNext → List ℕ → List ℕ
next_area_after (taken_to p e) area = area_of (table_of p)
next_area_after (blank_to n) area = area
next_area_after (refused_at n place) area = area

-- The promise of posology_next.
module _ (purpose : ℕ) (run strings area : List ℕ) where
  abbrev next_call : ReadNext
  next_call = called_next purpose run (length strings) (length area)

  pub record ReadsNextInto (n at : ℕ) (strings' area' : List ℕ) : Type 0 where
    pub number : n ≡ (told (read_next_values next_call)).number
    pub place : at ≡ (told (read_next_values next_call)).place
    pub strings_left : strings' ≡ next_buffer_after next_call strings
    pub area_left : area' ≡ next_area_after next_call area

-- "Writer: 17, 18, 19", and "bytes that lay out no table are 18"
unfoldable pub called_write : ℕ → List ℕ → List ℕ → ℕ → Write
called_write purpose area strings room =
    choose (eqb (length area) area_bytes) (λ _.
    choose (is_use purpose) (λ _.
    choose (is_area area) (λ _. write purpose (table_in area) strings room) λ _.
    refuses 18 0) λ _.
    refuses 17 0) λ _.
    refuses 19 area_bytes

-- The promise of posology_write.
module _ (purpose : ℕ) (area strings out : List ℕ) where
  abbrev write_call : Write
  write_call = called_write purpose area strings (length out)

  pub record WritesFrom (n at : ℕ) (out' : List ℕ) : Type 0 where
    pub number : n ≡ (told (write_values write_call)).number
    pub place : at ≡ (told (write_values write_call)).place
    pub out_left : out' ≡ W.buffer_after write_call out

-- Document 02, Wish 10, as writing is called: "17 and 18 as the writer, never 19 for a short buffer"
unfoldable pub called_length : ℕ → List ℕ → List ℕ → Values
called_length purpose area strings =
    choose (eqb (length area) area_bytes) (λ _.
    choose (is_use purpose) (λ _.
    choose (is_area area) (λ _. length_of purpose (table_in area) strings) λ _.
    number 18 0) λ _.
    number 17 0) λ _.
    number 19 area_bytes

-- The promise of posology_length.
module _ (purpose : ℕ) (area strings : List ℕ) where
  pub record MeasuresFrom (n at : ℕ) : Type 0 where
    pub number : n ≡ (told (called_length purpose area strings)).number
    pub place : at ≡ (told (called_length purpose area strings)).place
