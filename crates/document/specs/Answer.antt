-- Document 01, "Answers by number": the answer to some bytes for a use and a room, as one function, and what it leaves in the lent buffers.
use Rattle.std.specs.Prelude.{◌≡◌, List, [], ◌∷◌, ◌++◌, cond, ◌||◌, ℕ, leb, ltb, length, drop}
use Rattle.json_grammar.specs.Rows.{choose}
use Rattle.json_grammar.specs.Byte.{blanked}
use Rattle.json_grammar.specs.Tree.{place_in}
use Rattle.json_grammar.specs.Walk.{Walked, end, refused2, refused3, first_object, one_object, walk}
use Rattle.json_move.specs.Read.{tree_of}
use Rattle.document.specs.Posology.{Posology}
use Rattle.document.specs.Visit.{Outcome, done, refuse, visit}
use Rattle.document.specs.Valid.{is_use, room_of, strings}
use Rattle.document.specs.Table.{table_of, empty_table}
use Rattle.document.specs.Values.{Values, accepted, ends, blanks_only, number, answer_values, next_values}
use Rattle.document.specs.declared.terms.Terms.{Terms}
use Rattle.document.specs.declared.table.Table.{Table}
use Rattle.document.specs.declared.table.Reading.{Reading}
use Rattle.document.specs.declared.table.NextReading.{NextReading}

abbrev pub text_at_most : ℕ
text_at_most = 32768

-- What a text comes to.
pub data Read : Type 0 where
  taken : Posology → Read
  refused : ℕ → ℕ → Read  -- number and place

abbrev pub visited : List ℕ → Outcome Posology → Read
visited start (done p l) = taken p
visited start (refuse n p) = refused n (place_in start p)

-- The object that was walked, read: places count from the start of all that was given.
abbrev pub read_walked : Terms → List ℕ → Read
read_walked terms text = visited text (visit terms (tree_of text))

abbrev pub after_walk : Terms → List ℕ → Walked → Read
after_walk terms text (end r) = read_walked terms text
after_walk terms text (refused2 p) = refused 2 (place_in text p)
after_walk terms text (refused3 p) = refused 3 (place_in text p)

-- "Order: 17; 1; then the whole text for 2 and 3 .. Then objects in visiting order."
unfoldable pub read : Terms → List ℕ → Read
unfolding visit tree_of one_object
read terms text =
    choose (is_use terms.purpose) (λ _.
    choose (leb (length text) text_at_most) (λ _. after_walk terms text (one_object text)) λ _.
    refused 1 text_at_most) λ _.
    refused 17 0

-- What the first posology of a run comes to.
pub data ReadNext : Type 0 where
  taken_to : Posology → ℕ → ReadNext  -- the place behind its last byte
  blank_to : ℕ → ReadNext  -- only blanks remain: the run's length
  refused_at : ℕ → ℕ → ReadNext

abbrev pub up_to : ℕ → Read → ReadNext
up_to e (taken p) = taken_to p e
up_to e (refused n place) = refused_at n place

-- "If none ends in the first 32,768 bytes, 2 or 3 is given if met there, else 1 when the run is longer, else 2 at the length."
abbrev pub not_ended : ℕ → List ℕ → ℕ → ReadNext
not_ended n run place = cond (leb (length run) text_at_most || ltb place text_at_most) (refused_at n place) (refused_at 1 text_at_most)

abbrev pub ends_at : Terms → List ℕ → ℕ → ReadNext
ends_at terms run e = choose (leb e text_at_most) (λ _. up_to e (read_walked terms run)) λ _. refused_at 1 text_at_most

abbrev pub next_walked : Terms → List ℕ → Walked → ReadNext
next_walked terms run (end r) = ends_at terms run (place_in run r)
next_walked terms run (refused2 p) = not_ended 2 run (place_in run p)
next_walked terms run (refused3 p) = not_ended 3 run (place_in run p)

-- "A run of nothing but blanks .. gets the answer that only blanks remain .. Otherwise a run takes the shortest beginning, leading blanks
-- included, that is such a text; what follows isn't looked at."
abbrev pub next_begun : Terms → List ℕ → List ℕ → ReadNext
next_begun terms run [] = blank_to (length run)
next_begun terms run (b ∷ s) = next_walked terms run (first_object run)

unfoldable pub read_next : Terms → List ℕ → ReadNext
unfolding visit tree_of walk blanked
read_next terms run =
    choose (is_use terms.purpose) (λ _. next_begun terms run (blanked run)) λ _. refused_at 17 0

-- What a call answers, and what it leaves in the lent text buffer: a refusal, or only blanks, leaves it as lent and answers an empty table.
abbrev pub laid : List ℕ → List ℕ → List ℕ
laid bytes buffer = bytes ++ drop (length bytes) buffer

abbrev pub read_values : Read → Values
read_values (taken p) = accepted
read_values (refused n place) = number n place

abbrev pub table_after : Read → Table
table_after (taken p) = table_of p
table_after (refused n place) = empty_table

abbrev pub buffer_after : Read → List ℕ → List ℕ
buffer_after (taken p) buffer = laid (strings p) buffer
buffer_after (refused n place) buffer = buffer

abbrev pub read_next_values : ReadNext → Values
read_next_values (taken_to p e) = ends e
read_next_values (blank_to n) = blanks_only n
read_next_values (refused_at n place) = number n place

abbrev pub next_table_after : ReadNext → Table
next_table_after (taken_to p e) = table_of p
next_table_after (blank_to n) = empty_table
next_table_after (refused_at n place) = empty_table

abbrev pub next_buffer_after : ReadNext → List ℕ → List ℕ
next_buffer_after (taken_to p e) buffer = laid (strings p) buffer
next_buffer_after (blank_to n) buffer = buffer
next_buffer_after (refused_at n place) buffer = buffer

-- A use and a lent text buffer, of so many bytes: "Text room is the buffer's length or 2,048 bytes, the smaller."
abbrev pub in_room : ℕ → ℕ → Terms
in_room purpose lent = record { purpose = purpose; room = room_of lent }

abbrev pub terms_of : ℕ → List ℕ → Terms
terms_of purpose buffer = in_room purpose (length buffer)

-- The promise of reading: answer, table and buffer, for every text, use and buffer.
pub record Reads (purpose : ℕ) (text before : List ℕ) (r : Reading) (after : List ℕ) : Type 0 where
  pub answer : answer_values r.answer ≡ read_values (read (terms_of purpose before) text)
  pub table : r.table ≡ table_after (read (terms_of purpose before) text)
  pub left : after ≡ buffer_after (read (terms_of purpose before) text) before

pub record ReadsNext (purpose : ℕ) (run before : List ℕ) (r : NextReading) (after : List ℕ) : Type 0 where
  pub answer : next_values r.answer ≡ read_next_values (read_next (terms_of purpose before) run)
  pub table : r.table ≡ next_table_after (read_next (terms_of purpose before) run)
  pub left : after ≡ next_buffer_after (read_next (terms_of purpose before) run) before
