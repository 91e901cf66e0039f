-- Document 02, Wish 10: how long a plain text gets.
use Rattle.std.specs.Prelude.{◌≡◌, List, Result, cond, ◌&&◌, ℕ, ◌+◌, ◌*◌, eqb, leb, length}
use Rattle.json_grammar.specs.Rows.{choose}
use Rattle.document.specs.Visit.{records_at_most}
use Rattle.document.specs.Valid.{is_use}
use Rattle.document.specs.Untable.{posology_of}
use Rattle.document.specs.Plain.{plain, plain_then}
use Rattle.document.specs.Values.{Values, accepted, ends, blanks_only, number, length_values}
use Rattle.document.specs.Write.{greatest_room, readable}
use Rattle.document.specs.declared.table.Table.{Table}
use Rattle.document.specs.declared.refusal.Refusal.{Refusal}

-- "6 times its text bytes, 128 times its records, and 256, added up"
abbrev pub bound : ℕ → ℕ → ℕ
bound records text = 6 * text + 128 * records + 256

-- "and so never over 20,736"
abbrev pub greatest_length : ℕ
greatest_length = 20736

-- The bound of a table with these counts; no table has greater ones than are tested here.
abbrev pub longest : ℕ → ℕ → ℕ
longest records text = cond (leb records records_at_most && leb text greatest_room) (bound records text) greatest_length

-- "tell the exact length without writing": 17 and 18 are the writer's.
unfoldable pub length_of : ℕ → Table → List ℕ → Values
unfolding readable posology_of plain_then
length_of purpose t text =
    choose (is_use purpose) (λ _.
    choose (readable purpose t text) (λ _. ends (length (plain (posology_of t text)))) λ _.
    number 18 0) λ _.
    number 17 0

-- The promise of telling the length.
pub record Measures (purpose : ℕ) (t : Table) (text : List ℕ) (r : Result ℕ Refusal) : Type 0 where
  pub answer : length_values r ≡ length_of purpose t text

-- The length that an answer of writing tells: 19 tells it too.
abbrev pub needed : Values → Values
needed accepted = accepted
needed (ends n) = ends n
needed (blanks_only n) = blanks_only n
needed (number m place) = choose (eqb m 19) (λ _. ends place) λ _. number m place
