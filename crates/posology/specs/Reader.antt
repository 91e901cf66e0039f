-- What the reader's parts leave.
use Rattle.std.specs.Prelude.{ℕ, ◌≡◌, List, Result, Ok, Err}
use Rattle.json_grammar.specs.Tree.{Place}
use Rattle.json_grammar.specs.Walk.{end, first_object}
use Rattle.document.specs.Values.{Values, accepted, refusal_values}
use Rattle.document.specs.Answer.{Read, read, terms_of, read_values, table_after, buffer_after}
use Rattle.document.specs.Table.{empty_table}
use Rattle.document.specs.declared.refusal.Refusal.{Refusal}
use Rattle.document.specs.declared.table.Table.{Table}
use Rattle.read_records.specs.declared.read.HeadRead.{HeadRead}
use Rattle.read_table.specs.Built.{built}

-- The answer's values and the table that a head and the words of its records make.
abbrev pub words_values : Result HeadRead Refusal → Values
words_values (Ok h) = accepted
words_values (Err r) = refusal_values r

unfoldable pub words_table : Result HeadRead Refusal → List ℕ → Table
unfolding built
words_table (Ok h) ws = built h ws
words_table (Err r) ws = empty_table

-- They make what x says, and so do the bytes that are left.
pub record WordsOf (x : Read) (before : List ℕ) (h : Result HeadRead Refusal) (ws after : List ℕ) : Type 0 where
  pub answer : words_values h ≡ read_values x
  pub table : words_table h ws ≡ table_after x
  pub left : after ≡ buffer_after x before

-- A text was read as far as them: they make the answer and the table that document 01 asks for.
abbrev pub ReadsWords : ℕ → List ℕ → List ℕ → Result HeadRead Refusal → List ℕ → List ℕ → Type 0
ReadsWords purpose text before h ws after = WordsOf (read (terms_of purpose before) text) before h ws after

-- A text that the walk took: its object stands behind the blanks at its start.
pub record Walked (text : List ℕ) : Type 0 where
  pub behind : Place
  pub takes : first_object text ≡ end behind
