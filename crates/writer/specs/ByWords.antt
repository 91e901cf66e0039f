-- Writing a table by its head, its two counts and the words of its records: as the table that they are, and refused where they are no
-- readable one.
use Rattle.std.specs.Prelude.{◌≡◌, List, Result, true, ℕ}
use Rattle.json_grammar.specs.Rows.{choose}
use Rattle.document.specs.Valid.{is_use}
use Rattle.document.specs.Values.{length_values}
use Rattle.document.specs.Write.{Write, refuses, readable, write_values, Writes}
use Rattle.document.specs.declared.refusal.Refusal.{Refusal}
use Rattle.document.specs.declared.table.Head.{Head}
use Rattle.document.specs.declared.table.Table.{Table}
use Rattle.table_words.specs.ByWords.{ByWords}

-- "17, 18" in that order
abbrev pub unwritten : ℕ → Write
unwritten purpose = choose (is_use purpose) (λ _. refuses 18 0) λ _. refuses 17 0

module _ (purpose : ℕ) (h : Head) (count text : ℕ) (ws strings before : List ℕ) where
  abbrev NoneReadable : Type 0
  NoneReadable = (t : Table) → ByWords t h count text ws → readable purpose t strings ≡ true → ⊥

  pub record WritesWords (r : Result ℕ Refusal) (after : List ℕ) : Type 0 where
    pub writes : (t : Table) → ByWords t h count text ws → Writes purpose t strings before r after
    pub answer : NoneReadable → length_values r ≡ write_values (unwritten purpose)
    pub left : NoneReadable → after ≡ before
