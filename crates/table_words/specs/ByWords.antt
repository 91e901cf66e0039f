-- A table by its head, its two counts and the words of its records, as code hands it on without making it.
use Rattle.std.specs.Prelude.{◌≡◌, List, ℕ, length}
use Rattle.document.specs.Words.{all_words, rows}
use Rattle.document.specs.declared.table.Head.{Head}
use Rattle.document.specs.declared.table.Table.{Table}

pub record ByWords (t : Table) (h : Head) (records bytes : ℕ) (ws : List ℕ) : Type 0 where
  pub head : t.head ≡ h
  pub count : t.count ≡ records
  pub text : t.text ≡ bytes
  pub words : rows (all_words t.records) ≡ ws
  pub all : length t.records ≡ 64
