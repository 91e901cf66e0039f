-- Demand 2, "Every valid table is written as its one plain text if the buffer holds it, and reading that returns the table".
use Rattle.std.specs.Prelude.{◌≡◌, List, ℕ, ◌≤◌, ◌<◌, length, take}
use Rattle.document.specs.Posology.{Posology}
use Rattle.document.specs.Valid.{strings}
use Rattle.document.specs.Table.{table_of}
use Rattle.document.specs.Answer.{taken, read}
use Rattle.document.specs.Write.{writes, refuses, write}
use Rattle.document.specs.declared.terms.Terms.{Terms}
use Rattle.document.specs.declared.table.Table.{Table}

-- Of a table with its text bytes: the one text that it is written as, and what reading that text comes to.
pub record WrittenAndRead (purpose : ℕ) (t : Table) (bytes : List ℕ) : Type 0 where
  pub text : List ℕ
  pub written : (room : ℕ) → length text ≤ room → write purpose t bytes room ≡ writes text
  pub too_long : (room : ℕ) → room < length text → write purpose t bytes room ≡ refuses 19 (length text)
  pub one : (room : ℕ) (w : List ℕ) → write purpose t bytes room ≡ writes w → w ≡ text
  pub posology : Posology
  pub back : (terms : Terms) → terms.purpose ≡ purpose → t.text ≤ terms.room → read terms text ≡ taken posology
  pub table : table_of posology ≡ t
  pub strings_first : strings posology ≡ take t.text bytes
