-- Demand 2: what is accepted is what spells a valid posology; what is written reads back.
use Rattle.std.specs.Prelude.{Result, Ok}
use Rattle.document.specs.declared.refusal.Refusal.{Refusal}
use mathlib.Core.Path.{◌≡◌}
use mathlib.Core.List.{List, ◌++◌}
use mathlib.Core.Bool.{true}
use mathlib.Core.Logic.{◌↔◌}
use Prim.Native.Nat.{ℕ, ◌≤◌}
use lib.ListN.{length, take}
use Rattle.document.specs.Posology.{Posology}
use Rattle.document.specs.Valid.{Valid, Fits, strings, is_use}
use Rattle.document.specs.Spells.{Spells}
use Rattle.document.specs.Table.{table_of}
use Rattle.document.specs.Plain.{plain}
use Rattle.document.specs.Answer.{taken, read, text_at_most, Reads}
use Rattle.document.specs.Write.{write, fitting, readable, greatest_room, in_greatest_room, Writes}
use Rattle.document_meaning.proofs.PlainTexts.{plain_reads}
use Rattle.document.proofs.Tables.{one_of_table, own_written}
use Rattle.document_meaning.proofs.ReadTables.{readable_read, read_readable}
use Rattle.document_meaning.proofs.Spelled.{accepted_spells, spelled_accepted, one_posology}
use Rattle.document.specs.declared.table.Table.{Table}
use Rattle.document.specs.declared.table.Reading.{Reading}
use Rattle.document.specs.declared.terms.Terms.{Terms}
use Rattle.demands.specs.Tables.{WrittenAndRead}
use Rattle.demands.proofs.TablesBack.{written_and_read, promised_back}

-- A text of at most 32,768 bytes is accepted exactly when it spells a valid posology whose strings fit the text room, and then as that posology.
pub accepted_iff_spells : (terms : Terms) (text : List ℕ) (p : Posology) → (read terms text ≡ taken p) ↔ ((length text ≤ text_at_most) × Valid terms.purpose p × Spells text p × Fits terms.room p)
accepted_iff_spells terms text p = (accepted_spells terms text p, λ h. spelled_accepted terms text p h.0 h.1 h.2 h.3)

-- A text spells at most one posology.
pub spells_one : (text : List ℕ) (p q : Posology) → Spells text p → Spells text q → p ≡ q
spells_one text p q a b = one_posology text p q a b

-- A table and its strings are those of at most one valid posology.
pub table_is_one : (purpose : ℕ) (p q : Posology) → Valid purpose p → Valid purpose q → table_of p ≡ table_of q → strings p ≡ strings q → p ≡ q
table_is_one purpose p q v w e f = one_of_table purpose p q v w e f

-- What is written of a posology reads back to it, in any room that holds its strings.
pub written_reads_back : (terms : Terms) (p : Posology) → Valid terms.purpose p → Fits greatest_room p → Fits terms.room p → read terms (plain p) ≡ taken p
written_reads_back terms p v f g = plain_reads terms p v f g

-- Its plain text is the one thing that the writer makes of its table and strings.
pub plain_is_one : (purpose room : ℕ) (p : Posology) (behind : List ℕ) → Valid purpose p → Fits greatest_room p → write purpose (table_of p) (strings p ++ behind) room ≡ fitting room (plain p)
plain_is_one purpose room p behind v f = own_written purpose room p behind v f

-- 18: exactly the tables and text bytes that no text reads to, for this use.
pub table_valid_iff_readable : (purpose : ℕ) (t : Table) (bytes : List ℕ) → is_use purpose ≡ true → (readable purpose t bytes ≡ true) ↔ ((text : List ℕ) × (p : Posology) × (read (in_greatest_room purpose) text ≡ taken p) × (table_of p ≡ t) × (take (length (strings p)) bytes ≡ strings p))
table_valid_iff_readable purpose t bytes u = (readable_read purpose t bytes u, read_readable purpose t bytes)

-- "Every valid table is written as its one plain text if the buffer holds it, and reading that returns the table": by 18, "any other table is valid".
pub table_written_and_read : (purpose : ℕ) (t : Table) (bytes : List ℕ) → is_use purpose ≡ true → readable purpose t bytes ≡ true → WrittenAndRead purpose t bytes
table_written_and_read purpose t bytes u h = written_and_read purpose t bytes u h

-- The same of what the functions promise: `write` wrote a table, and `read` reads what it wrote.
pub written_then_read : {purpose n : ℕ} {t : Table} {text before after strings strings' : List ℕ} {w : Result ℕ Refusal} {r : Reading}
    → Writes purpose t text before w after → w ≡ Ok n → Reads purpose (take n after) strings r strings' → t.text ≤ length strings
    → (r.answer ≡ Ok tt) × (r.table ≡ t) × (take t.text strings' ≡ take t.text text)
written_then_read a e b f = promised_back a e b f
