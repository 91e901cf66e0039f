-- The writer takes exactly the tables that reading fills.
use mathlib.Core.Path.{◌≡◌, ap, sym, subst, ◌∙◌}
use mathlib.Core.List.{List, ◌++◌}
use mathlib.Core.Bool.{true}
use Prim.Native.Nat.{ℕ}
use lib.ListN.{length, take, drop, take-append-drop}
use Rattle.document.specs.Posology.{Posology}
use Rattle.document.specs.Valid.{is_use, strings}
use Rattle.document.specs.Table.{table_of}
use Rattle.document.specs.Plain.{plain}
use Rattle.document.specs.Answer.{taken, read}
use Rattle.document.specs.Write.{readable, in_greatest_room}
use Rattle.document.specs.declared.table.Table.{Table}
use Rattle.document_meaning.proofs.Spelled.{accepted_spells}
use Rattle.document.proofs.Tables.{own_readable, stands_for}
use Rattle.document_meaning.proofs.PlainTexts.{plain_reads}

abbrev Reading : ℕ → Table → List ℕ → Type 0
Reading purpose t bytes = (text : List ℕ) × (p : Posology) × (read (in_greatest_room purpose) text ≡ taken p) × (table_of p ≡ t) × (take (length (strings p)) bytes ≡ strings p)

pub readable_read : (purpose : ℕ) (t : Table) (bytes : List ℕ) → is_use purpose ≡ true → readable purpose t bytes ≡ true → Reading purpose t bytes
readable_read purpose t bytes u h =
    let s = stands_for purpose t bytes h in
    (plain s.is, s.is, plain_reads (in_greatest_room purpose) s.is (u, s.valid) s.fits s.fits, s.table, s.strings_first)

pub read_readable : (purpose : ℕ) (t : Table) (bytes : List ℕ) → Reading purpose t bytes → readable purpose t bytes ≡ true
read_readable purpose t bytes r =
    let p = r.1 in
    let a = accepted_spells (in_greatest_room purpose) r.0 p r.2 in
    let e : bytes ≡ strings p ++ drop (length (strings p)) bytes = sym (take-append-drop (length (strings p)) bytes) ∙ ap (λ (s : List ℕ). s ++ drop (length (strings p)) bytes) r.4 in
    subst (λ (s : List ℕ). readable purpose t s ≡ true) (sym e)
    (subst (λ (u : Table). readable purpose u (strings p ++ drop (length (strings p)) bytes) ≡ true) r.3 (own_readable purpose p (drop (length (strings p)) bytes) a.1.1 a.3))
