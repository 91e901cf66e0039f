-- A table laid out and read back, and bytes read and laid out again: every table has one layout, which is read back as that table; bytes are an
-- area exactly where they are some table's layout.
use Prim.Native.Nat.{ℕ, ◌*◌}
use mathlib.Core.Path.{◌≡◌, sym, ap, ◌∙◌}
use mathlib.Core.List.{List}
use mathlib.Core.Logic.{◌↔◌}
use mathlib.Core.Bool.{true, false, false≢true}
use lib.ListN.{length}
use Rattle.document.specs.Lookup.{same}
use Rattle.document.specs.Words.{table_words}
use Rattle.document.specs.declared.table.Table.{Table}
use Rattle.document.proofs.Same.{same_refl, same_equal}
use Rattle.c_area.specs.Area.{area_bytes, area_of, table_in, is_area}
use Rattle.c_area_back.specs.Fits.{Fitting, AllBytes}
use Rattle.c_numbers.proofs.Bytes.{all_length}
use Rattle.c_area_back.proofs.InFits.{in_fits}
use Rattle.c_area_back.proofs.Numbers.{back}
use Rattle.c_area_back.proofs.Parts.{table_length}

pub area_back : (t : Table) → Fitting t → table_in (area_of t) ≡ t
area_back t f = back t f

pub area_one : (t u : Table) → Fitting t → Fitting u → area_of t ≡ area_of u → t ≡ u
area_one t u f g e = sym (area_back t f) ∙ ap table_in e ∙ area_back u g

-- Each table's layout is an area.
pub is_area_lem : (t : Table) → Fitting t → is_area (area_of t) ≡ true
unfolding is_area
is_area_lem t f = ap (λ (u : Table). same (area_of u) (area_of t)) (area_back t f) ∙ same_refl (area_of t)

-- An area is the layout of the table that is read from it.
pub area_lies : (bytes : List ℕ) → is_area bytes ≡ true → area_of (table_in bytes) ≡ bytes
unfolding is_area
area_lies bytes h = same_equal (area_of (table_in bytes)) bytes h

-- Bytes are an area exactly where they are the layout of a table.
pub area_iff : (bytes : List ℕ) → AllBytes bytes → (is_area bytes ≡ true) ↔ ((t : Table) × Fitting t × (area_of t ≡ bytes))
area_iff bytes b = (λ h. (table_in bytes, in_fits bytes b, area_lies bytes h), λ x. ap is_area (sym x.2) ∙ is_area_lem x.0 x.1)

-- Bytes that are none are no table's layout.
pub no_area : (bytes : List ℕ) → is_area bytes ≡ false → (t : Table) → Fitting t → area_of t ≡ bytes → ⊥
no_area bytes h t f e = false≢true (sym h ∙ ap is_area (sym e) ∙ is_area_lem t f)

pub area_length : (t : Table) → Fitting t → length (area_of t) ≡ area_bytes
unfolding area_of
area_length t f = all_length (table_words t) ∙ ap (λ (n : ℕ). n * 8) (table_length t f.all)
