-- What a call has laid out is an area, is read back as the same table, and is written as the posology's plain text.
use Prim.Native.Nat.{ℕ}
use mathlib.Core.Path.{◌≡◌, sym, ap, ◌∙◌}
use mathlib.Core.List.{List}
use mathlib.Core.Bool.{Bool, true, false}
use native.Mathlib.Nat.{min-le_right, le_trans}
use lib.Dec.{eqb}
use lib.ListN.{length, drop}
use Rattle.json_grammar.specs.Rows.{choose}
use Rattle.json_grammar.proofs.Truth.{never}
use Rattle.document.specs.Posology.{Posology}
use Rattle.document.specs.Valid.{Valid, Fits, strings}
use Rattle.document.specs.Table.{table_of}
use Rattle.document.specs.Plain.{plain}
use Rattle.document.specs.Answer.{taken, read, buffer_after, taken_to, read_next, next_buffer_after, in_room}
use Rattle.document.specs.Write.{write, fitting, greatest_room}
use Rattle.document.specs.declared.table.Table.{Table}
use Rattle.demands.proofs.Demand2.{accepted_iff_spells, plain_is_one}
use Rattle.demands.proofs.Demand3.{first_iff_spells}
use Rattle.c_area.specs.Area.{area_bytes, area_of}
use Rattle.c_area_back.proofs.AreaBack.{area_back, area_length, is_area_lem}
use Rattle.hospital.specs.Calls.{called, area_after, called_next, next_area_after, called_write}
use Rattle.hospital.proofs.ReadFits.{read_fits}
use Rattle.hospital.proofs.WriteCalls.{sized}

-- What was picked, and is not what is told of another size.
picked : {A : Type 0} (b : Bool) {x y z : A} → (y ≡ z → ⊥) → choose b (λ _. x) (λ _. y) ≡ z → x ≡ z
picked true n e = e
picked false n e = absurd (n e)

-- A posology that can be read, laid out and written.
module _ (purpose : ℕ) (p : Posology) (v : Valid purpose p) (f : Fits greatest_room p) (buffer out : List ℕ) where
  laid_written : called_write purpose (area_of (table_of p)) (buffer_after (taken p) buffer) (length out) ≡ fitting (length out) (plain p)
  laid_written =
      let fits = read_fits purpose p v.1 f in
      sym (sized purpose (area_of (table_of p)) (buffer_after (taken p) buffer) out (area_length (table_of p) fits) v.0 (is_area_lem (table_of p) fits))
      ∙ ap (λ (t : Table). write purpose t (buffer_after (taken p) buffer) (length out)) (area_back (table_of p) fits)
      ∙ plain_is_one purpose (length out) p (drop (length (strings p)) buffer) v f

-- What reading took.
pub read_written : (purpose : ℕ) (text buffer area out : List ℕ) (p : Posology) → called purpose text (length buffer) (length area) ≡ taken p
    → called_write purpose (area_after (taken p) area) (buffer_after (taken p) buffer) (length out) ≡ fitting (length out) (plain p)
unfolding called area_after
read_written purpose text buffer area out p e =
    let r : read (in_room purpose (length buffer)) text ≡ taken p = picked (eqb (length area) area_bytes) (λ f. never (cc)) e in
    let a = (accepted_iff_spells (in_room purpose (length buffer)) text p).0 r in
    laid_written purpose p a.1 (le_trans a.3 (min-le_right (length buffer) greatest_room)) buffer out

-- What the first of a run was taken as.
pub next_written : (purpose : ℕ) (run buffer area out : List ℕ) (p : Posology) (e : ℕ) → called_next purpose run (length buffer) (length area) ≡ taken_to p e
    → called_write purpose (next_area_after (taken_to p e) area) (next_buffer_after (taken_to p e) buffer) (length out) ≡ fitting (length out) (plain p)
unfolding called_next next_area_after
next_written purpose run buffer area out p e h =
    let r : read_next (in_room purpose (length buffer)) run ≡ taken_to p e = picked (eqb (length area) area_bytes) (λ f. never (cc)) h in
    let a = (first_iff_spells (in_room purpose (length buffer)) run p e).0 r in
    laid_written purpose p a.0 (le_trans a.1 (min-le_right (length buffer) greatest_room)) buffer out
