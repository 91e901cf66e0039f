-- What a call has written is read back as the area and the strings that it was written from.
use Prim.Native.Nat.{ℕ, ◌≤◌, ◌<◌}
use mathlib.Core.Path.{◌≡◌, refl, sym, ap, ◌∙◌}
use mathlib.Core.List.{List}
use mathlib.Core.Bool.{Bool, true, false, cond}
use native.Mathlib.Omega.{arith}
use lib.Dec.{eqb, leb}
use lib.ListN.{length, take, drop}
use lib.Seq.{take_at}
use Rattle.json_grammar.specs.Rows.{choose}
use Rattle.json_grammar.proofs.Truth.{never}
use Rattle.document.specs.Posology.{Posology}
use Rattle.document.specs.Valid.{is_use, strings}
use Rattle.document.specs.Plain.{plain}
use Rattle.document.specs.Untable.{posology_of}
use Rattle.document.specs.Values.{ends}
use Rattle.document.specs.Answer.{Read, taken, buffer_after}
use Rattle.document.specs.Write.{Write, writes, refuses, write, write_values, fitting, readable}
use Rattle.document.proofs.Tables.{text_of}
use Rattle.demands.proofs.TablesBack.{read_back, text_first}
use Rattle.c_area.specs.Area.{area_bytes, area_of, table_in, is_area}
use Rattle.c_area_back.proofs.AreaBack.{area_lies}
use Rattle.c_answers.specs.Telling.{told}
use Rattle.hospital.specs.Calls.{called, area_after, called_write, told_read, ReadsInto, WritesFrom}
use Rattle.hospital.proofs.TextCalls.{sized}

-- What was written was an area's table.
module _ (purpose : ℕ) (area strings : List ℕ) (room : ℕ) (w : List ℕ) where
  pub was_area : called_write purpose area strings room ≡ writes w → (is_area area ≡ true) × (write purpose (table_in area) strings room ≡ writes w)
  unfolding called_write
  was_area h = go (eqb (length area) area_bytes) (is_use purpose) (is_area area) h
    where
      go : (a u b : Bool) → choose a (λ _. choose u (λ _. choose b (λ _. write purpose (table_in area) strings room) λ _. refuses 18 0) λ _. refuses 17 0) (λ _. refuses 19 area_bytes) ≡ writes w
          → (b ≡ true) × (write purpose (table_in area) strings room ≡ writes w)
      go true true true e = (refl, e)
      go true true false e = never (cc)
      go true false b e = never (cc)
      go false u b e = never (cc)

-- Read into another area and other strings, which hold them.
pub record AreaBack (purpose : ℕ) (area strings₀ w strings₁ area₁ : List ℕ) : Type 0 where
  pub posology : Posology
  pub back : called purpose w (length strings₁) (length area₁) ≡ taken posology
  pub same_area : area_after (taken posology) area₁ ≡ area
  pub same_strings : take (table_in area).text (buffer_after (taken posology) strings₁) ≡ take (table_in area).text strings₀

pub area_back : (purpose : ℕ) (area bytes : List ℕ) (room : ℕ) (w lent lent_area : List ℕ)
    → called_write purpose area bytes room ≡ writes w → length lent_area ≡ area_bytes → (table_in area).text ≤ length lent
    → AreaBack purpose area bytes w lent lent_area
unfolding area_after
area_back purpose area bytes room w lent lent_area h n f =
    let a = was_area purpose area bytes room w h in
    let k = read_back purpose (table_in area) bytes w lent room a.1 f in
    let p = k.posology in
    let m : (table_in area).text ≡ length (strings p) = text_of p k.table in
    record {
      posology = p;
      back = sym (sized purpose w lent lent_area n) ∙ k.back;
      same_area = ap area_of k.table ∙ area_lies area a.0;
      same_strings = take_at (strings p) (drop (length (strings p)) lent) (table_in area).text (sym m) ∙ k.strings_first;
    }

-- A refusal of the writer has a number above 0.
abbrev AboveZero : Write → Type 0
AboveZero (writes w) = Unit
AboveZero (refuses n at) = 0 < n

module _ (purpose : ℕ) (area bytes : List ℕ) (room : ℕ) where
  fit : (w : List ℕ) (b : Bool) → AboveZero (cond b (writes w) (refuses 19 (length w)))
  fit w true = tt
  fit w false = omega arith

  written : AboveZero (write purpose (table_in area) bytes room)
  unfolding write
  written = go (is_use purpose) (readable purpose (table_in area) bytes)
    where
      go : (u r : Bool) → AboveZero (choose u (λ _. choose r (λ _. fitting room (plain (posology_of (table_in area) bytes))) λ _. refuses 18 0) λ _. refuses 17 0)
      go true true = fit (plain (posology_of (table_in area) bytes)) (leb (length (plain (posology_of (table_in area) bytes))) room)
      go true false = omega arith
      go false r = omega arith

  numbered : AboveZero (called_write purpose area bytes room)
  unfolding called_write
  numbered = go (eqb (length area) area_bytes) (is_use purpose) (is_area area)
    where
      go : (a u b : Bool) → AboveZero (choose a (λ _. choose u (λ _. choose b (λ _. write purpose (table_in area) bytes room) λ _. refuses 18 0) λ _. refuses 17 0) (λ _. refuses 19 area_bytes))
      go true true true = written
      go true true false = omega arith
      go true false b = omega arith
      go false u b = omega arith

-- So 0 tells that a text was written, and the place its length.
told_written : (x : Write) {at : ℕ} → AboveZero x → 0 ≡ (told (write_values x)).number → at ≡ (told (write_values x)).place → ends at ≡ write_values x
told_written (writes w) p e f = ap ends f
told_written (refuses n at) p e f = absurd (omega arith)

pub calls_back : {purpose n place at : ℕ} {area bytes out out' lent lent_area left left_area : List ℕ}
    → WritesFrom purpose area bytes out 0 at out' → ReadsInto purpose (take at out') lent lent_area n place left left_area
    → length lent_area ≡ area_bytes → (table_in area).text ≤ length lent
    → (n ≡ 0) × (place ≡ at) × (left_area ≡ area) × (take (table_in area).text left ≡ take (table_in area).text bytes)
calls_back {purpose} {at = at} {area = area} {bytes = bytes} {out = out} {out' = out'} {lent = lent} {lent_area = lent_area} a b n f =
    let c = called_write purpose area bytes (length out) in
    let x = text_first c out (told_written c (numbered purpose area bytes (length out)) a.number a.place) a.out_left in
    let k = area_back purpose area bytes (length out) x.text lent lent_area x.is n f in
    let e : called purpose (take at out') (length lent) (length lent_area) ≡ taken k.posology = ap (λ (s : List ℕ). called purpose s (length lent) (length lent_area)) x.first ∙ k.back in (
      b.number ∙ ap (λ (y : Read). (told_read (take at out') y).number) e,
      b.place ∙ ap (λ (y : Read). (told_read (take at out') y).place) e ∙ ap length x.first ∙ sym x.long,
      b.area_left ∙ ap (λ (y : Read). area_after y lent_area) e ∙ k.same_area,
      ap (take (table_in area).text) (b.strings_left ∙ ap (λ (y : Read). buffer_after y lent) e) ∙ k.same_strings,
    )
