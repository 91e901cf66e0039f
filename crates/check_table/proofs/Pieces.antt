-- Strings of a head that are checked are those of a value, and a value's are found.
use mathlib.Core.Path.{◌≡◌, refl, ap, sym, ◌∙◌}
use mathlib.Core.List.{List, ◌++◌}
use mathlib.Core.Bool.{Bool, true, false, not}
use mathlib.Core.Option.{Option, none, some}
use Prim.Native.Nat.{ℕ, ◌+◌, ◌-◌, ◌≤◌}
use native.Mathlib.Omega.{arith}
use lib.Dec.{eqb}
use lib.ListN.{length, take, drop, length-append, length-drop, take-append-drop}
use lib.Seq.{length-take-le, drop-drop, take_at, drop_at}
use borrow.Author.Tests.{eqb-false, eqb-true}
use Rattle.document.specs.Utf8.{is_utf8}
use Rattle.document.specs.Valid.{is_text, if_given, is_unit_for}
use Rattle.document.specs.Table.{text_cell, length_of}
use Rattle.document.specs.declared.table.Text.{Text}
use Rattle.document.proofs.DetailParts.{text_parts}
use Rattle.document.proofs.Strings.{some_of_length}
use Rattle.document.proofs.Untabled.{bytes_of}
use Rattle.json_grammar.proofs.Truth.{and_both}
use Rattle.check_table.proofs.FoundDetail.{not_none}
use Rattle.check_table.specs.Readable.{PieceAt, absent, present}

pub record PieceIs (buffer : List ℕ) (t : Text) (text u : ℕ) : Type 0 where
  pub value : Option (List ℕ)
  pub valid : if_given is_text value ≡ true
  pub cell : (at : ℕ) → at ≡ text → text_cell at value ≡ t
  pub len : length_of value ≡ t.len
  pub sum : text + length_of value ≡ u
  pub bytes : drop text buffer ≡ bytes_of value ++ drop u buffer

same_text : (t : Text) (start len : ℕ) → start ≡ t.start → len ≡ t.len → ◌≡◌ {A = Text} (record { start = start; len = len }) t
same_text t start len e f = ap {B = Text} (λ s. record { start = s; len = len }) e ∙ ap {B = Text} (λ n. record { start = t.start; len = n }) f

pub piece_is : {buffer : List ℕ} {t : Text} {text u : ℕ} → PieceAt buffer t text u → PieceIs buffer t text u
piece_is {buffer} {t} {text} {u} (absent l s e) = record {
  value = none;
  valid = refl;
  cell = λ at h. same_text t 0 0 (sym s) (sym l);
  len = sym l;
  sum = omega arith;
  bytes = ap (λ n. drop n buffer) (sym e);
}
piece_is {buffer} {t} {text} {u} (present p e) =
    let cs = take t.len (drop text buffer) in
    let n : length cs ≡ t.len = length-take-le t.len (drop text buffer) (omega (arith, length-drop text buffer, p.fits)) in
    record {
      value = some cs;
      valid = and_both (ap not (some_of_length cs (λ z. omega (arith, p.some)))) p.utf8;
      cell = λ at h. same_text t at (length cs) (h ∙ sym p.starts) n;
      len = n;
      sum = omega arith;
      bytes = sym (ap (λ m. cs ++ drop m buffer) e ∙ ap (λ s. cs ++ s) (sym (drop-drop t.len text buffer)) ∙ take-append-drop t.len (drop text buffer));
    }

pub unit_for : (purpose : ℕ) (v : Option (List ℕ)) → if_given is_text v ≡ true → ((purpose ≡ 3 → ⊥) → 1 ≤ length_of v) → is_unit_for purpose v ≡ true
unit_for purpose none v f = go (eqb purpose 3) refl
  where
    go : (b : Bool) → eqb purpose 3 ≡ b → b ≡ true
    go true e = refl
    go false e = absurd (let h = f (eqb-false purpose 3 e) in omega arith)
unit_for purpose (some cs) v f = v

pub unit_given : (purpose at : ℕ) (v : Option (List ℕ)) → is_unit_for purpose v ≡ true → (purpose ≡ 3 → ⊥) → 1 ≤ (text_cell at v).len
unit_given purpose at none h f = absurd (f (eqb-true purpose 3 h))
unit_given purpose at (some cs) h f = not_none cs (text_parts cs h).some

module _ (buffer : List ℕ) where
  pub piece_found : (v : Option (List ℕ)) (at : ℕ) (rest : List ℕ) → if_given is_text v ≡ true → drop at buffer ≡ bytes_of v ++ rest → PieceAt buffer (text_cell at v) at (at + length_of v)
  piece_found none at rest h e = absent refl refl (omega arith)
  piece_found (some cs) at rest h e =
      let w = text_parts cs h in
      let g = not_none cs w.some in
      let j : length buffer - at ≡ length cs + length rest = sym (length-drop at buffer) ∙ ap length e ∙ length-append cs rest in
      present (record { starts = refl; some = g; fits = omega arith; utf8 = ap is_utf8 (ap (take (length cs)) e ∙ take_at cs rest (length cs) refl) ∙ w.utf8 }) refl

  pub piece_behind : (v : Option (List ℕ)) (at : ℕ) (rest : List ℕ) → drop at buffer ≡ bytes_of v ++ rest → drop (at + length_of v) buffer ≡ rest
  piece_behind none at rest e = let z : at + 0 ≡ at = omega arith in ap (λ n. drop n buffer) z ∙ e
  piece_behind (some cs) at rest e = sym (drop-drop (length cs) at buffer) ∙ ap (drop (length cs)) e ∙ drop_at cs rest (length cs) refl
