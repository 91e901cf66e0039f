-- Strings byte by byte.
use mathlib.Core.Path.{◌≡◌, refl, sym, ap, ◌∙◌}
use mathlib.Core.List.{List, [], ◌∷◌, ◌++◌}
use mathlib.Core.Bool.{Bool, true, false, not, ◌&&◌, false≢true}
use Prim.Native.Nat.{ℕ, zero, suc, ◌+◌, ◌<◌, ◌≤◌}
use native.Mathlib.Nat.{add-zero}
use native.Mathlib.Omega.{arith}
use native.Mathlib.Decide.{dec_lt}
use lib.Dec.{leb, eqb}
use borrow.Author.Tests.{leb-true, eqb-false}
use lib.ListN.{length, take, drop, get_or, drop_of_length-le}
use lib.Seq.{drop-drop, get_or-drop}
use Rattle.json_grammar.proofs.Rows.{under, between, beyond}
use Rattle.json_grammar.proofs.Moves.{byte_here}
use Rattle.document.specs.Spell.{control, escaped, quoted, spell}
use Rattle.document.specs.Plain.{text_tree}
use Rattle.document.proofs.Sizes.{escaped_rows}
use Rattle.write_bytes.specs.Plain.{is_plain}

pub quoted_one : (s : List ℕ) (i : ℕ) (k : List ℕ) → i < length s → quoted (drop i s) k ≡ escaped (get_or s i 0) (quoted (drop (i + 1) s) k)
unfolding quoted
quoted_one s i k h = rw (byte_here s i h)

pub quoted_none : (s : List ℕ) (i : ℕ) (k : List ℕ) → length s ≤ i → quoted (drop i s) k ≡ 34 ∷ k
unfolding quoted
quoted_none s i k h = rw (drop_of_length-le s h)

pub spell_text : (s k : List ℕ) → spell (text_tree s) k ≡ 34 ∷ quoted s k
unfolding spell
spell_text s k = refl

-- Behind a \u go the bytes below 32 that have no letter.
pub escaped_control : (b : ℕ) (k : List ℕ) → b < 32 → (b ≡ 8 → ⊥) → (b ≡ 9 → ⊥) → (b ≡ 10 → ⊥) → (b ≡ 12 → ⊥) → (b ≡ 13 → ⊥) → escaped b k ≡ control b k
unfolding escaped
escaped_control b k h n₁ n₂ n₃ n₄ n₅ =
    let rows = escaped_rows b k in
    elim (dec_lt b 8) [
      | yes l ↦ sym (under 8 (List ℕ) b (control b k) rows l refl)
      | no g ↦ elim (dec_lt b 14) [
        | yes l ↦ sym (between 11 12 (List ℕ) b (control b k) rows (omega arith) (omega arith) refl)
        | no j ↦ sym (between 14 32 (List ℕ) b (control b k) rows (omega arith) h refl)
      ]
    ]

-- Every byte that the document names no escape for.
pub escaped_itself : (b : ℕ) (k : List ℕ) → 32 ≤ b → (b ≡ 34 → ⊥) → (b ≡ 92 → ⊥) → escaped b k ≡ b ∷ k
unfolding escaped
escaped_itself b k h n₁ n₂ =
    let rows = escaped_rows b k in
    elim (dec_lt b 34) [
      | yes l ↦ sym (between 32 34 (List ℕ) b (b ∷ k) rows h l refl)
      | no g ↦ elim (dec_lt b 92) [
        | yes l ↦ sym (between 35 92 (List ℕ) b (b ∷ k) rows (omega arith) l refl)
        | no j ↦ sym (beyond 93 (List ℕ) b (b ∷ k) rows (omega arith) refl)
      ]
    ]

-- As the code tests for them.
plain_itself : (b : ℕ) → is_plain b ≡ true → (k : List ℕ) → escaped b k ≡ b ∷ k
plain_itself b h k = go (leb 32 b) (eqb b 34) (eqb b 92) refl refl refl h
  where
    go : (x y z : Bool) → leb 32 b ≡ x → eqb b 34 ≡ y → eqb b 92 ≡ z → (x && not y && not z) ≡ true → escaped b k ≡ b ∷ k
    go true false false e f g t = escaped_itself b k (leb-true 32 b e) (eqb-false b 34 f) (eqb-false b 92 g)
    go true false true e f g t = absurd (false≢true t)
    go true true z e f g t = absurd (false≢true t)
    go false y z e f g t = absurd (false≢true t)

pub plain_first : (s : List ℕ) (at : ℕ) {front : List ℕ} → front ≡ drop at s → is_plain (get_or s at 0) ≡ true → is_plain (get_or front 0 0) ≡ true
plain_first s at e p = rw e (simp (get_or-drop, add-zero) p)

-- Such bytes in a row.
run : (n : ℕ) (s : List ℕ) → n ≤ length s → ((i : ℕ) → i < n → is_plain (get_or s i 0) ≡ true) → (k : List ℕ) → quoted s k ≡ take n s ++ quoted (drop n s) k
unfolding quoted
run zero s h p k = refl
run (suc n) [] h p k = absurd (omega arith)
run (suc n) (b ∷ s) h p k =
    plain_itself b (p 0 (omega arith)) (quoted s k)
    ∙ ap (λ (t : List ℕ). b ∷ t) (run n s (omega arith) (λ i l. p (suc i) (omega arith)) k)

pub plain_run : (s : List ℕ) (at n : ℕ) {front : List ℕ} → front ≡ drop at s → n ≤ length front → ((i : ℕ) → i < n → is_plain (get_or front i 0) ≡ true)
    → (k : List ℕ) → quoted (drop at s) k ≡ take n front ++ quoted (drop (at + n) s) k
plain_run s at n {front} e h p k = rw (← drop-drop n at s, ← e) (run n front h p k)
