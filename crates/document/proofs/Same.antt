-- When two lists of bytes are the same, as names are compared.
use mathlib.Core.Path.{◌≡◌, refl, ap, ap₂, sym, ◌∙◌}
use mathlib.Core.List.{List, [], ◌∷◌}
use mathlib.Core.Bool.{true, ◌&&◌, false≢true}
use Prim.Native.Nat.{ℕ, zero, suc}
use lib.Dec.{eqb, eqb-zero-suc, eqb-suc-zero, eqb-suc-suc}
use borrow.Author.Tests.{eq-eqb, eqb-true}
use Rattle.document.specs.Lookup.{same}
use Rattle.json_grammar.proofs.Truth.{and_both, and_left, and_right}

pub same_refl : (s : List ℕ) → same s s ≡ true
same_refl [] = refl
same_refl (b ∷ s) = and_both (eq-eqb b b refl) (same_refl s)

pub same_equal : (s t : List ℕ) → same s t ≡ true → s ≡ t
same_equal [] [] h = refl
same_equal [] (c ∷ t) h = absurd (false≢true h)
same_equal (b ∷ s) [] h = absurd (false≢true h)
same_equal (b ∷ s) (c ∷ t) h =
    let e : b ≡ c = eqb-true b c (and_left (eqb b c) (same s t) h) in
    let f : s ≡ t = same_equal s t (and_right (eqb b c) (same s t) h) in
    ap (λ (x : ℕ). x ∷ s) e ∙ ap (λ (x : List ℕ). c ∷ x) f

pub eqb_sym : (a b : ℕ) → eqb a b ≡ eqb b a
eqb_sym zero zero = refl
eqb_sym zero (suc b) = eqb-zero-suc b ∙ sym (eqb-suc-zero b)
eqb_sym (suc a) zero = eqb-suc-zero a ∙ sym (eqb-zero-suc a)
eqb_sym (suc a) (suc b) = eqb-suc-suc a b ∙ eqb_sym a b ∙ sym (eqb-suc-suc b a)

pub same_sym : (a b : List ℕ) → same a b ≡ same b a
same_sym [] [] = refl
same_sym [] (b ∷ bs) = refl
same_sym (a ∷ as') [] = refl
same_sym (a ∷ as') (b ∷ bs) = ap₂ ◌&&◌ (eqb_sym a b) (same_sym as' bs)
