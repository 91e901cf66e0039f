-- Blanks and what is behind them.
use Prim.Native.Nat.{ℕ}
use mathlib.Core.Path.{◌≡◌, refl, ap}
use mathlib.Core.List.{List, [], ◌∷◌, ◌++◌}
use mathlib.Core.Bool.{Bool, true, false}
use Rattle.json_grammar.specs.Rows.{choose}
use Rattle.json_grammar.specs.Byte.{is_blank, blanked}
use Rattle.json_grammar.specs.Grammar.{Blanks, here, blank}

-- What does not begin with a blank.
abbrev pub Sharp : List ℕ → Type 0
Sharp [] = Unit {0}
Sharp (b ∷ s) = is_blank b ≡ false

pub sharp_blanked : (s : List ℕ) → Sharp s → blanked s ≡ s
unfolding blanked
sharp_blanked [] h = refl
sharp_blanked (b ∷ s) h = rw h

pub over_blanks : {s r : List ℕ} → Blanks s r → blanked s ≡ blanked r
unfolding blanked
over_blanks here = refl
over_blanks (blank e bs) = rw e (over_blanks bs)

pub blanks_blanked : (s : List ℕ) → Blanks s (blanked s)
unfolding blanked
blanks_blanked [] = here
blanks_blanked (b ∷ s) = which (is_blank b) refl (blanks_blanked s)
  where
    which : (x : Bool) → is_blank b ≡ x → Blanks s (blanked s) → Blanks (b ∷ s) (choose x (λ _. blanked s) λ _. b ∷ s)
    which true e h = blank e h
    which false e h = here

pub blanked_sharp : (s : List ℕ) → Sharp (blanked s)
unfolding blanked
blanked_sharp [] = tt
blanked_sharp (b ∷ s) = which (is_blank b) refl (blanked_sharp s)
  where
    which : (x : Bool) → is_blank b ≡ x → Sharp (blanked s) → Sharp (choose x (λ _. blanked s) λ _. b ∷ s)
    which true e h = h
    which false e h = e

-- The blanks themselves: they may stand before anything.
pub the_blanks : {s r : List ℕ} → Blanks s r → (w : List ℕ) × (s ≡ w ++ r) × ((c : List ℕ) → Blanks (w ++ c) c)
the_blanks here = ([], refl, λ c. here)
the_blanks (blank {b = b} e bs) = let h = the_blanks bs in (b ∷ h.0, ap (λ x. b ∷ x) h.1, λ c. blank e (h.2 c))
