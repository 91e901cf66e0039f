-- Blanks: what one byte does, and what stands behind them.
use Prim.Native.Nat.{ℕ, suc, ◌<◌}
use mathlib.Core.Path.{◌≡◌, refl, sym, ◌∙◌}
use mathlib.Core.List.{List, [], ◌∷◌}
use mathlib.Core.Bool.{Bool, true, false}
use lib.ListN.{length, get_or, drop}
use lib.Seq.{drop-cons}
use Rattle.json_grammar.specs.Byte.{is_blank, blanked}
use Rattle.json_grammar.specs.Tree.{Moves}

pub blank_goes : (b : ℕ) → is_blank b ≡ true → (s : List ℕ) → blanked (b ∷ s) ≡ blanked s
unfolding blanked
blank_goes b e s = rw (e, blanked)

pub blank_stays : (b : ℕ) → is_blank b ≡ false → (s : List ℕ) → blanked (b ∷ s) ≡ b ∷ s
unfolding blanked
blank_stays b e s = rw (e, blanked)

pub blanked_none : blanked [] ≡ []
unfolding blanked
blanked_none = refl

-- where the blanks end stands no blank
blanked_head : (s : List ℕ) (b : ℕ) (r : List ℕ) → blanked s ≡ b ∷ r → is_blank b ≡ false
blanked_head [] b r h = let z : [] ≡ b ∷ r = sym blanked_none ∙ h in cc
blanked_head (a ∷ s) b r h = by (is_blank a) refl (blanked_head s b r)
  where
    by : (t : Bool) → is_blank a ≡ t → (blanked s ≡ b ∷ r → is_blank b ≡ false) → is_blank b ≡ false
    by true e more = more (sym (blank_goes a e s) ∙ h)
    by false e more = let z : a ∷ s ≡ b ∷ r = sym (blank_stays a e s) ∙ h in cc

pub no_blank : {text : List ℕ} {at i : ℕ} → Moves blanked text at i → i < length text → is_blank (get_or text i 0) ≡ false
no_blank {text} {at} {i} v h = blanked_head (drop at text) (get_or text i 0) (drop (suc i) text) (sym v.lands ∙ drop-cons text i 0 h)
