-- Bare bytes are their own bare bytes, and blanks part no number and no word in them.
use Prim.Native.Nat.{ℕ}
use mathlib.Core.Path.{◌≡◌, refl, ap}
use mathlib.Core.List.{List, [], ◌∷◌}
use mathlib.Core.Bool.{Bool, true, false}
use lib.Dec.{eqb}
use Rattle.json_grammar.specs.Byte.{is_blank}
use Rattle.demands.specs.Blanks.{bare, bare_quoted, bare_escaped, whole_after, whole_quoted, whole_escaped, whole}
use Rattle.demands.proofs.BareBytes.{bare_step, quoted_step}

-- Of bytes outside strings, in a string and behind a backslash.
abbrev Outside : List ℕ → Type 0
Outside s = (bare s ≡ s) × ((p : ℕ) → whole_after p s ≡ true)

abbrev Quoted : List ℕ → Type 0
Quoted s = (bare_quoted s ≡ s) × (whole_quoted s ≡ true)

abbrev Escaped : List ℕ → Type 0
Escaped s = (bare_escaped s ≡ s) × (whole_escaped s ≡ true)

mutual
  unfolding bare whole_after

  outside : (s : List ℕ) → Outside (bare s)
  outside [] = (refl, λ p. refl)
  outside (b ∷ s) = which (is_blank b) (eqb b 34) refl refl (outside s) (quoted s)
    where
      which : (x y : Bool) → is_blank b ≡ x → eqb b 34 ≡ y → Outside (bare s) → Quoted (bare_quoted s) → Outside (bare_step x y b s)
      which true y e f h k = h
      which false true e f h k = (rw (e, f) (ap (λ z. b ∷ z) k.0), λ p. rw (e, f) k.1)
      which false false e f h k = (rw (e, f) (ap (λ z. b ∷ z) h.0), λ p. rw (e, f) (h.1 b))

  quoted : (s : List ℕ) → Quoted (bare_quoted s)
  quoted [] = (refl, refl)
  quoted (b ∷ s) = which (eqb b 34) (eqb b 92) refl refl (outside s) (quoted s) (escaped s)
    where
      which : (x y : Bool) → eqb b 34 ≡ x → eqb b 92 ≡ y → Outside (bare s) → Quoted (bare_quoted s) → Escaped (bare_escaped s)
          → Quoted (quoted_step x y b s)
      which true y e f h k l = (rw e (ap (λ z. b ∷ z) h.0), rw e (h.1 b))
      which false true e f h k l = (rw (e, f) (ap (λ z. b ∷ z) l.0), rw (e, f) l.1)
      which false false e f h k l = (rw (e, f) (ap (λ z. b ∷ z) k.0), rw (e, f) k.1)

  escaped : (s : List ℕ) → Escaped (bare_escaped s)
  escaped [] = (refl, refl)
  escaped (b ∷ s) = let h = quoted s in (ap (λ z. b ∷ z) h.0, h.1)

pub bare_again : (s : List ℕ) → bare (bare s) ≡ bare s
bare_again s = (outside s).0

pub bare_whole : (s : List ℕ) → whole (bare s) ≡ true
unfolding whole
bare_whole s = (outside s).1 0
