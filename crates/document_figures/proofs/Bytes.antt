-- A number byte by byte: what the byte at i, and the end, say of the whole.
use Prim.Native.Nat.{ℕ, ◌+◌, ◌-◌, ◌<◌, ◌≤◌}
use mathlib.Core.Path.{◌≡◌, refl, ◌∙◌}
use mathlib.Core.List.{List, [], ◌∷◌}
use mathlib.Core.Bool.{Bool, true, false, not, cond}
use lib.ListN.{length, get_or, take, drop, length-drop, drop_of_length-le}
use lib.Seq.{drop-cons, take_all}
use lib.Dec.{eqb, ltb}
use native.Mathlib.Omega.{arith}
use native.Mathlib.Numerals.{add-one}
use borrow.Author.Tests.{eq-eqb, ne_eqb, lt-ltb, le-ltb, le-leb, lt-leb}
use Rattle.document_figures.specs.Figures.{negative, exponent, carried, all_zero, up}

-- The bytes before i have no mark of an exponent.
module _ (raw : List ℕ) (i : ℕ) (inv : exponent (drop i raw) ≡ exponent raw) where
  pub exponent_capital : i < length raw → get_or raw i 0 ≡ 69 → true ≡ exponent raw
  unfolding exponent
  exponent_capital h e = rw (← inv, drop-cons raw i 0 h, eq-eqb (get_or raw i 0) 69 e)

  pub exponent_small : i < length raw → (get_or raw i 0 ≡ 69 → ⊥) → get_or raw i 0 ≡ 101 → true ≡ exponent raw
  unfolding exponent
  exponent_small h n e = rw (← inv, drop-cons raw i 0 h, ne_eqb (get_or raw i 0) 69 n, eq-eqb (get_or raw i 0) 101 e)

  pub exponent_more : i < length raw → (get_or raw i 0 ≡ 69 → ⊥) → (get_or raw i 0 ≡ 101 → ⊥) → exponent (drop (i + 1) raw) ≡ exponent raw
  unfolding exponent
  exponent_more h n m = rw (← inv, drop-cons raw i 0 h, ne_eqb (get_or raw i 0) 69 n, ne_eqb (get_or raw i 0) 101 m, add-one)

  pub exponent_over : length raw ≤ i → false ≡ exponent raw
  unfolding exponent
  exponent_over h = rw (← inv, drop_of_length-le raw h)

pub ruleset exponents = (exponent_capital, exponent_small, exponent_more, exponent_over, arith)

-- Nothing is left.
pub zero_none : (s : List ℕ) (i : ℕ) → length s ≤ i → true ≡ all_zero (drop i s)
unfolding all_zero
zero_none s i h = rw (drop_of_length-le s h)

-- The bytes before i are zeros.
module _ (raw : List ℕ) (i : ℕ) (inv : all_zero (drop i raw) ≡ all_zero raw) where
  pub zero_not : i < length raw → (get_or raw i 0 ≡ 48 → ⊥) → false ≡ all_zero raw
  unfolding all_zero
  zero_not h n = rw (← inv, drop-cons raw i 0 h, ne_eqb (get_or raw i 0) 48 n)

  pub zero_more : i < length raw → get_or raw i 0 ≡ 48 → all_zero (drop (i + 1) raw) ≡ all_zero raw
  unfolding all_zero
  zero_more h e = rw (← inv, drop-cons raw i 0 h, eq-eqb (get_or raw i 0) 48 e, add-one)

  pub zero_over : length raw ≤ i → true ≡ all_zero raw
  zero_over h = zero_none raw i h ∙ inv

pub ruleset zeros = (zero_not, zero_more, zero_over, arith)

-- The first byte, or none.
pub negative_none : (raw : List ℕ) → length raw ≡ 0 → false ≡ negative raw
negative_none [] h = refl
negative_none (b ∷ s) h = absurd (omega arith)

pub negative_first : (raw : List ℕ) → (length raw ≡ 0 → ⊥) → eqb (get_or raw 0 0) 45 ≡ negative raw
negative_first [] h = absurd (h refl)
negative_first (b ∷ s) h = refl

pub up_none : (s : List ℕ) → length s ≡ 0 → 0 ≡ up s
up_none [] h = refl
up_none (b ∷ s) h = absurd (omega arith)

pub up_below : (s : List ℕ) → (length s ≡ 0 → ⊥) → get_or s 0 0 < 53 → 0 ≡ up s
up_below [] n h = refl
up_below (b ∷ s) n h = rw (lt-ltb b 53 h)

pub up_half : (s : List ℕ) → (length s ≡ 0 → ⊥) → 53 ≤ get_or s 0 0 → 1 ≡ up s
up_half [] n h = absurd (n refl)
up_half (b ∷ s) n h = rw (le-ltb b 53 h)

-- Rounding adds at most one.
pub up_one : (s : List ℕ) → up s ≤ 1
up_one [] = omega arith
up_one (b ∷ s) = go (ltb b 53)
  where
    go : (t : Bool) → cond t 0 1 ≤ 1
    go true = omega arith
    go false = omega arith

-- "at most 18 characters"
module _ (raw : List ℕ) where
  pub too_long : 18 < length raw → false ≡ carried raw
  unfolding carried
  too_long h = rw (lt-leb (length raw) 18 h)

  pub short_enough : length raw ≤ 18 → not (exponent raw) ≡ carried raw
  unfolding carried
  short_enough h = rw (le-leb (length raw) 18 h)

-- A part to the end is all from k on.
pub rest : (k : ℕ) (l : List ℕ) → take (length l - k) (drop k l) ≡ drop k l
rest k l = take_all (length l - k) (drop k l) (rw length-drop (omega arith))
