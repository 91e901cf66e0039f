-- Digits counted one by one, and how far they can count.
use Prim.Native.Nat.{ℕ, zero, suc, ◌+◌, ◌*◌, ◌-◌, ◌^◌, ◌<◌, ◌≤◌}
use mathlib.Core.Path.{◌≡◌, refl}
use mathlib.Core.List.{List, [], ◌∷◌}
use lib.ListN.{length, get_or, drop, drop_of_length-le}
use lib.Seq.{drop-cons}
use native.Mathlib.Nat.{pow-suc, pow-le-pow_right}
use native.Mathlib.Numerals.{add-one}
use native.Mathlib.Omega.{arith}
use borrow.Author.Tests.{lt-ltb, le-ltb}
use Rattle.json_grammar.specs.Rows.{look}
use Rattle.document_numbers.specs.Number.{figure, counted, padded}

-- The rows of the digits' table.
module _ (b : ℕ) where
  pub figure_low : b < 48 → 0 ≡ figure b
  unfolding figure look
  figure_low h = rw (lt-ltb b 48 h)

  pub figure_digit : (w : ℕ) → 48 ≤ b → b < 58 → w ≡ b → w - 48 ≡ figure b
  unfolding figure look
  figure_digit w h g e = rw (e, le-ltb b 48 h, lt-ltb b 58 g)

  pub figure_high : 58 ≤ b → 0 ≡ figure b
  unfolding figure look
  figure_high h = let g : 48 ≤ b = omega arith in rw (le-ltb b 48 g, le-ltb b 58 h)

pub ruleset figures = (figure_low, figure_digit, figure_high, arith)

-- A number of k digits, and one more digit.
module _ (k v : ℕ) (h : v < 10 ^ k) where
  one_more : (d m : ℕ) → d ≤ 9 → m ≡ suc k → v * 10 + d < 10 ^ m
  one_more d m g e = rw (e, pow-suc) (omega arith)

  room : k < 18 → v * 10 + 9 < 10 ^ 18
  room g = let p : 10 ^ k ≤ 10 ^ 17 = pow-le-pow_right (omega arith) {j = 17} (omega arith) in omega arith

-- The digits before i count v.
pub record Counted (raw : List ℕ) (i v : ℕ) : Type 0 where
  pub inside : i ≤ length raw
  pub small : v < 10 ^ i
  pub same : counted v (drop i raw) ≡ counted 0 raw

pub counted_start : (raw : List ℕ) → Counted raw 0 0
counted_start raw = record { inside = omega arith; small = omega arith; same = refl }

module _ (raw : List ℕ) (i v : ℕ) (inv : Counted raw i v) where
  pub counted_fits : i < length raw → length raw ≤ 18 → v * 10 + 9 < 10 ^ 18
  counted_fits h l = room i v inv.small (omega arith)

  pub counted_more : (d : ℕ) → i < length raw → d ≡ figure (get_or raw i 0) → d ≤ 9 → Counted raw (i + 1) (v * 10 + d)
  unfolding counted
  counted_more d h e g =
      record {
        inside = omega arith;
        small = one_more i v inv.small d (i + 1) g (omega arith);
        same = rw (← inv.same, drop-cons raw i 0 h, add-one, e);
      }

  pub counted_over : length raw ≤ i → v ≡ counted 0 raw
  unfolding counted
  counted_over h = rw (← inv.same, drop_of_length-le raw h)

  pub counted_below : length raw ≤ 18 → v < 10 ^ 18
  counted_below l = omega (arith, inv.small, pow-le-pow_right {n = 10} (omega arith) {i = i} {j = 18} (omega arith))

pub ruleset counting = (counted_start, counted_more, counted_over, counted_below)

-- n is v with the first i digits of the fraction behind it, or zeros where there are fewer.
pub record Padded (raw : List ℕ) (v i n : ℕ) : Type 0 where
  pub six : i ≤ 6
  pub small : n < 10 ^ (12 + i)
  pub same : padded (6 - i) n (drop i raw) ≡ padded 6 v raw

pub padded_start : (raw : List ℕ) (v : ℕ) → v ≤ 999999999999 → Padded raw v 0 v
padded_start raw v h = record { six = omega arith; small = omega arith; same = refl }

module _ (raw : List ℕ) (v i n : ℕ) (inv : Padded raw v i n) where
  pub padded_over : 6 ≤ i → n ≡ padded 6 v raw
  unfolding padded
  padded_over h = let z : 6 - i ≡ 0 = omega arith in rw (← inv.same, z)

  module _ (h : i < 6) where
    pub padded_fits : n * 10 + 9 < 10 ^ 18
    padded_fits = room (12 + i) n inv.small (omega arith)

    left : 6 - i ≡ suc (6 - (i + 1))
    left = omega arith

    pub padded_more : (m d : ℕ) → i < length raw → d ≡ figure (get_or raw i 0) → d ≤ 9 → m ≡ n * 10 + d → Padded raw v (i + 1) m
    unfolding padded
    padded_more m d l e g q =
        record {
          six = omega arith;
          small = rw q (one_more (12 + i) n inv.small d (12 + (i + 1)) g (omega arith));
          same = rw (← inv.same, drop-cons raw i 0 l, left, q, e, add-one);
        }

    pub padded_zero : (m : ℕ) → length raw ≤ i → m ≡ n * 10 → Padded raw v (i + 1) m
    unfolding padded
    padded_zero m l q =
        let l' : length raw ≤ i + 1 = omega arith in
        record {
          six = omega arith;
          small = omega (arith, one_more (12 + i) n inv.small 0 (12 + (i + 1)) (omega arith) (omega arith));
          same = rw (← inv.same, drop_of_length-le raw l, drop_of_length-le raw l', left, q);
        }

pub ruleset padding = (padded_start, padded_over, padded_more, padded_zero)

-- Digits behind a number make it no less.
pub padded_least : (k v : ℕ) (s : List ℕ) → v ≤ padded k v s
unfolding padded
padded_least zero v s = omega arith
padded_least (suc k) v [] = omega (arith, padded_least k (v * 10) [])
padded_least (suc k) v (b ∷ s) = omega (arith, padded_least k (v * 10 + figure b) s)
