-- One element more, counted.
use Prim.Native.Nat.{ℕ, zero, suc, ◌+◌, ◌-◌, ◌≤◌, ◌<◌}
use mathlib.Core.Path.{◌≡◌, refl, sym, ◌∙◌}
use mathlib.Core.List.{List}
use mathlib.Core.Bool.{true, false}
use lib.ListN.{length, drop}
use native.Mathlib.Omega.{arith}
use Rattle.json_grammar.specs.Tree.{Place, Moves}
use Rattle.json_move.specs.Moving.{first_in, next_after, at_end}
use Rattle.json_move.specs.Read.{elements_at}
use Rattle.json_move.specs.Count.{count, elements_in}

more : (k m : ℕ) (s : Place) → k ≡ suc m → at_end s ≡ false → count (elements_at k s) ≡ suc (count (elements_at m (next_after s)))
unfolding elements_at
more k m s h e = rw (h, e, elements_at)

none : (k : ℕ) (s : Place) → at_end s ≡ true → count (elements_at k s) ≡ 0
unfolding elements_at
none zero s e = refl
none (suc k) s e = rw (e, elements_at)

-- n elements of the list at `at` are counted, and the others stand from i on.
pub record Counted (text : List ℕ) (at i n : ℕ) : Type 0 where
  pub sum : count (elements_in text (drop at text)) ≡ n + count (elements_at (length text - n) (drop i text))
  pub within : n ≤ length text

pub counted_none : (text : List ℕ) (at i : ℕ) → Moves first_in text at i → Counted text at i 0
unfolding elements_in
counted_none text at i m = let z : length text - 0 ≡ length text = omega arith in record { sum = rw (m.lands, z) (omega arith); within = omega arith }

module _ {text : List ℕ} {at i n : ℕ} (c : Counted text at i n) where
  pub counted_more : {j : ℕ} → n < length text → at_end (drop i text) ≡ false → Moves next_after text i j → Counted text at j (n + 1)
  counted_more h e m =
      record {
        sum = c.sum ∙ rw (more (length text - n) (length text - (n + 1)) (drop i text) (omega arith) e, ← m.lands) (omega arith);
        within = omega arith;
      }

  pub counted_end : at_end (drop i text) ≡ true → n ≡ count (elements_in text (drop at text))
  counted_end e = omega (arith, c.sum, none (length text - n) (drop i text) e)

  pub counted_all : length text ≤ n → length text ≡ count (elements_in text (drop at text))
  unfolding elements_at
  counted_all h = let z : length text - n ≡ 0 = omega arith in sym (c.sum ∙ rw z (omega (arith, c.within)))
