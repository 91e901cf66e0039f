-- Numbers: what one byte does, and the digits of a whole number.
use Prim.Native.Nat.{ℕ, suc, ◌+◌, ◌<◌, ◌≤◌}
use mathlib.Core.Path.{◌≡◌, refl, sym, ◌∙◌}
use mathlib.Core.List.{List, [], ◌∷◌}
use mathlib.Core.Bool.{Bool, true, false, cond}
use lib.ListN.{length, get_or, drop}
use native.Mathlib.Omega.{arith}
use Rattle.std.specs.Prelude.{Some, None, Result, Ok, Err}
use Rattle.std.proofs.lemmas.Bool.Decides.{nat_tests}
use Rattle.json_grammar.specs.Number.{onward, may_end, takes_digits}
use Rattle.json_grammar.specs.Part.{Stop, past, torn, if_may_end, number_stop, Skips, Stops}
use Rattle.json_grammar.specs.declared.part.Torn.{Torn}
use Rattle.json_grammar.specs.declared.number.InNumber.{InNumber}
use Rattle.json_grammar.specs.declared.number.InNumber.TheVariants.{Start, Minus, Zero, Whole, Point, Fraction, Mark, Sign, Power}
use Rattle.json_grammar.proofs.Passes.{Passes, passes_none, passes_one, skipped}

module _ (n : InNumber) (b : ℕ) where
  pub number_goes : {m : InNumber} → onward n b ≡ Some m → (s : List ℕ) → number_stop n (b ∷ s) ≡ number_stop m s
  unfolding number_stop
  number_goes e s = rw (e, number_stop)

  pub number_ends : onward n b ≡ None → (s : List ℕ) → number_stop n (b ∷ s) ≡ if_may_end n (b ∷ s)
  unfolding number_stop
  number_ends e s = rw (e, number_stop)

pub number_none : (n : InNumber) → number_stop n [] ≡ if_may_end n []
unfolding number_stop
number_none n = refl

-- The number is over at `i`, behind a byte of it where it may end.
pub over_at : (text : List ℕ) (at i : ℕ) (n : InNumber) (r : Result ℕ Torn) {u : Stop} → u ≡ if_may_end n (drop i text) → (may_end n ≡ true → at < i)
    → Stops text i (if_may_end n (drop i text)) r → Stops text (suc at) u r
over_at text at i n (Ok e) {u} p more s = (p ∙ s.0, by (may_end n) more s.0, s.2)
  where
    by : (t : Bool) → (t ≡ true → at < i) → cond t (past (drop i text)) (torn (drop i text)) ≡ past (drop e text) → suc at ≤ e
    by true m q = omega (arith, m refl, s.1)
    by false m q = cc
over_at text at i n (Err q) p more s = (p ∙ s.0, s.1)

-- a digit where digits stand
stays : (n : InNumber) (b : ℕ) → takes_digits n ≡ true → 48 ≤ b → b < 58 → Some n ≡ onward n b
unfolding onward
stays Whole b e l h = grind (arith, nat_tests)
stays Fraction b e l h = grind (arith, nat_tests)
stays Power b e l h = grind (arith, nat_tests)
stays Start b e l h = cc
stays Minus b e l h = cc
stays Zero b e l h = cc
stays Point b e l h = cc
stays Mark b e l h = cc
stays Sign b e l h = cc

pub digit_goes : (n : InNumber) (b : ℕ) → takes_digits n ≡ true → 48 ≤ b → b < 58 → (s : List ℕ) → number_stop n (b ∷ s) ≡ number_stop n s
digit_goes n b e l h = number_goes n b (sym (stays n b e l h))

-- a number that begins with 1 to 9, and its digits
pub whole_passes : {text : List ℕ} {at r : ℕ} → (at < length text) × (onward Start (get_or text at 0) ≡ Some Whole) → Skips (number_stop Whole) text (at + 1) r
    → Passes (number_stop Whole) (number_stop Start) text at r
whole_passes b k = skipped (passes_one (passes_none (number_stop Start) _ _) b.0 (number_goes Start _ b.1)) k
