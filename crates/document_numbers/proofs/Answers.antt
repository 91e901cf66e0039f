-- Which answer a number gets.
use Prim.Native.Nat.{ℕ, ◌+◌, ◌<◌, ◌≤◌}
use mathlib.Core.Path.{◌≡◌, refl, sym, ◌∙◌}
use mathlib.Core.List.{List}
use mathlib.Core.Bool.{Bool, true, false, not, and-false}
use lib.ListN.{length, take, drop}
use lib.Seq.{length-take-le}
use lib.Dec.{leb}
use native.Mathlib.Omega.{arith}
use borrow.Author.Tests.{leb-true, lt-leb, not-true, not-false}
use Rattle.std.specs.Prelude.{Ok, Err}
use Rattle.document_numbers.specs.declared.NumberError.{NumberError}
use Rattle.document_numbers.specs.declared.NumberError.TheVariants.{NotCarried, Outside}
use Rattle.document_numbers.specs.Number.{Integer, Decimal, negative, exponent, carried, counted, padded, up, rounded, all_zero, behind_point, among, integer_in, millionths, amount, decimal_from}
use Rattle.document_numbers.specs.Point.{Parts}
use Rattle.json_grammar.proofs.Truth.{and_left}
use Rattle.document_numbers.proofs.Digits.{padded_least}

-- "at most 18 characters"
module _ (raw : List ℕ) where
  carried_length : carried raw ≡ true → length raw ≤ 18
  unfolding carried
  carried_length e = leb-true (length raw) 18 (and_left (leb (length raw) 18) (not (exponent raw)) e)

-- What stands before the point.
module _ (raw : List ℕ) (point : ℕ) (p : Parts raw point) where
  pub whole_part : point ≡ length (take point raw)
  whole_part = sym (length-take-le point raw p.inside)

  pub whole_length : (is_carried : Bool) → is_carried ≡ carried raw → not is_carried ≡ false → length (take point raw) ≤ 18
  whole_length is_carried k e = omega (arith, whole_part, p.inside, carried_length raw (sym k ∙ not-false is_carried e))

-- From what the code found of a number, in the order in which it looks, to its answer.
module _ (raw : List ℕ) (is_carried : Bool) (k : is_carried ≡ carried raw) where
  module _ (least most : ℕ) where
    pub integer_not_carried : not is_carried ≡ true → Err NotCarried ≡ integer_in least most raw
    unfolding integer_in
    integer_not_carried e = rw (← k, not-true is_carried e)

    module _ (e : not is_carried ≡ false) (is_negative : Bool) (m : is_negative ≡ negative raw) where
      pub integer_negative : is_negative ≡ true → Err Outside ≡ integer_in least most raw
      unfolding integer_in
      integer_negative n = rw (← k, not-false is_carried e, ← m, n)

      pub integer_carried : (point whole more : ℕ) (fraction : List ℕ) (exact : Bool) (r : Integer) → is_negative ≡ false → Parts raw point → whole ≡ counted 0 (take point raw)
          → fraction ≡ behind_point raw → more ≡ up fraction → exact ≡ all_zero fraction → r ≡ among least most (whole + more) exact → r ≡ integer_in least most raw
      unfolding integer_in rounded
      integer_carried point whole more fraction exact r n p w f u z a = a ∙ rw (← k, not-false is_carried e, ← m, n, w, u, z, f, p.before)

  module _ (least : ℕ) where
    pub decimal_not_carried : not is_carried ≡ true → Err NotCarried ≡ decimal_from least raw
    unfolding decimal_from
    decimal_not_carried e = rw (← k, not-true is_carried e)

    module _ (e : not is_carried ≡ false) (fraction : List ℕ) (f : fraction ≡ behind_point raw) (in_millionths : Bool) (z : in_millionths ≡ all_zero (drop 6 fraction)) where
      pub decimal_too_fine : not in_millionths ≡ true → Err NotCarried ≡ decimal_from least raw
      unfolding decimal_from
      decimal_too_fine t = rw (← k, not-false is_carried e, ← f, ← z, not-true in_millionths t)

      module _ (t : not in_millionths ≡ false) (is_negative : Bool) (m : is_negative ≡ negative raw) where
        pub decimal_negative : is_negative ≡ true → Err Outside ≡ decimal_from least raw
        unfolding decimal_from
        decimal_negative n = rw (← k, not-false is_carried e, ← f, ← z, not-false in_millionths t, ← m, n)

        module _ (n : is_negative ≡ false) (point whole : ℕ) (p : Parts raw point) (w : whole ≡ counted 0 (take point raw)) where
          pub decimal_carried : (v : ℕ) (r : Decimal) → v ≡ padded 6 whole fraction → r ≡ amount least v → r ≡ decimal_from least raw
          unfolding decimal_from millionths
          decimal_carried v r q a = a ∙ rw (← k, not-false is_carried e, ← f, ← z, not-false in_millionths t, ← m, n, q, w, p.before)

          pub decimal_over : 999999999999 < whole → Err Outside ≡ decimal_from least raw
          decimal_over h =
              let v = padded 6 whole fraction in
              let g : 999999999999 < v = omega (arith, padded_least 6 whole fraction) in
              decimal_carried v (Err Outside) refl (rw (lt-leb v 999999999999 g, and-false))

pub ruleset parts = (whole_part, whole_length)

pub ruleset integers = (integer_not_carried, integer_negative, integer_carried)

pub ruleset decimals = (decimal_not_carried, decimal_too_fine, decimal_negative, decimal_over, decimal_carried)
