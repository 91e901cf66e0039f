-- Numbers of a plain text are numbers by JSON's grammar.
use Prim.Native.Nat.{ℕ, zero, suc, ◌+◌, ◌/◌, ◌%◌, ◌≤◌, ◌<◌}
use mathlib.Core.Path.{◌≡◌, refl, sym}
use mathlib.Core.List.{List, [], ◌∷◌, ◌++◌}
use mathlib.Core.Bool.{Bool, true, false, true≢false}
use native.Mathlib.Omega.{arith}
use lib.Dec.{eqb, leb}
use borrow.Author.Tests.{leb-true, leb-false}
use Rattle.json_grammar.specs.Rows.{look, choose}
use Rattle.json_grammar.specs.Byte.{is_numeric}
use Rattle.json_grammar.specs.Number.{onward, may_end}
use Rattle.json_grammar.specs.Grammar.{Digits}
use Rattle.json_grammar.specs.Grammar as G
use Rattle.json_grammar.specs.declared.number.InNumber.{InNumber}
use Rattle.json_grammar.specs.declared.number.InNumber.TheVariants.{Start, Zero, Whole, Point, Fraction}
use Rattle.std.specs.Prelude.{Option, Some}
use Rattle.json_grammar.proofs.Rows.{between}
use Rattle.json_laws.proofs.Tables.{rows_from}
use Rattle.document.specs.Plain.{whole_digits, fraction_digits, pointed}
use Rattle.document.proofs.Written.{Short, six_digits, Falls, falls, fraction_holds}

-- What stands behind a number is no byte of numbers.
abbrev pub Ends : List ℕ → Type 0
Ends [] = Unit {0}
Ends (b ∷ s) = is_numeric b ≡ false

abbrev pub Goes : InNumber → List ℕ → Type 0
Goes n raw = (k : List ℕ) → Ends k → Digits n raw (raw ++ k) k

abbrev pub Numeral : List ℕ → Type 0
Numeral raw = Goes Start raw

ends : (n : InNumber) → may_end n ≡ true → Goes n []
ends n e [] h = G.over e
ends n e (b ∷ k) h = G.stop e h

goes : (n m : InNumber) (b : ℕ) (s : List ℕ) → onward n b ≡ Some m → Goes m s → Goes n (b ∷ s)
goes n m b s e g k h = G.next e (g k h)

-- Digits.
first_digit_lem : (d : ℕ) → 1 ≤ d → d ≤ 9 → onward Start (48 + d) ≡ Some Whole
unfolding onward look
first_digit_lem d p q = sym (between 49 58 (Option InNumber) (48 + d) (Some Whole) (rows_from 0 (onward Start) (45 ∷ 46 ∷ 48 ∷ 49 ∷ 58 ∷ [])) (omega arith) (omega arith) refl)

digit_more : (d : ℕ) → d ≤ 9 → onward Whole (48 + d) ≡ Some Whole
unfolding onward look
digit_more d q = sym (between 48 58 (Option InNumber) (48 + d) (Some Whole) (rows_from 0 (onward Whole) (46 ∷ 47 ∷ 48 ∷ 58 ∷ 69 ∷ 70 ∷ 101 ∷ 102 ∷ [])) (omega arith) (omega arith) refl)

digit_behind : (d : ℕ) → d ≤ 9 → onward Point (48 + d) ≡ Some Fraction
unfolding onward look
digit_behind d q = sym (between 48 58 (Option InNumber) (48 + d) (Some Fraction) (rows_from 0 (onward Point) (48 ∷ 58 ∷ [])) (omega arith) (omega arith) refl)

digit_further : (d : ℕ) → d ≤ 9 → onward Fraction (48 + d) ≡ Some Fraction
unfolding onward look
digit_further d q = sym (between 48 58 (Option InNumber) (48 + d) (Some Fraction) (rows_from 0 (onward Fraction) (48 ∷ 58 ∷ 69 ∷ 70 ∷ 101 ∷ 102 ∷ [])) (omega arith) (omega arith) refl)

a_zero : onward Start 48 ≡ Some Zero
unfolding onward look
a_zero = refl

point_whole : onward Whole 46 ≡ Some Point
unfolding onward look
point_whole = refl

point_zero : onward Zero 46 ≡ Some Point
unfolding onward look
point_zero = refl

-- Whole digits in front of what may follow them.
some_digits : (f n : ℕ) (k : List ℕ) → Short f n → 1 ≤ n → Goes Whole k → Numeral (whole_digits f n k)
unfolding whole_digits
some_digits zero n k h p g = goes Start Whole (48 + n) k (first_digit_lem n p h) g
some_digits (suc f) n k h p g =
    go (λ l. some_digits f (n / 10) ((48 + n % 10) ∷ k) h (omega arith) (goes Whole Whole (48 + n % 10) k (digit_more (n % 10) (omega arith)) g)) (leb n 9) refl
  where
    go : (9 < n → Numeral (whole_digits f (n / 10) ((48 + n % 10) ∷ k))) → (b : Bool) → leb n 9 ≡ b → Numeral (choose b (λ _. (48 + n) ∷ k) (λ _. whole_digits f (n / 10) ((48 + n % 10) ∷ k)))
    go more true e = goes Start Whole (48 + n) k (first_digit_lem n p (leb-true n 9 e)) g
    go more false e = more (leb-false n 9 e)

no_digits : (k : List ℕ) → Goes Zero k → Numeral (whole_digits 5 0 k)
unfolding whole_digits
no_digits k g = goes Start Zero 48 k a_zero g

digits_go : (n : ℕ) (k : List ℕ) → n ≤ 999999 → Goes Zero k → Goes Whole k → Numeral (whole_digits 5 n k)
digits_go zero k h z g = no_digits k z
digits_go (suc n) k h z g = some_digits 5 (suc n) k (six_digits (suc n) h) (omega arith) g

pub whole_numeral : (n : ℕ) → n ≤ 999999 → Numeral (whole_digits 5 n [])
whole_numeral n h = digits_go n [] h (ends Zero refl) (ends Whole refl)

-- Behind the point.
fraction_goes : (n : ℕ) → n ≤ 999999 → eqb n 0 ≡ false → Goes Point (fraction_digits 6 100000 n)
unfolding fraction_digits
fraction_goes n h e = go (eqb n 0) e (falls n h)
  where
    go : (b : Bool) → b ≡ false → Falls 6 100000 n → Goes Point (choose b (λ _. []) (λ _. (48 + n / 100000) ∷ fraction_digits 5 10000 (n % 100000)))
    go true f l = absurd (true≢false f)
    go false f l = goes Point Fraction (48 + n / 100000) (fraction_digits 5 10000 (n % 100000)) (digit_behind (n / 100000) l.0)
        (fraction_holds (λ s. Goes Fraction s) (λ d s i g. goes Fraction Fraction (48 + d) s (digit_further d i) g) (ends Fraction refl) 5 10000 (n % 100000) l.1)

module _ (m : InNumber) (may : may_end m ≡ true) (on : onward m 46 ≡ Some Point) where
  pointed_goes : (n : ℕ) → n ≤ 999999 → Goes m (pointed n)
  pointed_goes n h = go (eqb n 0) refl
    where
      go : (b : Bool) → eqb n 0 ≡ b → Goes m (choose b (λ _. []) (λ _. 46 ∷ fraction_digits 6 100000 n))
      go true e = ends m may
      go false e = goes m Point 46 (fraction_digits 6 100000 n) on (fraction_goes n h e)

pub amount_numeral : (n : ℕ) → n ≤ 999999999999 → Numeral (whole_digits 5 (n / 1000000) (pointed (n % 1000000)))
amount_numeral n h = digits_go (n / 1000000) (pointed (n % 1000000)) (omega arith) (pointed_goes Zero refl point_zero (n % 1000000) (omega arith)) (pointed_goes Whole refl point_whole (n % 1000000) (omega arith))
