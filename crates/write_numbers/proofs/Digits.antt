-- Digits from the front on.
use mathlib.Core.Path.{◌≡◌, refl, sym, ◌∙◌}
use mathlib.Core.List.{List, [], ◌∷◌, ◌++◌}
use mathlib.Core.Bool.{Bool, true, false}
use Prim.Native.Nat.{ℕ, zero, suc, ◌+◌, ◌/◌, ◌%◌, ◌<◌, ◌≤◌}
use native.Mathlib.Omega.{arith}
use borrow.Author.Tests.{leb-true, le-leb, eq-eqb, ne_eqb}
use lib.Dec.{leb}
use Rattle.json_grammar.specs.Rows.{choose}
use Rattle.document.specs.Spell.{spell}
use Rattle.document.specs.Plain.{whole_digits, fraction_digits, pointed, whole, amount, two, clock, time_text}
use Rattle.write_numbers.specs.Tens.{tens}

-- ---- hh:mm:ss
pub two_digits : {d e : ℕ} (n : ℕ) (k : List ℕ) → d ≡ 48 + n / 10 % 10 → e ≡ 48 + n % 10 → two (n % 100) k ≡ d ∷ e ∷ k
two_digits {d} {e} n k p q =
    let a : d ≡ 48 + n % 100 / 10 = omega arith in
    let b : e ≡ 48 + n % 100 % 10 = omega arith in
    rw (a, b)

pub clock_twos : (n : ℕ) (k : List ℕ) → clock (n % 6000) k ≡ two (n / 60 % 100) (58 ∷ two (n % 60 % 100) k)
clock_twos n k =
    let a : n / 60 % 100 ≡ n % 6000 / 60 = omega arith in
    let b : n % 60 % 100 ≡ n % 6000 % 60 = omega arith in
    rw (a, b)

pub time_parts : (n : ℕ) (k : List ℕ) → time_text (n % 360000) k ≡ clock (n / 60 % 6000) (58 ∷ two (n % 60 % 100) k)
time_parts n k =
    let a : n / 60 % 6000 ≡ n % 360000 / 60 = omega arith in
    let b : n % 60 % 100 ≡ n % 360000 % 60 = omega arith in
    rw (a, b)

-- ---- whole numbers
-- The digits of n in front of the last.
more : ℕ → ℕ → List ℕ → List ℕ
unfolding whole_digits
more f n k = choose (leb n 9) (λ _. k) (λ _. whole_digits f (n / 10) k)

last_apart : (f n : ℕ) (k : List ℕ) → whole_digits (suc f) n k ≡ more f n ((48 + n % 10) ∷ k)
unfolding whole_digits more
last_apart f n k = go (leb n 9) refl
  where
    go : (b : Bool) → leb n 9 ≡ b → choose b (λ _. (48 + n) ∷ k) (λ _. whole_digits f (n / 10) ((48 + n % 10) ∷ k)) ≡ choose b (λ _. (48 + n % 10) ∷ k) (λ _. whole_digits f (n / 10) ((48 + n % 10) ∷ k))
    go true e = let h = leb-true n 9 e in let s : n % 10 ≡ n = omega arith in rw s
    go false e = refl

more_apart : (f n : ℕ) (k : List ℕ) → more (suc f) n k ≡ more f (n / 10) (tens n k)
unfolding more tens
more_apart f n k = go (leb n 9) refl
  where
    go : (b : Bool) → leb n 9 ≡ b → choose b (λ _. k) (λ _. whole_digits (suc f) (n / 10) k) ≡ more f (n / 10) (choose b (λ _. k) (λ _. (48 + n / 10 % 10) ∷ k))
    go true e = let h = leb-true n 9 e in rw (le-leb (n / 10) 9 (omega arith))
    go false e = last_apart f (n / 10) k

more_last : (n : ℕ) (k : List ℕ) → n ≤ 99 → more 0 n k ≡ tens n k
unfolding more whole_digits tens
more_last n k h = let e : n / 10 % 10 ≡ n / 10 = omega arith in rw e

six_digits : (n : ℕ) (k : List ℕ) → n < 1000000 → whole_digits 5 n k ≡ tens (n / 10000) (tens (n / 1000) (tens (n / 100) (tens (n / 10) (tens n ((48 + n % 10) ∷ k)))))
six_digits n k h =
    let a : n / 100 ≡ n / 10 / 10 = omega arith in
    let b : n / 1000 ≡ n / 10 / 10 / 10 = omega arith in
    let c : n / 10000 ≡ n / 10 / 10 / 10 / 10 = omega arith in
    let two_left : n / 10 / 10 / 10 / 10 ≤ 99 = omega arith in
    rw (last_apart 4 n k, more_apart 3 n, more_apart 2 (n / 10), more_apart 1 (n / 10 / 10), more_apart 0 (n / 10 / 10 / 10), more_last (n / 10 / 10 / 10 / 10), c, b, a)

digits_append : (f n : ℕ) (k l : List ℕ) → whole_digits f n k ++ l ≡ whole_digits f n (k ++ l)
unfolding whole_digits
digits_append zero n k l = refl
digits_append (suc f) n k l = go (leb n 9) (digits_append f (n / 10) ((48 + n % 10) ∷ k) l)
  where
    go : (b : Bool) → whole_digits f (n / 10) ((48 + n % 10) ∷ k) ++ l ≡ whole_digits f (n / 10) ((48 + n % 10) ∷ k ++ l)
        → choose b (λ _. (48 + n) ∷ k) (λ _. whole_digits f (n / 10) ((48 + n % 10) ∷ k)) ++ l ≡ choose b (λ _. (48 + n) ∷ k ++ l) (λ _. whole_digits f (n / 10) ((48 + n % 10) ∷ k ++ l))
    go true e = refl
    go false e = e

pub whole_tens : {d : ℕ} (n : ℕ) (k : List ℕ) → n < 1000000 → d ≡ 48 + n % 10
    → spell (whole n) k ≡ tens (n / 10000) (tens (n / 1000) (tens (n / 100) (tens (n / 10) (tens n (d ∷ k)))))
unfolding spell
whole_tens n k h e = rw (e, digits_append 5 n [] k) (six_digits n k h)

-- ---- decimals
spell_amount : (m : ℕ) (k : List ℕ) → spell (amount (m % 1000000000000)) k ≡ spell (whole (m / 1000000 % 1000000)) (pointed (m % 1000000) ++ k)
unfolding spell
spell_amount m k =
    let a : m % 1000000000000 / 1000000 ≡ m / 1000000 % 1000000 = omega arith in
    let b : m % 1000000000000 % 1000000 ≡ m % 1000000 = omega arith in
    rw (a, b) (digits_append 5 (m / 1000000 % 1000000) (pointed (m % 1000000)) k ∙ sym (digits_append 5 (m / 1000000 % 1000000) [] (pointed (m % 1000000) ++ k)))

pub amount_bare : (m : ℕ) (k : List ℕ) → m % 1000000 ≤ 0 → spell (amount (m % 1000000000000)) k ≡ spell (whole (m / 1000000 % 1000000)) k
amount_bare m k e = rw (eq-eqb (m % 1000000) 0 (omega arith)) at (spell_amount m k)

pub amount_pointed : (m : ℕ) (k : List ℕ) → 0 < m % 1000000 → spell (amount (m % 1000000000000)) k ≡ spell (whole (m / 1000000 % 1000000)) (46 ∷ fraction_digits 6 100000 (m % 1000000) ++ k)
amount_pointed m k e = rw (ne_eqb (m % 1000000) 0 (λ z. omega (arith, z))) at (spell_amount m k)
