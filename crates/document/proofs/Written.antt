-- Numbers as they are written in a plain text mean what was written.
use mathlib.Core.Path.{◌≡◌, refl, ap, sym, ◌∙◌}
use mathlib.Core.List.{List, [], ◌∷◌}
use mathlib.Core.Bool.{Bool, true, false, not, ◌||◌}
use Prim.Native.Nat.{ℕ, zero, suc, ◌+◌, ◌*◌, ◌/◌, ◌%◌, ◌≤◌, ◌<◌}
use native.Mathlib.Omega.{arith}
use lib.Dec.{eqb, leb}
use lib.ListN.{length, drop, drop_of_length-le}
use borrow.Author.Tests.{leb-true, le-leb, lt-ltb, le-ltb, ne_eqb, eqb-true}
use Rattle.json_grammar.specs.Rows.{choose, look}
use Rattle.document_numbers.specs.Number.{carried, negative, exponent, before_point, behind_point, figure, counted, all_zero, rounded, up, padded, millionths}
use Rattle.document.specs.Schema.{integer, decimal}
use Rattle.document.specs.Spells.{DigitsMean}
use Rattle.document.specs.Plain.{whole_digits, fraction_digits, pointed}
use Rattle.json_grammar.proofs.Truth.{and_both}

-- At most f + 1 digits write n.
abbrev pub Short : ℕ → ℕ → Type 0
Short zero n = n ≤ 9
Short (suc f) n = Short f (n / 10)

-- A digit is no point, no mark and no minus, and counts what it counts.
record Digit (d : ℕ) : Type 0 where
  no_point : eqb (48 + d) 46 ≡ false
  no_upper_e : eqb (48 + d) 69 ≡ false
  no_lower_e : eqb (48 + d) 101 ≡ false
  no_minus : eqb (48 + d) 45 ≡ false
  counts : figure (48 + d) ≡ d

digit : (d : ℕ) → d ≤ 9 → Digit d
unfolding figure look
digit d h = record {
  no_point = ne_eqb (48 + d) 46 (λ e. omega arith);
  no_upper_e = ne_eqb (48 + d) 69 (λ e. omega arith);
  no_lower_e = ne_eqb (48 + d) 101 (λ e. omega arith);
  no_minus = ne_eqb (48 + d) 45 (λ e. omega arith);
  counts = rw (le-ltb (48 + d) 48 (omega arith), lt-ltb (48 + d) 58 (omega arith)) (omega arith);
}

or_false : (a b c : Bool) → a ≡ false → b ≡ false → (a || (b || c)) ≡ c
or_false a b c e f = rw (e, f)

module _ (P : List ℕ → Type 0) where
  -- What holds with one digit more in front holds with all digits of n.
  pub digits_hold : (f n : ℕ) (k : List ℕ) → Short f n → ((d : ℕ) (s : List ℕ) → d ≤ 9 → P s → P ((48 + d) ∷ s)) → P k → P (whole_digits f n k)
  unfolding whole_digits
  digits_hold zero n k h step p = step n k h p
  digits_hold (suc f) n k h step p = go (digits_hold f (n / 10) ((48 + n % 10) ∷ k) h step (step (n % 10) k (omega arith) p)) (leb n 9) refl
    where
      go : P (whole_digits f (n / 10) ((48 + n % 10) ∷ k)) → (b : Bool) → leb n 9 ≡ b → P (choose b (λ _. (48 + n) ∷ k) (λ _. whole_digits f (n / 10) ((48 + n % 10) ∷ k)))
      go q true e = step n k (leb-true n 9 e) p
      go q false e = q

no_exponent : (f n : ℕ) (k : List ℕ) → Short f n → exponent k ≡ false → exponent (whole_digits f n k) ≡ false
unfolding exponent
no_exponent f n k h e = digits_hold (λ s. exponent s ≡ false) f n k h (λ d s i g. let x = digit d i in or_false (eqb (48 + d) 69) (eqb (48 + d) 101) (exponent s) x.no_upper_e x.no_lower_e ∙ g) e

behind_digits : (f n : ℕ) (k r : List ℕ) → Short f n → behind_point k ≡ r → behind_point (whole_digits f n k) ≡ r
unfolding behind_point
behind_digits f n k r h e = digits_hold (λ s. behind_point s ≡ r) f n k h (λ d s i g. let x = digit d i in rw x.no_point g) e

before_digit : (d : ℕ) (k : List ℕ) → d ≤ 9 → before_point ((48 + d) ∷ k) ≡ (48 + d) ∷ before_point k
unfolding before_point
before_digit d k h = let x = digit d h in rw x.no_point refl

before_digits : (f n : ℕ) (k : List ℕ) → Short f n → before_point (whole_digits f n k) ≡ whole_digits f n (before_point k)
unfolding whole_digits
before_digits zero n k h = before_digit n k h
before_digits (suc f) n k h = go (before_digits f (n / 10) ((48 + n % 10) ∷ k) h ∙ ap (λ (s : List ℕ). whole_digits f (n / 10) s) (before_digit (n % 10) k (omega arith))) (leb n 9) refl
  where
    go : before_point (whole_digits f (n / 10) ((48 + n % 10) ∷ k)) ≡ whole_digits f (n / 10) ((48 + n % 10) ∷ before_point k)
        → (b : Bool) → leb n 9 ≡ b → before_point (choose b (λ _. (48 + n) ∷ k) (λ _. whole_digits f (n / 10) ((48 + n % 10) ∷ k))) ≡ choose b (λ _. (48 + n) ∷ before_point k) (λ _. whole_digits f (n / 10) ((48 + n % 10) ∷ before_point k))
    go q true e = before_digit n k (leb-true n 9 e)
    go q false e = q

count_digit : (v d : ℕ) (k : List ℕ) → d ≤ 9 → counted v ((48 + d) ∷ k) ≡ counted (v * 10 + d) k
unfolding counted
count_digit v d k h = let x = digit d h in ap (λ (e : ℕ). counted (v * 10 + e) k) x.counts

count_digits : (f n : ℕ) (k : List ℕ) → Short f n → counted 0 (whole_digits f n k) ≡ counted n k
unfolding whole_digits
count_digits zero n k h = let e : 0 * 10 + n ≡ n = omega arith in count_digit 0 n k h ∙ ap (λ (v : ℕ). counted v k) e
count_digits (suc f) n k h =
    let e : n / 10 * 10 + n % 10 ≡ n = omega arith in
    go (count_digits f (n / 10) ((48 + n % 10) ∷ k) h ∙ count_digit (n / 10) (n % 10) k (omega arith) ∙ ap (λ (v : ℕ). counted v k) e) (leb n 9) refl
  where
    go : counted 0 (whole_digits f (n / 10) ((48 + n % 10) ∷ k)) ≡ counted n k → (b : Bool) → leb n 9 ≡ b → counted 0 (choose b (λ _. (48 + n) ∷ k) (λ _. whole_digits f (n / 10) ((48 + n % 10) ∷ k))) ≡ counted n k
    go q true i = let e : 0 * 10 + n ≡ n = omega arith in count_digit 0 n k (leb-true n 9 i) ∙ ap (λ (v : ℕ). counted v k) e
    go q false i = q

pub digits_length : (f n : ℕ) (k : List ℕ) → length (whole_digits f n k) ≤ suc f + length k
unfolding whole_digits
digits_length zero n k = omega arith
digits_length (suc f) n k = go (digits_length f (n / 10) ((48 + n % 10) ∷ k)) (leb n 9)
  where
    go : length (whole_digits f (n / 10) ((48 + n % 10) ∷ k)) ≤ suc f + suc (length k) → (b : Bool) → length (choose b (λ _. (48 + n) ∷ k) (λ _. whole_digits f (n / 10) ((48 + n % 10) ∷ k))) ≤ suc (suc f) + length k
    go q true = omega arith
    go q false = omega arith

not_minus : (f n : ℕ) (k : List ℕ) → Short f n → negative (whole_digits f n k) ≡ false
unfolding whole_digits
not_minus zero n k h = (digit n h).no_minus
not_minus (suc f) n k h = go (not_minus f (n / 10) ((48 + n % 10) ∷ k) h) (leb n 9) refl
  where
    go : negative (whole_digits f (n / 10) ((48 + n % 10) ∷ k)) ≡ false → (b : Bool) → leb n 9 ≡ b → negative (choose b (λ _. (48 + n) ∷ k) (λ _. whole_digits f (n / 10) ((48 + n % 10) ∷ k))) ≡ false
    go q true e = (digit n (leb-true n 9 e)).no_minus
    go q false e = q

pub six_digits : (n : ℕ) → n ≤ 999999 → Short 5 n
six_digits n h = omega arith

no_bytes : before_point [] ≡ []
unfolding before_point
no_bytes = refl

nothing_behind : behind_point [] ≡ []
unfolding behind_point
nothing_behind = refl

no_mark : exponent [] ≡ false
unfolding exponent
no_mark = refl

counted_all : (n : ℕ) → counted n [] ≡ n
unfolding counted
counted_all n = refl

all_zero_none : all_zero [] ≡ true
unfolding all_zero
all_zero_none = refl

-- An integer.
pub whole_means : (lo hi n : ℕ) → n ≤ 999999 → DigitsMean (integer lo hi) (whole_digits 5 n []) n
unfolding carried rounded
whole_means lo hi n h =
    let s = six_digits n h in
    let e = digits_length 5 n [] in
    let b : before_point (whole_digits 5 n []) ≡ whole_digits 5 n [] = before_digits 5 n [] s ∙ ap (λ (k : List ℕ). whole_digits 5 n k) no_bytes in
    let r : behind_point (whole_digits 5 n []) ≡ [] = behind_digits 5 n [] [] s nothing_behind in
    let c : counted 0 (whole_digits 5 n []) ≡ n = count_digits 5 n [] s ∙ counted_all n in (
      and_both (le-leb (length (whole_digits 5 n [])) 18 (omega arith)) (ap not (no_exponent 5 n [] s no_mark)),
      not_minus 5 n [] s,
      ap (λ (x : List ℕ). counted 0 x + up (behind_point (whole_digits 5 n []))) b ∙ ap (λ (x : List ℕ). counted 0 (whole_digits 5 n []) + up x) r ∙ (omega arith),
    )

-- The digits behind the point.
abbrev pub Falls : ℕ → ℕ → ℕ → Type 0
Falls zero scale n = Unit {0}
Falls (suc f) scale n = (n / scale ≤ 9) × Falls f (scale / 10) (n % scale)

pub falls : (n : ℕ) → n ≤ 999999 → Falls 6 100000 n
falls n h = (omega arith, (omega arith, (omega arith, (omega arith, (omega arith, (omega arith, tt))))))

module _ (P : List ℕ → Type 0) (step : (d : ℕ) (s : List ℕ) → d ≤ 9 → P s → P ((48 + d) ∷ s)) (p : P []) where
  pub fraction_holds : (f scale n : ℕ) → Falls f scale n → P (fraction_digits f scale n)
  unfolding fraction_digits
  fraction_holds zero scale n h = p
  fraction_holds (suc f) scale n h = go (step (n / scale) (fraction_digits f (scale / 10) (n % scale)) h.0 (fraction_holds f (scale / 10) (n % scale) h.1)) (eqb n 0)
    where
      go : P ((48 + n / scale) ∷ fraction_digits f (scale / 10) (n % scale)) → (b : Bool) → P (choose b (λ _. []) (λ _. (48 + n / scale) ∷ fraction_digits f (scale / 10) (n % scale)))
      go q true = p
      go q false = q

no_exponent_behind : (f scale n : ℕ) → Falls f scale n → exponent (fraction_digits f scale n) ≡ false
unfolding exponent
no_exponent_behind f scale n h = fraction_holds (λ s. exponent s ≡ false) (λ d s i g. let x = digit d i in or_false (eqb (48 + d) 69) (eqb (48 + d) 101) (exponent s) x.no_upper_e x.no_lower_e ∙ g) refl f scale n h

pub fraction_length : (f scale n : ℕ) → length (fraction_digits f scale n) ≤ f
unfolding fraction_digits
fraction_length zero scale n = omega arith
fraction_length (suc f) scale n = go (fraction_length f (scale / 10) (n % scale)) (eqb n 0)
  where
    go : length (fraction_digits f (scale / 10) (n % scale)) ≤ f → (b : Bool) → length (choose b (λ _. []) (λ _. (48 + n / scale) ∷ fraction_digits f (scale / 10) (n % scale))) ≤ suc f
    go q true = omega arith
    go q false = omega arith

pad_digit : (f v d : ℕ) (s : List ℕ) → d ≤ 9 → padded (suc f) v ((48 + d) ∷ s) ≡ padded f (v * 10 + d) s
unfolding padded
pad_digit f v d s h = let x = digit d h in ap (λ (e : ℕ). padded f (v * 10 + e) s) x.counts

pad_zero : (v : ℕ) → padded 0 v [] ≡ v
unfolding padded
pad_zero v = refl

pad_nothing : (f v : ℕ) → padded (suc f) v [] ≡ padded f (v * 10) []
unfolding padded
pad_nothing f v = refl

empty_0 : (v : ℕ) → padded 0 v [] ≡ v * 1
empty_0 v = pad_zero v ∙ (omega arith)

fraction_0 : (v n : ℕ) → n < 1 → padded 0 v (fraction_digits 0 0 n) ≡ v * 1 + n
unfolding fraction_digits
fraction_0 v n h = pad_zero v ∙ (omega arith)

empty_1 : (v : ℕ) → padded 1 v [] ≡ v * 10
empty_1 v = pad_nothing 0 v ∙ empty_0 (v * 10) ∙ (omega arith)

fraction_1 : (v n : ℕ) → n < 10 → padded 1 v (fraction_digits 1 1 n) ≡ v * 10 + n
unfolding fraction_digits
fraction_1 v n h = go (eqb n 0) refl
  where
    go : (b : Bool) → eqb n 0 ≡ b → padded 1 v (choose b (λ _. []) (λ _. (48 + n / 1) ∷ fraction_digits 0 0 (n % 1))) ≡ v * 10 + n
    go true e = let z : n ≡ 0 = eqb-true n 0 e in empty_1 v ∙ (omega arith)
    go false e = pad_digit 0 v (n / 1) (fraction_digits 0 0 (n % 1)) (omega arith) ∙ fraction_0 (v * 10 + n / 1) (n % 1) (omega arith) ∙ (omega arith)

empty_2 : (v : ℕ) → padded 2 v [] ≡ v * 100
empty_2 v = pad_nothing 1 v ∙ empty_1 (v * 10) ∙ (omega arith)

fraction_2 : (v n : ℕ) → n < 100 → padded 2 v (fraction_digits 2 10 n) ≡ v * 100 + n
unfolding fraction_digits
fraction_2 v n h = go (eqb n 0) refl
  where
    go : (b : Bool) → eqb n 0 ≡ b → padded 2 v (choose b (λ _. []) (λ _. (48 + n / 10) ∷ fraction_digits 1 1 (n % 10))) ≡ v * 100 + n
    go true e = let z : n ≡ 0 = eqb-true n 0 e in empty_2 v ∙ (omega arith)
    go false e = pad_digit 1 v (n / 10) (fraction_digits 1 1 (n % 10)) (omega arith) ∙ fraction_1 (v * 10 + n / 10) (n % 10) (omega arith) ∙ (omega arith)

empty_3 : (v : ℕ) → padded 3 v [] ≡ v * 1000
empty_3 v = pad_nothing 2 v ∙ empty_2 (v * 10) ∙ (omega arith)

fraction_3 : (v n : ℕ) → n < 1000 → padded 3 v (fraction_digits 3 100 n) ≡ v * 1000 + n
unfolding fraction_digits
fraction_3 v n h = go (eqb n 0) refl
  where
    go : (b : Bool) → eqb n 0 ≡ b → padded 3 v (choose b (λ _. []) (λ _. (48 + n / 100) ∷ fraction_digits 2 10 (n % 100))) ≡ v * 1000 + n
    go true e = let z : n ≡ 0 = eqb-true n 0 e in empty_3 v ∙ (omega arith)
    go false e = pad_digit 2 v (n / 100) (fraction_digits 2 10 (n % 100)) (omega arith) ∙ fraction_2 (v * 10 + n / 100) (n % 100) (omega arith) ∙ (omega arith)

empty_4 : (v : ℕ) → padded 4 v [] ≡ v * 10000
empty_4 v = pad_nothing 3 v ∙ empty_3 (v * 10) ∙ (omega arith)

fraction_4 : (v n : ℕ) → n < 10000 → padded 4 v (fraction_digits 4 1000 n) ≡ v * 10000 + n
unfolding fraction_digits
fraction_4 v n h = go (eqb n 0) refl
  where
    go : (b : Bool) → eqb n 0 ≡ b → padded 4 v (choose b (λ _. []) (λ _. (48 + n / 1000) ∷ fraction_digits 3 100 (n % 1000))) ≡ v * 10000 + n
    go true e = let z : n ≡ 0 = eqb-true n 0 e in empty_4 v ∙ (omega arith)
    go false e = pad_digit 3 v (n / 1000) (fraction_digits 3 100 (n % 1000)) (omega arith) ∙ fraction_3 (v * 10 + n / 1000) (n % 1000) (omega arith) ∙ (omega arith)

empty_5 : (v : ℕ) → padded 5 v [] ≡ v * 100000
empty_5 v = pad_nothing 4 v ∙ empty_4 (v * 10) ∙ (omega arith)

fraction_5 : (v n : ℕ) → n < 100000 → padded 5 v (fraction_digits 5 10000 n) ≡ v * 100000 + n
unfolding fraction_digits
fraction_5 v n h = go (eqb n 0) refl
  where
    go : (b : Bool) → eqb n 0 ≡ b → padded 5 v (choose b (λ _. []) (λ _. (48 + n / 10000) ∷ fraction_digits 4 1000 (n % 10000))) ≡ v * 100000 + n
    go true e = let z : n ≡ 0 = eqb-true n 0 e in empty_5 v ∙ (omega arith)
    go false e = pad_digit 4 v (n / 10000) (fraction_digits 4 1000 (n % 10000)) (omega arith) ∙ fraction_4 (v * 10 + n / 10000) (n % 10000) (omega arith) ∙ (omega arith)

empty_6 : (v : ℕ) → padded 6 v [] ≡ v * 1000000
empty_6 v = pad_nothing 5 v ∙ empty_5 (v * 10) ∙ (omega arith)

fraction_6 : (v n : ℕ) → n < 1000000 → padded 6 v (fraction_digits 6 100000 n) ≡ v * 1000000 + n
unfolding fraction_digits
fraction_6 v n h = go (eqb n 0) refl
  where
    go : (b : Bool) → eqb n 0 ≡ b → padded 6 v (choose b (λ _. []) (λ _. (48 + n / 100000) ∷ fraction_digits 5 10000 (n % 100000))) ≡ v * 1000000 + n
    go true e = let z : n ≡ 0 = eqb-true n 0 e in empty_6 v ∙ (omega arith)
    go false e = pad_digit 5 v (n / 100000) (fraction_digits 5 10000 (n % 100000)) (omega arith) ∙ fraction_5 (v * 10 + n / 100000) (n % 100000) (omega arith) ∙ (omega arith)

-- A decimal.
record Point (n : ℕ) (k : List ℕ) : Type 0 where
  before : before_point k ≡ []
  behind : behind_point k ≡ fraction_digits 6 100000 n
  unmarked : exponent k ≡ false
  short : length k ≤ 7

a_point : (n : ℕ) → n ≤ 999999 → Point n (pointed n)
unfolding before_point behind_point exponent fraction_digits
a_point n h = go (eqb n 0) refl
  where
    go : (b : Bool) → eqb n 0 ≡ b → Point n (choose b (λ _. []) (λ _. 46 ∷ fraction_digits 6 100000 n))
    go true e = let z : n ≡ 0 = eqb-true n 0 e in record { before = refl; behind = sym (ap (λ (m : ℕ). fraction_digits 6 100000 m) z); unmarked = refl; short = omega arith }
    go false e = let l = fraction_length 6 100000 n in record { before = refl; behind = refl; unmarked = no_exponent_behind 6 100000 n (falls n h); short = omega arith }

pub amount_means : (lo n : ℕ) → n ≤ 999999999999 → DigitsMean (decimal lo) (whole_digits 5 (n / 1000000) (pointed (n % 1000000))) n
unfolding carried millionths
amount_means lo n h =
    let w = n / 1000000 in let r = n % 1000000 in let k = pointed (n % 1000000) in
    let s : Short 5 (n / 1000000) = six_digits (n / 1000000) (omega arith) in
    let p : Point (n % 1000000) (pointed (n % 1000000)) = a_point (n % 1000000) (omega arith) in
    let l = digits_length 5 (n / 1000000) (pointed (n % 1000000)) in
    let i = p.short in
    let b : before_point (whole_digits 5 (n / 1000000) (pointed (n % 1000000))) ≡ whole_digits 5 (n / 1000000) [] = before_digits 5 (n / 1000000) (pointed (n % 1000000)) s ∙ ap (λ (x : List ℕ). whole_digits 5 (n / 1000000) x) p.before in
    let q : behind_point (whole_digits 5 (n / 1000000) (pointed (n % 1000000))) ≡ fraction_digits 6 100000 (n % 1000000) = behind_digits 5 (n / 1000000) (pointed (n % 1000000)) (fraction_digits 6 100000 (n % 1000000)) s p.behind in
    let c : counted 0 (whole_digits 5 (n / 1000000) []) ≡ n / 1000000 = count_digits 5 (n / 1000000) [] s ∙ counted_all (n / 1000000) in
    let z : drop 6 (fraction_digits 6 100000 (n % 1000000)) ≡ [] = drop_of_length-le (fraction_digits 6 100000 (n % 1000000)) (fraction_length 6 100000 (n % 1000000)) in (
      and_both (and_both (le-leb (length (whole_digits 5 (n / 1000000) (pointed (n % 1000000)))) 18 (omega arith)) (ap not (no_exponent 5 (n / 1000000) (pointed (n % 1000000)) s p.unmarked)))
          (ap (λ (x : List ℕ). all_zero (drop 6 x)) q ∙ ap all_zero z ∙ all_zero_none),
      not_minus 5 (n / 1000000) (pointed (n % 1000000)) s,
      ap (λ (x : List ℕ). padded 6 (counted 0 x) (behind_point (whole_digits 5 (n / 1000000) (pointed (n % 1000000))))) b
          ∙ ap (λ (x : List ℕ). padded 6 (counted 0 (whole_digits 5 (n / 1000000) [])) x) q
          ∙ ap (λ (v : ℕ). padded 6 v (fraction_digits 6 100000 (n % 1000000))) c
          ∙ fraction_6 (n / 1000000) (n % 1000000) (omega arith) ∙ (omega arith),
    )
