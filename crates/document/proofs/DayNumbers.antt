-- The number of a day: how great it is, and that it grows by one from day to day.
use mathlib.Core.Path.{◌≡◌, refl, ap, ◌∙◌}
use mathlib.Core.Bool.{Bool, true, false, cond}
use Prim.Native.Nat.{ℕ, zero, suc, ◌+◌, ◌*◌, ◌-◌, ◌/◌, ◌%◌, ◌≤◌, ◌<◌}
use native.Mathlib.Omega.{arith}
use native.Mathlib.Numerals.{unary_clauses}
use lib.Dec.{eqb, leb}
use borrow.Author.Tests.{leb-false, eqb-true, eqb-false}
use Rattle.document.specs.Posology.{Day}
use Rattle.document.specs.Date.{leap, days_in, day_at, is_day}
use Rattle.document.specs.Moments.{days_of_years, days_of_months, day_number, tomorrow}
use Rattle.document.proofs.WrittenDates.{month_days, day_parts, small_day}

-- How great the numbers get, for a machine's word.
years_small : (y : ℕ) → days_of_years y ≤ 366 * y
unfolding days_of_years
years_small zero = omega arith
years_small (suc y) = go (leap y) (years_small y)
  where
    go : (b : Bool) → days_of_years y ≤ 366 * y → days_of_years y + cond b 366 365 ≤ 366 * suc y
    go true h = omega arith
    go false h = omega arith

pub months_small : (y m : ℕ) → days_of_months y m ≤ 31 * m
unfolding days_of_months
months_small y zero = omega arith
months_small y (suc m) = let h = months_small y m in let k = month_days y m in omega arith

pub month_more : (y m : ℕ) → days_of_months y m + days_in y m ≡ days_of_months y (m + 1)
unfolding days_of_months
month_more y m = simp unary_clauses refl

pub number_small : (y m d : ℕ) → y < 65536 → m < 256 → d < 256 → day_number (day_at y m d) < 24000000
unfolding day_number
number_small y m d h k l = let years = years_small y in let months = months_small y m in omega arith

-- Leap years without counting: every 4th, but of every 100th only every 400th.
abbrev counted : ℕ → ℕ
counted y = y * 365 + (y + 3) / 4 - (y + 99) / 100 + (y + 399) / 400

a_positive : (n : ℕ) → (n ≡ 0 → ⊥) → 1 ≤ n
a_positive zero h = absurd (h refl)
a_positive (suc n) h = omega arith

counted_next : (y : ℕ) → counted (suc y) ≡ counted y + cond (leap y) 366 365
unfolding leap
counted_next y = go (eqb (y % 400) 0) (eqb (y % 100) 0) (eqb (y % 4) 0) refl refl refl
  where
    4th : y % 4 ≡ 0 → (suc y + 3) / 4 ≡ (y + 3) / 4 + 1
    4th e = omega arith

    no_4th : 1 ≤ y % 4 → (suc y + 3) / 4 ≡ (y + 3) / 4 + 0
    no_4th h = omega arith

    100th : y % 100 ≡ 0 → (suc y + 99) / 100 ≡ (y + 99) / 100 + 1
    100th e = omega arith

    no_100th : 1 ≤ y % 100 → (suc y + 99) / 100 ≡ (y + 99) / 100 + 0
    no_100th h = omega arith

    400th : y % 400 ≡ 0 → (suc y + 399) / 400 ≡ (y + 399) / 400 + 1
    400th e = omega arith

    no_400th : 1 ≤ y % 400 → (suc y + 399) / 400 ≡ (y + 399) / 400 + 0
    no_400th h = omega arith

    fewer : (y + 99) / 100 ≤ (y + 3) / 4
    fewer = omega arith

    more : (a b c p q r p₁ q₁ r₁ : ℕ) → b ≤ a → q ≤ p → p₁ ≡ p + a → q₁ ≡ q + b → r₁ ≡ r + c
        → suc y * 365 + p₁ - q₁ + r₁ ≡ y * 365 + p - q + r + (365 + a - b + c)
    more a b c p q r p₁ q₁ r₁ h k e f g = omega arith

    go : (a b c : Bool) → eqb (y % 400) 0 ≡ a → eqb (y % 100) 0 ≡ b → eqb (y % 4) 0 ≡ c
        → counted (suc y) ≡ counted y + cond (cond a true (cond b false c)) 366 365
    go true b c e f g =
        let h : y % 400 ≡ 0 = eqb-true _ _ e in
        more 1 1 1 _ _ _ _ _ _ (omega arith) fewer (4th (omega arith)) (100th (omega arith)) (400th h)
    go false true c e f g =
        let h : y % 100 ≡ 0 = eqb-true _ _ f in
        more 1 1 0 _ _ _ _ _ _ (omega arith) fewer (4th (omega arith)) (100th h) (no_400th (a_positive _ (eqb-false _ _ e)))
    go false false true e f g =
        let h : 1 ≤ y % 100 = a_positive _ (eqb-false _ _ f) in
        more 1 0 0 _ _ _ _ _ _ (omega arith) fewer (4th (eqb-true _ _ g)) (no_100th h) (no_400th (omega arith))
    go false false false e f g =
        let h : 1 ≤ y % 4 = a_positive _ (eqb-false _ _ g) in
        more 0 0 0 _ _ _ _ _ _ (omega arith) fewer (no_4th h) (no_100th (omega arith)) (no_400th (omega arith))

pub years_counted : (y : ℕ) → counted y ≡ days_of_years y
unfolding days_of_years
years_counted zero = refl
years_counted (suc y) = counted_next y ∙ ap (λ (n : ℕ). n + cond (leap y) 366 365) (years_counted y)

-- The months of a year are its days.
of_12_months : (y : ℕ) → days_of_months y 12 + days_in y 12 ≡ cond (leap y) 366 365
unfolding days_of_months days_in
of_12_months y = go (leap y)
  where
    go : (b : Bool) → 0 + 0 + 31 + cond b 29 28 + 31 + 30 + 31 + 30 + 31 + 31 + 30 + 31 + 30 + 31 ≡ cond b 366 365
    go true = refl
    go false = refl

-- From the last day of a year to the first of the next.
year_turn : (y m n : ℕ) → m ≡ 12 → n ≡ days_in y m → day_number (day_at (suc y) 1 1) ≡ day_number (day_at y m n) + 1
unfolding day_number days_of_years days_of_months days_in
year_turn y m n e f = rw (f, e) (ends (days_of_years y) (days_of_months y 12) (days_in y 12) (of_12_months y))
  where
    ends : (a b c : ℕ) {d : ℕ} → b + c ≡ d → a + d + 0 + 1 ≡ a + b + c + 1
    ends a b c e = omega arith

pub next_number : (d : Day) → is_day d ≡ true → day_number (tomorrow d) ≡ day_number d + 1
unfolding day_number days_of_months
next_number d v = go (leb (suc d.day) (days_in d.year d.month)) (leb (suc d.month) 12) refl refl
  where
    go : (a b : Bool) → leb (suc d.day) (days_in d.year d.month) ≡ a → leb (suc d.month) 12 ≡ b
        → day_number (cond a (day_at d.year d.month (suc d.day))
        (cond b (day_at d.year (suc d.month) 1) (day_at (suc d.year) 1 1)))
        ≡ day_number d + 1
    go true b e f = omega arith
    go false true e f =
        let h : days_in d.year d.month < suc d.day = leb-false _ _ e in
        let w = (day_parts d v).to in
        omega arith
    go false false e f =
        let h : days_in d.year d.month < suc d.day = leb-false _ _ e in
        let w = (day_parts d v).to in
        let k : 12 < suc d.month = leb-false _ _ f in
        let m = (small_day d v).1 in
        year_turn d.year d.month d.day (omega arith) (omega arith)
