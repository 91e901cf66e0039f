-- A number below a power of two is the set of some days.
use mathlib.Core.Path.{◌≡◌, refl, ap, ◌∙◌}
use mathlib.Core.List.{List, [], ◌∷◌}
use mathlib.Core.Bool.{Bool, true, false, not, false≢true}
use Prim.Native.Nat.{ℕ, zero, suc, ◌+◌, ◌*◌, ◌-◌, ◌/◌, ◌%◌, ◌^◌, ◌≤◌, ◌<◌}
use native.Mathlib.Omega.{arith}
use native.Mathlib.Nat.{pow-succ'}
use lib.Dec.{eqb}
use borrow.Author.Tests.{eqb-true, eqb-false}
use Rattle.document.specs.Visit.{is_empty}
use Rattle.document.specs.Valid.{climbs, is_days}
use Rattle.document.specs.Table.{day_set}
use Rattle.json_grammar.proofs.Truth.{and_left, and_both}
use Rattle.document.proofs.Days.{climbs_parts, climbs_more, days_climb}
use Rattle.document.proofs.DaySets.{from, halves, from_one, days_small}

lower : (least day hi : ℕ) (ds : List ℕ) → least ≤ day → climbs day hi ds ≡ true → climbs least hi ds ≡ true
lower least day hi [] h c = refl
lower least day hi (d ∷ ds) h c = let k = climbs_parts day hi d ds c in climbs_more least hi d ds (omega arith) k.1 k.2

record Some (day least hi set : ℕ) : Type 0 where
  value : List ℕ
  climbing : climbs least hi value ≡ true
  sum : from day value ≡ set

half : (n set : ℕ) → set < 2 ^ suc n → set / 2 < 2 ^ n
half n set h = let p : 2 ^ suc n ≡ 2 * 2 ^ n = pow-succ' 2 n in omega arith

one_day : (n day least hi set : ℕ) → day ≡ least + 1 → hi ≡ least + suc n → Some (day + 1) day hi (set / 2) → Some day least hi set
one_day n day least hi set e f r = go (eqb (set % 2) 1) refl
  where
    twice : from day r.value ≡ 2 * (set / 2)
    twice = halves day day hi r.value (omega arith) r.climbing ∙ ap (λ (m : ℕ). 2 * m) r.sum

    go : (b : Bool) → eqb (set % 2) 1 ≡ b → Some day least hi set
    go true g =
        let o : set % 2 ≡ 1 = eqb-true (set % 2) 1 g in
        let z : 2 ^ (day - day) ≡ 1 = let y : day - day ≡ 0 = omega arith in ap (λ (x : ℕ). 2 ^ x) y in
        record {
          value = day ∷ r.value;
          climbing = climbs_more least hi day r.value (omega arith) (omega arith) r.climbing;
          sum = omega (arith, twice);
        }
    go false g =
        let o : set % 2 ≡ 1 → ⊥ = eqb-false (set % 2) 1 g in
        record { value = r.value; climbing = lower least day hi r.value (omega arith) r.climbing; sum = omega (arith, twice) }

some_days : (n day least hi set : ℕ) → day ≡ least + 1 → hi ≡ least + n → set < 2 ^ n → Some day least hi set
some_days zero day least hi set e f h = record { value = []; climbing = refl; sum = omega arith }
some_days (suc n) day least hi set e f h = one_day n day least hi set e f (some_days n (day + 1) day hi (set / 2) refl (omega arith) (half n set h))

-- A set of days, not empty.
pub record DaysAre (hi set : ℕ) : Type 0 where
  pub value : List ℕ
  pub valid : is_days hi value ≡ true
  pub sum : day_set value ≡ set

not_empty : (ds : List ℕ) → 1 ≤ from 1 ds → not (is_empty ds) ≡ true
not_empty [] h = absurd (omega arith)
not_empty (d ∷ ds) h = refl

pub days_are : (hi set : ℕ) → 1 ≤ set → set < 2 ^ hi → DaysAre hi set
days_are hi set g h =
    let r = some_days hi 1 0 hi set refl (omega arith) h in
    record {
      value = r.value;
      valid = and_both (not_empty r.value (omega (arith, r.sum))) r.climbing;
      sum = from_one r.value ∙ r.sum;
    }

-- And a set of days is such a number.
power : (n : ℕ) → 1 ≤ 2 ^ n
power zero = omega arith
power (suc n) = let p : 2 ^ suc n ≡ 2 * 2 ^ n = pow-succ' 2 n in let h = power n in omega arith

some_sum : (ds : List ℕ) → not (is_empty ds) ≡ true → 1 ≤ from 1 ds
some_sum [] e = absurd (false≢true e)
some_sum (d ∷ ds) e = let h : 1 ≤ 2 ^ (d - 1) = power (d - 1) in omega arith

pub days_sum : (hi : ℕ) (ds : List ℕ) → is_days hi ds ≡ true → (1 ≤ day_set ds) × (day_set ds < 2 ^ hi)
days_sum hi ds v =
    let e = from_one ds in
    let a = some_sum ds (and_left (not (is_empty ds)) (climbs 0 hi ds) v) in
    let b = days_small 0 hi ds (omega arith) (days_climb hi ds v) in
    (omega arith, omega arith)
