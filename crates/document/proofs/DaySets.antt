-- The days of a set come back from its bits.
use mathlib.Core.Path.{◌≡◌, refl, ap, sym, subst, ◌∙◌}
use mathlib.Core.List.{List, [], ◌∷◌}
use mathlib.Core.Bool.{Bool, true, false}
use Prim.Native.Nat.{ℕ, zero, suc, ◌+◌, ◌*◌, ◌-◌, ◌/◌, ◌%◌, ◌^◌, ◌≤◌, ◌<◌}
use native.Mathlib.Omega.{arith}
use native.Mathlib.Nat.{pow-succ'}
use lib.Pow.{pow_mono}
use lib.Dec.{eqb}
use borrow.Author.Tests.{eq-eqb, ne_eqb, eqb-true, eqb-false}
use Rattle.document.specs.Valid.{climbs, is_days}
use Rattle.document.specs.Table.{day_set}
use Rattle.document.specs.Untable.{keep, days_of}
use Rattle.document.proofs.Days.{climbs_parts, climbs_more, days_climb}

-- The bits counted from a day on.
abbrev pub from : ℕ → List ℕ → ℕ
from day [] = 0
from day (d ∷ ds) = 2 ^ (d - day) + from day ds

one_lower : (day d : ℕ) → day < d → 2 ^ (d - day) ≡ 2 * 2 ^ (d - (day + 1))
one_lower day d h = let e : d - day ≡ suc (d - (day + 1)) = omega arith in ap (λ (n : ℕ). 2 ^ n) e ∙ pow-succ' 2 (d - (day + 1))

pub halves : (day least hi : ℕ) (ds : List ℕ) → day ≤ least → climbs least hi ds ≡ true → from day ds ≡ 2 * from (day + 1) ds
halves day least hi [] h c = refl
halves day least hi (d ∷ ds) h c =
    let k = climbs_parts least hi d ds c in
    let a : 2 ^ (d - day) ≡ 2 * 2 ^ (d - (day + 1)) = one_lower day d (omega arith) in
    let b : from day ds ≡ 2 * from (day + 1) ds = halves day d hi ds (omega arith) k.2 in
    omega arith

keep_even : (m day : ℕ) (ds : List ℕ) (x : ℕ) → m ≡ 2 * x → keep (eqb (m % 2) 1) day ds ≡ ds
keep_even m day ds x e = ap (λ (b : Bool). keep b day ds) (ne_eqb (m % 2) 1 (λ f. omega arith))

keep_odd : (m day : ℕ) (ds : List ℕ) (x : ℕ) → m ≡ 1 + 2 * x → keep (eqb (m % 2) 1) day ds ≡ day ∷ ds
keep_odd m day ds x e = ap (λ (b : Bool). keep b day ds) (eq-eqb (m % 2) 1 (omega arith))

-- From a day on that is one above the least, n days reach to hi.
days_back : (n day least hi : ℕ) (ds : List ℕ) → day ≡ least + 1 → hi < day + n → climbs least hi ds ≡ true → days_of n day (from day ds) ≡ ds
unfolding days_of
days_back zero day least hi [] e h c = refl
days_back zero day least hi (d ∷ ds) e h c = let k = climbs_parts least hi d ds c in absurd (omega arith)
days_back (suc n) day least hi [] e h c = days_back n (day + 1) day hi [] refl (omega arith) refl
days_back (suc n) day least hi (d ∷ ds) e h c = go (eqb d day) refl (λ f i. days_back n (day + 1) day hi ds refl f i) (λ f i. days_back n (day + 1) day hi (d ∷ ds) refl f i)
  where
    parts : (least < d) × (d ≤ hi) × (climbs d hi ds ≡ true)
    parts = climbs_parts least hi d ds c

    go : (b : Bool) → eqb d day ≡ b → (hi < day + 1 + n → climbs day hi ds ≡ true → days_of n (day + 1) (from (day + 1) ds) ≡ ds) → (hi < day + 1 + n → climbs day hi (d ∷ ds) ≡ true → days_of n (day + 1) (from (day + 1) (d ∷ ds)) ≡ d ∷ ds)
        → keep (eqb (from day (d ∷ ds) % 2) 1) day (days_of n (day + 1) (from day (d ∷ ds) / 2)) ≡ d ∷ ds
    go true i k₁ k₂ =
        let s : d ≡ day = eqb-true d day i in
        let z : 2 ^ (d - day) ≡ 1 = let y : d - day ≡ 0 = omega arith in ap (λ (x : ℕ). 2 ^ x) y in
        let x : from day ds ≡ 2 * from (day + 1) ds = halves day d hi ds (omega arith) parts.2 in
        let o : from day (d ∷ ds) ≡ 1 + 2 * from (day + 1) ds = omega arith in
        let w : from day (d ∷ ds) / 2 ≡ from (day + 1) ds = omega arith in
        keep_odd (from day (d ∷ ds)) day _ (from (day + 1) ds) o
        ∙ ap (λ (m : ℕ). day ∷ days_of n (day + 1) m) w
        ∙ ap (λ (es : List ℕ). day ∷ es) (k₁ (omega arith) (subst (λ (m : ℕ). climbs m hi ds ≡ true) s parts.2))
        ∙ ap (λ (m : ℕ). m ∷ ds) (sym s)
    go false i k₁ k₂ =
        let up = parts.0 in
        let ne : d ≡ day → ⊥ = eqb-false d day i in
        let lt : day < d = omega arith in
        let again : climbs day hi (d ∷ ds) ≡ true = climbs_more day hi d ds lt parts.1 parts.2 in
        let o : from day (d ∷ ds) ≡ 2 * from (day + 1) (d ∷ ds) = halves day day hi (d ∷ ds) (omega arith) again in
        let w : from day (d ∷ ds) / 2 ≡ from (day + 1) (d ∷ ds) = omega arith in
        keep_even (from day (d ∷ ds)) day _ (from (day + 1) (d ∷ ds)) o
        ∙ ap (λ (m : ℕ). days_of n (day + 1) m) w
        ∙ k₂ (omega arith) again

pub from_one : (ds : List ℕ) → day_set ds ≡ from 1 ds
from_one [] = refl
from_one (d ∷ ds) = ap (λ (m : ℕ). 2 ^ (d - 1) + m) (from_one ds)

pub set_back : (hi : ℕ) (ds : List ℕ) → is_days hi ds ≡ true → days_of hi 1 (day_set ds) ≡ ds
set_back hi ds v = ap (days_of hi 1) (from_one ds) ∙ days_back hi 1 0 hi ds refl (omega arith) (days_climb hi ds v)

-- Days above one another up to hi make a number below the power of hi.
pub days_small : (from hi : ℕ) (ds : List ℕ) → from ≤ hi → climbs from hi ds ≡ true → day_set ds + 2 ^ from ≤ 2 ^ hi
days_small from hi [] h c = omega (arith, pow_mono h)
days_small from hi (d ∷ ds) h c =
    let k = climbs_parts from hi d ds c in
    let rest = days_small d hi ds k.1 k.2 in
    let one : suc (d - 1) ≡ d = omega arith in
    let twice : 2 ^ d ≡ 2 ^ suc (d - 1) = ap (λ (n : ℕ). 2 ^ n) (sym one) in
    let below : 2 ^ from ≤ 2 ^ (d - 1) = pow_mono (omega arith) in
    omega arith
