-- Objects that are read alike, two by two: what each makes, and what holds of the one that is asked for.
use Prim.Native.Nat.{ℕ, suc, ◌≤◌}
use mathlib.Core.Path.{◌≡◌, refl, sym, subst}
use mathlib.Core.List.{List}
use mathlib.Core.Bool.{Bool, true, false, cond}
use native.Mathlib.Omega.{arith}
use borrow.Author.Tests.{eqb-true, eqb-false}
use lib.Dec.{eqb}
use Rattle.document.specs.Posology as P
use Rattle.document.specs.Schema.{OfFamily}
use Rattle.read_dosages.specs.Visiting.{an_application}

abbrev pub application : (timed : Bool) → P.Dosage → ℕ → OfFamily (an_application timed)
application true d dt = P.at_time d dt
application false d s = P.in_segment d s

abbrev pub with_applications : (timed : Bool) → List (OfFamily (an_application timed)) → P.Timed
with_applications true ts = P.times ts
with_applications false ss = P.day_segments ss

abbrev pub on_days : Bool → List ℕ → P.Timed → P.Timed
on_days true ds td = P.week_days ds td
on_days false ds td = P.days_of_month ds td

-- What holds of each of two holds of the one that is picked.
pub either : {A : Type 0} (Holds : Bool → A → Type 0) (first : Bool) {a b k : A} → k ≡ cond first a b → Holds true a → Holds false b → Holds first k
either {A} Holds true e x y = subst (λ (k : A). Holds true k) (sym e) x
either {A} Holds false e x y = subst (λ (k : A). Holds false k) (sym e) y

-- Of two types that follow one another, the one that was read.
pub of_two : (t kind : ℕ) → t ≤ kind → kind ≤ suc t → kind ≡ cond (eqb kind t) t (suc t)
of_two t kind least most = by (eqb kind t) refl
  where
    by : (b : Bool) → eqb kind t ≡ b → kind ≡ cond b t (suc t)
    by true e = eqb-true kind t e
    by false e = let n = eqb-false kind t e in omega arith
