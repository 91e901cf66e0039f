-- Answers that decide, and what records of a timed dosage tell.
use mathlib.Core.Path.{◌≡◌, refl, subst}
use mathlib.Core.List.{List}
use Rattle.std.specs.Prelude.{Some}
use mathlib.Core.Bool.{Bool, true, false}
use Prim.Native.Nat.{ℕ, ◌+◌, ◌≤◌, ◌<◌}
use native.Mathlib.Omega.{arith}
use Rattle.check_doses.specs.Shapes.{Decides}
use Rattle.check_doses.specs.Doses.{ApplicationsAt, none, more, TimedAt}
use Rattle.check_doses.specs.declared.records.Shape.{Shape}

-- Two answers that are allowed are equal.
pub decides_one : {P : Type 0} (r q : Bool) → Decides P r → Decides P q → r ≡ q
decides_one true true d e = refl
decides_one true false d e = absurd (e.no refl (d.yes refl))
decides_one false true d e = absurd (d.no refl (e.yes refl))
decides_one false false d e = refl

pub as_last : {P Q : Type 0} {r : Bool} → (Q → P) → (P → Q) → Decides Q r → Decides P r
as_last f g d = record { yes = λ e. f (d.yes e); no = λ e p. d.no e (g p) }

module _ {ws : List ℕ} {end : ℕ} {each : Shape} where
  pub applied_rest : {i : ℕ} → ApplicationsAt ws end each i → i < end → ApplicationsAt ws end each (i + 2)
  applied_rest (none e) h = absurd (omega arith)
  applied_rest (more p q) h = q

  pub applied_ends : {i : ℕ} → ApplicationsAt ws end each i → i ≤ end
  applied_ends (none e) = omega arith
  applied_ends (more p q) = let h = applied_ends q in omega arith

pub same_unit : {ws : List ℕ} {i m n : ℕ} → m ≡ n → TimedAt ws i (Some m) → TimedAt ws i (Some n)
same_unit {ws} {i} e p = subst (λ k. TimedAt ws i (Some k)) e p
