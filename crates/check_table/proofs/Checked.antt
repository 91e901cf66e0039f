-- Answers that give the only number of which something holds.
use mathlib.Core.Path.{◌≡◌, ap, sym, subst}
use Rattle.std.specs.Prelude.{Option, Some, None}
use Prim.Native.Nat.{ℕ}
use Rattle.check_table.specs.Checks.{Checks}

pub granted : {P : ℕ → Type 0} {n : ℕ} → P n → ((u : ℕ) → P u → u ≡ n) → Checks P (Some n)
granted {P} {n} p f = record { yes = λ u e. (let same : n ≡ u = cc in subst P same p); only = λ u q. ap (λ m. Some m) (sym (f u q)) }

pub refuted : {P : ℕ → Type 0} → ((u : ℕ) → P u → ⊥) → Checks P None
refuted f = record { yes = λ u e. absurd (cc); only = λ u p. absurd (f u p) }

pub carried : {P Q : ℕ → Type 0} {r : Option ℕ} → ((u : ℕ) → P u → Q u) → ((u : ℕ) → Q u → P u) → Checks P r → Checks Q r
carried f g k = record { yes = λ u e. f u (k.yes u e); only = λ u q. k.only u (g u q) }

-- What is known of the number where there is one, and where there is none.
pub the_one : {P : ℕ → Type 0} {r : Option ℕ} {n u : ℕ} → Checks P r → r ≡ Some n → P u → u ≡ n
the_one k e p = let f = k.only _ p in cc

pub there_is_none : {P : ℕ → Type 0} {r : Option ℕ} {u : ℕ} → Checks P r → r ≡ None → P u → ⊥
there_is_none k e p = let f = k.only _ p in cc
