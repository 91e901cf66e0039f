-- The days of a set put one by one.
use mathlib.Core.Path.{◌≡◌, ◌∙◌}
use mathlib.Core.List.{List, [], ◌∷◌}
use mathlib.Core.Bool.{Bool, true, false, cond}
use Prim.Native.Nat.{ℕ, ◌+◌, ◌-◌, ◌/◌, ◌%◌, ◌≤◌, ◌<◌}
use native.Mathlib.Numerals.{add-one}
use native.Mathlib.Omega.{arith}
use borrow.Author.Tests.{eq-eqb, ne_eqb}
use Rattle.document.specs.Spell.{spell, first_element, more_elements}
use Rattle.document.specs.Plain.{whole, days_tree}
use Rattle.document.specs.Untable.{days_of}
use Rattle.write_bytes.specs.Puts.{Lays}
use Rattle.write_bytes.specs.declared.Output.{Output}
use Rattle.write_bytes.proofs.Laid.{lays_none, lays_then, lays_as}
use Rattle.write_details.proofs.Listing.{elements_from, next_element_lem, last_element}

-- A day that stands in the set, and one that does not.
chosen_day : (n m day set : ℕ) → n ≡ m + 1 → set % 2 ≡ 1 → days_of n day set ≡ day ∷ days_of m (day + 1) (set / 2)
unfolding days_of
chosen_day n m day set e h = rw (e ∙ add-one m, eq-eqb (set % 2) 1 h)

passed_day : (n m day set : ℕ) → n ≡ m + 1 → (set % 2 ≡ 1 → ⊥) → days_of n day set ≡ days_of m (day + 1) (set / 2)
unfolding days_of
passed_day n m day set e h = rw (e ∙ add-one m, ne_eqb (set % 2) 1 h)

no_days : (n day set : ℕ) → n ≡ 0 → days_of n day set ≡ []
unfolding days_of
no_days n day set e = rw e

-- The days from `day` on are left, `left` of the set.
abbrev pub LaysDays : Output → ℕ → ℕ → Bool → ℕ → ℕ → Output → Type 0
LaysDays before last set some day left out =
    (k : List ℕ) → Lays before (first_element (days_tree (days_of last 1 set)) k) (elements_from some (days_tree (days_of (last + 1 - day) day left)) k) out

pub days_none : (before : Output) (last set : ℕ) → LaysDays before last set false 1 set before
days_none before last set k = let e : last + 1 - 1 ≡ last = omega arith in rw e (lays_none before (first_element (days_tree (days_of last 1 set)) k))

module _ {before out : Output} (last set : ℕ) (some : Bool) (day left : ℕ) (p : LaysDays before last set some day left out) where
  pub day_more : day ≤ last → last ≤ 28 → left % 2 ≡ 1 → {between after : Output} → ((k : List ℕ) → Lays out (cond some (44 ∷ k) k) k between) → ((k : List ℕ) → Lays between (spell (whole (day % 1000000)) k) k after)
      → LaysDays before last set true (day + 1) (left / 2) after
  day_more h g o comma number k =
      let n = last + 1 - (day + 1) in
      let e = chosen_day (last + 1 - day) n day left (omega arith) o in
      let m : day % 1000000 ≡ day = omega arith in
      let es = days_tree (days_of n (day + 1) (left / 2)) in
      lays_then (rw e at (p k)) (lays_as (next_element_lem some (whole day) es k) (lays_then (comma _) (rw m at (number (more_elements es k)))))

  pub day_less : day ≤ last → (left % 2 ≡ 1 → ⊥) → LaysDays before last set some (day + 1) (left / 2) out
  day_less h o k = rw (passed_day (last + 1 - day) (last + 1 - (day + 1)) day left (omega arith) o) at (p k)

  pub days_all : last < day → (k : List ℕ) → Lays before (first_element (days_tree (days_of last 1 set)) k) (93 ∷ k) out
  days_all h k = let e = no_days (last + 1 - day) day left (omega arith) in lays_then (rw e at (p k)) (lays_as (last_element some k) (lays_none out (93 ∷ k)))
