-- The parts of a number at its point.
use Prim.Native.Nat.{ℕ, suc, ◌+◌, ◌-◌, ◌<◌, ◌≤◌}
use mathlib.Core.Path.{◌≡◌, refl, sym, ◌∙◌}
use mathlib.Core.List.{List, ◌++◌, append-nil}
use lib.ListN.{length, get_or, take, drop, drop_of_length-le}
use lib.Seq.{drop-cons, take-suc, append_snoc}
use native.Mathlib.Omega.{arith}
use native.Mathlib.Numerals.{add-one}
use borrow.Author.Tests.{eq-eqb, ne_eqb}
use Rattle.document_figures.proofs.Bytes.{rest}
use Rattle.document_numbers.specs.Number.{before_point, behind_point}
use Rattle.document_numbers.specs.Point.{Parts}

-- No byte before i is the point.
pub record NoPoint (raw : List ℕ) (i : ℕ) : Type 0 where
  pub inside : i ≤ length raw
  pub before : take i raw ++ before_point (drop i raw) ≡ before_point raw
  pub behind : behind_point (drop i raw) ≡ behind_point raw

pub point_start : (raw : List ℕ) → NoPoint raw 0
point_start raw = record { inside = omega arith; before = refl; behind = refl }

module _ (raw : List ℕ) (i : ℕ) (inv : NoPoint raw i) where
  pub point_here : i < length raw → get_or raw i 0 ≡ 46 → Parts raw i
  unfolding before_point behind_point
  point_here h e =
      record {
        inside = inv.inside;
        before = rw (← inv.before, drop-cons raw i 0 h, eq-eqb (get_or raw i 0) 46 e, append-nil);
        behind = rw (← inv.behind, drop-cons raw i 0 h, eq-eqb (get_or raw i 0) 46 e);
      }

  pub point_more : i < length raw → (get_or raw i 0 ≡ 46 → ⊥) → NoPoint raw (i + 1)
  unfolding before_point behind_point
  point_more h n =
      record {
        inside = omega arith;
        before = rw (← inv.before, drop-cons raw i 0 h, ne_eqb (get_or raw i 0) 46 n, add-one, take-suc raw i 0 h, append_snoc);
        behind = rw (← inv.behind, drop-cons raw i 0 h, ne_eqb (get_or raw i 0) 46 n, add-one);
      }

  pub point_none : length raw ≤ i → Parts raw i
  unfolding before_point behind_point
  point_none h =
      let h' : length raw ≤ suc i = omega arith in
      record {
        inside = inv.inside;
        before = rw (← inv.before, drop_of_length-le raw h, append-nil);
        behind = rw (← inv.behind, drop_of_length-le raw h, drop_of_length-le raw h');
      }

pub ruleset points = (point_start, point_here, point_more, point_none)

-- The fraction: what stands behind the point, or nothing.
module _ (raw : List ℕ) (point : ℕ) (p : Parts raw point) where
  pub fraction_behind : take (length raw - (point + 1)) (drop (point + 1) raw) ≡ behind_point raw
  fraction_behind = rest (point + 1) raw ∙ rw add-one p.behind

  pub fraction_none : length raw ≤ point → take (length raw - point) (drop point raw) ≡ behind_point raw
  fraction_none h =
      let h' : length raw ≤ suc point = omega arith in
      rest point raw ∙ drop_of_length-le raw h ∙ sym (drop_of_length-le raw h') ∙ p.behind

pub ruleset fractions = (fraction_behind, fraction_none)
