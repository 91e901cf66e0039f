-- The objects of a sequence, put record by record with commas between them.
use mathlib.Core.Path.{◌≡◌, refl, ap}
use mathlib.Core.List.{List, ◌∷◌}
use mathlib.Core.Bool.{not, cond}
use Prim.Native.Nat.{ℕ, ◌+◌, ◌≤◌, ◌<◌}
use native.Mathlib.Omega.{arith}
use lib.Dec.{eqb}
use borrow.Author.Tests.{eq-eqb, ne_eqb}
use Rattle.json_grammar.specs.Tree.{Elements, no_element}
use Rattle.table_rows.specs.Standing.{below_at}
use Rattle.write_bytes.specs.Puts.{Lays}
use Rattle.write_bytes.specs.declared.Output.{Output}
use Rattle.write_details.specs.Prints.{Prints, Lists, ObjectPrints, ObjectsPrint, none, more}
use Rattle.write_details.proofs.Listing.{Listed, Next, next, listed_none, listed_more, listed_all}

-- The objects from i on are put up to record r.
pub record Reaches (ws buffer : List ℕ) (left end i r : ℕ) (before after : Output) : Type 0 where
  pub ahead : i ≤ r
  pub listed : Listed (ObjectsPrint ws buffer left end) i before r (not (eqb r i)) after

module _ {ws buffer : List ℕ} {left end : ℕ} where
  objects_inside : {r : ℕ} {es : Elements} → ObjectsPrint ws buffer left end r es → r ≤ end
  objects_inside (none e) = omega arith
  objects_inside (more h o p) = omega arith

  object_next : {r s : ℕ} → end ≤ 64 → r < end → (r + 1 + below_at ws r ≤ 64 → s ≡ r + 1 + below_at ws r) → (es : Elements) → ObjectsPrint ws buffer left end r es → Next (ObjectsPrint ws buffer left end) (ObjectPrints ws buffer left r) s es
  object_next h g e es (none f) = absurd (omega arith)
  object_next h g e es (more {ts = us} f o p) =
      let l = objects_inside p in
      let e' = e (omega arith) in
      next {es = us} o (rw e' p)

  objects_end : {r : ℕ} → end ≤ r → (es : Elements) → ObjectsPrint ws buffer left end r es → es ≡ no_element
  objects_end h es (none e) = refl
  objects_end h es (more g o p) = absurd (omega arith)

  pub reaches_none : {i : ℕ} {o : Output} → Reaches ws buffer left end i i o o
  reaches_none {i} = record { ahead = omega arith; listed = listed_none (ObjectsPrint ws buffer left end) i (not (eqb i i)) (ap not (eq-eqb i i refl)) }

  pub reaches_more : {i r s : ℕ} {o o₁ o₂ o₃ : Output} → Reaches ws buffer left end i r o o₁ → ((k : List ℕ) → Lays o₁ (cond (not (eqb r i)) (44 ∷ k) k) k o₂) → Prints (ObjectPrints ws buffer left r) o₂ o₃ → end ≤ 64 → r < end → r < s → (r + 1 + below_at ws r ≤ 64 → s ≡ r + 1 + below_at ws r) → Reaches ws buffer left end i s o o₃
  reaches_more {i} {r} {s} g comma p h inside behind e = record {
    ahead = omega arith;
    listed = listed_more (ObjectsPrint ws buffer left end) i r (not (eqb r i)) g.listed (ObjectPrints ws buffer left r) s (not (eqb s i)) (ap not (ne_eqb s i (λ f. omega arith))) (object_next h inside e) comma p;
  }

  pub lists_reached : {i r : ℕ} {o o' : Output} → Reaches ws buffer left end i r o o' → end ≤ r → Lists (ObjectsPrint ws buffer left end i) o o'
  lists_reached {i} {r} g h = listed_all (ObjectsPrint ws buffer left end) i r (not (eqb r i)) g.listed (objects_end h)
