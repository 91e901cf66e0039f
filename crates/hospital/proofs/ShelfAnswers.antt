-- What the shelf's answer says of the area.
use mathlib.Core.Path.{◌≡◌, refl}
use Prim.Native.Nat.{ℕ}
use mathlib.Core.List.{List}
use Rattle.shelf_list.specs.Calls.{Call, Answer, stored, fetched, removed, standing, refused, on_area}
use Rattle.shelf_list.proofs.Wish2.{refused_leaves_area}
use Rattle.hospital.specs.ShelfCalls.{told_answer}

-- A number above 0 leaves the area.
pub told_leaves : (c : Call) (a : List ℕ) → ((told_answer (on_area c a).answer).number ≡ 0 → ⊥) → (on_area c a).state ≡ a
told_leaves c a h = go (on_area c a).answer refl h
  where
    go : (x : Answer) → (on_area c a).answer ≡ x → ((told_answer x).number ≡ 0 → ⊥) → (on_area c a).state ≡ a
    go (stored l) e k = absurd (k refl)
    go (fetched p) e k = absurd (k refl)
    go removed e k = absurd (k refl)
    go (standing n) e k = absurd (k refl)
    go (refused m place) e k = refused_leaves_area c a m place e
