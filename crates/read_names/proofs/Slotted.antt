-- A slot while the members are gone through.
use Prim.Native.Nat.{ℕ, zero, suc, ◌<◌}
use mathlib.Core.Path.{◌≡◌, refl, sym, ap, subst, ◌∙◌}
use mathlib.Core.List.{List, [], ◌∷◌}
use mathlib.Core.Bool.{Bool, true, false, cond, false≢true}
use lib.ListN.{length, get_or, set, length-set}
use lib.Seq.{get_or-set_same, get_or-set_other}
use lib.Dec.{eqb}
use native.Mathlib.Omega.{arith}
use borrow.Author.Tests.{eqb-true, eqb-false, ne_eqb}
use Rattle.json_grammar.specs.Tree.{Place, Tree}
use Rattle.document.specs.Lookup.{Entry, same, has, add, find}
use Rattle.document.specs.Visit.{Value, value_of}
use Rattle.document.specs.At.{At, Slot, empty, filled}
use Rattle.std.specs.Prelude.{Some, None}
use Rattle.std.specs.Option.{is_some}
use Rattle.read_names.specs.Names.{place_in, number_of}
use Rattle.read_names.specs.declared.names.Name.{Name}
use Rattle.read_names.proofs.Naming.{number_small}

abbrev pub entry : Place → List ℕ → Tree → Entry Value
entry q n t = record { quote = q; name = n; value = value_of t }

-- The slot of the name n, with the names seen and the members left.
pub data Slotted (text n : List ℕ) (seen : List (List ℕ)) (es left : List (Entry Value)) : ℕ → Type 0 where
  free : has n seen ≡ false → find n es ≡ find n left → Slotted text n seen es left 0
  taken : {v : ℕ} {t : Tree} → 0 < v → At text v t → has n seen ≡ true → find n es ≡ add true (value_of t) (find n left) → Slotted text n seen es left v

place_some : (v : ℕ) → 0 < v → place_in v ≡ Some v
place_some zero p = absurd (omega arith)
place_some (suc v) p = refl

module _ {text n : List ℕ} {seen : List (List ℕ)} {es : List (Entry Value)} where
  pub slotted_end : {v : ℕ} → Slotted text n seen es [] v → Slot text (place_in v) (find n es)
  slotted_end (free h e) = subst (λ x. Slot text None x) (sym e) empty
  slotted_end {v} (taken p a h e) = rw (place_some v p) (subst (λ x. Slot text (Some v) x) (sym e) (filled a))

  pub slotted_has : {left : List (Entry Value)} {v : ℕ} → Slotted text n seen es left v → is_some (place_in v) ≡ has n seen
  slotted_has (free h e) = sym h
  slotted_has {v = v} (taken p a h e) = rw (place_some v p) (sym h)

  module _ {left : List (Entry Value)} (q : Place) (m : List ℕ) (t : Tree) where
    -- a member of another name
    pub slotted_other : {v : ℕ} → same n m ≡ false → Slotted text n seen es (entry q m t ∷ left) v → Slotted text n (m ∷ seen) es left v
    slotted_other d (free h e) = free (rw d h) (e ∙ rw d)
    slotted_other d (taken {t = u} p a h e) = taken p a (rw d h) (e ∙ rw d)

    -- a member of this name, which did not stand before
    pub slotted_here : {v w : ℕ} → same n m ≡ true → has n seen ≡ false → Slotted text n seen es (entry q m t ∷ left) w → 0 < v → At text v t → Slotted text n (m ∷ seen) es left v
    slotted_here d f (free h e) p a = taken p a (rw d) (e ∙ rw d)
    slotted_here d f (taken _ _ h e) p a = absurd (false≢true (sym f ∙ h))

-- The slots with one more: v for the name of number k.
pub record Noted (slots : List ℕ) (k v : ℕ) (after : List ℕ) : Type 0 where
  pub size : length after ≡ length slots
  pub slot : (m : Name) → get_or after (number_of m) 0 ≡ cond (eqb (number_of m) k) v (get_or slots (number_of m) 0)

module _ (slots : List ℕ) (v : ℕ) where
  pub noted_known : length slots ≡ 33 → (n : Name) (after : List ℕ) → after ≡ set slots (number_of n) v → Noted slots (number_of n) v after
  noted_known s n after e =
      record { size = ap length e ∙ length-set slots (number_of n) v; slot = λ m. ap (λ x. get_or x (number_of m) 0) e ∙ go (number_of m) (eqb (number_of m) (number_of n)) refl }
    where
      go : (i : ℕ) (x : Bool) → eqb i (number_of n) ≡ x → get_or (set slots (number_of n) v) i 0 ≡ cond (eqb i (number_of n)) v (get_or slots i 0)
      go i true z = let e = eqb-true i (number_of n) z in rw (z, e) (get_or-set_same slots (number_of n) v 0 (omega (arith, number_small n)))
      go i false z = rw z (get_or-set_other slots (number_of n) i v 0 (eqb-false i (number_of n) z))

  pub noted_other : (after : List ℕ) → after ≡ slots → Noted slots 33 v after
  noted_other after e =
      record {
        size = ap length e;
        slot = λ m. ap (λ x. get_or x (number_of m) 0) e ∙ rw (ne_eqb (number_of m) 33 (λ z. omega (arith, number_small m)));
      }
