-- Document 02, Wish 2: what an area holds.
use mathlib.Core.Path.{◌≡◌, refl, ap, sym, ◌∙◌}
use mathlib.Core.List.{List}
use mathlib.Core.Bool.{true}
use mathlib.Core.Option.{Option, none, some}
use mathlib.Core.Logic.{◌↔◌}
use Prim.Native.Nat.{ℕ, ◌≤◌}
use Rattle.json_grammar.proofs.Truth.{never}
use Rattle.shelf_list.specs.Shelf.{area_at_most, Entry, used, laid_out, good, Holds, entries_in}
use Rattle.shelf_list.proofs.Areas.{laid_back, area_of_list, holds_back}

-- The area of a good list that fits holds that list.
pub laid_out_comes_back : (es : List Entry) (n : ℕ) → good es ≡ true → used es ≤ n → n ≤ area_at_most → entries_in (laid_out es n) ≡ some es
laid_out_comes_back es n g fits small = laid_back es n g fits small

-- What an area holds is a good list that lays it out, and nothing else is.
pub holds_iff : (a : List ℕ) (es : List Entry) → (entries_in a ≡ some es) ↔ Holds a es
holds_iff a es = (area_of_list a es, holds_back a es)

-- An area is a shelf for at most one list.
pub one_list : (a : List ℕ) (es fs : List Entry) → Holds a es → Holds a fs → es ≡ fs
one_list a es fs h k =
    let e : some es ≡ some fs = sym (holds_back a es h) ∙ holds_back a fs k in
    cc

-- No two good lists that fit lay out the same area.
pub one_area : (es fs : List Entry) (n : ℕ) → good es ≡ true → good fs ≡ true → used es ≤ n → used fs ≤ n → n ≤ area_at_most
    → laid_out es n ≡ laid_out fs n → es ≡ fs
one_area es fs n g h f k small e =
    let i : some es ≡ some fs = sym (laid_back es n g f small) ∙ ap entries_in e ∙ laid_back fs n h k small in
    cc

-- 20: exactly the areas that no list lays out.
pub no_shelf_iff : (a : List ℕ) → (entries_in a ≡ none) ↔ ((es : List Entry) → Holds a es → ⊥)
no_shelf_iff a = (no_list, λ h. go (entries_in a) refl h)
  where
    no_list : entries_in a ≡ none → (es : List Entry) → Holds a es → ⊥
    no_list e es h = let i = holds_back a es h in never (cc)

    go : (o : Option (List Entry)) → entries_in a ≡ o → ((es : List Entry) → Holds a es → ⊥) → o ≡ none
    go none e h = refl
    go (some es) e h = absurd (h es (area_of_list a es e))
