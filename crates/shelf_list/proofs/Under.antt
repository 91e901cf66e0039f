-- A number stands among entries exactly where a posology stands under it.
use mathlib.Core.Path.{◌≡◌, refl, ap, sym, ◌∙◌}
use mathlib.Core.List.{List, [], ◌∷◌}
use mathlib.Core.Bool.{Bool, true, false, cond, ◌||◌, true≢false}
use mathlib.Core.Option.{Option, none, some}
use Prim.Native.Nat.{ℕ}
use lib.Dec.{eqb}
use Rattle.document.specs.Posology.{Posology}
use Rattle.shelf_list.specs.Shelf.{Entry, stands, is_given}
use Rattle.shelf_list.specs.Calls.{under}

pub not_given : (o : Option Posology) → is_given o ≡ false → o ≡ none
not_given none h = refl
not_given (some p) h = absurd (true≢false h)

pub stands_given : (n : ℕ) (es : List Entry) → stands n es ≡ is_given (under n es)
stands_given n [] = refl
stands_given n (e ∷ es) = go (eqb n e.number) (stands_given n es)
  where
    go : (b : Bool) → stands n es ≡ is_given (under n es) → (b || stands n es) ≡ is_given (cond b (some e.posology) (under n es))
    go true i = refl
    go false i = i

pub under_stands : (n : ℕ) (es : List Entry) (p : Posology) → under n es ≡ some p → stands n es ≡ true
under_stands n es p u = stands_given n es ∙ ap is_given u

pub none_under : (n : ℕ) (es : List Entry) → under n es ≡ none → stands n es ≡ false
none_under n es u = stands_given n es ∙ ap is_given u

pub under_none : (n : ℕ) (es : List Entry) → stands n es ≡ false → under n es ≡ none
under_none n es s = not_given (under n es) (sym (stands_given n es) ∙ s)
