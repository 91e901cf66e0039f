-- A meal code that is read is at most 6.
use Rattle.std.specs.Prelude.{Option as Maybe, Ok, Err}
use Prim.Native.Nat.{ℕ, ◌≤◌}
use mathlib.Core.Path.{◌≡◌, refl, subst}
use mathlib.Core.List.{List}
use mathlib.Core.Bool.{Bool, true, false, cond, ◌&&◌}
use mathlib.Core.Option.{Option, none, get_or}
use native.Mathlib.Omega.{arith}
use lib.Dec.{leb}
use borrow.Author.Tests.{leb-true}
use Rattle.json_grammar.specs.Rows.{choose}
use Rattle.json_grammar.specs.Tree.{Place, Tree, object, list, string, number, bool, null}
use Rattle.document_numbers.specs.Number.{Integer, integer_in, carried, negative, rounded, all_zero, behind_point}
use Rattle.document_numbers.specs.declared.NumberError.TheVariants as N
use Rattle.document.specs.Lookup.{Found, one}
use Rattle.document.specs.Schema.{a_number, integer}
use Rattle.document.specs.Visit.{State, Outcome, done, refuse, present, whole, Value, value_of, optional}
use Rattle.document.specs.At.{Slot, empty, filled}
use Rattle.json_grammar.proofs.Truth.{and_right}

abbrev value : Outcome (Option ℕ) → Option ℕ
value (done x l) = x
value (refuse n p) = none

abbrev most : Integer → ℕ
most (Ok i) = i.value
most (Err N.NotCarried) = 0
most (Err N.Outside) = 0

in_range : (hi : ℕ) (a b : Bool) (m : ℕ) (exact : Bool) (c : Bool) → (c ≡ true → m ≤ hi) → most (choose a (λ _. cond b (Err N.Outside) (cond c (Ok (record { value = m; exact = exact })) (Err N.Outside))) λ _. Err N.NotCarried) ≤ hi
in_range hi true true m exact c h = omega arith
in_range hi true false m exact true h = h refl
in_range hi true false m exact false h = omega arith
in_range hi false b m exact c h = omega arith

integer_most : (lo hi : ℕ) (raw : List ℕ) → most (integer_in lo hi raw) ≤ hi
unfolding integer_in
integer_most lo hi raw =
    in_range hi (carried raw) (negative raw) (rounded raw) (all_zero (behind_point raw)) (leb lo (rounded raw) && leb (rounded raw) hi)
    (λ e. leb-true (rounded raw) hi (and_right (leb lo (rounded raw)) (leb (rounded raw) hi) e))

whole_most : (hi : ℕ) (p : Place) (l : State) (i : Integer) → most i ≤ hi → get_or (value (present (whole p l i))) 0 ≤ hi
whole_most hi p l (Ok i) h = h
whole_most hi p l (Err N.NotCarried) h = omega arith
whole_most hi p l (Err N.Outside) h = omega arith

tree_most : (lo hi : ℕ) (t : Tree) (p : Place) (l : State) → get_or (value (optional (a_number (integer lo hi)) p (one (value_of t)) l)) 0 ≤ hi
unfolding value_of
tree_most lo hi (object q ms) p l = omega arith
tree_most lo hi (list q es) p l = omega arith
tree_most lo hi (string q cs) p l = omega arith
tree_most lo hi (number q raw) p l = whole_most hi q l (integer_in lo hi raw) (integer_most lo hi raw)
tree_most lo hi (bool q b) p l = omega arith
tree_most lo hi (null q) p l = omega arith

slot_most : (lo hi : ℕ) (text : List ℕ) (v : Maybe ℕ) (f : Found Value) → Slot text v f → (p : Place) (l : State) → get_or (value (optional (a_number (integer lo hi)) p f l)) 0 ≤ hi
slot_most lo hi text v f empty p l = omega arith
slot_most lo hi text v f (filled {t = t} a) p l = tree_most lo hi t p l

pub given_most : (lo hi : ℕ) (text : List ℕ) (v : Maybe ℕ) (f : Found Value) → Slot text v f → (p : Place) (l l' : State) (x : Option ℕ) → optional (a_number (integer lo hi)) p f l ≡ done x l' → get_or x 0 ≤ hi
given_most lo hi text v f s p l l' x e = subst (λ (o : Outcome (Option ℕ)). get_or (value o) 0 ≤ hi) e (slot_most lo hi text v f s p l)
