-- The type of an object, in its slot.
use Prim.Native.Nat.{ℕ, ◌≤◌}
use mathlib.Core.Path.{◌≡◌, refl, sym, subst}
use mathlib.Core.List.{List}
use lib.ListN.{length, drop}
use native.Mathlib.Omega.{arith}
use Rattle.std.specs.Prelude.{Option}
use Rattle.json_grammar.specs.Tree.{Place, Tree}
use Rattle.json_grammar.specs.Grammar.{Value, an_empty_object, an_object, an_empty_list, a_list, a_string, a_number, a_true, a_false, a_null}
use Rattle.document.specs.Lookup.{Entry, Found, find}
use Rattle.document.specs.Schema.{Shape, Of}
use Rattle.document.specs.Visit.{State, Value as Waiting, done, needed, place_of, value_of}
use Rattle.document.specs.At.{Slot, empty, filled}
use Rattle.read_names.specs.Names.{Once, spelled}
use Rattle.read_names.specs.Names as N
use Rattle.read_names.specs.declared.names.Name.{Name}
use Rattle.read_names.specs.declared.slots.Object.{Object}
use Rattle.read_type.specs.Opens.{slot_number}

-- ---- a value's place is where it stands
value_place : {t : Tree} {s r : Place} → Value t s r → (value_of t).place ≡ s
unfolding value_of
value_place (an_empty_object b) = refl
value_place (an_object b m) = refl
value_place (an_empty_list b) = refl
value_place (a_list b m) = refl
value_place (a_string c) = refl
value_place (a_number d) = refl
value_place a_true = refl
value_place a_false = refl
value_place a_null = refl

-- ---- what was read stood in the text
pub slot_place : {text : List ℕ} {v : Option ℕ} {f : Found Waiting} (s : Shape) {x : Of s} (p : Place) (l : State) {m : State} → Slot text v f → needed s p f l ≡ done x m → place_of p f ≡ drop (slot_number v) text
slot_place s p l empty d = let z : ◌≡◌ {A = ℕ} 0 1 = cc in absurd (omega arith)
slot_place s p l (filled h) d = value_place h.spelled

pub slot_inside : {text : List ℕ} {v : Option ℕ} {f : Found Waiting} → Slot text v f → slot_number v ≤ length text
slot_inside empty = omega arith
slot_inside (filled h) = omega (arith, h.inside)

-- The slot of a name, as the code asks for it.
pub slot_of : {text : List ℕ} {es : List (Entry Waiting)} {o : Object} {v : Option ℕ} (n : Name) → Once text es o → v ≡ N.place_of o.slots n → Slot text v (find (spelled n) es)
slot_of {text} {es} n once e = subst (λ (w : Option ℕ). Slot text w (find (spelled n) es)) (sym e) (once.slot n)
