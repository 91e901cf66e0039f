-- Members looked up by their names (document 01, rows 5 and 6).
use Rattle.std.specs.Prelude.{List, [], ◌∷◌, Bool, true, false, not, ◌||◌, ℕ}
use Rattle.std.proofs.Math.Option.{Option, none, some}
use Rattle.json_grammar.specs.Tree.{Place}
pub use Rattle.json_move.specs.Read.{same}

-- A member: the place of its name's quote, its name, and what is made of its value.
pub record Entry {ℓ} (A : Type ℓ) : Type ℓ where
  pub quote : Place
  pub name : List ℕ
  pub value : A

abbrev pub has : List ℕ → List (List ℕ) → Bool
has n [] = false
has n (m ∷ ms) = same n m || has n ms

abbrev pub or_else : Bool → Place → Option Place → Option Place
or_else true p o = some p
or_else false p o = o

pub data Found {ℓ} (A : Type ℓ) : Type ℓ where
  nothing : Found A
  one : A → Found A
  twice : Found A

module _ {ℓ} {A : Type ℓ} where
  abbrev pub add : Bool → A → Found A → Found A
  add false v f = f
  add true v nothing = one v
  add true v (one w) = twice
  add true v twice = twice

  -- What stands under a name. The answer does not hang on the members' order.
  abbrev pub find : List ℕ → List (Entry A) → Found A
  find n [] = nothing
  find n (e ∷ es) = add (same n e.name) e.value (find n es)

  -- 6: the first member whose name stood before.
  abbrev pub repeated : List (List ℕ) → List (Entry A) → Option Place
  repeated seen [] = none
  repeated seen (e ∷ es) = or_else (has e.name seen) e.quote (repeated (e.name ∷ seen) es)

  -- 5: the first member whose name is not known.
  abbrev pub unknown : List (List ℕ) → List (Entry A) → Option Place
  unknown known [] = none
  unknown known (e ∷ es) = or_else (not (has e.name known)) e.quote (unknown known es)
