-- Document 02, Wish 2: "the sum, over the accepted puts not removed since, of 6 and L", of a history of calls and answers alone.
use Rattle.std.specs.Prelude.{List, [], ◌∷◌, Bool, false, cond, ◌||◌, ℕ, ◌+◌, eqb}
use Rattle.shelf_list.specs.Calls.{Call, put, fetch, remove, at, Answer, stored, fetched, removed, standing, refused}

-- Whether a call took the number away.
abbrev pub removes_it : ℕ → Call → Answer → Bool
removes_it number (put m purpose text) r = false
removes_it number (fetch m room) r = false
removes_it number (remove m) (stored l) = false
removes_it number (remove m) (fetched p) = false
removes_it number (remove m) removed = eqb m number
removes_it number (remove m) (standing k) = false
removes_it number (remove m) (refused k place) = false
removes_it number (at position) r = false

abbrev pub removed_in : ℕ → List Call → List Answer → Bool
removed_in number [] rs = false
removed_in number (c ∷ cs) [] = false
removed_in number (c ∷ cs) (r ∷ rs) = removes_it number c r || removed_in number cs rs

-- What an accepted put took, unless its number is gone since.
abbrev pub stored_by : Call → Answer → (ℕ → Bool) → ℕ
stored_by (put number purpose text) (stored l) gone = cond (gone number) 0 (6 + l)
stored_by (put number purpose text) (fetched p) gone = 0
stored_by (put number purpose text) removed gone = 0
stored_by (put number purpose text) (standing k) gone = 0
stored_by (put number purpose text) (refused k place) gone = 0
stored_by (fetch m room) r gone = 0
stored_by (remove m) r gone = 0
stored_by (at position) r gone = 0

abbrev pub held_by : List Call → List Answer → ℕ
held_by [] rs = 0
held_by (c ∷ cs) [] = 0
held_by (c ∷ cs) (r ∷ rs) = stored_by c r (λ (number : ℕ). removed_in number cs rs) + held_by cs rs
