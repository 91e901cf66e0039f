-- A number that a test finds between two bounds is there.
use Prim.Native.Nat.{ℕ, ◌≤◌}
use mathlib.Core.Path.{◌≡◌}
use mathlib.Core.Bool.{true, ◌&&◌}
use lib.Dec.{leb}
use borrow.Author.Tests.{leb-true}
use Rattle.json_grammar.proofs.Truth.{and_left, and_right}

pub in_range : (lo n hi : ℕ) → (leb lo n && leb n hi) ≡ true → (lo ≤ n) × (n ≤ hi)
in_range lo n hi h = (leb-true lo n (and_left (leb lo n) (leb n hi) h), leb-true n hi (and_right (leb lo n) (leb n hi) h))
