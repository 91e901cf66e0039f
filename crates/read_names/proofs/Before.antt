-- The names before a member.
use Prim.Native.Nat.{ℕ, zero, suc, ◌-◌, ◌<◌, ◌≤◌}
use mathlib.Core.Path.{◌≡◌, refl, sym, ap, ◌∙◌}
use mathlib.Core.List.{List}
use mathlib.Core.Bool.{true, false, ◌||◌}
use native.Mathlib.Omega.{arith}
use Rattle.json_grammar.specs.Tree.{Place}
use Rattle.json_grammar.proofs.Truth.{or_left_comm}
use Rattle.json_move.specs.Moving.{next_after, value_of}
use Rattle.json_move.specs.Read.{decoded}
use Rattle.document.specs.Lookup.{same, has}
use Rattle.read_names.specs.Names.{names_from}

-- The names from a place on, one after the other.
module _ (n : List ℕ) (left : ℕ) (s : Place) (some : 0 < left) where
  one : has n (names_from left s) ≡ same n (decoded s) || has n (names_from (left - 1) (next_after (value_of s)))
  unfolding names_from
  one = let e : left ≡ suc (left - 1) = omega arith in ap (λ x. has n (names_from x s)) e

  pub before_here : true ≡ same n (decoded s) → true ≡ has n (names_from left s)
  before_here e = sym (one ∙ rw (← e))

  pub before_on : false ≡ same n (decoded s) → has n (names_from (left - 1) (next_after (value_of s))) ≡ has n (names_from left s)
  before_on e = sym (one ∙ rw (← e))

pub before_none : (n : List ℕ) (left : ℕ) (s : Place) → left ≤ 0 → false ≡ has n (names_from left s)
unfolding names_from
before_none n left s h = let e : left ≡ 0 = omega arith in rw e

-- The place of the member behind so many.
abbrev pub behind : ℕ → Place → Place
behind zero s = s
behind (suc m) s = behind m (next_after (value_of s))

pub behind_more : (m : ℕ) (s : Place) → behind (suc m) s ≡ next_after (value_of (behind m s))
behind_more zero s = refl
behind_more (suc m) s = behind_more m (next_after (value_of s))

pub names_more : (n : List ℕ) (m : ℕ) (s : Place) → has n (names_from (suc m) s) ≡ same n (decoded (behind m s)) || has n (names_from m s)
unfolding names_from
names_more n zero s = refl
names_more n (suc m) s =
    let t = next_after (value_of s) in
    ap (λ x. same n (decoded s) || x) (names_more n m t) ∙ or_left_comm (same n (decoded s)) (same n (decoded (behind m t))) (has n (names_from m t))
