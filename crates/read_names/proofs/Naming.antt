-- The names by their numbers.
use Prim.Native.Nat.{ℕ, ◌<◌}
use mathlib.Core.Path.{◌≡◌, refl, sym, ap, ◌∙◌}
use mathlib.Core.List.{List, [], ◌∷◌}
use mathlib.Core.Bool.{Bool, true, false, ◌||◌}
use lib.Dec.{eqb}
use denote.Enum.Bare.{sameb, tag_one}
use Rattle.std.specs.Prelude.{Option, Some, None}
use denote.Enum.Declared.{tag_of}
use borrow.Author.Tests.{eqb-true, eqb-false, eq-eqb, ne_eqb}
use native.Mathlib.Omega.{arith}
use borrow.Author.Rules.{rules}
use Rattle.std.specs.List.{list_any}
use Rattle.read_names.specs.Names.{number_of, is_in, is_among}
use Rattle.read_names.specs.declared.names.Name.{Name}
use Rattle.read_names.specs.contracts.names.Name.{the_type}

number_tag : (n : Name) → tag_of the_type n ≡ number_of n
number_tag n = search rules

pub number_small : (n : Name) → number_of n < 33
number_small n = search rules

eqb_comm : (a b : ℕ) → eqb a b ≡ eqb b a
eqb_comm a b = go (eqb b a) refl
  where
    go : (x : Bool) → eqb b a ≡ x → eqb a b ≡ x
    go true e = eq-eqb a b (sym (eqb-true b a e))
    go false e = ne_eqb a b (λ z. eqb-false b a e (sym z))

pub among : (n : Name) (ns : List Name) → list_any (λ m. sameb the_type m n) ns ≡ is_in n ns
among n [] = refl
among n (m ∷ ns) = rw (number_tag m, number_tag n, among n ns) (ap (λ x. x || is_in n ns) (eqb_comm (number_of m) (number_of n)))

-- 33 for none.
abbrev pub numbered : Option Name → ℕ
numbered None = 33
numbered (Some n) = number_of n

pub numbered_is : (m : Name) (o : Option Name) → number_of m ≡ numbered o → o ≡ Some m
numbered_is m None e = absurd (omega (arith, number_small m))
numbered_is m (Some n) e = ap (λ x. Some x) (tag_one the_type tt n m (number_tag n ∙ sym e ∙ sym (number_tag m)))

abbrev pub number_in : ℕ → List Name → Bool
number_in k ns = list_any (λ m. eqb k (number_of m)) ns

pub among_by : (o : Option Name) (ns : List Name) → is_among o ns ≡ number_in (numbered o) ns
among_by (Some n) ns = refl
among_by None [] = refl
among_by None (n ∷ ns) = rw (ne_eqb 33 (number_of n) (λ z. omega (arith, number_small n))) (among_by None ns)
