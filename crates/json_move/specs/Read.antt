-- The tree of a text that was walked, as moving about it finds it. Each step moves on, so the length is steps enough.
use Rattle.std.specs.Prelude.{ℕ, zero, suc, Bool, true, false, ◌&&◌, length, eqb}
use mathlib.Core.List.{List, [], ◌∷◌, tail}
use Rattle.json_grammar.specs.Rows.{choose}
use Rattle.json_grammar.specs.Byte.{is_numeric, blanked}
use Rattle.json_grammar.specs.Tree.{Place, Tree, object, list, string, number, bool, null, Members, no_member, member, Elements, no_element, element}
use Rattle.json_grammar.specs.String.{chars}
use Rattle.json_grammar.specs.declared.string.InString.TheVariants.{Plain}
use Rattle.json_move.specs.Moving.{kind_of, first_in, next_after, value_of, at_end}
use Rattle.json_move.specs.declared.Kind.TheVariants.{Object, Array, Text, Number, True, False, Null}

-- The decoded bytes of the string whose opening quote stands here.
unfoldable pub decoded : Place → List ℕ
unfolding chars
decoded s = (chars Plain 0 (tail s)).bytes

-- Whether two lists of bytes are the same.
abbrev pub same : List ℕ → List ℕ → Bool
same [] [] = true
same [] (b ∷ bs) = false
same (a ∷ as') [] = false
same (a ∷ as') (b ∷ bs) = eqb a b && same as' bs

-- The bytes of the number that stands here.
unfoldable pub written : Place → List ℕ
unfolding is_numeric
written [] = []
written (b ∷ s) = choose (is_numeric b) (λ _. b ∷ written s) λ _. []

unfoldable mutual
  unfolding kind_of first_in next_after value_of at_end decoded written

  pub tree_at : ℕ → Place → Tree
  tree_at zero s = null s
  tree_at (suc n) s =
      elim (kind_of s) [
        | Object ↦ object s (members_at n (first_in s))
        | Array ↦ list s (elements_at n (first_in s))
        | Text ↦ string s (decoded s)
        | Number ↦ number s (written s)
        | True ↦ bool s true
        | False ↦ bool s false
        | Null ↦ null s
      ]

  pub members_at : ℕ → Place → Members
  members_at zero s = no_member
  members_at (suc n) s =
      choose (at_end s) (λ _. no_member) λ _.
      member s (decoded s) (tree_at n (value_of s)) (members_at n (next_after (value_of s)))

  pub elements_at : ℕ → Place → Elements
  elements_at zero s = no_element
  elements_at (suc n) s = choose (at_end s) (λ _. no_element) λ _. element (tree_at n s) (elements_at n (next_after s))

unfoldable pub tree_of : List ℕ → Tree
unfolding tree_at blanked
tree_of text = tree_at (length text) (blanked text)
