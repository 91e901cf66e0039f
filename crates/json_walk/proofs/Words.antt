-- true, false and null: what one byte does.
use Prim.Native.Nat.{ℕ, ◌+◌, ◌<◌, ◌≤◌}
use mathlib.Core.Path.{◌≡◌}
use mathlib.Core.List.{List, [], ◌∷◌}
use lib.ListN.{length, get_or, drop, drop_of_length-le}
use lib.Seq.{drop-cons}
use native.Mathlib.Numerals.{add-one}
use borrow.Author.Tests.{eq-eqb, ne_eqb}
use Rattle.json_grammar.specs.Part.{past, torn, word_stop}

module _ (word : List ℕ) (k : ℕ) where
  module _ (h : k < length word) where
    pub word_goes : (b : ℕ) → b ≡ get_or word k 0 → (s : List ℕ) → word_stop (drop k word) (b ∷ s) ≡ word_stop (drop (k + 1) word) s
    unfolding word_stop
    word_goes b e s = rw (drop-cons word k 0 h, eq-eqb b (get_or word k 0) e, add-one)

    pub word_differs : (b : ℕ) → (b ≡ get_or word k 0 → ⊥) → (s : List ℕ) → word_stop (drop k word) (b ∷ s) ≡ torn (b ∷ s)
    unfolding word_stop
    word_differs b e s = rw (drop-cons word k 0 h, ne_eqb b (get_or word k 0) e)

    pub word_cut : word_stop (drop k word) [] ≡ torn []
    unfolding word_stop
    word_cut = rw (drop-cons word k 0 h)

  pub word_done : length word ≤ k → (s : List ℕ) → word_stop (drop k word) s ≡ past s
  unfolding word_stop
  word_done h s = rw (drop_of_length-le word h)
