-- The brackets that are open behind some bytes (document 01, "Answers by number", row 3): "`{` or `[` open at once, both counted together".
use Rattle.std.specs.Prelude.{ℕ, suc, pred, ◌≤◌, ◌<◌, ◌≡◌, List, [], ◌∷◌, true, length, take, get_or, eqb}
use Rattle.json_grammar.specs.Rows.{choose}
use Rattle.json_move.specs.Moving.{opens, closes}
use Rattle.json_laws.specs.Begins.{Begins}

-- With n open so far: outside strings, in a string, and behind a backslash in it.
unfoldable mutual
  unfolding opens closes

  pub open_after : ℕ → List ℕ → ℕ
  open_after n [] = n
  open_after n (b ∷ s) =
      choose (eqb b 34) (λ _. open_quoted n s) λ _.
      choose (opens b) (λ _. open_after (suc n) s) λ _.
      choose (closes b) (λ _. open_after (pred n) s) λ _.
      open_after n s

  pub open_quoted : ℕ → List ℕ → ℕ
  open_quoted n [] = n
  open_quoted n (b ∷ s) = choose (eqb b 34) (λ _. open_after n s) λ _. choose (eqb b 92) (λ _. open_escaped n s) λ _. open_quoted n s

  pub open_escaped : ℕ → List ℕ → ℕ
  open_escaped n [] = n
  open_escaped n (b ∷ s) = open_quoted n s

unfoldable pub open_in : List ℕ → ℕ
unfolding open_after
open_in w = open_after 0 w

-- Up to the place n no 21st bracket is open.
abbrev pub Shallow : List ℕ → ℕ → Type 0
Shallow text n = (i : ℕ) → i ≤ n → open_in (take i text) ≤ 20

-- "the 21st `{` or `[` open at once": the byte at n. With it the bytes still begin a text.
pub record TwentyFirst (text : List ℕ) (n : ℕ) : Type 0 where
  pub inside : n < length text
  pub bracket : opens (get_or text n 0) ≡ true
  pub twenty : open_in (take n text) ≡ 20
  pub twenty_one : open_in (take (suc n) text) ≡ 21
  pub before : Shallow text n
  pub begins : Begins (take (suc n) text)
