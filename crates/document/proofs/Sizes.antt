-- How many bytes a tree's plain spelling has at most.
use Prim.Native.Nat.{ℕ, suc, ◌+◌, ◌*◌, ◌≤◌}
use mathlib.Core.Path.{◌≡◌, refl}
use mathlib.Core.List.{List, [], ◌∷◌}
use mathlib.Core.Bool.{Bool, true, false, cond}
use native.Mathlib.Omega.{arith}
use lib.Dec.{ltb}
use lib.ListN.{length, length-append}
use Rattle.json_grammar.specs.Rows.{Rows, else, below, look}
use Rattle.json_grammar.specs.Tree.{Tree, object, list, string, number, bool, null, Members, no_member, member, Elements, no_element, element}
use Rattle.json_laws.proofs.Tables.{each}
use Rattle.document.specs.Spell.{control, escaped, quoted, spell, first_member, more_members, first_element, more_elements}

-- The table of escapes.
abbrev pub escaped_rows : ℕ → List ℕ → Rows (List ℕ)
escaped_rows b k =
    below 8 (control b k) (below 9 (92 ∷ 98 ∷ k) (below 10 (92 ∷ 116 ∷ k) (below 11 (92 ∷ 110 ∷ k) (below 12 (control b k)
    (below 13 (92 ∷ 102 ∷ k) (below 14 (92 ∷ 114 ∷ k) (below 32 (control b k) (below 34 (b ∷ k) (below 35 (92 ∷ 34 ∷ k)
    (below 92 (b ∷ k) (below 93 (92 ∷ 92 ∷ k) (else (b ∷ k)))))))))))))

-- A byte between quotes: itself, a letter behind a backslash, or \u and four digits.
abbrev pub escaped_sizes : Rows ℕ
escaped_sizes =
    below 8 6 (below 9 2 (below 10 2 (below 11 2 (below 12 6
    (below 13 2 (below 14 2 (below 32 6 (below 34 1 (below 35 2
    (below 92 1 (below 93 2 (else 1))))))))))))

unfoldable pub escaped_size : ℕ → ℕ
unfolding look
escaped_size b = look b escaped_sizes

-- With the closing quote.
unfoldable pub quoted_size : List ℕ → ℕ
unfolding escaped_size
quoted_size [] = 1
quoted_size (b ∷ bs) = escaped_size b + quoted_size bs

-- A comma is counted with what stands behind it, be it the first or not.
unfoldable mutual
  unfolding quoted_size

  pub size : Tree → ℕ
  size (object p ms) = suc (members_size ms)
  size (list p es) = suc (elements_size es)
  size (string p cs) = suc (quoted_size cs)
  size (number p raw) = length raw
  size (bool p b) = 5
  size (null p) = 4

  pub members_size : Members → ℕ
  members_size no_member = 1
  members_size (member q n t ms) = 3 + quoted_size n + size t + members_size ms

  pub elements_size : Elements → ℕ
  elements_size no_element = 1
  elements_size (element t es) = 1 + size t + elements_size es

-- Row by row.
abbrev Sized : List ℕ → Rows (List ℕ) → Rows ℕ → Type 0
Sized k (else s) (else n) = length s ≡ n + length k
Sized k (else s) (below m n sizes) = ⊥
Sized k (below m s rows) (else n) = ⊥
Sized k (below m s rows) (below l n sizes) = (m ≡ l) × (length s ≡ n + length k) × Sized k rows sizes

row_sized : (k s t : List ℕ) (m n : ℕ) (x : Bool) → length s ≡ m + length k → length t ≡ n + length k → length (cond x s t) ≡ cond x m n + length k
row_sized k s t m n true p q = p
row_sized k s t m n false p q = q

sized : (b : ℕ) (k : List ℕ) (rows : Rows (List ℕ)) (sizes : Rows ℕ) → Sized k rows sizes → length (look b rows) ≡ look b sizes + length k
unfolding look
sized b k (else s) (else n) h = h
sized b k (else s) (below m n sizes) h = absurd h
sized b k (below m s rows) (else n) h = absurd h
sized b k (below m s rows) (below l n sizes) h = rw h.0 (row_sized k s (look b rows) n (look b sizes) (ltb b l) h.1 (sized b k rows sizes h.2))

escaped_length : (b : ℕ) (k : List ℕ) → length (escaped b k) ≡ escaped_size b + length k
unfolding escaped escaped_size
escaped_length b k = sized b k (escaped_rows b k) escaped_sizes (refl, (omega arith), (refl, (omega arith), (refl, (omega arith), (refl, (omega arith), (refl, (omega arith), (refl, (omega arith), (refl, (omega arith), (refl, (omega arith), (refl, (omega arith), (refl, (omega arith), (refl, (omega arith), (refl, (omega arith), (omega arith)))))))))))))

quoted_length : (cs k : List ℕ) → length (quoted cs k) ≡ quoted_size cs + length k
unfolding quoted quoted_size
quoted_length [] k = omega arith
quoted_length (c ∷ cs) k = let a = escaped_length c (quoted cs k) in let b = quoted_length cs k in omega arith

mutual
  unfolding spell size

  pub spell_length : (t : Tree) (k : List ℕ) → length (spell t k) ≤ size t + length k
  spell_length (object p ms) k = let h = first_member_length ms k in omega arith
  spell_length (list p es) k = let h = first_element_length es k in omega arith
  spell_length (string p cs) k = let h = quoted_length cs k in omega arith
  spell_length (number p raw) k = let h = length-append raw k in omega arith
  spell_length (bool p true) k = omega arith
  spell_length (bool p false) k = omega arith
  spell_length (null p) k = omega arith

  first_member_length : (ms : Members) (k : List ℕ) → length (first_member ms k) ≤ members_size ms + length k
  first_member_length no_member k = omega arith
  first_member_length (member q n t ms) k =
      let a = quoted_length n (58 ∷ spell t (more_members ms k)) in
      let b = spell_length t (more_members ms k) in
      let c = more_members_length ms k in
      omega arith

  more_members_length : (ms : Members) (k : List ℕ) → length (more_members ms k) ≤ members_size ms + length k
  more_members_length no_member k = omega arith
  more_members_length (member q n t ms) k =
      let a = quoted_length n (58 ∷ spell t (more_members ms k)) in
      let b = spell_length t (more_members ms k) in
      let c = more_members_length ms k in
      omega arith

  first_element_length : (es : Elements) (k : List ℕ) → length (first_element es k) ≤ elements_size es + length k
  first_element_length no_element k = omega arith
  first_element_length (element t es) k = let b = spell_length t (more_elements es k) in let c = more_elements_length es k in omega arith

  more_elements_length : (es : Elements) (k : List ℕ) → length (more_elements es k) ≤ elements_size es + length k
  more_elements_length no_element k = omega arith
  more_elements_length (element t es) k = let b = spell_length t (more_elements es k) in let c = more_elements_length es k in omega arith

-- A byte takes at most six.
at_most_six : (b : ℕ) → escaped_size b ≤ 6
unfolding escaped_size
at_most_six b = each (λ n. n ≤ 6) 0 b escaped_sizes (omega arith) (omega arith)

pub quoted_at_most : (cs : List ℕ) → quoted_size cs ≤ 6 * length cs + 1
unfolding quoted_size
quoted_at_most [] = omega arith
quoted_at_most (c ∷ cs) = let a = at_most_six c in let b = quoted_at_most cs in omega arith
