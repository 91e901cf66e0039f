-- The tree that moving about a text finds is the tree that the grammar spells.
use Prim.Native.Nat.{ℕ, zero, suc, ◌+◌, ◌≤◌, ◌<◌}
use mathlib.Core.Path.{◌≡◌, refl, ap, ◌∙◌}
use mathlib.Core.List.{List, [], ◌∷◌}
use mathlib.Core.Bool.{false, false≢true}
use lib.ListN.{length}
use native.Mathlib.Omega.{arith}
use Rattle.json_grammar.specs.Byte.{is_numeric, blanked}
use Rattle.json_grammar.specs.Tree.{Tree, object, list, string, number, Members, no_member, Elements, no_element}
use Rattle.json_grammar.specs.declared.number.InNumber.TheVariants.{Start}
use Rattle.json_grammar.specs.Grammar.{Blanks, Chars, Digits, over, stop, next, Value, an_empty_object, an_object, an_empty_list, a_list, a_string, a_number, a_true, a_false, a_null, Listed, first, Behind, bracket, next_element, Named, name, Follows, brace, next_member, Text, text}
use Rattle.json_move.specs.Moving.{behind_value, first_in, over_comma, next_after, value_of, at_end}
use Rattle.json_move.specs.Read.{decoded, tree_at, members_at, elements_at, tree_of}
use Rattle.json_laws.specs.Leading.{Leading, leading}
use Rattle.json_laws.proofs.Bytes.{apart, onward_numeric}
use Rattle.json_laws.proofs.Shorter.{blanks_shorter, chars_shorter, value_shorter, behind_shorter, follows_shorter, value_sharp, listed_sharp, behind_sharp, named_sharp, follows_sharp, to_sharp}
use Rattle.json_laws.proofs.Skipped.{string_moved, value_moved, digits_kind, number_written}
use Rattle.json_laws.proofs.Decoding.{decoded_chars}

pub decoded_string : {cs s r : List ℕ} → Chars cs s r → decoded (34 ∷ s) ≡ cs
unfolding decoded
decoded_string c = ap (λ d. d.bytes) (decoded_chars c 0)

-- From a value to what stands behind it.
pub next_after_lem : {t : Tree} {s m n : List ℕ} → Value t s m → blanked m ≡ n → next_after s ≡ over_comma n
unfolding next_after
next_after_lem v e = rw (value_moved v, e)

pub value_of_lem : {cs s a b c : List ℕ} → Chars cs s a → blanked a ≡ 58 ∷ b → blanked b ≡ c → value_of (34 ∷ s) ≡ c
unfolding value_of
value_of_lem c e f = rw (string_moved c, e, f)

-- What begins with no closing bracket.
number_open : {ds s r : List ℕ} → Digits Start ds s r → at_end s ≡ false
unfolding at_end is_numeric
number_open (over e) = absurd (false≢true e)
number_open (stop e h) = absurd (false≢true e)
number_open (next {b = b} e d) = let h = onward_numeric Start b e in rw (apart is_numeric b 93 h refl, apart is_numeric b 125 h refl)

pub value_open : {t : Tree} {s r : List ℕ} → Value t s r → at_end s ≡ false
unfolding at_end
value_open (an_empty_object b) = refl
value_open (an_object b n) = refl
value_open (an_empty_list b) = refl
value_open (a_list b e) = refl
value_open (a_string c) = refl
value_open (a_number d) = number_open d
value_open a_true = refl
value_open a_false = refl
value_open a_null = refl

pub no_members_lem : (n : ℕ) (r : List ℕ) → members_at n (125 ∷ r) ≡ no_member
unfolding members_at
no_members_lem zero r = refl
no_members_lem (suc n) r = refl

pub no_elements : (n : ℕ) (r : List ℕ) → elements_at n (93 ∷ r) ≡ no_element
unfolding elements_at
no_elements zero r = refl
no_elements (suc n) r = refl

number_tree : {ds s r : List ℕ} (n : ℕ) → Digits Start ds s r → tree_at (suc n) s ≡ number s ds
unfolding tree_at
number_tree {s = s} n d = rw (digits_kind d, tree_at) (ap (λ x. number s x) (number_written d))

-- A number of steps that is not 0.
some_step : (P : ℕ → Type 0) (n : ℕ) → 0 < n → ((m : ℕ) → n ≡ suc m → P (suc m)) → P n
some_step P zero h f = absurd (omega arith)
some_step P (suc n) h f = f n refl

-- Each step moves on, so what a part is long is steps enough for it.
mutual
  unfolding tree_at first_in

  pub value_tree : {t : Tree} {s r : List ℕ} → Value t s r → (n : ℕ) → length s ≤ suc n + length r → tree_at (suc n) s ≡ t
  value_tree (an_empty_object {s = s} {r = r} b) n h = ap (λ x. object (123 ∷ s) (members_at n x)) (to_sharp b refl) ∙ ap (λ x. object (123 ∷ s) x) (no_members_lem n r)
  value_tree (an_object {s = s} b m) n h = ap (λ x. object (123 ∷ s) (members_at n x)) (to_sharp b (named_sharp m)) ∙ ap (λ x. object (123 ∷ s) x) (named_tree m n (omega (arith, blanks_shorter b)))
  value_tree (an_empty_list {s = s} {r = r} b) n h = ap (λ x. list (91 ∷ s) (elements_at n x)) (to_sharp b refl) ∙ ap (λ x. list (91 ∷ s) x) (no_elements n r)
  value_tree (a_list {s = s} b e) n h = ap (λ x. list (91 ∷ s) (elements_at n x)) (to_sharp b (listed_sharp e)) ∙ ap (λ x. list (91 ∷ s) x) (listed_tree e n (omega (arith, blanks_shorter b)))
  value_tree (a_string {s = s} c) n h = ap (λ x. string (34 ∷ s) x) (decoded_string c)
  value_tree (a_number d) n h = number_tree n d
  value_tree a_true n h = refl
  value_tree a_false n h = refl
  value_tree a_null n h = refl

  pub listed_tree : {ts : Elements} {s r : List ℕ} → Listed ts s r → (n : ℕ) → length s ≤ n + length r → elements_at n s ≡ ts
  listed_tree (first v b e) zero h = absurd (omega (arith, value_shorter v, blanks_shorter b, behind_shorter e))
  listed_tree (first {t = t} {s = s} {m = m} {r = r} v b e) (suc n) h =
      let x = value_shorter v in let y = blanks_shorter b in let z = behind_shorter e in
      rw (value_open v, some_step (λ i. tree_at i s ≡ t) n (omega arith) (λ i q. value_tree v i (omega arith)), next_after_lem v (to_sharp b (behind_sharp e)), behind_tree e n (omega arith))

  pub behind_tree : {ts : Elements} {s r : List ℕ} → Behind ts s r → (n : ℕ) → length s ≤ n + length r → elements_at n (over_comma s) ≡ ts
  behind_tree (bracket {r = r}) n h = no_elements n r
  behind_tree (next_element b e) n h = rw (to_sharp b (listed_sharp e)) (listed_tree e n (omega (arith, blanks_shorter b)))

  pub named_tree : {ms : Members} {s r : List ℕ} → Named ms s r → (n : ℕ) → length s ≤ n + length r → members_at n s ≡ ms
  named_tree (name c b b' v b'' f) zero h = absurd (omega (arith, chars_shorter c, blanks_shorter b, blanks_shorter b', value_shorter v, blanks_shorter b'', follows_shorter f))
  named_tree (name {t = t} {c = p} c b b' v b'' f) (suc n) h =
      let x = chars_shorter c in let y = blanks_shorter b in let z = blanks_shorter b' in let w = value_shorter v in let u = blanks_shorter b'' in let a = follows_shorter f in
      rw (
        decoded_string c,
        value_of_lem c (to_sharp b refl) (to_sharp b' (value_sharp v)),
        some_step (λ i. tree_at i p ≡ t) n (omega arith) (λ i q. value_tree v i (omega arith)),
        next_after_lem v (to_sharp b'' (follows_sharp f)),
        follows_tree f n (omega arith),
      )

  pub follows_tree : {ms : Members} {s r : List ℕ} → Follows ms s r → (n : ℕ) → length s ≤ n + length r → members_at n (over_comma s) ≡ ms
  follows_tree (brace {r = r}) n h = no_members_lem n r
  follows_tree (next_member b m) n h = rw (to_sharp b (named_sharp m)) (named_tree m n (omega (arith, blanks_shorter b)))

pub tree_at_lem : {t : Tree} {s r : List ℕ} → Value t s r → (n : ℕ) → length s ≤ n → tree_at n s ≡ t
tree_at_lem {t} {s} v n h = let x = value_shorter v in some_step (λ i. tree_at i s ≡ t) n (omega arith) (λ i q. value_tree v i (omega arith))

-- The tree of the first object of some bytes, and so of a text.
pub leading_tree : {t : Tree} {s r : List ℕ} → Leading t s r → tree_of s ≡ t
unfolding tree_of
leading_tree (leading {s = s} b v) = ap (λ x. tree_at (length s) x) (to_sharp b (value_sharp v)) ∙ tree_at_lem v (length s) (blanks_shorter b)

-- What is behind it.
pub leading_behind : {t : Tree} {s r : List ℕ} → Leading t s r → behind_value (blanked s) ≡ r
leading_behind (leading b v) = ap behind_value (to_sharp b (value_sharp v)) ∙ value_moved v

pub text_leading : {t : Tree} {s : List ℕ} → Text t s → (r : List ℕ) × Leading t s r × Blanks r []
text_leading (text {r = r} b v c) = (r, leading b v, c)

pub leading_text : {t : Tree} {s r : List ℕ} → Leading t s r → Blanks r [] → Text t s
leading_text (leading b v) c = text b v c
