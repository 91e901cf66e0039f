-- Moving about a text, by the grammar: the laws that a reader of trees cites.
use Prim.Native.Nat.{ℕ, ◌≤◌}
use mathlib.Core.Path.{◌≡◌, refl, ap, ◌∙◌}
use mathlib.Core.List.{List, ◌∷◌}
use mathlib.Core.Bool.{false}
use lib.ListN.{length}
use native.Mathlib.Omega.{arith}
use Rattle.json_grammar.specs.Byte.{is_blank}
use Rattle.json_grammar.specs.Tree.{Place, Tree, object, list, Members, Elements}
use Rattle.json_grammar.specs.String.{chars}
use Rattle.json_grammar.specs.declared.string.InString.TheVariants.{Plain}
use Rattle.json_grammar.specs.declared.number.InNumber.TheVariants.{Start}
use Rattle.json_grammar.specs.Grammar.{Blanks, Chars, Digits, Value, an_empty_object, an_object, an_empty_list, a_list, Listed, first, Behind, Named, name, Follows}
use Rattle.json_move.specs.Moving.{behind_string, behind_number, behind_value, first_in, over_comma, next_after, value_of, at_end}
use Rattle.json_move.specs.Read.{decoded, written, tree_at, members_at, elements_at}
use Rattle.json_laws.proofs.Shorter.{blanks_shorter, value_sharp, listed_sharp, named_sharp, behind_sharp, follows_sharp, to_sharp}
use Rattle.json_laws.proofs.Skipped as S
use Rattle.json_laws.proofs.Decoding.{decoded_chars}
use Rattle.json_laws.proofs.Trees as T

-- A string: behind its closing quote, and decoded.
pub behind_string_lem : {cs s r : List ℕ} → Chars cs s r → behind_string s ≡ r
behind_string_lem c = S.string_moved c

pub string_bytes : {cs s r : List ℕ} → Chars cs s r → (chars Plain 0 s).bytes ≡ cs
string_bytes c = ap (λ d. d.bytes) (decoded_chars c 0)

pub string_rest : {cs s r : List ℕ} → Chars cs s r → (chars Plain 0 s).rest ≡ r
string_rest c = ap (λ d. d.rest) (decoded_chars c 0)

pub string_decoded : {cs s r : List ℕ} → Chars cs s r → decoded (34 ∷ s) ≡ cs
string_decoded c = T.decoded_string c

-- A number: behind it, and as it is written.
pub behind_number_lem : {ds s r : List ℕ} → Digits Start ds s r → behind_number s ≡ r
behind_number_lem d = S.number_moved d

pub number_written : {ds s r : List ℕ} → Digits Start ds s r → written s ≡ ds
number_written d = S.number_written d

-- Any value: behind it, and its tree. As many steps as its bytes are enough.
pub behind_value_lem : {t : Tree} {s r : List ℕ} → Value t s r → behind_value s ≡ r
behind_value_lem v = S.value_moved v

pub tree_at_lem : {t : Tree} {s r : List ℕ} → Value t s r → (n : ℕ) → length s ≤ n → tree_at n s ≡ t
tree_at_lem v n h = T.tree_at_lem v n h

-- The members and the elements from a place between the brackets, and from the bracket that opens them.
pub members_at_lem : {ms : Members} {s r : List ℕ} → Named ms s r → (n : ℕ) → length s ≤ n → members_at n s ≡ ms
members_at_lem m n h = T.named_tree m n (omega arith)

pub elements_at_lem : {ts : Elements} {s r : List ℕ} → Listed ts s r → (n : ℕ) → length s ≤ n → elements_at n s ≡ ts
elements_at_lem e n h = T.listed_tree e n (omega arith)

pub members_in_lem : {p : Place} {ms : Members} {s r : List ℕ} → Value (object p ms) s r → (n : ℕ) → length s ≤ n → members_at n (first_in s) ≡ ms
unfolding first_in is_blank
members_in_lem (an_empty_object {r = r} b) n h = ap (λ x. members_at n x) (to_sharp b refl) ∙ T.no_members_lem n r
members_in_lem (an_object b m) n h = ap (λ x. members_at n x) (to_sharp b (named_sharp m)) ∙ members_at_lem m n (omega (arith, blanks_shorter b))

pub elements_in_lem : {p : Place} {ts : Elements} {s r : List ℕ} → Value (list p ts) s r → (n : ℕ) → length s ≤ n → elements_at n (first_in s) ≡ ts
unfolding first_in is_blank
elements_in_lem (an_empty_list {r = r} b) n h = ap (λ x. elements_at n x) (to_sharp b refl) ∙ T.no_elements n r
elements_in_lem (a_list b e) n h = ap (λ x. elements_at n x) (to_sharp b (listed_sharp e)) ∙ elements_at_lem e n (omega (arith, blanks_shorter b))

-- From the opening bracket to the first name and to the first element.
pub first_name_lem : {ms : Members} {s m r : List ℕ} (b : ℕ) → Blanks s m → Named ms m r → first_in (b ∷ s) ≡ m
unfolding first_in
first_name_lem b k m = to_sharp k (named_sharp m)

pub first_element_lem : {ts : Elements} {s m r : List ℕ} (b : ℕ) → Blanks s m → Listed ts m r → first_in (b ∷ s) ≡ m
unfolding first_in
first_element_lem b k e = to_sharp k (listed_sharp e)

-- From a name to its value.
pub value_of_lem : {t : Tree} {n s a b c d : List ℕ} → Chars n s a → Blanks a (58 ∷ b) → Blanks b c → Value t c d → value_of (34 ∷ s) ≡ c
unfolding is_blank
value_of_lem c k l v = T.value_of_lem c (to_sharp k refl) (to_sharp l (value_sharp v))

-- From a value to what stands behind it: over a comma, if there is one.
pub next_after_element : {t : Tree} {ts : Elements} {s m n r : List ℕ} → Value t s m → Blanks m n → Behind ts n r → next_after s ≡ over_comma n
next_after_element v k e = T.next_after_lem v (to_sharp k (behind_sharp e))

pub next_after_member : {t : Tree} {ms : Members} {s m n r : List ℕ} → Value t s m → Blanks m n → Follows ms n r → next_after s ≡ over_comma n
next_after_member v k f = T.next_after_lem v (to_sharp k (follows_sharp f))

-- Neither a name nor an element is the end.
pub name_not_end : {ms : Members} {s r : List ℕ} → Named ms s r → at_end s ≡ false
unfolding at_end
name_not_end (name c b b' v b'' f) = refl

pub element_not_end : {ts : Elements} {s r : List ℕ} → Listed ts s r → at_end s ≡ false
element_not_end (first v b e) = T.value_open v
