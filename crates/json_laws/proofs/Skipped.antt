-- Skipping a part of a text comes to where the grammar says that it ends.
use Prim.Native.Nat.{ℕ, zero, suc}
use mathlib.Core.Path.{◌≡◌, refl, ◌∙◌}
use mathlib.Core.List.{List, [], ◌∷◌}
use mathlib.Core.Bool.{Bool, true, false, cond, false≢true}
use lib.Dec.{eqb}
use Rattle.json_grammar.specs.Rows.{look}
use Rattle.json_grammar.specs.Byte.{is_blank, is_numeric}
use Rattle.json_grammar.specs.Tree.{Place, Tree, Members, Elements}
use Rattle.json_grammar.specs.declared.string.InString.{InString}
use Rattle.json_grammar.specs.declared.number.InNumber.{InNumber}
use Rattle.json_grammar.specs.declared.number.InNumber.TheVariants.{Start}
use Rattle.json_grammar.specs.Grammar.{Blanks, here, blank, Chars, Digits, over, stop, next, Value, an_empty_object, an_object, an_empty_list, a_list, a_string, a_number, a_true, a_false, a_null, Listed, first, Behind, bracket, next_element, Named, name, Follows, brace, next_member}
use Rattle.json_move.specs.Moving.{kind_of, behind_string, behind_escape, behind_bracket, in_quotes, escaped, behind_number, behind_value}
use Rattle.json_move.specs.Read.{written}
use Rattle.json_move.specs.declared.Kind.{Kind}
use Rattle.json_move.specs.declared.Kind.TheVariants.{Object, Array, Text as AText, Number, True, False, Null}
use Rattle.json_laws.proofs.Tables.{tables, always}
use Rattle.json_laws.proofs.Bytes.{apart, onward_numeric, implies, implied, numeric_bounds}
use Rattle.json_laws.proofs.Strings.{From, escaping, to_quote, chars_from}

-- Behind a string's closing quote.
from_behind_string : {c : InString} {s r : List ℕ} → From c s r → cond (escaping c) behind_escape behind_string s ≡ r
unfolding behind_string
from_behind_string f = to_quote behind_string behind_escape (λ b s e h. rw (e, h)) (λ s. refl) (λ b s. refl) f

pub string_moved : {cs s r : List ℕ} → Chars cs s r → behind_string s ≡ r
string_moved c = from_behind_string (chars_from c)

-- Behind a number.
pub number_moved : {n : InNumber} {ds s r : List ℕ} → Digits n ds s r → behind_number s ≡ r
unfolding behind_number
number_moved (over e) = refl
number_moved (stop e h) = rw h
number_moved (next {n = n} {b = b} e d) = rw (onward_numeric n b e) (number_moved d)

pub number_written : {n : InNumber} {ds s r : List ℕ} → Digits n ds s r → written s ≡ ds
unfolding written
number_written (over e) = refl
number_written (stop e h) = rw h
number_written (next {n = n} {b = b} e d) = rw (onward_numeric n b e, number_written d)

-- Inside brackets: n more are open.
module _ (n : ℕ) where
  quoted_moved : {cs s r : List ℕ} → Chars cs s r → in_quotes s n ≡ behind_bracket r n
  unfolding behind_bracket
  quoted_moved c = to_quote (λ s. in_quotes s n) (λ s. escaped s n) (λ b s e h. rw (e, h)) (λ s. refl) (λ b s. refl) (chars_from c)

  -- a byte that neither opens nor closes anything
  pass : (b : ℕ) (s : List ℕ) → eqb b 34 ≡ false → eqb b 91 ≡ false → eqb b 123 ≡ false → eqb b 93 ≡ false → eqb b 125 ≡ false → behind_bracket (b ∷ s) n ≡ behind_bracket s n
  unfolding behind_bracket
  pass b s a c d e f = rw (a, c, d, e, f)

  pass_test : (t : ℕ → Bool) (b : ℕ) (s : List ℕ) → t b ≡ true → t 34 ≡ false → t 91 ≡ false → t 123 ≡ false → t 93 ≡ false → t 125 ≡ false → behind_bracket (b ∷ s) n ≡ behind_bracket s n
  pass_test t b s h a c d e f = pass b s (apart t b 34 h a) (apart t b 91 h c) (apart t b 123 h d) (apart t b 93 h e) (apart t b 125 h f)

  blanks_moved : {s r : List ℕ} → Blanks s r → behind_bracket s n ≡ behind_bracket r n
  unfolding is_blank
  blanks_moved here = refl
  blanks_moved (blank {b = b} {s = s} e bs) = pass_test is_blank b s e refl refl refl refl refl ∙ blanks_moved bs

  digits_moved : {i : InNumber} {ds s r : List ℕ} → Digits i ds s r → behind_bracket s n ≡ behind_bracket r n
  unfolding is_numeric
  digits_moved (over e) = refl
  digits_moved (stop e h) = refl
  digits_moved (next {n = i} {b = b} {s = s} e d) = pass_test is_numeric b s (onward_numeric i b e) refl refl refl refl refl ∙ digits_moved d

-- Behind the closing bracket of the innermost.
abbrev out_of : ℕ → Place → Place
out_of zero r = r
out_of (suc n) r = behind_bracket r n

close_list : (n : ℕ) (r : Place) → behind_bracket (93 ∷ r) n ≡ out_of n r
unfolding behind_bracket
close_list zero r = refl
close_list (suc n) r = refl

close_object : (n : ℕ) (r : Place) → behind_bracket (125 ∷ r) n ≡ out_of n r
unfolding behind_bracket
close_object zero r = refl
close_object (suc n) r = refl

mutual
  unfolding behind_bracket

  value_passed : {t : Tree} {s r : List ℕ} → Value t s r → (n : ℕ) → behind_bracket s n ≡ behind_bracket r n
  value_passed (an_empty_object {r = r} b) n = blanks_moved (suc n) b
  value_passed (an_object b m) n = blanks_moved (suc n) b ∙ named_passed m (suc n)
  value_passed (an_empty_list b) n = blanks_moved (suc n) b
  value_passed (a_list b e) n = blanks_moved (suc n) b ∙ listed_passed e (suc n)
  value_passed (a_string c) n = quoted_moved n c
  value_passed (a_number d) n = digits_moved n d
  value_passed a_true n = refl
  value_passed a_false n = refl
  value_passed a_null n = refl

  listed_passed : {ts : Elements} {s r : List ℕ} → Listed ts s r → (n : ℕ) → behind_bracket s n ≡ out_of n r
  listed_passed (first v b e) n = value_passed v n ∙ blanks_moved n b ∙ behind_passed e n

  behind_passed : {ts : Elements} {s r : List ℕ} → Behind ts s r → (n : ℕ) → behind_bracket s n ≡ out_of n r
  behind_passed (bracket {r = r}) n = close_list n r
  behind_passed (next_element b e) n = blanks_moved n b ∙ listed_passed e n

  named_passed : {ms : Members} {s r : List ℕ} → Named ms s r → (n : ℕ) → behind_bracket s n ≡ out_of n r
  named_passed (name c b b' v b'' f) n = quoted_moved n c ∙ blanks_moved n b ∙ blanks_moved n b' ∙ value_passed v n ∙ blanks_moved n b'' ∙ follows_passed f n

  follows_passed : {ms : Members} {s r : List ℕ} → Follows ms s r → (n : ℕ) → behind_bracket s n ≡ out_of n r
  follows_passed (brace {r = r}) n = close_object n r
  follows_passed (next_member b m) n = blanks_moved n b ∙ named_passed m n

-- A number's first byte.
abbrev is_number : Kind → Bool
is_number Object = false
is_number Array = false
is_number AText = false
is_number Number = true
is_number True = false
is_number False = false
is_number Null = false

is_number_lem : (k : Kind) → is_number k ≡ true → k ≡ Number
is_number_lem Object e = absurd (false≢true e)
is_number_lem Array e = absurd (false≢true e)
is_number_lem AText e = absurd (false≢true e)
is_number_lem Number e = refl
is_number_lem True e = absurd (false≢true e)
is_number_lem False e = absurd (false≢true e)
is_number_lem Null e = absurd (false≢true e)

abbrev only_number : Bool → Kind → Bool
only_number x k = implies x (is_number k)

pub number_kind : (b : ℕ) (s : List ℕ) → is_numeric b ≡ true → kind_of (b ∷ s) ≡ Number
unfolding kind_of is_numeric always look
number_kind b s e = is_number_lem (kind_of (b ∷ s)) (implied (is_numeric b) (is_number (kind_of (b ∷ s)))
    (tables only_number is_numeric numeric_bounds (λ c. kind_of (c ∷ s)) (34 ∷ 35 ∷ 91 ∷ 92 ∷ 102 ∷ 103 ∷ 110 ∷ 111 ∷ 116 ∷ 117 ∷ 123 ∷ 124 ∷ []) b refl refl refl) e)

pub digits_kind : {ds s r : List ℕ} → Digits Start ds s r → kind_of s ≡ Number
unfolding kind_of
digits_kind (over e) = refl
digits_kind (stop e h) = absurd (false≢true e)
digits_kind (next {b = b} {s = s} e d) = number_kind b s (onward_numeric Start b e)

-- Behind a value.
pub value_moved : {t : Tree} {s r : List ℕ} → Value t s r → behind_value s ≡ r
unfolding behind_value
value_moved (an_empty_object {r = r} b) = blanks_moved 0 b
value_moved (an_object b m) = blanks_moved 0 b ∙ named_passed m 0
value_moved (an_empty_list b) = blanks_moved 0 b
value_moved (a_list b e) = blanks_moved 0 b ∙ listed_passed e 0
value_moved (a_string c) = string_moved c
value_moved (a_number d) = rw (digits_kind d) (number_moved d)
value_moved a_true = refl
value_moved a_false = refl
value_moved a_null = refl
