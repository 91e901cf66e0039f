-- What the grammar leaves is shorter; and no part but blanks begins with a blank.
use Prim.Native.Nat.{ℕ, ◌≤◌, ◌<◌}
use mathlib.Core.Path.{◌≡◌, refl, ◌∙◌}
use mathlib.Core.List.{List}
use mathlib.Core.Bool.{false≢true}
use lib.ListN.{length}
use native.Mathlib.Omega.{arith}
use Rattle.json_grammar.specs.Byte.{is_blank, blanked}
use Rattle.json_grammar.specs.Tree.{Tree, Members, Elements}
use Rattle.json_grammar.specs.declared.string.InString.{InString}
use Rattle.json_grammar.specs.declared.number.InNumber.{InNumber}
use Rattle.json_grammar.specs.declared.number.InNumber.TheVariants.{Start}
use Rattle.json_grammar.specs.Grammar.{Blanks, here, blank, Chars, Digits, over, stop, next, Value, an_empty_object, an_object, an_empty_list, a_list, a_string, a_number, a_true, a_false, a_null, Listed, first, Behind, bracket, next_element, Named, name, Follows, brace, next_member}
use Rattle.json_laws.proofs.Bytes.{onward_numeric, numeric_not_blank}
use Rattle.json_laws.proofs.Strings.{From, shuts, goes, chars_from}
use Rattle.json_laws.proofs.Blanks.{Sharp, sharp_blanked, over_blanks}

pub blanks_shorter : {s r : List ℕ} → Blanks s r → length r ≤ length s
blanks_shorter here = omega arith
blanks_shorter (blank e b) = omega (arith, blanks_shorter b)

from_shorter : {c : InString} {s r : List ℕ} → From c s r → length r < length s
from_shorter (shuts e) = omega arith
from_shorter (goes e f) = omega (arith, from_shorter f)

pub chars_shorter : {cs s r : List ℕ} → Chars cs s r → length r < length s
chars_shorter c = from_shorter (chars_from c)

digits_shorter : {n : InNumber} {ds s r : List ℕ} → Digits n ds s r → length r ≤ length s
digits_shorter (over e) = omega arith
digits_shorter (stop e h) = omega arith
digits_shorter (next e d) = omega (arith, digits_shorter d)

number_shorter : {ds s r : List ℕ} → Digits Start ds s r → length r < length s
number_shorter (over e) = absurd (false≢true e)
number_shorter (stop e h) = absurd (false≢true e)
number_shorter (next e d) = omega (arith, digits_shorter d)

mutual
  pub value_shorter : {t : Tree} {s r : List ℕ} → Value t s r → length r < length s
  value_shorter (an_empty_object b) = omega (arith, blanks_shorter b)
  value_shorter (an_object b n) = omega (arith, blanks_shorter b, named_shorter n)
  value_shorter (an_empty_list b) = omega (arith, blanks_shorter b)
  value_shorter (a_list b e) = omega (arith, blanks_shorter b, listed_shorter e)
  value_shorter (a_string c) = omega (arith, chars_shorter c)
  value_shorter (a_number d) = number_shorter d
  value_shorter a_true = omega arith
  value_shorter a_false = omega arith
  value_shorter a_null = omega arith

  pub listed_shorter : {ts : Elements} {s r : List ℕ} → Listed ts s r → length r < length s
  listed_shorter (first v b e) = omega (arith, value_shorter v, blanks_shorter b, behind_shorter e)

  pub behind_shorter : {ts : Elements} {s r : List ℕ} → Behind ts s r → length r < length s
  behind_shorter bracket = omega arith
  behind_shorter (next_element b e) = omega (arith, blanks_shorter b, listed_shorter e)

  pub named_shorter : {ms : Members} {s r : List ℕ} → Named ms s r → length r < length s
  named_shorter (name c b b' v b'' f) = omega (arith, chars_shorter c, blanks_shorter b, blanks_shorter b', value_shorter v, blanks_shorter b'', follows_shorter f)

  pub follows_shorter : {ms : Members} {s r : List ℕ} → Follows ms s r → length r < length s
  follows_shorter brace = omega arith
  follows_shorter (next_member b n) = omega (arith, blanks_shorter b, named_shorter n)

number_sharp : {ds s r : List ℕ} → Digits Start ds s r → Sharp s
number_sharp (over e) = tt
number_sharp (stop e h) = absurd (false≢true e)
number_sharp (next {b = b} e d) = numeric_not_blank b (onward_numeric Start b e)

pub value_sharp : {t : Tree} {s r : List ℕ} → Value t s r → Sharp s
unfolding is_blank
value_sharp (an_empty_object b) = refl
value_sharp (an_object b n) = refl
value_sharp (an_empty_list b) = refl
value_sharp (a_list b e) = refl
value_sharp (a_string c) = refl
value_sharp (a_number d) = number_sharp d
value_sharp a_true = refl
value_sharp a_false = refl
value_sharp a_null = refl

pub listed_sharp : {ts : Elements} {s r : List ℕ} → Listed ts s r → Sharp s
listed_sharp (first v b e) = value_sharp v

pub behind_sharp : {ts : Elements} {s r : List ℕ} → Behind ts s r → Sharp s
unfolding is_blank
behind_sharp bracket = refl
behind_sharp (next_element b e) = refl

pub named_sharp : {ms : Members} {s r : List ℕ} → Named ms s r → Sharp s
unfolding is_blank
named_sharp (name c b b' v b'' f) = refl

pub follows_sharp : {ms : Members} {s r : List ℕ} → Follows ms s r → Sharp s
unfolding is_blank
follows_sharp brace = refl
follows_sharp (next_member b n) = refl

-- Over blanks to what begins with none.
pub to_sharp : {s r : List ℕ} → Blanks s r → Sharp r → blanked s ≡ r
to_sharp {r = r} b h = over_blanks b ∙ sharp_blanked r h
