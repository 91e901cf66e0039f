-- In a text blanks part no number and no word.
use Prim.Native.Nat.{ℕ}
use mathlib.Core.Path.{◌≡◌, refl, ap, ◌∙◌}
use mathlib.Core.List.{List, ◌∷◌}
use mathlib.Core.Bool.{Bool, true, false, not, ◌&&◌, and-false}
use Rattle.json_grammar.specs.Byte.{is_blank, is_numeric}
use Rattle.json_grammar.specs.Tree.{Tree, Members, Elements}
use Rattle.json_grammar.specs.declared.number.InNumber.{InNumber}
use Rattle.json_grammar.specs.Grammar as G
use Rattle.json_grammar.specs.Grammar.{Blanks, Chars, Digits, Value, Listed, Behind, Named, Follows, Text}
use Rattle.json_grammar.proofs.Truth.{and_both}
use Rattle.json_move.specs.Moving.{first_byte}
use Rattle.json_laws.proofs.Bytes.{apart, onward_numeric, numeric_not_blank}
use Rattle.json_laws.proofs.Strings.{chars_from, to_quote}
use Rattle.demands.specs.Blanks.{bare, in_word, may_part, whole_after, whole_quoted, whole_escaped, whole}
use Rattle.demands.proofs.BareBytes.{bare_blanks}

-- Whatever stands before.
abbrev Free : List ℕ → Type 0
Free s = (p : ℕ) → whole_after p s ≡ true

no_word_before : (a b : Bool) → a ≡ false → not (a && b) ≡ true
no_word_before a b e = rw e

no_word_behind : (a b : Bool) → b ≡ false → not (a && b) ≡ true
no_word_behind a b e = rw (e, and-false)

whole_blank : (p b : ℕ) (s : List ℕ) → is_blank b ≡ true → may_part p (first_byte (bare s)) ≡ true → whole_after p s ≡ true → whole_after p (b ∷ s) ≡ true
unfolding whole_after
whole_blank p b s e f w = rw e (and_both f w)

-- Blanks in front of what no blank parts.
blanks_whole : {s r : List ℕ} → Blanks s r → (p : ℕ) → in_word p ≡ false → whole_after p r ≡ true → whole_after p s ≡ true
blanks_whole G.here p i w = w
blanks_whole (G.blank {b = b} {s = s} e bs) p i w = whole_blank p b s e (no_word_before (in_word p) (in_word (first_byte (bare s))) i) (blanks_whole bs p i w)

blanks_free : {s r : List ℕ} → Blanks s r → in_word (first_byte (bare r)) ≡ false → Free r → Free s
blanks_free G.here i w p = w p
blanks_free (G.blank {b = b} {s = s} e bs) i w p =
    whole_blank p b s e (no_word_behind (in_word p) (in_word (first_byte (bare s))) (ap (λ x. in_word (first_byte x)) (bare_blanks bs) ∙ i)) (blanks_free bs i w p)

chars_whole : {cs s r : List ℕ} → Chars cs s r → whole_quoted s ≡ whole_after 34 r
unfolding whole_after
chars_whole c = to_quote whole_quoted whole_escaped (λ b s e h. rw (e, h)) (λ s. refl) (λ b s. refl) (chars_from c)

digits_free : {n : InNumber} {ds s r : List ℕ} → Digits n ds s r → Free r → Free s
unfolding whole_after is_numeric
digits_free (G.over e) w p = w p
digits_free (G.stop e h) w p = w p
digits_free (G.next {n = n} {b = b} e d) w p = let i = onward_numeric n b e in rw (numeric_not_blank b i, apart is_numeric b 34 i refl) (digits_free d w b)

-- What stands behind a value is of no number and no word.
behind_first : {ts : Elements} {s r : List ℕ} → Behind ts s r → in_word (first_byte (bare s)) ≡ false
unfolding bare is_blank in_word
behind_first G.bracket = refl
behind_first (G.next_element b l) = refl

follows_first : {ms : Members} {s r : List ℕ} → Follows ms s r → in_word (first_byte (bare s)) ≡ false
unfolding bare is_blank in_word
follows_first G.brace = refl
follows_first (G.next_member b n) = refl

mutual
  unfolding whole_after bare is_blank in_word

  value_free : {t : Tree} {s r : List ℕ} → Value t s r → Free r → Free s
  value_free (G.an_empty_object b) w p = blanks_whole b 123 refl (w 125)
  value_free (G.an_object b n) w p = blanks_whole b 123 refl (named_free n w 123)
  value_free (G.an_empty_list b) w p = blanks_whole b 91 refl (w 93)
  value_free (G.a_list b l) w p = blanks_whole b 91 refl (listed_free l w 91)
  value_free (G.a_string c) w p = chars_whole c ∙ w 34
  value_free (G.a_number d) w p = digits_free d w p
  value_free G.a_true w p = w 101
  value_free G.a_false w p = w 101
  value_free G.a_null w p = w 108

  listed_free : {ts : Elements} {s r : List ℕ} → Listed ts s r → Free r → Free s
  listed_free (G.first v b e) w p = value_free v (blanks_free b (behind_first e) (λ q. behind_free e w q)) p

  behind_free : {ts : Elements} {s r : List ℕ} → Behind ts s r → Free r → Free s
  behind_free G.bracket w p = w 93
  behind_free (G.next_element b l) w p = blanks_whole b 44 refl (listed_free l w 44)

  named_free : {ms : Members} {s r : List ℕ} → Named ms s r → Free r → Free s
  named_free (G.name c b b' v b'' f) w p =
      chars_whole c ∙ blanks_free b refl (λ q. blanks_whole b' 58 refl (value_free v (blanks_free b'' (follows_first f) (λ z. follows_free f w z)) 58)) 34

  follows_free : {ms : Members} {s r : List ℕ} → Follows ms s r → Free r → Free s
  follows_free G.brace w p = w 125
  follows_free (G.next_member b n) w p = blanks_whole b 44 refl (named_free n w 44)

pub text_whole : {t : Tree} {s : List ℕ} → Text t s → whole s ≡ true
unfolding whole whole_after bare in_word
text_whole (G.text b v c) = blanks_whole b 0 refl (value_free v (blanks_free c refl (λ p. refl)) 0)
