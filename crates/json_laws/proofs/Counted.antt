-- The walk's open brackets are those that counting finds.
use Prim.Native.Nat.{ℕ, suc, ◌≤◌}
use mathlib.Core.Path.{◌≡◌, refl, ◌∙◌}
use mathlib.Core.List.{List, [], ◌∷◌}
use mathlib.Core.Logic.{◌⊎◌, inl, inr}
use mathlib.Core.Bool.{Bool, true, false, cond}
use lib.ListN.{length}
use lib.Dec.{eqb, ltb}
use borrow.Author.Tests.{eqb-true, ltb-true, ltb-false}
use native.Mathlib.Omega.{arith}
use Rattle.json_grammar.specs.Rows.{choose}
use Rattle.json_grammar.specs.Byte.{is_blank, is_numeric, within}
use Rattle.json_grammar.specs.String.{after}
use Rattle.json_grammar.specs.Number.{onward, may_end}
use Rattle.json_grammar.specs.declared.string.InString.{InString}
use Rattle.json_grammar.specs.declared.string.InString.TheVariants.{Plain}
use Rattle.json_grammar.specs.declared.string.CharStep.{CharStep}
use Rattle.json_grammar.specs.declared.string.CharStep.TheVariants.{Goes, Closes, Refuses}
use Rattle.json_grammar.specs.declared.number.InNumber.{InNumber}
use Rattle.json_grammar.specs.declared.number.InNumber.TheVariants.{Start}
use Rattle.std.specs.Prelude.{Option, Some, None}
use Rattle.json_grammar.specs.Walk as W
use Rattle.json_grammar.specs.Walk.{Frame, Mode, step, Next, wrong, deep, ended, go}
use Rattle.json_laws.specs.Open.{open_after, open_quoted, open_escaped}
use Rattle.json_laws.proofs.Tables.{choose_by}
use Rattle.json_laws.proofs.Bytes.{apart, onward_numeric}
use Rattle.json_laws.proofs.Strings.{escaping, seen, seen_on, seen_end}

-- How counting goes on in a state, with n open.
abbrev pub inside : InString → ℕ → List ℕ → ℕ
inside c n = cond (escaping c) (λ s. open_escaped n s) (λ s. open_quoted n s)

abbrev pub counting : Mode → ℕ → List ℕ → ℕ
counting W.top n w = open_after n w
counting W.value n w = open_after n w
counting W.first_element n w = open_after n w
counting W.first_name n w = open_after n w
counting W.name n w = open_after n w
counting W.colon n w = open_after n w
counting W.behind n w = open_after n w
counting (W.in_name c) n w = inside c n w
counting (W.in_string c) n w = inside c n w
counting (W.in_number i) n w = open_after n w
counting (W.in_word v) n w = open_after n w

abbrev pub is_letter : ℕ → Bool
is_letter b = within 97 123 b

-- The words that are walked are of letters.
abbrev pub Letters : List ℕ → Type 0
Letters [] = Unit {0}
Letters (b ∷ v) = (is_letter b ≡ true) × Letters v

abbrev pub Worded : Mode → Type 0
Worded W.top = Unit {0}
Worded W.value = Unit {0}
Worded W.first_element = Unit {0}
Worded W.first_name = Unit {0}
Worded W.name = Unit {0}
Worded W.colon = Unit {0}
Worded W.behind = Unit {0}
Worded (W.in_name c) = Unit {0}
Worded (W.in_string c) = Unit {0}
Worded (W.in_number i) = Unit {0}
Worded (W.in_word v) = Letters v

-- Of a step at the byte b from where x counts on, with k open.
abbrev pub Counted : ℕ → List Frame → (List ℕ → ℕ) → Next → Type 0
Counted b k x wrong = Unit {0}
Counted b k x deep = (20 ≤ length k) × ((b ≡ 91) ⊎ (b ≡ 123)) × ((w : List ℕ) → x (b ∷ w) ≡ open_after (suc (length k)) w)
Counted b k x ended = (w : List ℕ) → x (b ∷ w) ≡ open_after 0 w
Counted b k x (go n l) = Worded n × (length k ≤ 20 → length l ≤ 20) × ((w : List ℕ) → x (b ∷ w) ≡ counting n (length l) w)

-- A byte outside strings that is no bracket and no quote.
pub plain_byte : (b n : ℕ) (w : List ℕ) → eqb b 34 ≡ false → eqb b 91 ≡ false → eqb b 123 ≡ false → eqb b 93 ≡ false → eqb b 125 ≡ false → open_after n (b ∷ w) ≡ open_after n w
unfolding open_after
plain_byte b n w a c d e f = rw (a, c, d, e, f)

plain_test : (t : ℕ → Bool) (b n : ℕ) (w : List ℕ) → t b ≡ true → t 34 ≡ false → t 91 ≡ false → t 123 ≡ false → t 93 ≡ false → t 125 ≡ false → open_after n (b ∷ w) ≡ open_after n w
plain_test t b n w h a c d e f = plain_byte b n w (apart t b 34 h a) (apart t b 91 h c) (apart t b 123 h d) (apart t b 93 h e) (apart t b 125 h f)

pub blank_byte : (b n : ℕ) (w : List ℕ) → is_blank b ≡ true → open_after n (b ∷ w) ≡ open_after n w
unfolding is_blank
blank_byte b n w h = plain_test is_blank b n w h refl refl refl refl refl

number_byte : (b n : ℕ) (w : List ℕ) → is_numeric b ≡ true → open_after n (b ∷ w) ≡ open_after n w
unfolding is_numeric
number_byte b n w h = plain_test is_numeric b n w h refl refl refl refl refl

letter_byte : (b n : ℕ) (w : List ℕ) → is_letter b ≡ true → open_after n (b ∷ w) ≡ open_after n w
unfolding within
letter_byte b n w h = plain_test is_letter b n w h refl refl refl refl refl

quote_byte : (b n : ℕ) (w : List ℕ) → b ≡ 34 → open_after n (b ∷ w) ≡ open_quoted n w
unfolding open_after
quote_byte b n w e = rw e

open_byte : (b n : ℕ) (w : List ℕ) → ((b ≡ 91) ⊎ (b ≡ 123)) → open_after n (b ∷ w) ≡ open_after (suc n) w
unfolding open_after
open_byte b n w (inl e) = rw e
open_byte b n w (inr e) = rw e

close_byte : (b n : ℕ) (w : List ℕ) → ((b ≡ 93) ⊎ (b ≡ 125)) → open_after (suc n) (b ∷ w) ≡ open_after n w
unfolding open_after
close_byte b n w (inl e) = rw e
close_byte b n w (inr e) = rw e

string_byte : (c : InString) {n : InString} (b j : ℕ) (w : List ℕ) → after c b ≡ Goes n
    → inside c j (b ∷ w) ≡ inside n j w
unfolding open_after
string_byte c b j w e = seen_on (λ s. open_quoted j s) (λ s. open_escaped j s) (λ b s e h. rw (e, h)) (λ s. refl) (λ b s. refl) w (rw e at (seen c b))

string_end : (c : InString) (b j : ℕ) (w : List ℕ) → after c b ≡ Closes → inside c j (b ∷ w) ≡ open_after j w
unfolding open_after
string_end c b j w e = seen_end (λ s. open_quoted j s) (λ s. open_escaped j s) (λ b s e h. rw (e, h)) (λ s. refl) (λ b s. refl) w (rw e at (seen c b))

-- Outside strings.
abbrev Out : ℕ → List Frame → Next → Type 0
Out b k x = Counted b k (λ w. open_after (length k) w) x

shut_out : (b : ℕ) (k : List Frame) → ((b ≡ 93) ⊎ (b ≡ 125)) → Out b k (W.shut k)
shut_out b [] e = tt
shut_out b (f ∷ []) e = λ w. close_byte b 0 w e
shut_out b (f ∷ g ∷ k) e = (tt, (λ l. omega arith), λ w. close_byte b (suc (length k)) w e)

module _ (b : ℕ) (k : List Frame) where
  opened_out : (f : Frame) (m : Mode) → Worded m → ((w : List ℕ) → open_after (suc (length k)) w ≡ counting m (suc (length k)) w) → ((b ≡ 91) ⊎ (b ≡ 123)) → Out b k (W.opened f m k)
  opened_out f m t q e =
      choose_by (Out b k) (ltb (length k) 20) (λ _. go m (f ∷ k)) (λ _. deep) (λ l. (t, (λ _. ltb-true (length k) 20 l), λ w. open_byte b (length k) w e ∙ q w)) (λ l. (ltb-false (length k) 20 l, e, λ w. open_byte b (length k) w e))

  object_out : b ≡ 123 → Out b k (W.opened W.an_object W.first_name k)
  object_out e = opened_out W.an_object W.first_name tt (λ w. refl) (inr e)

  number_out : (n : InNumber) (x : Option InNumber) → onward n b ≡ x → Out b k (W.digits x k)
  number_out n (Some m) e = (tt, (λ l. l), λ w. number_byte b (length k) w (onward_numeric n b e))
  number_out n None e = tt

  word_out : (v : List ℕ) (c : ℕ) → b ≡ c → is_letter c ≡ true → Letters v → Out b k (go (W.in_word v) k)
  word_out v c e h l = (l, (λ q. q), λ w. letter_byte b (length k) w (rw e h))

  begin_out : Out b k (W.begin b k)
  unfolding within
  begin_out =
      choose_by (Out b k) (eqb b 34) _ _ (λ e. (tt, (λ l. l), λ w. quote_byte b (length k) w (eqb-true b 34 e))) λ _.
      choose_by (Out b k) (eqb b 123) _ _ (λ e. object_out (eqb-true b 123 e)) λ _.
      choose_by (Out b k) (eqb b 91) _ _ (λ e. opened_out W.a_list W.first_element tt (λ w. refl) (inl (eqb-true b 91 e))) λ _.
      choose_by (Out b k) (eqb b 116) _ _ (λ e. word_out (114 ∷ 117 ∷ 101 ∷ []) 116 (eqb-true b 116 e) refl (refl, (refl, (refl, tt)))) λ _.
      choose_by (Out b k) (eqb b 102) _ _ (λ e. word_out (97 ∷ 108 ∷ 115 ∷ 101 ∷ []) 102 (eqb-true b 102 e) refl (refl, (refl, (refl, (refl, tt))))) λ _.
      choose_by (Out b k) (eqb b 110) _ _ (λ e. word_out (117 ∷ 108 ∷ 108 ∷ []) 110 (eqb-true b 110 e) refl (refl, (refl, (refl, tt)))) λ _.
      number_out Start (onward Start b) refl

  -- blanks first
  blank_out : (m : Mode) (f : Unit {0} → Next) → Worded m → ((w : List ℕ) → open_after (length k) w ≡ counting m (length k) w) → Out b k (f tt) → Out b k (choose (is_blank b) (λ _. go m k) f)
  blank_out m f t q h = choose_by (Out b k) (is_blank b) (λ _. go m k) f (λ e. (t, (λ l. l), λ w. blank_byte b (length k) w e ∙ q w)) (λ _. h)

  name_out : (f : Unit {0} → Next) → Out b k (f tt) → Out b k (choose (eqb b 34) (λ _. go (W.in_name Plain) k) f)
  name_out f h = choose_by (Out b k) (eqb b 34) (λ _. go (W.in_name Plain) k) f (λ e. (tt, (λ l. l), λ w. quote_byte b (length k) w (eqb-true b 34 e))) (λ _. h)

  -- a byte that stays outside and counts nothing
  past : (m : Mode) (x : ℕ) → Worded m → ((w : List ℕ) → open_after (length k) w ≡ counting m (length k) w) → ((w : List ℕ) → open_after (length k) (x ∷ w) ≡ open_after (length k) w) → (f : Unit {0} → Next) → Out b k (f tt) → Out b k (choose (eqb b x) (λ _. go m k) f)
  past m x t q p f h = choose_by (Out b k) (eqb b x) (λ _. go m k) f (λ e. (t, (λ l. l), λ w. rw (eqb-true b x e) (p w ∙ q w))) (λ _. h)

behind_out : (b : ℕ) (k : List Frame) → Out b k (W.step_behind b k)
unfolding open_after
behind_out b [] = blank_out b [] W.behind _ tt (λ w. refl) tt
behind_out b (W.a_list ∷ k) =
    let l : List Frame = W.a_list ∷ k in
    blank_out b l W.behind _ tt (λ w. refl) (past b l W.value 44 tt (λ w. refl) (λ w. refl) _
    (choose_by (Out b l) (eqb b 93) _ _ (λ e. shut_out b l (inl (eqb-true b 93 e))) (λ _. tt)))
behind_out b (W.an_object ∷ k) =
    let l : List Frame = W.an_object ∷ k in
    blank_out b l W.behind _ tt (λ w. refl) (past b l W.name 44 tt (λ w. refl) (λ w. refl) _
    (choose_by (Out b l) (eqb b 125) _ _ (λ e. shut_out b l (inr (eqb-true b 125 e))) (λ _. tt)))

digits_out : (b : ℕ) (k : List Frame) (n : InNumber) (x : Option InNumber) → onward n b ≡ x → Out b k (W.step_digits n x b k)
digits_out b k n (Some m) e = number_out b k n (Some m) e
digits_out b k n None e = choose_by (Out b k) (may_end n) _ _ (λ _. behind_out b k) (λ _. tt)

spell_out : (b : ℕ) (k : List Frame) (v : List ℕ) → Letters v → Out b k (W.step_word v b k)
spell_out b k [] l = tt
spell_out b k (c ∷ []) l = choose_by (Out b k) (eqb b c) _ _ (λ e. (tt, (λ q. q), λ w. letter_byte b (length k) w (rw (eqb-true b c e) l.0))) (λ _. tt)
spell_out b k (c ∷ d ∷ v) l = choose_by (Out b k) (eqb b c) _ _ (λ e. word_out b k (d ∷ v) c (eqb-true b c e) l.0 l.1) (λ _. tt)

in_string_lem : (b : ℕ) (k : List Frame) (c : InString) (x : CharStep) → after c b ≡ x → Counted b k (λ w. counting (W.in_string c) (length k) w) (W.step_chars W.in_string W.behind x k)
in_string_lem b k c (Goes n) e = (tt, (λ l. l), λ w. string_byte c b (length k) w e)
in_string_lem b k c Closes e = (tt, (λ l. l), λ w. string_end c b (length k) w e)
in_string_lem b k c Refuses e = tt

in_name_lem : (b : ℕ) (k : List Frame) (c : InString) (x : CharStep) → after c b ≡ x → Counted b k (λ w. counting (W.in_name c) (length k) w) (W.step_chars W.in_name W.colon x k)
in_name_lem b k c (Goes n) e = (tt, (λ l. l), λ w. string_byte c b (length k) w e)
in_name_lem b k c Closes e = (tt, (λ l. l), λ w. string_end c b (length k) w e)
in_name_lem b k c Refuses e = tt

pub counted : (m : Mode) → Worded m → (b : ℕ) (k : List Frame) → Counted b k (λ w. counting m (length k) w) (step m b k)
unfolding step open_after
counted W.top t b k = blank_out b k W.top _ tt (λ w. refl) (choose_by (Out b k) (eqb b 123) _ _ (λ e. object_out b k (eqb-true b 123 e)) (λ _. tt))
counted W.value t b k = blank_out b k W.value _ tt (λ w. refl) (begin_out b k)
counted W.first_element t b k = blank_out b k W.first_element _ tt (λ w. refl) (choose_by (Out b k) (eqb b 93) _ _ (λ e. shut_out b k (inl (eqb-true b 93 e))) (λ _. begin_out b k))
counted W.first_name t b k = blank_out b k W.first_name _ tt (λ w. refl) (name_out b k _ (choose_by (Out b k) (eqb b 125) _ _ (λ e. shut_out b k (inr (eqb-true b 125 e))) (λ _. tt)))
counted W.name t b k = blank_out b k W.name _ tt (λ w. refl) (name_out b k _ tt)
counted W.colon t b k = blank_out b k W.colon _ tt (λ w. refl) (past b k W.value 58 tt (λ w. refl) (λ w. refl) _ tt)
counted W.behind t b k = behind_out b k
counted (W.in_name c) t b k = in_name_lem b k c (after c b) refl
counted (W.in_string c) t b k = in_string_lem b k c (after c b) refl
counted (W.in_number n) t b k = digits_out b k n (onward n b) refl
counted (W.in_word v) t b k = spell_out b k v t
