-- What completes each state of the walk, by the grammar: before a byte too, if after it.
use Prim.Native.Nat.{ℕ}
use mathlib.Core.Path.{◌≡◌, refl}
use mathlib.Core.List.{List, [], ◌∷◌, ◌++◌}
use mathlib.Core.Logic.{◌⊎◌, inl, inr}
use mathlib.Core.Bool.{Bool, true, false}
use lib.ListN.{length}
use lib.Dec.{eqb, ltb}
use borrow.Author.Tests.{eqb-true}
use Rattle.json_grammar.specs.Rows.{choose}
use Rattle.json_grammar.specs.Byte.{is_blank, is_numeric}
use Rattle.json_grammar.specs.Tree.{Place, Tree, object, list, string, number, bool, null, Members, no_member, member, Elements, no_element, element}
use Rattle.json_grammar.specs.String.{after}
use Rattle.json_grammar.specs.Number.{onward, may_end}
use Rattle.json_grammar.specs.declared.string.InString.{InString}
use Rattle.json_grammar.specs.declared.string.InString.TheVariants.{Plain}
use Rattle.json_grammar.specs.declared.string.CharStep.{CharStep}
use Rattle.json_grammar.specs.declared.string.CharStep.TheVariants.{Goes, Closes, Refuses}
use Rattle.json_grammar.specs.declared.number.InNumber.{InNumber}
use Rattle.json_grammar.specs.declared.number.InNumber.TheVariants.{Start, Minus, Zero, Whole, Point, Fraction, Mark, Sign, Power}
use Rattle.std.specs.Prelude.{Option, Some, None}
use Rattle.json_grammar.specs.Grammar.{Blanks, here, blank, close, Digits, over, stop, next, Value, an_empty_object, an_object, an_empty_list, a_list, a_string, a_number, a_true, a_false, a_null, first, Behind, bracket, next_element, name, Follows, brace, next_member}
use Rattle.json_grammar.specs.Walk as W
use Rattle.json_grammar.specs.Walk.{Frame, Mode, step, Next, wrong, deep, ended, go}
use Rattle.json_laws.proofs.Bytes.{blank_not_numeric}
use Rattle.json_laws.proofs.Left.{AnyChars, Left, left_before, closing}

-- Behind a value: what closes the brackets k, and behind the last of them blanks, to r.
abbrev pub Rest : List Frame → List ℕ → List ℕ → Type 0
Rest [] s r = Blanks s r
Rest (W.a_list ∷ k) s r = (ts : Elements) × (a : List ℕ) × (m : List ℕ) × Blanks s a × Behind ts a m × Rest k m r
Rest (W.an_object ∷ k) s r = (ms : Members) × (a : List ℕ) × (m : List ℕ) × Blanks s a × Follows ms a m × Rest k m r

-- Behind the bracket that closes the innermost of k.
abbrev pub Shut : List Frame → List ℕ → List ℕ → Type 0
Shut [] s r = ⊥
Shut (f ∷ k) s r = Rest k s r

abbrev FitsValue : List Frame → List ℕ → List ℕ → Type 0
FitsValue k s r = (t : Tree) × (a : List ℕ) × (m : List ℕ) × Blanks s a × Value t a m × Rest k m r

abbrev FitsColon : List Frame → List ℕ → List ℕ → Type 0
FitsColon k s r = (c : List ℕ) × Blanks s (58 ∷ c) × FitsValue k c r

abbrev FitsName : List Frame → List ℕ → List ℕ → Type 0
FitsName k s r = (a : List ℕ) × (m : List ℕ) × Blanks s (34 ∷ a) × AnyChars a m × FitsColon k m r

abbrev pub Fits : Mode → List Frame → List ℕ → List ℕ → Type 0
Fits W.top k s r = (p : Place) × (ms : Members) × (a : List ℕ) × (m : List ℕ) × Blanks s a × Value (object p ms) a m × Rest k m r
Fits W.value k s r = FitsValue k s r
Fits W.first_element k s r = ((m : List ℕ) × Blanks s (93 ∷ m) × Shut k m r) ⊎ FitsValue k s r
Fits W.first_name k s r = ((m : List ℕ) × Blanks s (125 ∷ m) × Shut k m r) ⊎ FitsName k s r
Fits W.name k s r = FitsName k s r
Fits W.colon k s r = FitsColon k s r
Fits W.behind k s r = Rest k s r
Fits (W.in_name c) k s r = (m : List ℕ) × Left c s m × FitsColon k m r
Fits (W.in_string c) k s r = (m : List ℕ) × Left c s m × Rest k m r
Fits (W.in_number n) k s r = (ds : List ℕ) × (m : List ℕ) × Digits n ds s m × Rest k m r
Fits (W.in_word w) k s r = (m : List ℕ) × (s ≡ w ++ m) × Rest k m r

-- What completes the step of a byte b in the brackets k. The limit of depth is no part of it: at the 21st bracket what would be in it is asked for.
abbrev pub FitsNext : ℕ → List Frame → Next → List ℕ → List ℕ → Type 0
FitsNext b k wrong s r = ⊥
FitsNext b k deep s r = (b ≡ 91 → Fits W.first_element (W.a_list ∷ k) s r) × (b ≡ 123 → Fits W.first_name (W.an_object ∷ k) s r)
FitsNext b k ended s r = Blanks s r
FitsNext b k (go m l) s r = Fits m l s r

shut_fits : (b : ℕ) (l k : List Frame) (s r : List ℕ) → FitsNext b l (W.shut k) s r → Shut k s r
shut_fits b l [] s r h = h
shut_fits b l (f ∷ []) s r h = h
shut_fits b l (f ∷ g ∷ k) s r h = h

-- What is in an object, and in a list, by their first byte on.
object_of : (k : List Frame) (s r : List ℕ) → Fits W.first_name (W.an_object ∷ k) s r → (ms : Members) × (m : List ℕ) × Value (object (123 ∷ s) ms) (123 ∷ s) m × Rest k m r
object_of k s r (inl h) = (no_member, h.0, an_empty_object h.1, h.2)
object_of k s r (inr h) =
    let c = h.4 in let v = c.2 in let f = v.5 in
    (member (34 ∷ h.0) h.3.0 v.0 f.0, f.2, an_object h.2 (name h.3.1 c.1 v.3 v.4 f.3 f.4), f.5)

list_of : (k : List Frame) (s r : List ℕ) → Fits W.first_element (W.a_list ∷ k) s r → FitsValue k (91 ∷ s) r
list_of k s r (inl h) = (list (91 ∷ s) no_element, 91 ∷ s, h.0, here, an_empty_list h.1, h.2)
list_of k s r (inr v) = let f = v.5 in (list (91 ∷ s) (element v.0 f.0), 91 ∷ s, f.2, here, a_list v.3 (first v.4 f.3 f.4), f.5)

module _ (b : ℕ) (k : List Frame) (s r : List ℕ) where
  -- a choice that is completed is completed as one of its branches
  either : {Q : Type 0} (x : Bool) (f g : Unit {0} → Next) → (x ≡ true → FitsNext b k (f tt) s r → Q) → (x ≡ false → FitsNext b k (g tt) s r → Q) → FitsNext b k (choose x f g) s r → Q
  either true f g p q h = p refl h
  either false f g p q h = q refl h

  opened_list : b ≡ 91 → (x : Bool) → FitsNext b k (choose x (λ _. go W.first_element (W.a_list ∷ k)) λ _. deep) s r → Fits W.first_element (W.a_list ∷ k) s r
  opened_list e true h = h
  opened_list e false h = h.0 e

  opened_object : b ≡ 123 → (x : Bool) → FitsNext b k (choose x (λ _. go W.first_name (W.an_object ∷ k)) λ _. deep) s r → Fits W.first_name (W.an_object ∷ k) s r
  opened_object e true h = h
  opened_object e false h = h.1 e

  object_here : b ≡ 123 → FitsNext b k (W.opened W.an_object W.first_name k) s r → (ms : Members) × (m : List ℕ) × Value (object (b ∷ s) ms) (b ∷ s) m × Rest k m r
  object_here e h = rw e (object_of k s r (opened_object e (ltb (length k) 20) h))

  number_here : (x : Option InNumber) → onward Start b ≡ x → FitsNext b k (W.digits x k) s r → FitsValue k (b ∷ s) r
  number_here (Some n) e h = (number (b ∷ s) (b ∷ h.0), b ∷ s, h.1, here, a_number (next e h.2), h.3)
  number_here None e h = absurd h

  begin_fits : FitsNext b k (W.begin b k) s r → FitsValue k (b ∷ s) r
  begin_fits =
      either (eqb b 34) _ _ (λ e h. rw (eqb-true b 34 e) (string (34 ∷ s) h.1.0, 34 ∷ s, h.0, here, a_string h.1.1, h.2)) λ _.
      either (eqb b 123) _ _ (λ e h. let o = object_here (eqb-true b 123 e) h in (object (b ∷ s) o.0, b ∷ s, o.1, here, o.2, o.3)) λ _.
      either (eqb b 91) _ _ (λ e h. rw (eqb-true b 91 e) (list_of k s r (opened_list (eqb-true b 91 e) (ltb (length k) 20) h))) λ _.
      either (eqb b 116) _ _ (λ e h. rw (eqb-true b 116 e, h.1) (bool (116 ∷ 114 ∷ 117 ∷ 101 ∷ h.0) true, 116 ∷ 114 ∷ 117 ∷ 101 ∷ h.0, h.0, here, a_true, h.2)) λ _.
      either (eqb b 102) _ _ (λ e h. rw (eqb-true b 102 e, h.1) (bool (102 ∷ 97 ∷ 108 ∷ 115 ∷ 101 ∷ h.0) false, 102 ∷ 97 ∷ 108 ∷ 115 ∷ 101 ∷ h.0, h.0, here, a_false, h.2)) λ _.
      either (eqb b 110) _ _ (λ e h. rw (eqb-true b 110 e, h.1) (null (110 ∷ 117 ∷ 108 ∷ 108 ∷ h.0), 110 ∷ 117 ∷ 108 ∷ 108 ∷ h.0, h.0, here, a_null, h.2)) λ _.
      number_here (onward Start b) refl

  -- blanks in front
  blank_value : is_blank b ≡ true → FitsValue k s r → FitsValue k (b ∷ s) r
  blank_value e h = (h.0, h.1, h.2, blank e h.3, h.4, h.5)

  blank_name : is_blank b ≡ true → FitsName k s r → FitsName k (b ∷ s) r
  blank_name e h = (h.0, h.1, blank e h.2, h.3, h.4)

  blank_first : {n : ℕ} → is_blank b ≡ true → ((m : List ℕ) × Blanks s (n ∷ m) × Shut k m r) → ((m : List ℕ) × Blanks (b ∷ s) (n ∷ m) × Shut k m r)
  blank_first e h = (h.0, blank e h.1, h.2)

  name_here : b ≡ 34 → Fits (W.in_name Plain) k s r → FitsName k (b ∷ s) r
  name_here e h = (s, h.0, rw e here, h.1, h.2)

  top_fits : FitsNext b k (W.blank_or b W.top k λ _. choose (eqb b 123) (λ _. W.opened W.an_object W.first_name k) λ _. wrong) s r → Fits W.top k (b ∷ s) r
  top_fits =
      either (is_blank b) _ _ (λ e h. (h.0, h.1, h.2, h.3, blank e h.4, h.5, h.6)) λ _.
      either (eqb b 123) _ _ (λ e h. let o = object_here (eqb-true b 123 e) h in (b ∷ s, o.0, b ∷ s, o.1, here, o.2, o.3)) λ _ h. absurd h

  first_element_fits : FitsNext b k (W.blank_or b W.first_element k λ _. choose (eqb b 93) (λ _. W.shut k) λ _. W.begin b k) s r → Fits W.first_element k (b ∷ s) r
  first_element_fits =
      either (is_blank b) _ _ (λ e. elim [ inl h ↦ inl (blank_first e h) | inr h ↦ inr (blank_value e h) ]) λ _.
      either (eqb b 93) _ _ (λ e h. inl (s, rw (eqb-true b 93 e) here, shut_fits b k k s r h)) λ _ h. inr (begin_fits h)

  first_name_fits : FitsNext b k (W.blank_or b W.first_name k λ _. choose (eqb b 34) (λ _. go (W.in_name Plain) k) λ _. choose (eqb b 125) (λ _. W.shut k) λ _. wrong) s r
      → Fits W.first_name k (b ∷ s) r
  first_name_fits =
      either (is_blank b) _ _ (λ e. elim [ inl h ↦ inl (blank_first e h) | inr h ↦ inr (blank_name e h) ]) λ _.
      either (eqb b 34) _ _ (λ e h. inr (name_here (eqb-true b 34 e) h)) λ _.
      either (eqb b 125) _ _ (λ e h. inl (s, rw (eqb-true b 125 e) here, shut_fits b k k s r h)) λ _ h. absurd h

  name_fits : FitsNext b k (W.blank_or b W.name k λ _. choose (eqb b 34) (λ _. go (W.in_name Plain) k) λ _. wrong) s r → FitsName k (b ∷ s) r
  name_fits =
      either (is_blank b) _ _ (λ e h. blank_name e h) λ _.
      either (eqb b 34) _ _ (λ e h. name_here (eqb-true b 34 e) h) λ _ h. absurd h

  colon_fits : FitsNext b k (W.blank_or b W.colon k λ _. choose (eqb b 58) (λ _. go W.value k) λ _. wrong) s r → FitsColon k (b ∷ s) r
  colon_fits =
      either (is_blank b) _ _ (λ e h. (h.0, blank e h.1, h.2)) λ _.
      either (eqb b 58) _ _ (λ e h. (s, rw (eqb-true b 58 e) here, h)) λ _ h. absurd h

  chars_fit : (c : InString) (x : CharStep) → after c b ≡ x → FitsNext b k (W.step_chars W.in_string W.behind x k) s r → Fits (W.in_string c) k (b ∷ s) r
  chars_fit c (Goes n) e h = (h.0, left_before c b s h.0 (rw e h.1), h.2)
  chars_fit c Closes e h = (s, left_before c b s s (rw e refl), h)
  chars_fit c Refuses e h = absurd h

  name_chars_fit : (c : InString) (x : CharStep) → after c b ≡ x → FitsNext b k (W.step_chars W.in_name W.colon x k) s r → Fits (W.in_name c) k (b ∷ s) r
  name_chars_fit c (Goes n) e h = (h.0, left_before c b s h.0 (rw e h.1), h.2)
  name_chars_fit c Closes e h = (s, left_before c b s s (rw e refl), h)
  name_chars_fit c Refuses e h = absurd h

-- A byte that may stand behind a value is none that numbers are written with.
behind_fits : (b : ℕ) (k : List Frame) (s r : List ℕ) → FitsNext b k (W.step_behind b k) s r → Rest k (b ∷ s) r × (is_numeric b ≡ false)
unfolding is_numeric
behind_fits b [] s r = either b [] s r (is_blank b) _ _ (λ e h. (blank e h, blank_not_numeric b e)) λ _ h. absurd h
behind_fits b (W.a_list ∷ k) s r =
    let l : List Frame = W.a_list ∷ k in
    either b l s r (is_blank b) _ _ (λ e h. ((h.0, h.1, h.2, blank e h.3, h.4, h.5), blank_not_numeric b e)) λ _.
    either b l s r (eqb b 44) _ _ (λ e v. let f = v.5 in rw (eqb-true b 44 e) ((element v.0 f.0, 44 ∷ s, f.2, here, next_element v.3 (first v.4 f.3 f.4), f.5), refl)) λ _.
    either b l s r (eqb b 93) _ _ (λ e h. rw (eqb-true b 93 e) ((no_element, 93 ∷ s, s, here, bracket, shut_fits b l l s r h), refl)) λ _ h. absurd h
behind_fits b (W.an_object ∷ k) s r =
    let l : List Frame = W.an_object ∷ k in
    either b l s r (is_blank b) _ _ (λ e h. ((h.0, h.1, h.2, blank e h.3, h.4, h.5), blank_not_numeric b e)) λ _.
    either b l s r (eqb b 44) _ _ (λ e h. let c = h.4 in let v = c.2 in let f = v.5 in
    rw (eqb-true b 44 e) ((member (34 ∷ h.0) h.3.0 v.0 f.0, 44 ∷ s, f.2, here, next_member h.2 (name h.3.1 c.1 v.3 v.4 f.3 f.4), f.5), refl)) λ _.
    either b l s r (eqb b 125) _ _ (λ e h. rw (eqb-true b 125 e) ((no_member, 125 ∷ s, s, here, brace, shut_fits b l l s r h), refl)) λ _ h. absurd h

digits_fit : (b : ℕ) (k : List Frame) (s r : List ℕ) (n : InNumber) (x : Option InNumber) → onward n b ≡ x → FitsNext b k (W.step_digits n x b k) s r → Fits (W.in_number n) k (b ∷ s) r
digits_fit b k s r n (Some m) e = λ h. (b ∷ h.0, h.1, next e h.2, h.3)
digits_fit b k s r n None e =
    either b k s r (may_end n) _ _ (λ m h. let f = behind_fits b k s r h in ([], b ∷ s, stop m f.1, f.0)) λ _ h. absurd h

word_fits : (b : ℕ) (k : List Frame) (s r w : List ℕ) → FitsNext b k (W.step_word w b k) s r → Fits (W.in_word w) k (b ∷ s) r
word_fits b k s r [] = λ h. absurd h
word_fits b k s r (w ∷ []) = either b k s r (eqb b w) _ _ (λ e h. (s, rw (eqb-true b w e), h)) λ _ h. absurd h
word_fits b k s r (w ∷ v ∷ ws) = either b k s r (eqb b w) _ _ (λ e h. (h.0, rw (eqb-true b w e, h.1), h.2)) λ _ h. absurd h

-- A state that a byte leads to is completed as the state before, with the byte in front.
pub backward : (m : Mode) (b : ℕ) (k : List Frame) (s r : List ℕ) → FitsNext b k (step m b k) s r → Fits m k (b ∷ s) r
unfolding step
backward W.top b k s r h = top_fits b k s r h
backward W.value b k s r h = either b k s r (is_blank b) _ _ (λ e g. blank_value b k s r e g) (λ _ g. begin_fits b k s r g) h
backward W.first_element b k s r h = first_element_fits b k s r h
backward W.first_name b k s r h = first_name_fits b k s r h
backward W.name b k s r h = name_fits b k s r h
backward W.colon b k s r h = colon_fits b k s r h
backward W.behind b k s r h = (behind_fits b k s r h).0
backward (W.in_name c) b k s r h = name_chars_fit b k s r c (after c b) refl h
backward (W.in_string c) b k s r h = chars_fit b k s r c (after c b) refl h
backward (W.in_number n) b k s r h = digits_fit b k s r n (onward n b) refl h
backward (W.in_word w) b k s r h = word_fits b k s r w h

-- Every state is completed by some bytes.
finish : (k : List Frame) → (c : List ℕ) × Rest k c [] × ((n : InNumber) → may_end n ≡ true → Digits n [] c c)
unfolding is_numeric
finish [] = ([], here, λ n e. over e)
finish (W.a_list ∷ k) = let h = finish k in (93 ∷ h.0, (no_element, 93 ∷ h.0, h.0, here, bracket, h.1), λ n e. stop e refl)
finish (W.an_object ∷ k) = let h = finish k in (125 ∷ h.0, (no_member, 125 ∷ h.0, h.0, here, brace, h.1), λ n e. stop e refl)

finish_value : (k : List Frame) → (c : List ℕ) × FitsValue k c []
finish_value k = let h = finish k in (34 ∷ 34 ∷ h.0, (string (34 ∷ 34 ∷ h.0) [], 34 ∷ 34 ∷ h.0, h.0, here, a_string close, h.1))

finish_colon : (k : List Frame) → (c : List ℕ) × FitsColon k c []
finish_colon k = let h = finish_value k in (58 ∷ h.0, (h.0, here, h.1))

finish_name : (k : List Frame) → (c : List ℕ) × FitsName k c []
finish_name k = let h = finish_colon k in (34 ∷ 34 ∷ h.0, (34 ∷ h.0, h.0, here, ([], close), h.1))

-- a number's end, from each of its parts
some_digits : (k : List Frame) (n : InNumber) → (c : List ℕ) × Fits (W.in_number n) k c []
unfolding onward
some_digits k Start = let h = finish k in (48 ∷ h.0, (48 ∷ [], h.0, next refl (h.2 Zero refl), h.1))
some_digits k Minus = let h = finish k in (48 ∷ h.0, (48 ∷ [], h.0, next refl (h.2 Zero refl), h.1))
some_digits k Zero = let h = finish k in (h.0, ([], h.0, h.2 Zero refl, h.1))
some_digits k Whole = let h = finish k in (h.0, ([], h.0, h.2 Whole refl, h.1))
some_digits k Point = let h = finish k in (48 ∷ h.0, (48 ∷ [], h.0, next refl (h.2 Fraction refl), h.1))
some_digits k Fraction = let h = finish k in (h.0, ([], h.0, h.2 Fraction refl, h.1))
some_digits k Mark = let h = finish k in (48 ∷ h.0, (48 ∷ [], h.0, next refl (h.2 Power refl), h.1))
some_digits k Sign = let h = finish k in (48 ∷ h.0, (48 ∷ [], h.0, next refl (h.2 Power refl), h.1))
some_digits k Power = let h = finish k in (h.0, ([], h.0, h.2 Power refl, h.1))

pub completion : (m : Mode) (k : List Frame) → (c : List ℕ) × Fits m k c []
completion W.top k = let h = finish k in (123 ∷ 125 ∷ h.0, (123 ∷ 125 ∷ h.0, no_member, 123 ∷ 125 ∷ h.0, h.0, here, an_empty_object here, h.1))
completion W.value k = finish_value k
completion W.first_element k = let h = finish_value k in (h.0, inr h.1)
completion W.first_name k = let h = finish_name k in (h.0, inr h.1)
completion W.name k = finish_name k
completion W.colon k = finish_colon k
completion W.behind k = let h = finish k in (h.0, h.1)
completion (W.in_name c) k = let h = finish_colon k in let q = closing c h.0 in (q.0, (h.0, q.1, h.1))
completion (W.in_string c) k = let h = finish k in let q = closing c h.0 in (q.0, (h.0, q.1, h.1))
completion (W.in_number n) k = some_digits k n
completion (W.in_word w) k = let h = finish k in (w ++ h.0, (h.0, refl, h.1))
