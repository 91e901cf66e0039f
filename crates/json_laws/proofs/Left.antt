-- What is left of a string in each state inside it: bytes that pass the state's tests, and then the characters of the grammar.
use Prim.Native.Nat.{ℕ}
use mathlib.Core.Path.{◌≡◌, refl}
use mathlib.Core.List.{List, [], ◌∷◌, ◌++◌}
use mathlib.Core.Logic.{◌⊎◌, inl, inr}
use mathlib.Core.Bool.{Bool, true, false, cond}
use lib.Dec.{eqb}
use borrow.Author.Tests.{eqb-true}
use Rattle.std.specs.Prelude.{Option, Some, None}
use Rattle.json_grammar.specs.Byte.{is_hex, is_d, is_to_7, is_8_to_b, is_c_to_f, is_tail, within}
use Rattle.json_grammar.specs.String.{lead, letter, after, after_lead, after_letter, go_if}
use Rattle.json_grammar.specs.declared.string.Lead.{Lead}
use Rattle.json_grammar.specs.declared.string.Lead.TheVariants.{Control, Ascii, Quote, Backslash, Stray, Two, E0, Three, Ed, F0, Four, F4}
use Rattle.json_grammar.specs.declared.string.Letter.{Letter}
use Rattle.json_grammar.specs.declared.string.Letter.TheVariants.{Means, Unicode}
use Rattle.json_grammar.specs.declared.string.InString.{InString}
use Rattle.json_grammar.specs.declared.string.InString.TheVariants.{Plain, Escape, Unit as AUnit, UnitD, Digit3, Digit2, Digit1, High2, High1, Slash, LetterU, SecondD, SecondC, Tail3, Tail2, Tail1, AfterE0, AfterEd, AfterF0, AfterF4}
use Rattle.json_grammar.specs.declared.string.CharStep.{CharStep}
use Rattle.json_grammar.specs.declared.string.CharStep.TheVariants.{Goes, Closes, Refuses}
use Rattle.json_grammar.specs.Grammar.{Char, ascii, two, three, three_e0, three_ed, fourth, four_f0, four_f4, short, unit, unit_d, pair, Chars, close, char}
use Rattle.json_laws.proofs.Bytes.{quote_is, backslash_is, unicode_is}

-- The characters of a string, whatever they are.
abbrev pub AnyChars : List ℕ → List ℕ → Type 0
AnyChars s r = (cs : List ℕ) × Chars cs s r

-- Bytes that pass these tests, and then characters.
pub data Then : List (ℕ → Bool) → List ℕ → List ℕ → Type 0 where
  plain : {s r : List ℕ} → AnyChars s r → Then [] s r
  byte : {t : ℕ → Bool} {ts : List (ℕ → Bool)} {b : ℕ} {s r : List ℕ} → t b ≡ true → Then ts s r → Then (t ∷ ts) (b ∷ s) r

abbrev is92 : ℕ → Bool
is92 b = eqb b 92

abbrev is_u : ℕ → Bool
is_u b = eqb b 117

-- the second half of a surrogate pair
abbrev Second : List (ℕ → Bool)
Second = is92 ∷ is_u ∷ is_d ∷ is_c_to_f ∷ is_hex ∷ is_hex ∷ []

-- Behind \uD: 0 to 7 and two digits, or 8 to B, two digits and the second half of a pair.
abbrev AfterD : List ℕ → List ℕ → Type 0
AfterD s r = Then (is_to_7 ∷ is_hex ∷ is_hex ∷ []) s r ⊎ Then (is_8_to_b ∷ is_hex ∷ is_hex ∷ Second) s r

-- Behind \u.
pub data Units : List ℕ → List ℕ → Type 0 where
  no_d : {h : ℕ} {s r : List ℕ} → is_d h ≡ false → is_hex h ≡ true → Then (is_hex ∷ is_hex ∷ is_hex ∷ []) s r → Units (h ∷ s) r
  with_d : {h : ℕ} {s r : List ℕ} → is_d h ≡ true → AfterD s r → Units (h ∷ s) r

-- Behind a backslash.
pub data Escaped : List ℕ → List ℕ → Type 0 where
  means : {e m : ℕ} {s r : List ℕ} → letter e ≡ Some (Means m) → AnyChars s r → Escaped (e ∷ s) r
  unicode : {s r : List ℕ} → Units s r → Escaped (117 ∷ s) r

abbrev pub Left : InString → List ℕ → List ℕ → Type 0
Left Plain s r = AnyChars s r
Left Escape s r = Escaped s r
Left AUnit s r = Units s r
Left UnitD s r = AfterD s r
Left Digit3 s r = Then (is_hex ∷ is_hex ∷ is_hex ∷ []) s r
Left Digit2 s r = Then (is_hex ∷ is_hex ∷ []) s r
Left Digit1 s r = Then (is_hex ∷ []) s r
Left High2 s r = Then (is_hex ∷ is_hex ∷ Second) s r
Left High1 s r = Then (is_hex ∷ Second) s r
Left Slash s r = Then Second s r
Left LetterU s r = Then (is_u ∷ is_d ∷ is_c_to_f ∷ is_hex ∷ is_hex ∷ []) s r
Left SecondD s r = Then (is_d ∷ is_c_to_f ∷ is_hex ∷ is_hex ∷ []) s r
Left SecondC s r = Then (is_c_to_f ∷ is_hex ∷ is_hex ∷ []) s r
Left Tail3 s r = Then (is_tail ∷ is_tail ∷ is_tail ∷ []) s r
Left Tail2 s r = Then (is_tail ∷ is_tail ∷ []) s r
Left Tail1 s r = Then (is_tail ∷ []) s r
Left AfterE0 s r = Then ((λ b. within 0xA0 0xC0 b) ∷ is_tail ∷ []) s r
Left AfterEd s r = Then ((λ b. within 0x80 0xA0 b) ∷ is_tail ∷ []) s r
Left AfterF0 s r = Then ((λ b. within 0x90 0xC0 b) ∷ is_tail ∷ is_tail ∷ []) s r
Left AfterF4 s r = Then ((λ b. within 0x80 0x90 b) ∷ is_tail ∷ is_tail ∷ []) s r

abbrev pub LeftAfter : CharStep → List ℕ → List ℕ → Type 0
LeftAfter (Goes n) s r = Left n s r
LeftAfter Closes s r = s ≡ r
LeftAfter Refuses s r = ⊥

more : {u s m r : List ℕ} → Char u s m → AnyChars m r → AnyChars s r
more {u} c h = (u ++ h.0, char c h.1 refl)

-- Behind each first byte of a character.
after_two : {b : ℕ} {s r : List ℕ} → lead b ≡ Two → Then (is_tail ∷ []) s r → AnyChars (b ∷ s) r
after_two e (byte t (plain h)) = more (two e t) h

after_three : {b : ℕ} {s r : List ℕ} → lead b ≡ Three → Then (is_tail ∷ is_tail ∷ []) s r → AnyChars (b ∷ s) r
after_three e (byte t (byte u (plain h))) = more (three e t u) h

after_e0 : {b : ℕ} {s r : List ℕ} → lead b ≡ E0 → Left AfterE0 s r → AnyChars (b ∷ s) r
after_e0 e (byte t (byte u (plain h))) = more (three_e0 e t u) h

after_ed : {b : ℕ} {s r : List ℕ} → lead b ≡ Ed → Left AfterEd s r → AnyChars (b ∷ s) r
after_ed e (byte t (byte u (plain h))) = more (three_ed e t u) h

after_four : {b : ℕ} {s r : List ℕ} → lead b ≡ Four → Left Tail3 s r → AnyChars (b ∷ s) r
after_four e (byte t (byte u (byte v (plain h)))) = more (fourth e t u v) h

after_f0 : {b : ℕ} {s r : List ℕ} → lead b ≡ F0 → Left AfterF0 s r → AnyChars (b ∷ s) r
after_f0 e (byte t (byte u (byte v (plain h)))) = more (four_f0 e t u v) h

after_f4 : {b : ℕ} {s r : List ℕ} → lead b ≡ F4 → Left AfterF4 s r → AnyChars (b ∷ s) r
after_f4 e (byte t (byte u (byte v (plain h)))) = more (four_f4 e t u v) h

second_half : {h i j k x y l m n o : ℕ} {s r : List ℕ} → is_d h ≡ true → is_8_to_b i ≡ true → is_hex j ≡ true → is_hex k ≡ true → x ≡ 92 → y ≡ 117
    → is_d l ≡ true → is_c_to_f m ≡ true → is_hex n ≡ true → is_hex o ≡ true → AnyChars s r → AnyChars (92 ∷ 117 ∷ h ∷ i ∷ j ∷ k ∷ x ∷ y ∷ l ∷ m ∷ n ∷ o ∷ s) r
second_half d i j k e f l m n o c = rw (e, f) (more (pair d i j k l m n o) c)

after_d : {h : ℕ} {s r : List ℕ} → is_d h ≡ true → AfterD s r → AnyChars (92 ∷ 117 ∷ h ∷ s) r
after_d d (inl (byte i (byte j (byte k (plain c))))) = more (unit_d d i j k) c
after_d d (inr (byte i (byte j (byte k (byte {b = x} e (byte {b = y} f (byte l (byte m (byte n (byte o (plain c)))))))))))
    = second_half d i j k (eqb-true x 92 e) (eqb-true y 117 f) l m n o c

after_u : {s r : List ℕ} → Units s r → AnyChars (92 ∷ 117 ∷ s) r
after_u (no_d d h (byte i (byte j (byte k (plain c))))) = more (unit d h i j k) c
after_u (with_d d h) = after_d d h

after_backslash : {s r : List ℕ} → Escaped s r → AnyChars (92 ∷ s) r
after_backslash (means e c) = more (short e) c
after_backslash (unicode h) = after_u h

lead_left : {s r : List ℕ} (b : ℕ) (x : Lead) → lead b ≡ x → LeftAfter (after_lead x) s r → AnyChars (b ∷ s) r
lead_left b Control e h = absurd h
lead_left b Ascii e h = more (ascii e) h
lead_left b Quote e h = rw (quote_is b e, h) ([], close)
lead_left b Backslash e h = rw (backslash_is b e) (after_backslash h)
lead_left b Stray e h = absurd h
lead_left b Two e h = after_two e h
lead_left b E0 e h = after_e0 e h
lead_left b Three e h = after_three e h
lead_left b Ed e h = after_ed e h
lead_left b F0 e h = after_f0 e h
lead_left b Four e h = after_four e h
lead_left b F4 e h = after_f4 e h

letter_left : {s r : List ℕ} (b : ℕ) (x : Option Letter) → letter b ≡ x → LeftAfter (after_letter x) s r → Escaped (b ∷ s) r
letter_left b (Some (Means m)) e h = means e h
letter_left b (Some Unicode) e h = rw (unicode_is b e) (unicode h)
letter_left b None e h = absurd h

if_left : (n : InString) (s r : List ℕ) {P : Type 0} (t : Bool) → (t ≡ true → Left n s r → P) → LeftAfter (go_if t n) s r → P
if_left n s r true f h = f refl h
if_left n s r false f h = absurd h

either_left : (n : InString) (x : CharStep) (s r : List ℕ) {P : Type 0} (t : Bool) → (t ≡ true → Left n s r → P) → (t ≡ false → LeftAfter x s r → P) → LeftAfter (cond t (Goes n) x) s r → P
either_left n x s r true f g h = f refl h
either_left n x s r false f g h = g refl h

-- What is left after a byte was left before it, with the byte in front.
pub left_before : (c : InString) (b : ℕ) (s r : List ℕ) → LeftAfter (after c b) s r → Left c (b ∷ s) r
unfolding after
left_before Plain b s r h = lead_left b (lead b) refl h
left_before Escape b s r h = letter_left b (letter b) refl h
left_before AUnit b s r h = either_left UnitD (go_if (is_hex b) Digit3) s r (is_d b) (λ d g. with_d d g) (λ d. if_left Digit3 s r (is_hex b) (λ t g. no_d d t g)) h
left_before UnitD b s r h = either_left Digit2 (go_if (is_8_to_b b) High2) s r (is_to_7 b) (λ t g. inl (byte t g)) (λ d. if_left High2 s r (is_8_to_b b) (λ t g. inr (byte t g))) h
left_before Digit3 b s r h = if_left Digit2 s r (is_hex b) (λ t g. byte t g) h
left_before Digit2 b s r h = if_left Digit1 s r (is_hex b) (λ t g. byte t g) h
left_before Digit1 b s r h = if_left Plain s r (is_hex b) (λ t g. byte t (plain g)) h
left_before High2 b s r h = if_left High1 s r (is_hex b) (λ t g. byte t g) h
left_before High1 b s r h = if_left Slash s r (is_hex b) (λ t g. byte t g) h
left_before Slash b s r h = if_left LetterU s r (eqb b 92) (λ t g. byte t g) h
left_before LetterU b s r h = if_left SecondD s r (eqb b 117) (λ t g. byte t g) h
left_before SecondD b s r h = if_left SecondC s r (is_d b) (λ t g. byte t g) h
left_before SecondC b s r h = if_left Digit2 s r (is_c_to_f b) (λ t g. byte t g) h
left_before Tail3 b s r h = if_left Tail2 s r (is_tail b) (λ t g. byte t g) h
left_before Tail2 b s r h = if_left Tail1 s r (is_tail b) (λ t g. byte t g) h
left_before Tail1 b s r h = if_left Plain s r (is_tail b) (λ t g. byte t (plain g)) h
left_before AfterE0 b s r h = if_left Tail1 s r (within 0xA0 0xC0 b) (λ t g. byte t g) h
left_before AfterEd b s r h = if_left Tail1 s r (within 0x80 0xA0 b) (λ t g. byte t g) h
left_before AfterF0 b s r h = if_left Tail2 s r (within 0x90 0xC0 b) (λ t g. byte t g) h
left_before AfterF4 b s r h = if_left Tail2 s r (within 0x80 0x90 b) (λ t g. byte t g) h

-- Every state inside a string can be brought to the closing quote.
abbrev Closing : InString → List ℕ → Type 0
Closing c r = (s : List ℕ) × Left c s r

pub closing : (c : InString) (r : List ℕ) → Closing c r
unfolding letter is_hex is_d is_to_7 is_8_to_b is_c_to_f is_tail within
closing Plain r = (34 ∷ r, ([], close))
closing Escape r = (110 ∷ 34 ∷ r, means refl ([], close))
closing AUnit r = (48 ∷ 48 ∷ 48 ∷ 48 ∷ 34 ∷ r, no_d refl refl (byte refl (byte refl (byte refl (plain ([], close))))))
closing UnitD r = (48 ∷ 48 ∷ 48 ∷ 34 ∷ r, inl (byte refl (byte refl (byte refl (plain ([], close))))))
closing Digit3 r = (48 ∷ 48 ∷ 48 ∷ 34 ∷ r, byte refl (byte refl (byte refl (plain ([], close)))))
closing Digit2 r = (48 ∷ 48 ∷ 34 ∷ r, byte refl (byte refl (plain ([], close))))
closing Digit1 r = (48 ∷ 34 ∷ r, byte refl (plain ([], close)))
closing High2 r = (48 ∷ 48 ∷ 92 ∷ 117 ∷ 68 ∷ 67 ∷ 48 ∷ 48 ∷ 34 ∷ r, byte refl (byte refl (byte refl (byte refl (byte refl (byte refl (byte refl (byte refl (plain ([], close))))))))))
closing High1 r = (48 ∷ 92 ∷ 117 ∷ 68 ∷ 67 ∷ 48 ∷ 48 ∷ 34 ∷ r, byte refl (byte refl (byte refl (byte refl (byte refl (byte refl (byte refl (plain ([], close)))))))))
closing Slash r = (92 ∷ 117 ∷ 68 ∷ 67 ∷ 48 ∷ 48 ∷ 34 ∷ r, byte refl (byte refl (byte refl (byte refl (byte refl (byte refl (plain ([], close))))))))
closing LetterU r = (117 ∷ 68 ∷ 67 ∷ 48 ∷ 48 ∷ 34 ∷ r, byte refl (byte refl (byte refl (byte refl (byte refl (plain ([], close)))))))
closing SecondD r = (68 ∷ 67 ∷ 48 ∷ 48 ∷ 34 ∷ r, byte refl (byte refl (byte refl (byte refl (plain ([], close))))))
closing SecondC r = (67 ∷ 48 ∷ 48 ∷ 34 ∷ r, byte refl (byte refl (byte refl (plain ([], close)))))
closing Tail3 r = (128 ∷ 128 ∷ 128 ∷ 34 ∷ r, byte refl (byte refl (byte refl (plain ([], close)))))
closing Tail2 r = (128 ∷ 128 ∷ 34 ∷ r, byte refl (byte refl (plain ([], close))))
closing Tail1 r = (128 ∷ 34 ∷ r, byte refl (plain ([], close)))
closing AfterE0 r = (160 ∷ 128 ∷ 34 ∷ r, byte refl (byte refl (plain ([], close))))
closing AfterEd r = (128 ∷ 128 ∷ 34 ∷ r, byte refl (byte refl (plain ([], close))))
closing AfterF0 r = (144 ∷ 128 ∷ 128 ∷ 34 ∷ r, byte refl (byte refl (byte refl (plain ([], close)))))
closing AfterF4 r = (128 ∷ 128 ∷ 128 ∷ 34 ∷ r, byte refl (byte refl (byte refl (plain ([], close)))))
