-- A string of the grammar, byte by byte.
use Prim.Native.Nat.{ℕ}
use mathlib.Core.Path.{◌≡◌, refl, ap, ◌∙◌}
use mathlib.Core.List.{List, ◌∷◌}
use mathlib.Core.Bool.{Bool, true, false, cond}
use lib.Dec.{eqb}
use borrow.Author.Tests.{eqb-true}
use Rattle.std.specs.Prelude.{Option, Some, None}
use Rattle.json_grammar.specs.Byte.{is_hex, is_d, is_to_7, is_8_to_b, is_c_to_f, is_tail, within}
use Rattle.json_grammar.specs.String.{lead, letter, after, after_lead, after_letter, go_if}
use Rattle.json_grammar.specs.declared.string.Lead.{Lead}
use Rattle.json_grammar.specs.declared.string.Lead.TheVariants.{Control, Ascii, Quote, Backslash, Stray, Two, E0, Three, Ed, F0, Four, F4}
use Rattle.json_grammar.specs.declared.string.Letter.{Letter}
use Rattle.json_grammar.specs.declared.string.Letter.TheVariants.{Means, Unicode}
use Rattle.json_grammar.specs.declared.string.InString.{InString}
use Rattle.json_grammar.specs.declared.string.InString.TheVariants.{Plain, Escape, Unit as AUnit, UnitD, Digit3, Digit2, Digit1, High2, High1, Slash, LetterU, SecondD, SecondC, Tail3, Tail2, Tail1, AfterE0, AfterEd, AfterF0, AfterF4}
use Rattle.json_grammar.specs.declared.string.CharStep.{CharStep}
use Rattle.json_grammar.specs.declared.string.CharStep.TheVariants.{Goes, Closes, Refuses}
use Rattle.json_grammar.specs.Grammar.{Char, ascii, two, three, three_e0, three_ed, fourth, four_f0, four_f4, short, unit, unit_d, pair, Chars, close, char}
use Rattle.json_laws.proofs.Bytes.{apart, quote_is, backslash_is, high_not_low}

-- From a state inside a string the bytes s come to its closing quote, and r is what is behind it.
pub data From : InString → List ℕ → List ℕ → Type 0 where
  shuts : {c : InString} {b : ℕ} {r : List ℕ} → after c b ≡ Closes → From c (b ∷ r) r
  goes : {c n : InString} {b : ℕ} {s r : List ℕ} → after c b ≡ Goes n → From n s r → From c (b ∷ s) r

-- a test that holds
pub passed : {t : Bool} {n : InString} → t ≡ true → go_if t n ≡ Goes n
passed {n = n} e = ap (λ x. go_if x n) e

-- a first test that holds, and one that does not before one that does
pub taken : {t : Bool} (a c : CharStep) → t ≡ true → cond t a c ≡ a
taken a c e = rw e

pub passed_second : {t u : Bool} {n : InString} (a : CharStep) → t ≡ false → u ≡ true → cond t a (go_if u n) ≡ Goes n
passed_second a e h = rw (e, h)

char_from : {u s m r : List ℕ} → Char u s m → From Plain m r → From Plain s r
unfolding after
char_from (ascii e) f = goes (ap after_lead e) f
char_from (two e t) f = goes (ap after_lead e) (goes (passed t) f)
char_from (three e t u) f = goes (ap after_lead e) (goes (passed t) (goes (passed u) f))
char_from (three_e0 e t u) f = goes (ap after_lead e) (goes (passed t) (goes (passed u) f))
char_from (three_ed e t u) f = goes (ap after_lead e) (goes (passed t) (goes (passed u) f))
char_from (fourth e t u v) f = goes (ap after_lead e) (goes (passed t) (goes (passed u) (goes (passed v) f)))
char_from (four_f0 e t u v) f = goes (ap after_lead e) (goes (passed t) (goes (passed u) (goes (passed v) f)))
char_from (four_f4 e t u v) f = goes (ap after_lead e) (goes (passed t) (goes (passed u) (goes (passed v) f)))
char_from (short e) f = goes refl (goes (ap after_letter e) f)
char_from (unit d h i j k) f = goes refl (goes refl (goes (passed_second _ d h) (goes (passed i) (goes (passed j) (goes (passed k) f)))))
char_from (unit_d d i j k) f = goes refl (goes refl (goes (taken _ _ d) (goes (taken _ _ i) (goes (passed j) (goes (passed k) f)))))
char_from (pair {i = x} d i j k l m n o) f =
    goes refl (goes refl (goes (taken _ _ d) (goes {n = High2} (passed_second _ (high_not_low x i) i) (goes (passed j) (goes (passed k)
    (goes refl (goes refl (goes (passed l) (goes (passed m) (goes (passed n) (goes (passed o) f)))))))))))

pub chars_from : {cs s r : List ℕ} → Chars cs s r → From Plain s r
unfolding after
chars_from close = shuts refl
chars_from (char c cs e) = char_from c (chars_from cs)

-- The byte behind a backslash is next.
abbrev pub escaping : InString → Bool
escaping Plain = false
escaping Escape = true
escaping AUnit = false
escaping UnitD = false
escaping Digit3 = false
escaping Digit2 = false
escaping Digit1 = false
escaping High2 = false
escaping High1 = false
escaping Slash = false
escaping LetterU = true
escaping SecondD = false
escaping SecondC = false
escaping Tail3 = false
escaping Tail2 = false
escaping Tail1 = false
escaping AfterE0 = false
escaping AfterEd = false
escaping AfterF0 = false
escaping AfterF4 = false

-- What a byte is to one who looks for quotes (34) and backslashes (92) alone.
pub data Seen (c : InString) (b : ℕ) : CharStep → Type 0 where
  quiet : {n : InString} → escaping c ≡ false → eqb b 34 ≡ false → eqb b 92 ≡ false → escaping n ≡ false → Seen c b (Goes n)
  slash : {n : InString} → escaping c ≡ false → b ≡ 92 → escaping n ≡ true → Seen c b (Goes n)
  skipped : {n : InString} → escaping c ≡ true → escaping n ≡ false → Seen c b (Goes n)
  quote : escaping c ≡ false → b ≡ 34 → Seen c b Closes
  stray : Seen c b Refuses

if_seen : {c n : InString} {b : ℕ} (t : Bool) → (t ≡ true → Seen c b (Goes n)) → Seen c b (go_if t n)
if_seen true f = f refl
if_seen false f = stray

-- a test that neither the quote nor the backslash passes
test_seen : {c : InString} (n : InString) (t : ℕ → Bool) (b : ℕ) → escaping c ≡ false → escaping n ≡ false → t 34 ≡ false → t 92 ≡ false → Seen c b (go_if (t b) n)
test_seen n t b e f q r = if_seen (t b) (λ h. quiet e (apart t b 34 h q) (apart t b 92 h r) f)

either_seen : {c n : InString} {b : ℕ} (t : Bool) {x : CharStep} → (t ≡ true → Seen c b (Goes n)) → Seen c b x → Seen c b (cond t (Goes n) x)
either_seen true f h = f refl
either_seen false f h = h

abbrev pub spells : Lead → Bool
spells Control = false
spells Ascii = true
spells Quote = false
spells Backslash = false
spells Stray = false
spells Two = true
spells E0 = true
spells Three = true
spells Ed = true
spells F0 = true
spells Four = true
spells F4 = true

-- neither the quote nor the backslash spells itself
itself : (b : ℕ) {x : Lead} {n : InString} → lead b ≡ x → spells x ≡ true → escaping n ≡ false → Seen Plain b (Goes n)
unfolding lead
itself b e h f = quiet refl (apart (λ c. spells (lead c)) b 34 (ap spells e ∙ h) refl) (apart (λ c. spells (lead c)) b 92 (ap spells e ∙ h) refl) f

lead_seen : (b : ℕ) (x : Lead) → lead b ≡ x → Seen Plain b (after_lead x)
lead_seen b Control e = stray
lead_seen b Ascii e = itself b e refl refl
lead_seen b Quote e = quote refl (quote_is b e)
lead_seen b Backslash e = slash refl (backslash_is b e) refl
lead_seen b Stray e = stray
lead_seen b Two e = itself b e refl refl
lead_seen b E0 e = itself b e refl refl
lead_seen b Three e = itself b e refl refl
lead_seen b Ed e = itself b e refl refl
lead_seen b F0 e = itself b e refl refl
lead_seen b Four e = itself b e refl refl
lead_seen b F4 e = itself b e refl refl

letter_seen : (b : ℕ) (x : Option Letter) → Seen Escape b (after_letter x)
letter_seen b (Some (Means m)) = skipped refl refl
letter_seen b (Some Unicode) = skipped refl refl
letter_seen b None = stray

pub seen : (c : InString) (b : ℕ) → Seen c b (after c b)
unfolding after
seen Plain b = lead_seen b (lead b) refl
seen Escape b = letter_seen b (letter b)
seen AUnit b = either_seen (is_d b) (λ h. quiet refl (apart is_d b 34 h refl) (apart is_d b 92 h refl) refl) (test_seen Digit3 is_hex b refl refl refl refl)
seen UnitD b = either_seen (is_to_7 b) (λ h. quiet refl (apart is_to_7 b 34 h refl) (apart is_to_7 b 92 h refl) refl) (test_seen High2 is_8_to_b b refl refl refl refl)
seen Digit3 b = test_seen Digit2 is_hex b refl refl refl refl
seen Digit2 b = test_seen Digit1 is_hex b refl refl refl refl
seen Digit1 b = test_seen Plain is_hex b refl refl refl refl
seen High2 b = test_seen High1 is_hex b refl refl refl refl
seen High1 b = test_seen Slash is_hex b refl refl refl refl
seen Slash b = if_seen (eqb b 92) (λ h. slash refl (eqb-true b 92 h) refl)
seen LetterU b = if_seen (eqb b 117) (λ h. skipped refl refl)
seen SecondD b = test_seen SecondC is_d b refl refl refl refl
seen SecondC b = test_seen Digit2 is_c_to_f b refl refl refl refl
seen Tail3 b = test_seen Tail2 is_tail b refl refl refl refl
seen Tail2 b = test_seen Tail1 is_tail b refl refl refl refl
seen Tail1 b = test_seen Plain is_tail b refl refl refl refl
seen AfterE0 b = test_seen Tail1 (λ x. within 0xA0 0xC0 x) b refl refl refl refl
seen AfterEd b = test_seen Tail1 (λ x. within 0x80 0xA0 x) b refl refl refl refl
seen AfterF0 b = test_seen Tail2 (λ x. within 0x90 0xC0 x) b refl refl refl refl
seen AfterF4 b = test_seen Tail2 (λ x. within 0x80 0x90 x) b refl refl refl refl

-- One who looks for quotes and backslashes alone, with S in a string and E behind a backslash, comes to the closing quote.
module _ {A : Type 0} (S E : List ℕ → A)
    (pass : (b : ℕ) (s : List ℕ) → eqb b 34 ≡ false → eqb b 92 ≡ false → S (b ∷ s) ≡ S s)
    (escape : (s : List ℕ) → S (92 ∷ s) ≡ E s)
    (skip : (b : ℕ) (s : List ℕ) → E (b ∷ s) ≡ S s) where
  pub seen_on : {c n : InString} {b : ℕ} (s : List ℕ) → Seen c b (Goes n) → cond (escaping c) E S (b ∷ s) ≡ cond (escaping n) E S s
  seen_on {b = b} s (quiet e q r f) = rw (e, f) (pass b s q r)
  seen_on s (slash e q f) = rw (e, f, q) (escape s)
  seen_on {b = b} s (skipped e f) = rw (e, f) (skip b s)

  pub seen_end : {c : InString} {b : ℕ} (s : List ℕ) → Seen c b Closes → cond (escaping c) E S (b ∷ s) ≡ S (34 ∷ s)
  seen_end s (quote e q) = rw (e, q)

  pub to_quote : {c : InString} {s r : List ℕ} → From c s r → cond (escaping c) E S s ≡ S (34 ∷ r)
  to_quote (shuts {c = c} {b = b} {r = r} e) = seen_end r (rw e at (seen c b))
  to_quote (goes {c = c} {b = b} {s = s} e f) = seen_on s (rw e at (seen c b)) ∙ to_quote f
