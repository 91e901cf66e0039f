-- What the bytes of each kind are, and what they are not.
use Prim.Native.Nat.{ℕ, ◌≤◌, ◌<◌}
use mathlib.Core.Path.{◌≡◌, refl, sym, ap, ◌∙◌}
use mathlib.Core.List.{List, [], ◌∷◌}
use mathlib.Core.Bool.{Bool, true, false, ◌&&◌, ◌||◌, not, false≢true, true≢false}
use lib.Dec.{eqb}
use borrow.Author.Tests.{ne_eqb}
use native.Mathlib.Omega.{arith}
use Rattle.json_grammar.specs.Rows.{look, below, else}
use Rattle.json_grammar.specs.Byte.{is_blank, is_numeric, within, is_to_7, is_8_to_b}
use Rattle.json_grammar.specs.String.{lead, letter}
use Rattle.json_grammar.specs.Number.{onward}
use Rattle.json_grammar.specs.declared.string.Lead.{Lead}
use Rattle.json_grammar.specs.declared.string.Lead.TheVariants.{Control, Ascii, Quote, Backslash, Stray, Two, E0, Three, Ed, F0, Four, F4}
use Rattle.json_grammar.specs.declared.string.Letter.{Letter}
use Rattle.json_grammar.specs.declared.string.Letter.TheVariants.{Means, Unicode}
use Rattle.json_grammar.specs.declared.number.InNumber.{InNumber}
use Rattle.json_grammar.specs.declared.number.InNumber.TheVariants.{Start, Minus, Zero, Whole, Point, Fraction, Mark, Sign, Power}
use Rattle.std.specs.Prelude.{Option, Some, None}
use Rattle.json_laws.proofs.Tables.{each, by_rows, tables, always, rows_from}

-- A byte that a test holds of is no byte that it does not hold of.
pub apart : (f : ℕ → Bool) (b x : ℕ) → f b ≡ true → f x ≡ false → eqb b x ≡ false
apart f b x e h = ne_eqb b x (λ (p : b ≡ x). true≢false (sym e ∙ ap f p ∙ h))

-- A byte between two bounds.
abbrev Bound : ℕ → ℕ → ℕ → Bool → Type 0
Bound lo hi b true = (lo ≤ b) × (b < hi)
Bound lo hi b false = Unit {0}

bound : (lo hi b : ℕ) → Bound lo hi b (within lo hi b)
unfolding within
bound lo hi b = each (Bound lo hi b) 0 b (below lo false (below hi true (else false))) (omega arith) (λ _ _. tt, (λ l h. (l, h), λ _. tt))

pub within_is : (lo hi b : ℕ) → within lo hi b ≡ true → (lo ≤ b) × (b < hi)
within_is lo hi b e = rw e at (bound lo hi b)

abbrev is_onward : Option InNumber → Bool
is_onward (Some m) = true
is_onward None = false

abbrev pub implies : Bool → Bool → Bool
implies a b = not a || b

pub implied : (a b : Bool) → implies a b ≡ true → a ≡ true → b ≡ true
implied true b e h = e
implied false b e h = absurd (false≢true h)

excluded : (a b : Bool) → not (a && b) ≡ true → a ≡ true → b ≡ false
excluded true true e h = absurd (false≢true e)
excluded true false e h = refl
excluded false b e h = absurd (false≢true h)

abbrev blank_bounds : List ℕ
blank_bounds = 9 ∷ 11 ∷ 13 ∷ 14 ∷ 32 ∷ 33 ∷ []

abbrev pub numeric_bounds : List ℕ
numeric_bounds = 43 ∷ 44 ∷ 45 ∷ 47 ∷ 48 ∷ 58 ∷ 69 ∷ 70 ∷ 101 ∷ 102 ∷ []

abbrev onward_bounds : InNumber → List ℕ
onward_bounds Start = 45 ∷ 46 ∷ 48 ∷ 49 ∷ 58 ∷ []
onward_bounds Minus = 48 ∷ 49 ∷ 58 ∷ []
onward_bounds Zero = 46 ∷ 47 ∷ 69 ∷ 70 ∷ 101 ∷ 102 ∷ []
onward_bounds Whole = 46 ∷ 47 ∷ 48 ∷ 58 ∷ 69 ∷ 70 ∷ 101 ∷ 102 ∷ []
onward_bounds Point = 48 ∷ 58 ∷ []
onward_bounds Fraction = 48 ∷ 58 ∷ 69 ∷ 70 ∷ 101 ∷ 102 ∷ []
onward_bounds Mark = 43 ∷ 44 ∷ 45 ∷ 46 ∷ 48 ∷ 58 ∷ []
onward_bounds Sign = 48 ∷ 58 ∷ []
onward_bounds Power = 48 ∷ 58 ∷ []

abbrev only_numeric : Option InNumber → Bool → Bool
only_numeric x y = implies (is_onward x) y

-- by the tables of a part of a number and of the bytes of numbers
by_part : (n : InNumber) (b : ℕ) → onward n b ≡ look b (rows_from 0 (λ c. onward n c) (onward_bounds n)) → always only_numeric (rows_from 0 (λ c. onward n c) (onward_bounds n)) (rows_from 0 is_numeric numeric_bounds) ≡ true
    → only_numeric (onward n b) (is_numeric b) ≡ true
unfolding is_numeric look
by_part n b d e = tables only_numeric (λ c. onward n c) (onward_bounds n) is_numeric numeric_bounds b d refl e

onward_or_numeric : (n : InNumber) (b : ℕ) → only_numeric (onward n b) (is_numeric b) ≡ true
unfolding onward is_numeric always look
onward_or_numeric Start b = by_part Start b refl refl
onward_or_numeric Minus b = by_part Minus b refl refl
onward_or_numeric Zero b = by_part Zero b refl refl
onward_or_numeric Whole b = by_part Whole b refl refl
onward_or_numeric Point b = by_part Point b refl refl
onward_or_numeric Fraction b = by_part Fraction b refl refl
onward_or_numeric Mark b = by_part Mark b refl refl
onward_or_numeric Sign b = by_part Sign b refl refl
onward_or_numeric Power b = by_part Power b refl refl

-- A number goes on with none but the bytes that numbers are written with.
pub onward_numeric : (n : InNumber) (b : ℕ) {m : InNumber} → onward n b ≡ Some m → is_numeric b ≡ true
onward_numeric n b e = implied (is_onward (onward n b)) (is_numeric b) (onward_or_numeric n b) (ap is_onward e)

pub not_numeric_over : (n : InNumber) (b : ℕ) → is_numeric b ≡ false → onward n b ≡ None
not_numeric_over n b e = step (onward n b) refl
  where
    step : (x : Option InNumber) → onward n b ≡ x → x ≡ None
    step (Some m) h = absurd (true≢false (sym (onward_numeric n b h) ∙ e))
    step None h = refl

abbrev neither : Bool → Bool → Bool
neither x y = not (x && y)

pub blank_not_numeric : (b : ℕ) → is_blank b ≡ true → is_numeric b ≡ false
unfolding is_blank is_numeric always look
blank_not_numeric b = excluded (is_blank b) (is_numeric b) (tables neither is_blank blank_bounds is_numeric numeric_bounds b refl refl refl)

pub numeric_not_blank : (b : ℕ) → is_numeric b ≡ true → is_blank b ≡ false
unfolding is_blank is_numeric always look
numeric_not_blank b = excluded (is_numeric b) (is_blank b) (tables neither is_numeric numeric_bounds is_blank blank_bounds b refl refl refl)

pub high_not_low : (b : ℕ) → is_8_to_b b ≡ true → is_to_7 b ≡ false
unfolding is_8_to_b is_to_7 within always look
high_not_low b = excluded (is_8_to_b b) (is_to_7 b) (tables neither is_8_to_b (56 ∷ 58 ∷ 65 ∷ 67 ∷ 97 ∷ 99 ∷ []) is_to_7 (48 ∷ 56 ∷ []) b refl refl refl)

-- The quote, the backslash and the letter u by their tables.
abbrev pub lead_bounds : List ℕ
lead_bounds = 32 ∷ 34 ∷ 35 ∷ 92 ∷ 93 ∷ 128 ∷ 0xC2 ∷ 0xE0 ∷ 0xE1 ∷ 0xED ∷ 0xEE ∷ 0xF0 ∷ 0xF1 ∷ 0xF4 ∷ 0xF5 ∷ []

abbrev Known : ℕ → Lead → Type 0
Known b Control = Unit {0}
Known b Ascii = Unit {0}
Known b Quote = b ≡ 34
Known b Backslash = b ≡ 92
Known b Stray = Unit {0}
Known b Two = Unit {0}
Known b E0 = Unit {0}
Known b Three = Unit {0}
Known b Ed = Unit {0}
Known b F0 = Unit {0}
Known b Four = Unit {0}
Known b F4 = Unit {0}

known : (b : ℕ) → Known b (lead b)
unfolding lead look
known b = by_rows (Known b) lead lead_bounds b refl (omega arith)

pub quote_is : (b : ℕ) → lead b ≡ Quote → b ≡ 34
quote_is b e = rw e at (known b)

pub backslash_is : (b : ℕ) → lead b ≡ Backslash → b ≡ 92
backslash_is b e = rw e at (known b)

abbrev pub letter_bounds : List ℕ
letter_bounds = 34 ∷ 35 ∷ 47 ∷ 48 ∷ 92 ∷ 93 ∷ 98 ∷ 99 ∷ 102 ∷ 103 ∷ 110 ∷ 111 ∷ 114 ∷ 115 ∷ 116 ∷ 117 ∷ 118 ∷ []

abbrev is_unicode : Option Letter → Bool
is_unicode (Some (Means m)) = false
is_unicode (Some Unicode) = true
is_unicode None = false

abbrev only_u : Option Letter → Bool → Bool
only_u x y = implies (is_unicode x) y

abbrev IsU : ℕ → Bool → Type 0
IsU b true = b ≡ 117
IsU b false = Unit {0}

pub unicode_is : (b : ℕ) → letter b ≡ Some Unicode → b ≡ 117
unfolding letter look always within
unicode_is b e = rw (implied (is_unicode (letter b)) (within 117 118 b) (tables only_u letter letter_bounds (λ c. within 117 118 c) (117 ∷ 118 ∷ []) b refl refl refl) (ap is_unicode e)) at u
  where
    u : IsU b (within 117 118 b)
    u = by_rows (IsU b) (λ c. within 117 118 c) (117 ∷ 118 ∷ []) b refl (omega arith)
