-- A decoded string is no longer than its text: an escape has more bytes than what it stands for.
use Prim.Native.Nat.{ℕ, ◌+◌, ◌<◌, ◌≤◌}
use mathlib.Core.Path.{◌≡◌, refl}
use mathlib.Core.List.{List, [], ◌∷◌, tail}
use mathlib.Core.Bool.{Bool, true, false, cond}
use lib.ListN.{length, drop, length-append, length-drop}
use lib.Dec.{eqb, ltb}
use native.Mathlib.Omega.{arith}
use Rattle.std.specs.Prelude.{Option, Some, None}
use Rattle.json_grammar.specs.Rows.{look}
use Rattle.json_grammar.specs.Byte.{is_hex, is_d, is_to_7, is_8_to_b, is_c_to_f, is_tail, within, utf8}
use Rattle.json_grammar.specs.String.{chars, lead, letter, after_lead, after_letter, go_if, after, meant, one_more, point, given, gather}
use Rattle.json_move.specs.Read.{decoded}
use Rattle.json_grammar.specs.declared.string.Lead.{Lead}
use Rattle.json_grammar.specs.declared.string.Lead.TheVariants.{Control, Ascii, Quote, Backslash, Stray, Two, E0, Three, Ed, F0, Four, F4}
use Rattle.json_grammar.specs.declared.string.Letter.{Letter}
use Rattle.json_grammar.specs.declared.string.Letter.TheVariants.{Means, Unicode}
use Rattle.json_grammar.specs.declared.string.InString.{InString}
use Rattle.json_grammar.specs.declared.string.InString.TheVariants.{Plain, Escape, Unit, UnitD, Digit3, Digit2, Digit1, High2, High1, Slash, LetterU, SecondD, SecondC, Tail3, Tail2, Tail1, AfterE0, AfterEd, AfterF0, AfterF4}
use Rattle.json_grammar.specs.declared.string.CharStep.{CharStep}
use Rattle.json_grammar.specs.declared.string.CharStep.TheVariants.{Goes, Closes, Refuses}
use Rattle.json_decode.specs.Characters.{plain_from}
use Rattle.json_decode.proofs.Ahead.{byte_goes, byte_closes, byte_refuses}

-- Bytes of an escape that were read, and may yet be given: the last digit gives up to four.
abbrev kept : InString → ℕ
kept Plain = 0
kept Escape = 0
kept Unit = 0
kept UnitD = 1
kept Digit3 = 1
kept Digit2 = 2
kept Digit1 = 3
kept High2 = 0
kept High1 = 0
kept Slash = 0
kept LetterU = 0
kept SecondD = 0
kept SecondC = 1
kept Tail3 = 0
kept Tail2 = 0
kept Tail1 = 0
kept AfterE0 = 0
kept AfterEd = 0
kept AfterF0 = 0
kept AfterF4 = 0

abbrev kept_at : CharStep → ℕ
kept_at (Goes n) = kept n
kept_at Closes = 0
kept_at Refuses = 0

if_keeps : (t : Bool) (n : InString) → kept_at (go_if t n) ≤ kept n
if_keeps true n = omega arith
if_keeps false n = omega arith

lead_keeps : (l : Lead) → kept_at (after_lead l) ≡ 0
lead_keeps Control = refl
lead_keeps Ascii = refl
lead_keeps Quote = refl
lead_keeps Backslash = refl
lead_keeps Stray = refl
lead_keeps Two = refl
lead_keeps E0 = refl
lead_keeps Three = refl
lead_keeps Ed = refl
lead_keeps F0 = refl
lead_keeps Four = refl
lead_keeps F4 = refl

letter_keeps : (l : Option Letter) → length (meant l) + kept_at (after_letter l) ≤ 1
letter_keeps (Some (Means m)) = omega arith
letter_keeps (Some Unicode) = omega arith
letter_keeps None = omega arith

plain_short : (t : Bool) (b : ℕ) → length (cond t [] (b ∷ [])) ≤ 1
plain_short true b = omega arith
plain_short false b = omega arith

unit_keeps : (t h : Bool) → kept_at (cond t (Goes UnitD) (go_if h Digit3)) ≤ 1
unit_keeps true h = omega arith
unit_keeps false h = if_keeps h Digit3

unit_d_keeps : (t h : Bool) → kept_at (cond t (Goes Digit2) (go_if h High2)) ≤ 2
unit_d_keeps true h = omega arith
unit_d_keeps false h = omega (arith, if_keeps h High2)

one_to_four : (a b c : Bool) (p q r s t u v w x y : ℕ)
    → let n = length (cond a (p ∷ []) (cond b (q ∷ r ∷ []) (cond c (s ∷ t ∷ u ∷ []) (v ∷ w ∷ x ∷ y ∷ [])))) in (0 < n) × (n ≤ 4)
one_to_four true b c p q r s t u v w x y = (omega arith, omega arith)
one_to_four false true c p q r s t u v w x y = (omega arith, omega arith)
one_to_four false false true p q r s t u v w x y = (omega arith, omega arith)
one_to_four false false false p q r s t u v w x y = (omega arith, omega arith)

pub utf8_size : (c : ℕ) → (0 < length (utf8 c)) × (length (utf8 c) ≤ 4)
unfolding utf8 look
utf8_size c = one_to_four (ltb c 0x80) (ltb c 0x800) (ltb c 0x10000) _ _ _ _ _ _ _ _ _ _

-- what a byte gives and what its state keeps for it
step_keeps : (s : InString) (v b : ℕ) → length (given s v b) + kept_at (after s b) ≤ 1 + kept s
unfolding given after
step_keeps Plain v b = omega (arith, plain_short (eqb b 92) b, lead_keeps (lead b))
step_keeps Escape v b = letter_keeps (letter b)
step_keeps Unit v b = omega (arith, unit_keeps (is_d b) (is_hex b))
step_keeps UnitD v b = omega (arith, unit_d_keeps (is_to_7 b) (is_8_to_b b))
step_keeps Digit3 v b = omega (arith, if_keeps (is_hex b) Digit2)
step_keeps Digit2 v b = omega (arith, if_keeps (is_hex b) Digit1)
step_keeps Digit1 v b = omega (arith, if_keeps (is_hex b) Plain, utf8_size (point (one_more v b)))
step_keeps High2 v b = omega (arith, if_keeps (is_hex b) High1)
step_keeps High1 v b = omega (arith, if_keeps (is_hex b) Slash)
step_keeps Slash v b = omega (arith, if_keeps (eqb b 92) LetterU)
step_keeps LetterU v b = omega (arith, if_keeps (eqb b 117) SecondD)
step_keeps SecondD v b = omega (arith, if_keeps (is_d b) SecondC)
step_keeps SecondC v b = omega (arith, if_keeps (is_c_to_f b) Digit2)
step_keeps Tail3 v b = omega (arith, if_keeps (is_tail b) Tail2)
step_keeps Tail2 v b = omega (arith, if_keeps (is_tail b) Tail1)
step_keeps Tail1 v b = omega (arith, if_keeps (is_tail b) Plain)
step_keeps AfterE0 v b = omega (arith, if_keeps (within 0xA0 0xC0 b) Tail1)
step_keeps AfterEd v b = omega (arith, if_keeps (within 0x80 0xA0 b) Tail1)
step_keeps AfterF0 v b = omega (arith, if_keeps (within 0x90 0xC0 b) Tail2)
step_keeps AfterF4 v b = omega (arith, if_keeps (within 0x80 0x90 b) Tail2)

chars_short : (s : InString) (v : ℕ) (l : List ℕ) → length (chars s v l).bytes ≤ length l + kept s
unfolding chars
chars_short s v [] = omega arith
chars_short s v (b ∷ l) = go (after s b) refl (λ n w. chars_short n w l)
  where
    go : (t : CharStep) → after s b ≡ t → ((n : InString) (w : ℕ) → length (chars n w l).bytes ≤ length l + kept n)
        → length (chars s v (b ∷ l)).bytes ≤ length (b ∷ l) + kept s
    go (Goes n) e rec =
        let k : length (given s v b) + kept n ≤ 1 + kept s = rw e at (step_keeps s v b) in
        rw (byte_goes s v b l e) (simp length-append (omega (arith, rec n (gather s v b))))
    go Closes e rec = rw (byte_closes s v b l e) (omega arith)
    go Refuses e rec = rw (byte_refuses s v b l e) (omega arith)

tail_short : (l : List ℕ) → length (tail l) ≤ length l
tail_short [] = omega arith
tail_short (b ∷ l) = omega arith

pub decoded_short : (text : List ℕ) (q : ℕ) → length (decoded (drop q text)) ≤ length text
unfolding decoded
decoded_short text q = omega (arith, chars_short Plain 0 (tail (drop q text)), tail_short (drop q text), length-drop q text)

pub from_short : (text : List ℕ) (at : ℕ) → length (plain_from text at) ≤ length text
from_short text at = omega (arith, chars_short Plain 0 (drop at text), length-drop at text)
