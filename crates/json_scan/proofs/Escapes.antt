-- Escapes: the letter behind the backslash, and the digits behind a u, four of a unit or eight of a pair.
use Prim.Native.Nat.{ℕ, ◌+◌, ◌*◌, ◌<◌, ◌≤◌}
use mathlib.Core.Path.{◌≡◌, refl, sym, ◌∙◌}
use mathlib.Core.Bool.{true, false}
use mathlib.Core.List.{List, [], ◌∷◌}
use lib.ListN.{length, get_or}
use native.Mathlib.Nat.{zero-add}
use native.Mathlib.Omega.{arith}
use Rattle.std.specs.Prelude.{Some}
use Rattle.json_grammar.specs.Rows.{look}
use Rattle.json_grammar.specs.Byte.{is_hex, is_d, is_to_7, is_8_to_b, is_c_to_f, digit, utf8}
use Rattle.json_grammar.specs.String.{after, lead, letter, gather, given, one_more, point}
use Rattle.json_grammar.specs.declared.string.Letter.TheVariants.{Means, Unicode}
use Rattle.json_grammar.specs.declared.string.InString.{InString}
use Rattle.json_grammar.specs.declared.string.InString.TheVariants.{Plain, Escape, Unit, UnitD, Digit3, Digit2, Digit1}
use Rattle.json_grammar.specs.declared.string.InString.TheVariants.{High2, High1, Slash, LetterU, SecondD, SecondC}
use Rattle.json_grammar.specs.declared.string.CharStep.TheVariants.{Goes}
use Rattle.json_scan.specs.declared.escape.Escape as Escape
use Rattle.json_scan.specs.declared.escape.Escape.TheVariants as E
use Rattle.json_scan.specs.Chars.{Passes, Char, Escapes, width_of}
use Rattle.json_scan.specs.Reached.{Reached, FourHex, four_digits}
use Rattle.json_scan.proofs.Digits.{digit_small, no_wrap}
use Rattle.json_scan.proofs.Steps.{starts, goes, whole}

-- A state in which a digit is gathered.
abbrev Counts : InString → ℕ → Type 0
Counts s v = (b : ℕ) → (given s v b ≡ []) × (gather s v b ≡ one_more v b)

module _ {text : List ℕ} {at n v : ℕ} (f : v < 0x10000000) (p : ℕ) (e : p ≡ at + n) (h : p < length text) where
  counts : {s t : InString} → Reached text at n [] s v → Counts s v → after s (get_or text p 0) ≡ Goes t
      → Reached text at (n + 1) [] t (v * 16 + digit (get_or text p 0))
  counts r k g = rw ((k (get_or text p 0)).0, (k (get_or text p 0)).1, no_wrap v (get_or text p 0) f) at (goes r p e h g)

  module _ {w : ℕ} (z : w ≡ v * 16 + digit (get_or text p 0)) (x : is_hex (get_or text p 0) ≡ true) where
    -- the last digit of a unit by itself, or of a pair
    ends : Reached text at n [] Digit1 v → Char text at (n + 1) (utf8 (point w))
    unfolding after given gather
    ends r = rw (no_wrap v (get_or text p 0) f, ← z) at (whole (goes r p e h (rw x)) (omega arith))

    -- of a higher half
    halves : Reached text at n [] High1 v → Reached text at (n + 1) [] Slash w
    unfolding after given gather
    halves r = rw (← z) at (counts {t = Slash} r (λ b. (refl, refl)) (rw x))

-- v and three digits behind it
abbrev three_more : List ℕ → ℕ → ℕ → ℕ
three_more text p v = ((v * 16 + digit (get_or text p 0)) * 16 + digit (get_or text (p + 1) 0)) * 16 + digit (get_or text (p + 2) 0)

three_small : (text : List ℕ) (p v : ℕ) → v < 0x10000 → three_more text p v < 0x10000000
three_small text p v f = omega (arith, digit_small (get_or text p 0), digit_small (get_or text (p + 1) 0), digit_small (get_or text (p + 2) 0))

-- four digits, through the states s, a and b
module _ {text : List ℕ} {at n : ℕ} {s a b : InString} {v : ℕ} (r : Reached text at n [] s v) (f : v < 0x10000)
    (room : at + n + 4 ≤ length text) (k : Counts s v) (ka : (w : ℕ) → Counts a w) (kb : (w : ℕ) → Counts b w)
    (g : after s (get_or text (at + n) 0) ≡ Goes a) (ga : after a (get_or text (at + n + 1) 0) ≡ Goes b) where
  three : {t : InString} → after b (get_or text (at + n + 2) 0) ≡ Goes t
      → Reached text at (n + 1 + 1 + 1) [] t (three_more text (at + n) v)
  three gb =
      let p = digit_small (get_or text (at + n) 0) in
      let q = digit_small (get_or text (at + n + 1) 0) in
      let r₁ = counts (omega arith) (at + n) refl (omega arith) r k g in
      let r₂ = counts (omega arith) (at + n + 1) (omega arith) (omega arith) r₁ (ka _) ga in
      counts (omega arith) (at + n + 2) (omega arith) (omega arith) r₂ (kb _) gb

  module _ {w : ℕ} (z : w ≡ v * 0x10000 + four_digits text (at + n)) (x : is_hex (get_or text (at + n + 3) 0) ≡ true) where
    four_end : after b (get_or text (at + n + 2) 0) ≡ Goes Digit1 → Char text at (n + 1 + 1 + 1 + 1) (utf8 (point w))
    four_end gb = ends (three_small text (at + n) v f) (at + n + 3) (omega arith) (omega arith) (omega arith) x (three gb)

    four_halve : after b (get_or text (at + n + 2) 0) ≡ Goes High1 → Reached text at (n + 1 + 1 + 1 + 1) [] Slash w
    four_halve gb = halves (three_small text (at + n) v f) (at + n + 3) (omega arith) (omega arith) (omega arith) x (three gb)

-- the backslash, and the letter behind it
module _ {text : List ℕ} {at : ℕ} where
  pub escape_starts : at < length text → get_or text at 0 ≡ 92 → Reached text at 1 [] Escape 0
  unfolding after given gather lead look
  escape_starts h e =
      let g : after Plain (get_or text at 0) ≡ Goes Escape = rw e in
      let z : given Plain 0 (get_or text at 0) ≡ [] = rw e in
      rw z at (goes (starts text at (omega arith)) at (omega arith) h g)

  module _ (h : at + 1 < length text) (r : Reached text at 1 [] Escape 0) where
    pub letter_ends : {m : ℕ} → letter (get_or text (at + 1) 0) ≡ Some (Means m) → Char text at 2 (m ∷ [])
    unfolding after given gather
    letter_ends e = rw e at (whole (goes r (at + 1) refl h {t = Plain} (rw e)) (omega arith))

    pub unit_starts : letter (get_or text (at + 1) 0) ≡ Some Unicode → Reached text at 2 [] Unit 0
    unfolding after given gather
    unit_starts e = rw e at (goes r (at + 1) refl h {t = Unit} (rw e))

unit_counts : Counts Unit 0
unfolding given gather
unit_counts b = (refl, sym (no_wrap 0 b (omega arith) ∙ zero-add _))

-- a unit, by its first two digits
module _ {text : List ℕ} {at w : ℕ} (r : Reached text at 2 [] Unit 0) (room : at + 6 ≤ length text) (x : FourHex text (at + 2))
    (z : w ≡ four_digits text (at + 2)) where
  from_none : w ≡ 0 * 0x10000 + four_digits text (at + 2)
  from_none = omega arith

  pub unit_plain : is_d (get_or text (at + 2) 0) ≡ false → Char text at 6 (utf8 (point w))
  unfolding after given gather
  unit_plain d =
      four_end {a = Digit3} {b = Digit2} r (omega arith) (omega arith) unit_counts (λ w b. (refl, refl)) (λ w b. (refl, refl))
      (rw (d, x.first)) (rw x.second) from_none x.fourth (rw x.third)

  module _ (d : is_d (get_or text (at + 2) 0) ≡ true) where
    pub unit_low : is_to_7 (get_or text (at + 3) 0) ≡ true → Char text at 6 (utf8 (point w))
    unfolding after given gather
    unit_low l =
        let q : at + 2 + 1 ≡ at + 3 = omega arith in
        four_end {a = UnitD} {b = Digit2} r (omega arith) (omega arith) unit_counts (λ w b. (refl, refl)) (λ w b. (refl, refl))
        (rw d) (rw (q, l)) from_none x.fourth (rw x.third)

    pub unit_high : is_to_7 (get_or text (at + 3) 0) ≡ false → is_8_to_b (get_or text (at + 3) 0) ≡ true
        → Reached text at 6 [] Slash w
    unfolding after given gather
    unit_high l m =
        let q : at + 2 + 1 ≡ at + 3 = omega arith in
        four_halve {a = UnitD} {b = High2} r (omega arith) (omega arith) unit_counts (λ w b. (refl, refl)) (λ w b. (refl, refl))
        (rw d) (rw (q, l, m)) from_none x.fourth (rw x.third)

-- the lower half of a pair
module _ {text : List ℕ} {at high w : ℕ} (r : Reached text at 6 [] Slash high) (f : high < 0x10000) (room : at + 12 ≤ length text)
    (x : FourHex text (at + 8)) (z : w ≡ high * 0x10000 + four_digits text (at + 8)) where
  pub pair_ends : get_or text (at + 6) 0 ≡ 92 → get_or text (at + 7) 0 ≡ 117 → is_d (get_or text (at + 8) 0) ≡ true
      → is_c_to_f (get_or text (at + 9) 0) ≡ true → Char text at 12 (utf8 (point w))
  unfolding after given gather
  pair_ends e₆ e₇ d l =
      let q : at + 8 + 1 ≡ at + 9 = omega arith in
      let r₇ = goes r (at + 6) refl (omega arith) {t = LetterU} (rw e₆) in
      let r₈ = goes r₇ (at + 7) refl (omega arith) {t = SecondD} (rw e₇) in
      four_end {a = SecondC} {b = Digit2} r₈ f (omega arith) (λ b. (refl, refl)) (λ w b. (refl, refl)) (λ w b. (refl, refl))
      (rw d) (rw (q, l)) z x.fourth (rw x.third)

pub escape_passes : {text : List ℕ} {at : ℕ} (e : Escape.Escape) → Escapes text at e → Passes text at (width_of e)
escape_passes (E.Letter m) x = x.passes
escape_passes (E.Digits v n) x = x.passes
