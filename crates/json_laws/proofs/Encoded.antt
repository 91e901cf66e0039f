-- Each character of a string is decoded to UTF-8.
use Prim.Native.Nat.{ℕ, ◌≤◌, ◌<◌}
use mathlib.Core.Path.{◌≡◌, refl}
use mathlib.Core.List.{List, ◌∷◌, ◌++◌}
use mathlib.Core.Bool.{true}
use native.Mathlib.Omega.{arith}
use Rattle.std.specs.Prelude.{Option, Some, None}
use Rattle.json_grammar.specs.Rows.{look}
use Rattle.json_grammar.specs.Byte.{is_tail}
use Rattle.json_grammar.specs.String.{lead, letter}
use Rattle.json_grammar.specs.declared.string.Lead.{Lead}
use Rattle.json_grammar.specs.declared.string.Lead.TheVariants.{Control, Ascii, Quote, Backslash, Stray, Two, E0, Three, Ed, F0, Four, F4}
use Rattle.json_grammar.specs.declared.string.Letter.{Letter}
use Rattle.json_grammar.specs.declared.string.Letter.TheVariants.{Means, Unicode}
use Rattle.json_grammar.specs.Grammar as G
use Rattle.json_grammar.specs.Grammar.{Char, Chars, four, paired}
use Rattle.json_laws.specs.Utf8 as U
use Rattle.json_laws.specs.Utf8.{Utf8, In}
use Rattle.json_laws.proofs.Tables.{by_rows}
use Rattle.json_laws.proofs.Bytes.{lead_bounds, letter_bounds, within_is}
use Rattle.json_laws.proofs.Digits.{four_small, four_no_d, four_d, high_half, low_half}
use Rattle.json_laws.proofs.Points.{split, point_utf8}

-- The first byte of a character by its table.
abbrev Led : ℕ → Lead → Type 0
Led b Control = Unit {0}
Led b Ascii = In 0x00 0x7F b
Led b Quote = Unit {0}
Led b Backslash = Unit {0}
Led b Stray = Unit {0}
Led b Two = In 0xC2 0xDF b
Led b E0 = In 0xE0 0xE0 b
Led b Three = (0xE1 ≤ b) × (b ≤ 0xEF) × (0xED ≤ b → 0xEE ≤ b)
Led b Ed = In 0xED 0xED b
Led b F0 = In 0xF0 0xF0 b
Led b Four = In 0xF1 0xF3 b
Led b F4 = In 0xF4 0xF4 b

led : (b : ℕ) → Led b (lead b)
unfolding lead look
led b = by_rows (Led b) lead lead_bounds b refl (omega arith, (omega arith, (omega arith, (omega arith, (omega arith, (omega arith, (omega arith, omega arith)))))))

tail_is : (b : ℕ) → is_tail b ≡ true → (0x80 ≤ b) × (b < 0xC0)
unfolding is_tail
tail_is b e = within_is 0x80 0xC0 b e

-- What a letter stands for.
abbrev Meant : Option Letter → Type 0
Meant (Some (Means m)) = In 0x00 0x7F m
Meant (Some Unicode) = Unit {0}
Meant None = Unit {0}

letter_means : (e : ℕ) → Meant (letter e)
unfolding letter look
letter_means e = by_rows Meant letter letter_bounds e refl (omega arith, (omega arith, (omega arith, (omega arith, (omega arith, (omega arith, (omega arith, (omega arith, (omega arith, omega arith)))))))))

module _ (s : List ℕ) (u : Utf8 s) where
  three_utf8 : (b c d : ℕ) → Led b Three → (0x80 ≤ c) × (c < 0xC0) → (0x80 ≤ d) × (d < 0xC0) → Utf8 (b ∷ c ∷ d ∷ s)
  three_utf8 b c d l p q =
      split b 0xED (λ h. U.three_e1 {b = b} {c = c} {d = d} (omega arith) (omega arith) (omega arith) u)
      (λ h. let g = l.2 h in U.three_e_e {b = b} {c = c} {d = d} (omega arith) (omega arith) (omega arith) u)

  char_utf8 : {x m r : List ℕ} → Char x m r → Utf8 (x ++ s)
  char_utf8 (G.ascii {b = b} e) = U.one {b = b} (rw e at (led b)) u
  char_utf8 (G.two {b = b} {c = c} e t) = let p = tail_is c t in U.two {b = b} {c = c} (rw e at (led b)) (omega arith) u
  char_utf8 (G.three {b = b} {c = c} {d = d} e t v) = three_utf8 b c d (rw e at (led b)) (tail_is c t) (tail_is d v)
  char_utf8 (G.three_e0 {b = b} {c = c} {d = d} e t v) = let p = within_is 0xA0 0xC0 c t in let q = tail_is d v in U.three_e0 {b = b} {c = c} {d = d} (rw e at (led b)) (omega arith) (omega arith) u
  char_utf8 (G.three_ed {b = b} {c = c} {d = d} e t v) = let p = within_is 0x80 0xA0 c t in let q = tail_is d v in U.three_e_d {b = b} {c = c} {d = d} (rw e at (led b)) (omega arith) (omega arith) u
  char_utf8 (G.fourth {b = b} {c = c} {d = d} {e = f} e t v w) =
      let p = tail_is c t in let q = tail_is d v in let o = tail_is f w in U.four_f1 {b = b} {c = c} {d = d} {e = f} (rw e at (led b)) (omega arith) (omega arith) (omega arith) u
  char_utf8 (G.four_f0 {b = b} {c = c} {d = d} {e = f} e t v w) =
      let p = within_is 0x90 0xC0 c t in let q = tail_is d v in let o = tail_is f w in U.four_f0 {b = b} {c = c} {d = d} {e = f} (rw e at (led b)) (omega arith) (omega arith) (omega arith) u
  char_utf8 (G.four_f4 {b = b} {c = c} {d = d} {e = f} e t v w) =
      let p = within_is 0x80 0x90 c t in let q = tail_is d v in let o = tail_is f w in U.four_f4 {b = b} {c = c} {d = d} {e = f} (rw e at (led b)) (omega arith) (omega arith) (omega arith) u
  char_utf8 (G.short {e = f} {m = m} e) = U.one {b = m} (rw e at (letter_means f)) u
  char_utf8 (G.unit {h = h} {i = i} {j = j} {k = k} d a b c f) = let l = four_small h i j k in point_utf8 (four h i j k) s u (omega arith) (four_no_d h i j k d)
  char_utf8 (G.unit_d {h = h} {i = i} {j = j} {k = k} d b c f) = let l = four_d h i j k d b in point_utf8 (four h i j k) s u (omega arith) (λ q. absurd (omega arith))
  char_utf8 (G.pair {h = h} {i = i} {j = j} {k = k} {l = l} {m = m} {n = n} {o = o} d b c f d' b' c' f') =
      let x = high_half h i j k d b in
      let y = low_half l m n o d' b' in
      point_utf8 (paired (four h i j k) (four l m n o)) s u (omega arith) (λ q. omega arith)

-- The bytes of a decoded string are UTF-8.
pub chars_utf8 : {cs s r : List ℕ} → Chars cs s r → Utf8 cs
chars_utf8 G.close = U.none
chars_utf8 (G.char {cs = cs} c h e) = rw e (char_utf8 cs (chars_utf8 h) c)
