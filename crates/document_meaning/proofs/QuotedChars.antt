-- A UTF-8 string between quotes, as a plain text has it, is a string by JSON's grammar.
use Prim.Native.Nat.{ℕ, ◌+◌, ◌/◌, ◌%◌, ◌≤◌, ◌<◌}
use mathlib.Core.Path.{◌≡◌, refl, ap, sym, subst, ◌∙◌}
use mathlib.Core.List.{List, [], ◌∷◌}
use mathlib.Core.Bool.{Bool, true}
use native.Mathlib.Omega.{arith}
use borrow.Author.Tests.{lt-ltb, le-ltb}
use Rattle.json_grammar.specs.Rows.{Rows, else, below, look}
use Rattle.json_grammar.specs.Byte.{is_tail, is_hex, is_d, digit, utf8}
use Rattle.std.specs.Prelude.{Some}
use Rattle.json_grammar.specs.String.{lead, letter}
use Rattle.json_grammar.specs.Grammar.{Char, Chars, four}
use Rattle.json_grammar.specs.Grammar as G
use Rattle.json_grammar.specs.declared.string.Lead.{Lead}
use Rattle.json_grammar.specs.declared.string.Lead.TheVariants.{Ascii, Two, E0, Three, Ed, F0, Four, F4}
use Rattle.json_grammar.specs.declared.string.Letter.TheVariants.{Means}
use Rattle.json_laws.specs.Utf8.{Utf8}
use Rattle.json_laws.specs.Utf8 as U
use Rattle.json_laws.proofs.Tables.{each, rows_from}
use Rattle.json_laws.proofs.Bytes.{lead_bounds}
use Rattle.json_grammar.proofs.Rows.{between, beyond}
use Rattle.document.specs.Utf8.{is_utf8}
use Rattle.document.specs.Spell.{hex_digit, control, escaped, quoted}
use Rattle.document.proofs.Sizes.{escaped_rows}
use Rattle.document.proofs.Utf8Tests.{is_within}
use Rattle.document.proofs.Utf8Sequences.{tested_utf8}

-- Control bytes: \u00 and two digits.
abbrev hex_rows : Rows Bool
hex_rows = rows_from 0 is_hex (48 ∷ 58 ∷ 65 ∷ 71 ∷ 97 ∷ 103 ∷ [])

hex_is : (n : ℕ) → n < 16 → is_hex (hex_digit n) ≡ true
unfolding is_hex look
hex_is n h = each (λ b. is_hex b ≡ true) 0 n (below 10 (48 + n) (else (87 + n))) (omega arith) (
  λ l g. sym (between 48 58 Bool (48 + n) true hex_rows (omega arith) (omega arith) refl),
  λ l. sym (between 97 103 Bool (87 + n) true hex_rows (omega arith) (omega arith) refl),
)

hex_counts : (n : ℕ) → n < 16 → digit (hex_digit n) ≡ n
unfolding digit look
hex_counts n h = each (λ b. digit b ≡ n) 0 n (below 10 (48 + n) (else (87 + n))) (omega arith) (
  λ l g. rw (le-ltb (48 + n) 48 (omega arith), lt-ltb (48 + n) 58 (omega arith)) (omega arith),
  λ l. rw (le-ltb (87 + n) 48 (omega arith), le-ltb (87 + n) 58 (omega arith), le-ltb (87 + n) 65 (omega arith), le-ltb (87 + n) 71 (omega arith), le-ltb (87 + n) 97 (omega arith), lt-ltb (87 + n) 103 (omega arith)) (omega arith),
)

zero_digit : digit 48 ≡ 0
unfolding digit look
zero_digit = refl

control_counts : (b : ℕ) → b < 32 → four 48 48 (hex_digit (b / 16)) (hex_digit (b % 16)) ≡ b
unfolding four
control_counts b h = let z = zero_digit in let x = hex_counts (b / 16) (omega arith) in let y = hex_counts (b % 16) (omega arith) in omega arith

one_byte : (b : ℕ) → b < 32 → utf8 b ≡ b ∷ []
unfolding utf8 look
one_byte b h = rw (lt-ltb b 0x80 (omega arith))

control_char : (b : ℕ) (k : List ℕ) → b < 32 → Char (b ∷ []) (control b k) k
unfolding is_d is_hex look
control_char b k h =
    subst (λ (u : List ℕ). Char u (control b k) k) (ap utf8 (control_counts b h) ∙ one_byte b h) (G.unit refl refl refl (hex_is (b / 16) (omega arith)) (hex_is (b % 16) (omega arith)))

-- A letter behind a backslash, and a byte that is spelled as it is.
letter_char : (b m e : ℕ) (k : List ℕ) → b ≡ m → letter e ≡ Some (Means m) → Char (b ∷ []) (92 ∷ e ∷ k) k
letter_char b m e k h l = subst (λ (n : ℕ). Char (n ∷ []) (92 ∷ e ∷ k) k) (sym h) (G.short l)

abbrev lead_rows : Rows Lead
lead_rows = rows_from 0 lead lead_bounds

lead_low : (b : ℕ) → 32 ≤ b → b < 34 → lead b ≡ Ascii
unfolding lead look
lead_low b p q = sym (between 32 34 Lead b Ascii lead_rows p q refl)

lead_middle : (b : ℕ) → 35 ≤ b → b < 92 → lead b ≡ Ascii
unfolding lead look
lead_middle b p q = sym (between 35 92 Lead b Ascii lead_rows p q refl)

lead_high : (b : ℕ) → 93 ≤ b → b < 128 → lead b ≡ Ascii
unfolding lead look
lead_high b p q = sym (between 93 128 Lead b Ascii lead_rows p q refl)

escaped_char : (b : ℕ) (k : List ℕ) → b < 128 → Char (b ∷ []) (escaped b k) k
unfolding escaped letter look
escaped_char b k h = each (λ s. Char (b ∷ []) s k) 0 b (escaped_rows b k) (omega arith) (
  λ l g. control_char b k (omega arith),
  (
    λ l g. letter_char b 8 98 k (omega arith) refl,
    (
      λ l g. letter_char b 9 116 k (omega arith) refl,
      (
        λ l g. letter_char b 10 110 k (omega arith) refl,
        (
          λ l g. control_char b k (omega arith),
          (
            λ l g. letter_char b 12 102 k (omega arith) refl,
            (
              λ l g. letter_char b 13 114 k (omega arith) refl,
              (
                λ l g. control_char b k (omega arith),
                (
                  λ l g. G.ascii (lead_low b l g),
                  (
                    λ l g. letter_char b 34 34 k (omega arith) refl,
                    (
                      λ l g. G.ascii (lead_middle b l g),
                      (
                        λ l g. letter_char b 92 92 k (omega arith) refl,
                        λ l. G.ascii (lead_high b l h),
                      ),
                    ),
                  ),
                ),
              ),
            ),
          ),
        ),
      ),
    ),
  ),
)

-- Bytes from 128 on stand as they are.
as_it_is : (b : ℕ) (k : List ℕ) → 128 ≤ b → escaped b k ≡ b ∷ k
unfolding escaped
as_it_is b k h = sym (beyond 93 (List ℕ) b (b ∷ k) (escaped_rows b k) (omega arith) refl)

is_tail_lem : (b : ℕ) → 0x80 ≤ b → b ≤ 0xBF → is_tail b ≡ true
unfolding is_tail
is_tail_lem b p q = is_within 0x80 0xC0 b p (omega arith)

-- First bytes of sequences.
leads_two : (b : ℕ) → 0xC2 ≤ b → b ≤ 0xDF → lead b ≡ Two
unfolding lead look
leads_two b p q = sym (between 0xC2 0xE0 Lead b Two lead_rows p (omega arith) refl)

leads_e0 : (b : ℕ) → 0xE0 ≤ b → b ≤ 0xE0 → lead b ≡ E0
unfolding lead look
leads_e0 b p q = sym (between 0xE0 0xE1 Lead b E0 lead_rows p (omega arith) refl)

leads_e1 : (b : ℕ) → 0xE1 ≤ b → b ≤ 0xEC → lead b ≡ Three
unfolding lead look
leads_e1 b p q = sym (between 0xE1 0xED Lead b Three lead_rows p (omega arith) refl)

leads_e_d : (b : ℕ) → 0xED ≤ b → b ≤ 0xED → lead b ≡ Ed
unfolding lead look
leads_e_d b p q = sym (between 0xED 0xEE Lead b Ed lead_rows p (omega arith) refl)

leads_e_e : (b : ℕ) → 0xEE ≤ b → b ≤ 0xEF → lead b ≡ Three
unfolding lead look
leads_e_e b p q = sym (between 0xEE 0xF0 Lead b Three lead_rows p (omega arith) refl)

leads_f0 : (b : ℕ) → 0xF0 ≤ b → b ≤ 0xF0 → lead b ≡ F0
unfolding lead look
leads_f0 b p q = sym (between 0xF0 0xF1 Lead b F0 lead_rows p (omega arith) refl)

leads_f1 : (b : ℕ) → 0xF1 ≤ b → b ≤ 0xF3 → lead b ≡ Four
unfolding lead look
leads_f1 b p q = sym (between 0xF1 0xF4 Lead b Four lead_rows p (omega arith) refl)

leads_f4 : (b : ℕ) → 0xF4 ≤ b → b ≤ 0xF4 → lead b ≡ F4
unfolding lead look
leads_f4 b p q = sym (between 0xF4 0xF5 Lead b F4 lead_rows p (omega arith) refl)

-- What stands as it is.
two_are : (b c : ℕ) (k : List ℕ) → 128 ≤ b → 128 ≤ c → escaped b (escaped c k) ≡ b ∷ c ∷ k
two_are b c k p q = as_it_is b (escaped c k) p ∙ ap (λ (s : List ℕ). b ∷ s) (as_it_is c k q)

three_are : (b c d : ℕ) (k : List ℕ) → 128 ≤ b → 128 ≤ c → 128 ≤ d → escaped b (escaped c (escaped d k)) ≡ b ∷ c ∷ d ∷ k
three_are b c d k p q r = as_it_is b (escaped c (escaped d k)) p ∙ ap (λ (s : List ℕ). b ∷ s) (two_are c d k q r)

four_are : (b c d e : ℕ) (k : List ℕ) → 128 ≤ b → 128 ≤ c → 128 ≤ d → 128 ≤ e → escaped b (escaped c (escaped d (escaped e k))) ≡ b ∷ c ∷ d ∷ e ∷ k
four_are b c d e k p q r t = as_it_is b (escaped c (escaped d (escaped e k))) p ∙ ap (λ (s : List ℕ). b ∷ s) (three_are c d e k q r t)

utf8_chars : {s : List ℕ} (k : List ℕ) → Utf8 s → Chars s (quoted s k) k
unfolding quoted
utf8_chars k U.none = G.close
utf8_chars k (U.one {b = b} {s = s} h u) = G.char (escaped_char b (quoted s k) (omega arith)) (utf8_chars k u) refl
utf8_chars k (U.two {b = b} {c = c} {s = s} h i u) =
    rw (two_are b c (quoted s k) (omega arith) (omega arith)) (G.char (G.two (leads_two b h.0 h.1) (is_tail_lem c i.0 i.1)) (utf8_chars k u) refl)
utf8_chars k (U.three_e0 {b = b} {c = c} {d = d} {s = s} h i j u) =
    rw (three_are b c d (quoted s k) (omega arith) (omega arith) (omega arith)) (G.char (G.three_e0 (leads_e0 b h.0 h.1) (is_within 0xA0 0xC0 c i.0 (omega arith)) (is_tail_lem d j.0 j.1)) (utf8_chars k u) refl)
utf8_chars k (U.three_e1 {b = b} {c = c} {d = d} {s = s} h i j u) =
    rw (three_are b c d (quoted s k) (omega arith) (omega arith) (omega arith)) (G.char (G.three (leads_e1 b h.0 h.1) (is_tail_lem c i.0 i.1) (is_tail_lem d j.0 j.1)) (utf8_chars k u) refl)
utf8_chars k (U.three_e_d {b = b} {c = c} {d = d} {s = s} h i j u) =
    rw (three_are b c d (quoted s k) (omega arith) (omega arith) (omega arith)) (G.char (G.three_ed (leads_e_d b h.0 h.1) (is_within 0x80 0xA0 c i.0 (omega arith)) (is_tail_lem d j.0 j.1)) (utf8_chars k u) refl)
utf8_chars k (U.three_e_e {b = b} {c = c} {d = d} {s = s} h i j u) =
    rw (three_are b c d (quoted s k) (omega arith) (omega arith) (omega arith)) (G.char (G.three (leads_e_e b h.0 h.1) (is_tail_lem c i.0 i.1) (is_tail_lem d j.0 j.1)) (utf8_chars k u) refl)
utf8_chars k (U.four_f0 {b = b} {c = c} {d = d} {e = e} {s = s} h i j l u) =
    rw (four_are b c d e (quoted s k) (omega arith) (omega arith) (omega arith) (omega arith)) (G.char (G.four_f0 (leads_f0 b h.0 h.1) (is_within 0x90 0xC0 c i.0 (omega arith)) (is_tail_lem d j.0 j.1) (is_tail_lem e l.0 l.1)) (utf8_chars k u) refl)
utf8_chars k (U.four_f1 {b = b} {c = c} {d = d} {e = e} {s = s} h i j l u) =
    rw (four_are b c d e (quoted s k) (omega arith) (omega arith) (omega arith) (omega arith)) (G.char (G.fourth (leads_f1 b h.0 h.1) (is_tail_lem c i.0 i.1) (is_tail_lem d j.0 j.1) (is_tail_lem e l.0 l.1)) (utf8_chars k u) refl)
utf8_chars k (U.four_f4 {b = b} {c = c} {d = d} {e = e} {s = s} h i j l u) =
    rw (four_are b c d e (quoted s k) (omega arith) (omega arith) (omega arith) (omega arith)) (G.char (G.four_f4 (leads_f4 b h.0 h.1) (is_within 0x80 0x90 c i.0 (omega arith)) (is_tail_lem d j.0 j.1) (is_tail_lem e l.0 l.1)) (utf8_chars k u) refl)

pub quoted_chars : (s k : List ℕ) → is_utf8 s ≡ true → Chars s (quoted s k) k
quoted_chars s k h = utf8_chars k (tested_utf8 s h)
