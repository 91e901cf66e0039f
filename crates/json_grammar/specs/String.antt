-- The inside of a string, byte by byte (RFC 8259, section 7; RFC 3629 for the bytes from 0x80 on).
use Rattle.std.specs.Prelude.{ℕ, ◌+◌, ◌*◌, ◌/◌, ◌%◌, List, [], ◌∷◌, ◌++◌, Bool, true, false, cond, eqb, Option, Some, None}
use Rattle.json_grammar.specs.Rows.{else, below, look}
use Rattle.json_grammar.specs.Byte.{within, is_hex, is_d, is_to_7, is_8_to_b, is_c_to_f, is_tail, digit, utf8}
use Rattle.json_grammar.specs.declared.string.Lead.{Lead}
use Rattle.json_grammar.specs.declared.string.Lead.TheVariants.{Control, Ascii, Quote, Backslash, Stray, Two, E0, Three, Ed, F0, Four, F4}
use Rattle.json_grammar.specs.declared.string.Letter.{Letter}
use Rattle.json_grammar.specs.declared.string.Letter.TheVariants.{Means, Unicode}
use Rattle.json_grammar.specs.declared.string.InString.{InString}
use Rattle.json_grammar.specs.declared.string.InString.TheVariants.{Plain, Escape, Unit, UnitD, Digit3, Digit2, Digit1, High2, High1, Slash, LetterU, SecondD, SecondC, Tail3, Tail2, Tail1, AfterE0, AfterEd, AfterF0, AfterF4}
use Rattle.json_grammar.specs.declared.string.CharStep.{CharStep}
use Rattle.json_grammar.specs.declared.string.CharStep.TheVariants.{Goes, Closes, Refuses}

-- What a byte is where a character or the closing quote may stand.
unfoldable pub lead : ℕ → Lead
unfolding look
lead b =
    look b (below 32 Control (below 34 Ascii (below 35 Quote (below 92 Ascii (below 93 Backslash (below 128 Ascii
    (below 0xC2 Stray (below 0xE0 Two (below 0xE1 E0 (below 0xED Three (below 0xEE Ed (below 0xF0 Three
    (below 0xF1 F0 (below 0xF4 Four (below 0xF5 F4 (else Stray))))))))))))))))

-- A character of one byte that is spelled as it is.
unfoldable pub is_ascii : ℕ → Bool
unfolding look
is_ascii b = look b (below 32 false (below 34 true (below 35 false (below 92 true (below 93 false (below 128 true (else false)))))))

-- What a letter behind a backslash stands for: " \ / b f n r t, and u with four digits behind it.
unfoldable pub letter : ℕ → Option Letter
unfolding look
letter b =
    look b (below 34 None (below 35 (Some (Means 34)) (below 47 None (below 48 (Some (Means 47)) (below 92 None (below 93 (Some (Means 92))
    (below 98 None (below 99 (Some (Means 8)) (below 102 None (below 103 (Some (Means 12)) (below 110 None (below 111 (Some (Means 10))
    (below 114 None (below 115 (Some (Means 13)) (below 116 None (below 117 (Some (Means 9)) (below 118 (Some Unicode) (else None))))))))))))))))))

abbrev pub after_lead : Lead → CharStep
after_lead Control = Refuses
after_lead Ascii = Goes Plain
after_lead Quote = Closes
after_lead Backslash = Goes Escape
after_lead Stray = Refuses
after_lead Two = Goes Tail1
after_lead E0 = Goes AfterE0
after_lead Three = Goes Tail2
after_lead Ed = Goes AfterEd
after_lead F0 = Goes AfterF0
after_lead Four = Goes Tail3
after_lead F4 = Goes AfterF4

abbrev pub after_letter : Option Letter → CharStep
after_letter (Some (Means m)) = Goes Plain
after_letter (Some Unicode) = Goes Unit
after_letter None = Refuses

-- to this state where the test holds
abbrev pub go_if : Bool → InString → CharStep
go_if true next = Goes next
go_if false next = Refuses

-- What a byte b does in a state.
unfoldable pub after : InString → ℕ → CharStep
unfolding lead letter is_hex is_d is_to_7 is_8_to_b is_c_to_f is_tail within
after Plain b = after_lead (lead b)
after Escape b = after_letter (letter b)
after Unit b = cond (is_d b) (Goes UnitD) (go_if (is_hex b) Digit3)
after UnitD b = cond (is_to_7 b) (Goes Digit2) (go_if (is_8_to_b b) High2)
after Digit3 b = go_if (is_hex b) Digit2
after Digit2 b = go_if (is_hex b) Digit1
after Digit1 b = go_if (is_hex b) Plain
after High2 b = go_if (is_hex b) High1
after High1 b = go_if (is_hex b) Slash
after Slash b = go_if (eqb b 92) LetterU
after LetterU b = go_if (eqb b 117) SecondD
after SecondD b = go_if (is_d b) SecondC
after SecondC b = go_if (is_c_to_f b) Digit2
after Tail3 b = go_if (is_tail b) Tail2
after Tail2 b = go_if (is_tail b) Tail1
after Tail1 b = go_if (is_tail b) Plain
after AfterE0 b = go_if (within 0xA0 0xC0 b) Tail1
after AfterEd b = go_if (within 0x80 0xA0 b) Tail1
after AfterF0 b = go_if (within 0x90 0xC0 b) Tail2
after AfterF4 b = go_if (within 0x80 0x90 b) Tail2

-- Decoding. The hexadecimal digits of an escape are gathered, four of one or eight of a pair.
unfoldable pub one_more : ℕ → ℕ → ℕ
unfolding digit
one_more v b = (v * 16 + digit b) % 0x100000000

unfoldable pub gather : InString → ℕ → ℕ → ℕ
unfolding one_more digit
gather Plain v b = 0
gather Escape v b = 0
gather Unit v b = digit b
gather UnitD v b = one_more v b
gather Digit3 v b = one_more v b
gather Digit2 v b = one_more v b
gather Digit1 v b = 0
gather High2 v b = one_more v b
gather High1 v b = one_more v b
gather Slash v b = v
gather LetterU v b = v
gather SecondD v b = one_more v b
gather SecondC v b = one_more v b
gather Tail3 v b = 0
gather Tail2 v b = 0
gather Tail1 v b = 0
gather AfterE0 v b = 0
gather AfterEd v b = 0
gather AfterF0 v b = 0
gather AfterF4 v b = 0

-- The code point of the digits gathered. Each half of a pair carries ten bits.
unfoldable pub point : ℕ → ℕ
unfolding look
point v = look v (below 0x10000 v (else (0x10000 + v / 0x10000 % 0x400 * 0x400 + v % 0x400)))

abbrev pub meant : Option Letter → List ℕ
meant (Some (Means m)) = m ∷ []
meant (Some Unicode) = []
meant None = []

-- What a byte adds to the decoded string. A backslash (92) adds nothing by itself.
unfoldable pub given : InString → ℕ → ℕ → List ℕ
unfolding letter one_more point utf8
given Plain v b = cond (eqb b 92) [] (b ∷ [])
given Escape v b = meant (letter b)
given Unit v b = []
given UnitD v b = []
given Digit3 v b = []
given Digit2 v b = []
given Digit1 v b = utf8 (point (one_more v b))
given High2 v b = []
given High1 v b = []
given Slash v b = []
given LetterU v b = []
given SecondD v b = []
given SecondC v b = []
given Tail3 v b = b ∷ []
given Tail2 v b = b ∷ []
given Tail1 v b = b ∷ []
given AfterE0 v b = b ∷ []
given AfterEd v b = b ∷ []
given AfterF0 v b = b ∷ []
given AfterF4 v b = b ∷ []

-- The rest of a string: its decoded bytes, and what is left behind its closing quote.
pub record Decoded : Type 0 where
  pub bytes : List ℕ
  pub rest : List ℕ

abbrev pub prepend : List ℕ → Decoded → Decoded
prepend front d = record { bytes = front ++ d.bytes; rest = d.rest }

unfoldable pub chars : InString → ℕ → List ℕ → Decoded
unfolding after gather given
chars c v [] = record { bytes = []; rest = [] }
chars c v (b ∷ s) =
    elim (after c b) [
      | Goes next ↦ prepend (given c v b) (chars next (gather c v b) s)
      | Closes ↦ record { bytes = []; rest = s }
      | Refuses ↦ record { bytes = []; rest = b ∷ s }
    ]
