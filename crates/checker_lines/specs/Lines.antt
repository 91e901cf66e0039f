-- Document 01, "What the part does": "A check program reads standard input as one posology for use 1, with 2,048 bytes of text room, and prints the plain text,
-- or `refused`, the number and the place, parted by one space; a line feed ends either."
use Rattle.std.specs.Prelude.{List, [], ◌∷◌, ◌++◌, ℕ}
use Rattle.document.specs.Bytes.{bytes}
use Rattle.document.specs.Spell.{spell}
use Rattle.document.specs.Plain.{plain_then, plain, whole, whole_digits}
use Rattle.document.specs.Answer.{Read, taken, refused, read}
use Rattle.document.specs.Write.{Write, writes, refuses, fitting, in_greatest_room}

abbrev pub for_plan : ℕ
for_plan = 1

abbrev pub space : ℕ
space = 32

abbrev pub line_feed : ℕ
line_feed = 10

unfoldable pub refusal_line : ℕ → ℕ → List ℕ
unfolding spell whole_digits
refusal_line n place = bytes "refused " ++ spell (whole n) (space ∷ spell (whole place) (line_feed ∷ []))

abbrev pub written_line : Write → List ℕ
written_line (writes text) = text ++ (line_feed ∷ [])
written_line (refuses n place) = refusal_line n place

-- The plain text is written into the buffer that the line is printed from.
abbrev pub line_of : ℕ → Read → List ℕ
line_of buffer (taken p) = written_line (fitting buffer (plain p))
line_of buffer (refused n place) = refusal_line n place

unfoldable pub line : ℕ → List ℕ → List ℕ
unfolding read plain_then refusal_line
line buffer input = line_of buffer (read (in_greatest_room for_plan) input)
