-- Document 01, "Examples (all of the proved table, text room 2,048)", under one statement, by computation.
use mathlib.Core.Path.{◌≡◌, refl}
use mathlib.Core.List.{List, [], ◌∷◌}
use Prim.Native.Nat.{ℕ}
use Prim.Native.String.{String}
use Rattle.document.specs.Bytes.{bytes}
use Rattle.document.specs.Valid.{detail_records, strings}
use Rattle.document.specs.Table.{table_of}
use Rattle.document.specs.Answer.{Read, taken, refused, read}
use Rattle.document.specs.Write.{Write, writes, refuses, write, greatest_room, in_greatest_room}

infixl 60 ◌at◌
-- What the table's last column says.
pub data Says : Type 0 where
  ◌at◌ : ℕ → ℕ → Says  -- a refusal and its place
  records : ℕ → Says

abbrev pub says : Read → Says
says (taken p) = records (detail_records p.po)
says (refused n place) = n at place

pub record Row : Type 0 where
  pub text : String
  pub purpose : ℕ
  pub answer : Says

abbrev pub row : String → ℕ → Says → Row
row text purpose answer = record { text = text; purpose = purpose; answer = answer }

abbrev pub last : String
last = "{\"unit\":\"TABL\",\"po\":{\"tdo\":{\"do\":{\"a\":1.50,\"t\":1},\"t\":1},\"cyDu\":1,\"cyDuU\":4,\"t\":4}}"

abbrev pub table : List Row
table =
    row "" 1 (2 at 0)
    ∷ row "[1]" 1 (2 at 0)
    ∷ row "{}" 1 (7 at 0)
    ∷ row "{\"po\":{\"t\":2,\"text\":\"x\"}}" 3 (records 1)
    ∷ row "{\"po\":{\"t\":2,\"text\":\"x\"}}" 1 (7 at 0)
    ∷ row "{\"po\":{\"t\":1,\"ds\":[1,0,2]}}" 3 (11 at 18)
    ∷ row "{\"po\":{\"t\":1,\"ds\":[1e1,0,0,0]}}" 3 (8 at 19)
    ∷ row "{\"po\":{\"t\":3,\"tdo\":{\"t\":4}}}" 3 (10 at 24)
    ∷ row "{\"po\":{\"t\":3,\"tdo\":{\"t\":1,\"do\":{\"t\":3,\"aMin\":1.0,\"aMax\":1}}}}" 3 (12 at 31)
    ∷ row "{\"po\":{\"t\":2,\"\\u0074\":2,\"text\":\"x\"}}" 3 (6 at 13)
    ∷ row "{\"po\":{\"t\":4,\"cyDuU\":4,\"cyDu\":0.4}}" 3 (9 at 30)
    ∷ row "{\"po\":{\"t\":4,\"cyDuU\":4,\"cyDu\":0.5}}" 3 (7 at 6)
    ∷ row last 1 (records 3)
    ∷ []

abbrev pub answers : List Row → List Says
answers [] = []
answers (r ∷ rs) = says (read (in_greatest_room r.purpose) (bytes r.text)) ∷ answers rs

abbrev pub last_column : List Row → List Says
last_column [] = []
last_column (r ∷ rs) = r.answer ∷ last_column rs

-- What the writer makes of what was read.
abbrev pub written : ℕ → Read → Write
written purpose (taken p) = write purpose (table_of p) (strings p) greatest_room
written purpose (refused n place) = refuses n place

-- Every row of the table; and "The last is written ..".
pub examples :
    (answers table ≡ last_column table)
    × (written 1 (read (in_greatest_room 1) (bytes last)) ≡ writes (bytes "{\"po\":{\"t\":4,\"cyDuU\":4,\"cyDu\":1,\"tdo\":{\"t\":1,\"do\":{\"t\":1,\"a\":1.5}}},\"unit\":\"TABL\"}"))
unfolding read write detail_records strings table_of
examples = (refl, refl)
