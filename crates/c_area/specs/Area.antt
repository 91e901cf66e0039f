-- The lent area of the hospital side (docs/AREA.md): a table's numbers, eight bytes each, the least significant first; and back.
use Rattle.std.specs.Prelude.{ℕ, ◌+◌, List, [], ◌∷◌, Bool, eqb, drop, get_or}
use Rattle.document.specs.Lookup.{same}
use Rattle.document.specs.Words.{width, table_words}
use Rattle.document.specs.declared.table.Text.{Text}
use Rattle.document.specs.declared.table.Date.{Date}
use Rattle.document.specs.declared.table.Date.TheVariants as D
use Rattle.document.specs.declared.table.Head.{Head}
use Rattle.document.specs.declared.table.Table.{Table}
use Rattle.table_kinds.specs.Kinds.{u8, u16, u32, record_in, groups}
use Rattle.c_numbers.specs.Eights.{all_bytes, number_in}

abbrev pub area_bytes : ℕ
area_bytes = 3280

unfoldable pub area_of : Table → List ℕ
unfolding all_bytes table_words
area_of t = all_bytes (table_words t)

unfoldable pub numbers_in : List ℕ → List ℕ
unfolding number_in groups
numbers_in bytes = groups 8 (number_in 8) 410 bytes

-- A date by its form: absent, bare, or with a time.
unfoldable pub date_of : ℕ → ℕ → ℕ → ℕ → ℕ → ℕ → ℕ → Date
date_of form year month day second west zone =
    get_or (D.Absent ∷ D.Bare (u16 year) (u8 month) (u8 day) ∷ []) form
    (D.Moment (u16 year) (u8 month) (u8 day) (u32 second) (eqb west 1) (u16 zone))

-- The date of the seven numbers in front.
unfoldable pub date_in : List ℕ → Date
unfolding date_of
date_in ws = date_of (get_or ws 0 0) (get_or ws 1 0) (get_or ws 2 0) (get_or ws 3 0) (get_or ws 4 0) (get_or ws 5 0) (get_or ws 6 0)

abbrev pub text_in : ℕ → List ℕ → Text
text_in at ws = record { start = get_or ws at 0; len = get_or ws (at + 1) 0 }

unfoldable pub head_in : List ℕ → Head
unfolding date_in
head_in ws =
    record {
      from = date_in ws;
      to = date_in (drop 7 ws);
      reserve = eqb (get_or ws 14 0) 1;
      meal = u8 (get_or ws 15 0);
      unit = text_in 16 ws;
      instructions = text_in 18 ws;
      roa = text_in 20 ws;
      moa = text_in 22 ws;
    }

abbrev pub table_of_numbers : List ℕ → Table
table_of_numbers ws = record { head = head_in ws; count = get_or ws 24 0; text = get_or ws 25 0; records = groups width record_in 64 (drop 26 ws) }

-- The table that bytes would lay out.
unfoldable pub table_in : List ℕ → Table
unfolding numbers_in head_in record_in groups
table_in bytes = table_of_numbers (numbers_in bytes)

-- Bytes lay out a table where the one that they would lay out lies in just these bytes.
unfoldable pub is_area : List ℕ → Bool
unfolding area_of table_in
is_area bytes = same (area_of (table_in bytes)) bytes
