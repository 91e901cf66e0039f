-- The records of a detail, by the bounds of their words (document 01, "The table" and "Objects").
use Rattle.std.specs.Prelude.{◌≡◌, List, Bool, true, false, ℕ, ◌≤◌, ◌<◌}
use Rattle.document.specs.Schema.{greatest_integer, greatest_decimal}
use Rattle.table_rows.specs.Standing.{tag_at, below_at, a_at, b_at, c_at, d_at}
use Rattle.check_doses.specs.declared.records.Bounds.{Bounds}
use Rattle.check_doses.specs.declared.records.Shape.{Shape}

-- An answer that says whether P holds.
pub record Decides (P : Type 0) (r : Bool) : Type 0 where
  pub yes : r ≡ true → P
  pub no : r ≡ false → P → ⊥

-- A word within bounds.
pub record Holds (b : Bounds) (word : ℕ) : Type 0 where
  pub least : b.least ≤ word
  pub most : word ≤ b.most

-- A record of this shape.
pub record Row (ws : List ℕ) (i : ℕ) (s : Shape) : Type 0 where
  pub inside : i < 64
  pub tag : tag_at ws i ≡ s.tag
  pub below : Holds s.below (below_at ws i)
  pub a : Holds s.a (a_at ws i)
  pub b : Holds s.b (b_at ws i)
  pub c : Holds s.c (c_at ws i)
  pub d : Holds s.d (d_at ws i)

abbrev pub between : ℕ → ℕ → Bounds
between least most = record { least = least; most = most }

abbrev pub nothing : Bounds
nothing = between 0 0

abbrev pub amount : Bounds
amount = between 0 greatest_decimal

abbrev pub some_amount : Bounds
some_amount = between 1 greatest_decimal

abbrev pub integer : Bounds
integer = between 1 greatest_integer

abbrev pub unit : Bounds
unit = between 1 7

abbrev pub some_below : Bounds
some_below = between 1 63

-- A tag, the records below and the values.
abbrev pub shape : ℕ → Bounds → Bounds → Bounds → Bounds → Bounds → Shape
shape tag below a b c d = record { tag = tag; below = below; a = a; b = b; c = c; d = d }

abbrev pub daily_shape : Shape
daily_shape = shape 1 nothing amount amount amount amount

abbrev pub single_shape : Shape
single_shape = shape 3 some_below nothing nothing nothing nothing

abbrev pub cyclic_shape : Shape
cyclic_shape = shape 4 some_below unit integer integer nothing

abbrev pub dosage_only_shape : Shape
dosage_only_shape = shape 6 (between 1 1) nothing nothing nothing nothing

abbrev pub times_shape : Shape
times_shape = shape 7 (between 0 63) nothing nothing nothing nothing

abbrev pub segments_shape : Shape
segments_shape = shape 8 (between 0 63) nothing nothing nothing nothing

abbrev pub week_shape : Shape
week_shape = shape 9 some_below (between 1 127) nothing nothing nothing

abbrev pub month_shape : Shape
month_shape = shape 10 some_below (between 1 268435455) nothing nothing nothing

abbrev pub interval_shape : Shape
interval_shape = shape 11 (between 1 1) integer unit nothing nothing

abbrev pub simple_shape : Shape
simple_shape = shape 12 nothing some_amount nothing nothing nothing

abbrev pub from_to_shape : Shape
from_to_shape = shape 13 nothing amount amount unit integer

abbrev pub range_shape : Shape
range_shape = shape 14 nothing some_amount amount nothing nothing

-- The applications: at a time of day, or in a segment of the day.
abbrev pub time_shape : Shape
time_shape = shape 17 (between 1 1) (between 0 86399) nothing nothing nothing

abbrev pub segment_shape : Shape
segment_shape = shape 18 (between 1 1) (between 1 4) nothing nothing nothing
