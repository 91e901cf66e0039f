-- Which words stand at a record: its tag, the records below it and four values.
use Rattle.std.specs.Prelude.{◌≡◌, List, [], ◌∷◌, ℕ, ◌+◌, ◌*◌, ◌≤◌, ◌<◌, get_or}
use Rattle.document.specs.Words.{Words, width}
use Rattle.table_rows.specs.declared.Column.{Column}
use Rattle.table_rows.specs.declared.Column.TheVariants.{Tag, Below, A, B, C, D}

-- A column's place among the words of a record.
abbrev pub place : Column → ℕ
place Tag = 0
place Below = 1
place A = 2
place B = 3
place C = 4
place D = 5

-- Record i's word at such a place, 0 where there are fewer.
abbrev pub word_at : List ℕ → ℕ → ℕ → ℕ
word_at ws i n = get_or ws (i * width + n) 0

-- The words of record i, 0 where there are fewer.
abbrev pub tag_at : List ℕ → ℕ → ℕ
tag_at ws i = get_or ws (i * width) 0

abbrev pub below_at : List ℕ → ℕ → ℕ
below_at ws i = word_at ws i 1

abbrev pub a_at : List ℕ → ℕ → ℕ
a_at ws i = word_at ws i 2

abbrev pub b_at : List ℕ → ℕ → ℕ
b_at ws i = word_at ws i 3

abbrev pub c_at : List ℕ → ℕ → ℕ
c_at ws i = word_at ws i 4

abbrev pub d_at : List ℕ → ℕ → ℕ
d_at ws i = word_at ws i 5

-- What is told of record i: its word, and 0 where i is none of the 64.
pub record Tells (i word r : ℕ) : Type 0 where
  pub here : i < 64 → r ≡ word
  pub none : 64 ≤ i → r ≡ 0

-- These words stand at record i.
pub record At (ws : List ℕ) (i : ℕ) (w : Words) : Type 0 where
  pub inside : i < 64
  pub tag : tag_at ws i ≡ w.tag
  pub below : below_at ws i ≡ w.below
  pub a : a_at ws i ≡ w.a
  pub b : b_at ws i ≡ w.b
  pub c : c_at ws i ≡ w.c
  pub d : d_at ws i ≡ w.d

-- These words stand from record i on.
abbrev pub Lies : List ℕ → ℕ → List Words → Type 0
Lies ws i [] = Unit {0}
Lies ws i (w ∷ l) = At ws i w × Lies ws (i + 1) l
