-- How many words records take, and where those of each begin.
use mathlib.Core.Path.{◌≡◌, refl, ap, ◌∙◌}
use mathlib.Core.List.{List, [], ◌∷◌, ◌++◌}
use Prim.Native.Nat.{ℕ, suc, ◌+◌, ◌*◌}
use native.Mathlib.Omega.{arith}
use lib.ListN.{length}
use Rattle.document.specs.Words.{Words, width, record_words, all_words, row, rows}
use Rattle.document.specs.declared.table.Record.{Record}

pub row_length : (w : Words) (k : List ℕ) → length (row w k) ≡ width + length k
row_length w k = omega arith

pub next_row : (i : ℕ) → (i + 1) * width ≡ i * width + width
next_row i = omega arith

pub rows_length : (ws : List Words) → length (rows ws) ≡ length ws * width
rows_length [] = refl
rows_length (w ∷ ws) = let e = rows_length ws in omega arith

pub rows_append : (vs ws : List Words) → rows (vs ++ ws) ≡ rows vs ++ rows ws
rows_append [] ws = refl
rows_append (v ∷ vs) ws = ap (row v) (rows_append vs ws)

pub all_length : (rs : List Record) → length (all_words rs) ≡ length rs
all_length [] = refl
all_length (r ∷ rs) = ap suc (all_length rs)

pub all_append : (rs ss : List Record) → all_words (rs ++ ss) ≡ all_words rs ++ all_words ss
all_append [] ss = refl
all_append (r ∷ rs) ss = ap (λ ws. record_words r ∷ ws) (all_append rs ss)

-- The same of records.
pub records_length : (rs : List Record) → length (rows (all_words rs)) ≡ length rs * width
records_length rs = rows_length (all_words rs) ∙ ap (λ n. n * width) (all_length rs)

pub records_append : (rs ss : List Record) → rows (all_words (rs ++ ss)) ≡ rows (all_words rs) ++ rows (all_words ss)
records_append rs ss = ap rows (all_append rs ss) ∙ rows_append (all_words rs) (all_words ss)
