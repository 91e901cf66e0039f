-- There is one table of a head, two counts and words.
use mathlib.Core.Path.{◌≡◌, sym, ◌∙◌}
use mathlib.Core.List.{List, ◌∷◌}
use Prim.Native.Nat.{ℕ}
use Rattle.document.specs.Words.{head_words, table_words}
use Rattle.document.specs.declared.table.Head.{Head}
use Rattle.document.specs.declared.table.Table.{Table}
use Rattle.document.proofs.WordsBack.{words_one}
use Rattle.table_words.specs.ByWords.{ByWords}

by_words : {t : Table} {h : Head} {count text : ℕ} {ws : List ℕ} → ByWords t h count text ws
    → table_words t ≡ head_words h (count ∷ text ∷ ws)
unfolding table_words
by_words b = rw (b.head, b.count, b.text, b.words)

pub one_table : {t u : Table} {h : Head} {count text : ℕ} {ws : List ℕ} → ByWords t h count text ws → ByWords u h count text ws → t ≡ u
one_table {t} {u} a b = words_one t u (by_words a ∙ sym (by_words b))
