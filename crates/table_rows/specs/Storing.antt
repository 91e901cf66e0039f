-- A record's words, stored.
use Rattle.std.specs.Prelude.{ℕ, ◌*◌, List, [], cond, eqb, leb, length}
use Rattle.std.proofs.lemmas.List.Edits.{sets}
use Rattle.document.specs.Words.{Words, words, width, words_at_most, row}
use Rattle.table_rows.specs.declared.Row.{Row}

abbrev pub of_row : Row → Words
of_row r = words r.below r.tag r.a r.b r.c r.d

-- Record i is stored. Words of another number, or an i that is none of the 64, are left as they are.
unfoldable pub written : List ℕ → ℕ → Words → List ℕ
written before i w = cond (eqb (length before) words_at_most) (cond (leb 64 i) before (sets before (i * width) (row w []))) before
