-- The rows of a detail and of an object of a sequence, and where their strings end.
use Rattle.std.specs.Prelude.{ℕ, ◌+◌, ◌≡◌, List, [], ◌∷◌, ◌++◌, length, drop}
use Rattle.json_move.specs.Read.{decoded}
use Rattle.document.specs.Posology as P
use Rattle.document.specs.Table.{detail_rows}
use Rattle.document.specs.Valid.{detail_records, objects_records, detail_strings, object_strings, objects_strings}
use Rattle.document.specs.Words.{words, row, rows, all_words}
use Rattle.read_dosages.specs.Visiting.{RowsIn}

-- The rows of each value. A FreeText's has its quote's place in the fifth word, until the strings are laid down.
unfoldable mutual
  pub DetailRows : P.Detail → List ℕ → ℕ → List ℕ → Type 0
  DetailRows (P.daily a b c d) text at chunk = chunk ≡ rows (words 0 1 a b c d ∷ [])
  DetailRows (P.free_text cs) text at chunk = (q : ℕ) × (chunk ≡ rows (words 0 2 at (length cs) q 0 ∷ [])) × (decoded (drop q text) ≡ cs)
  DetailRows (P.single td) text at chunk = chunk ≡ rows (all_words (detail_rows (P.single td) at []))
  DetailRows (P.cyclic unit du td per) text at chunk = chunk ≡ rows (all_words (detail_rows (P.cyclic unit du td per) at []))
  DetailRows (P.sequence os) text at chunk = (inner : List ℕ) × (chunk ≡ row (words (objects_records os) 5 0 0 0 0) inner) × ObjectsRows os text at inner

  pub ObjectRows : P.SequenceObject → List ℕ → ℕ → List ℕ → Type 0
  ObjectRows (P.posology_sequence du unit po) text at chunk = (inner : List ℕ) × (chunk ≡ row (words (detail_records po) 15 du unit 0 0) inner) × DetailRows po text at inner
  ObjectRows (P.pause du unit) text at chunk = chunk ≡ rows (words 0 16 du unit 0 0 ∷ [])

  pub ObjectsRows : P.SequenceObjects → List ℕ → ℕ → List ℕ → Type 0
  ObjectsRows P.no_object text at chunk = chunk ≡ []
  ObjectsRows (P.object_then o os) text at chunk = (first : List ℕ) × (inner : List ℕ) × (chunk ≡ first ++ inner) × ObjectRows o text at first × ObjectsRows os text (at + length (object_strings o [])) inner

-- The same with the end of the value's strings: they lie behind one another.
abbrev pub DetailAt : List ℕ → RowsIn P.Detail
DetailAt text end d at chunk = DetailRows d text at chunk × (end ≡ at + length (detail_strings d []))

abbrev pub ObjectIn : List ℕ → RowsIn P.SequenceObject
ObjectIn text end o at chunk = ObjectRows o text at chunk × (end ≡ at + length (object_strings o []))

abbrev pub ObjectsIn : List ℕ → RowsIn (List P.SequenceObject)
ObjectsIn text end os at chunk = ObjectsRows (P.ordered os) text at chunk × (end ≡ at + length (objects_strings (P.ordered os) []))
