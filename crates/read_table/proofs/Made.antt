-- The table made of the words and the head's cells is the posology's.
use Prim.Native.Nat.{ℕ, ◌+◌, ◌-◌, ◌≤◌}
use mathlib.Core.Path.{◌≡◌, sym, ap, subst, ◌∙◌}
use mathlib.Core.List.{List, [], ◌++◌}
use mathlib.Core.Bool.{true}
use mathlib.Core.Option.{Option, none, some}
use native.Mathlib.Omega.{arith}
use borrow.Author.Tests.{le-leb}
use lib.ListN.{length, drop, replicate, take-append-drop}
use Rattle.document.specs.Posology.{Posology}
use Rattle.document.specs.Table.{no_record, text_cell, length_of, filled, head_of, detail_rows, table_of}
use Rattle.document.specs.Valid.{detail_records, detail_strings, strings, valid}
use Rattle.document.specs.Told.{none_used}
use Rattle.document.specs.declared.table.Record.{Record}
use Rattle.read_table.specs.Built.{piece_cell, head_cells, records_of, count_of, built}
use Rattle.read_details.specs.Holding.{PieceOf, Holds}
use Rattle.read_records.specs.declared.read.Piece.{Piece}
use Rattle.read_records.specs.declared.read.HeadRead.{HeadRead}
use Rattle.table_kinds.specs.Kinds.{record_in, groups, records_in}
use Rattle.table_kinds.proofs.Fill.{groups_length}
use Rattle.document.proofs.ValidParts.{valid_parts}
use Rattle.document.proofs.Untabled.{filled_is}
use Rattle.document.specs.Words.{width}
use Rattle.read_table.proofs.Back.{detail_back}

piece_cell_lem : (text : List ℕ) (start : ℕ) (o : Option (List ℕ)) (p : Piece) → PieceOf text start o p → piece_cell p ≡ text_cell start o
piece_cell_lem text start none p e = rw (e.1, e.2)
piece_cell_lem text start (some cs) p e = rw (e.0, e.1)

module _ (text : List ℕ) (purpose : ℕ) (p : Posology) (h : HeadRead) (words : List ℕ) (holds : Holds none_used text p h words) where
  -- The strings start where nothing is taken.
  starts : (n k : ℕ) (o : Option (List ℕ)) (q : Piece) → k ≡ n → PieceOf text k o q → PieceOf text n o q
  starts n k o q e s = subst (λ (n : ℕ). PieceOf text n o q) e s

  head_made : head_cells h ≡ head_of p
  unfolding head_of
  head_made =
      let D = length (detail_strings p.po []) in
      let U = length_of p.unit in
      let I = length_of p.appl_instr in
      let R = length_of p.roa in
      rw (
        holds.from,
        holds.to,
        holds.reserve,
        holds.meal,
        ← piece_cell_lem text D p.unit h.unit (starts D (0 + D) p.unit h.unit (omega arith) holds.unit),
        ← piece_cell_lem text (D + U) p.appl_instr h.instructions (starts (D + U) (0 + D + U) p.appl_instr h.instructions (omega arith) holds.instructions),
        ← piece_cell_lem text (D + U + I) p.roa h.roa (starts (D + U + I) (0 + D + U + I) p.roa h.roa (omega arith) holds.roa),
        ← piece_cell_lem text (D + U + I + R) p.moa h.moa (starts (D + U + I + R) (0 + D + U + I + R) p.moa h.moa (omega arith) holds.moa),
      )

  pub words_split : words ≡ holds.chunk ++ drop (length holds.chunk) words
  words_split = sym (take-append-drop (length holds.chunk) words) ∙ ap (λ (l : List ℕ). l ++ drop (length holds.chunk) words) holds.written

  records_back : valid purpose p ≡ true → records_of h.used.records words ≡ detail_rows p.po 0 []
  unfolding groups
  records_back ok =
      let rest = drop (length holds.chunk) words in
      let count : h.used.records ≡ detail_records p.po + 0 = omega (arith, holds.count) in
      ap (λ (n : ℕ). records_of n words) count
      ∙ ap (λ (ws : List ℕ). records_of (detail_records p.po + 0) ws) words_split
      ∙ detail_back p.po 3 (valid_parts purpose p ok).detail text 0 holds.chunk holds.rows 0 rest

  records_made : valid purpose p ≡ true → records_of h.used.records words ++ replicate (64 - h.used.records) no_record ≡ filled 64 (detail_rows p.po 0 [])
  records_made ok =
      let back = records_back ok in
      let size : length (detail_rows p.po 0 []) ≡ h.used.records = ap length (sym back) ∙ groups_length width record_in h.used.records words in
      let few : length (detail_rows p.po 0 []) ≤ 64 = omega (arith, holds.few) in
      ap (λ (rs : List Record). rs ++ replicate (64 - h.used.records) no_record) back
      ∙ ap (λ (n : ℕ). detail_rows p.po 0 [] ++ replicate (64 - n) no_record) (sym size)
      ∙ sym (filled_is 64 (detail_rows p.po 0 []) few)

  pub all_taken : count_of h ≡ h.used.records
  all_taken = rw (le-leb h.used.records 64 holds.few)

  counts : h.used.records ≡ detail_records p.po
  counts = omega (arith, holds.count)

  bytes : h.used.text ≡ length (strings p)
  bytes = omega (arith, holds.taken)

  pub table_made : valid purpose p ≡ true → built h words ≡ table_of p
  unfolding built records_in table_of
  table_made ok = rw (all_taken, head_made, records_made ok, counts, bytes)
