-- The strings of a posology, laid from the words and the head's pieces.
use Prim.Native.Nat.{ℕ, ◌+◌, ◌≤◌}
use mathlib.Core.Path.{◌≡◌, refl, sym, ap, ◌∙◌}
use mathlib.Core.List.{List, [], ◌++◌, append-nil}
use mathlib.Core.Option.{Option, none, some}
use native.Mathlib.Nat.{zero-add}
use native.Mathlib.Omega.{arith}
use lib.ListN.{length, drop, length-append}
use lib.Seq.{sets, length-sets, sets-eq}
use Rattle.json_move.specs.Read.{decoded}
use Rattle.document.specs.Answer.{laid}
use Rattle.document.specs.Posology.{Posology}
use Rattle.document.specs.Table.{length_of}
use Rattle.document.specs.Valid.{detail_records, detail_strings, given, joined, strings}
use Rattle.document.specs.Told.{none_used}
use Rattle.json_lay.specs.Strings.{buffered}
use Rattle.read_table.specs.Built.{laid_rows, laid_piece, strings_laid}
use Rattle.read_details.specs.Holding.{PieceOf, Holds}
use Rattle.read_records.specs.declared.read.Piece.{Piece}
use Rattle.read_records.specs.declared.read.HeadRead.{HeadRead}
use Rattle.json_grammar.proofs.Stores.{sets_append}
use Rattle.document.proofs.Untables.{joined_append}
use Rattle.document.proofs.Strings.{given_length, strings_parts}
use Rattle.read_table.proofs.Laid.{buffered_fits, detail_laid, piece_lays, piece_passes}
use Rattle.read_table.proofs.Made.{words_split, all_taken}

-- A piece behind the strings so far.
piece_next : (text : List ℕ) (start : ℕ) (o : Option (List ℕ)) (p : Piece) (acc buffer : List ℕ) → PieceOf text start o p → start ≡ length acc → length (acc ++ given o []) ≤ length buffer
    → laid_piece text p (sets buffer 0 acc) ≡ sets buffer 0 (acc ++ given o [])
piece_next text start none p acc buffer e s h = sym (piece_passes text p (sets buffer 0 acc) e.2) ∙ ap (λ (l : List ℕ). sets buffer 0 l) (sym (append-nil acc))
piece_next text start (some cs) p acc buffer e s h =
    let all : joined cs [] ≡ cs = joined_append cs [] ∙ append-nil cs in
    let size : length (acc ++ joined cs []) ≡ length acc + length (joined cs []) = length-append acc (joined cs []) in
    let here : p.start ≡ 0 + length acc = e.0 ∙ s ∙ sym (zero-add (length acc)) in
    let fits : 0 + length acc + length (joined cs []) ≤ length (sets buffer 0 acc) = rw length-sets (omega arith) in
    sym (piece_lays text p (sets buffer 0 acc) (buffered (sets buffer 0 acc) p.start (decoded (drop p.quote text))) (λ z. omega (arith, e.1, e.2)) refl)
    ∙ ap (λ (v : List ℕ). buffered (sets buffer 0 acc) p.start v) (e.3 ∙ sym all)
    ∙ ap (λ (k : ℕ). buffered (sets buffer 0 acc) k (joined cs [])) here
    ∙ buffered_fits (sets buffer 0 acc) (0 + length acc) (joined cs []) fits
    ∙ sym (sets_append acc (joined cs []) buffer 0)

module _ (text : List ℕ) (p : Posology) (h : HeadRead) (words : List ℕ) (holds : Holds none_used text p h words) (buffer : List ℕ) where
  rows_laid : length (detail_strings p.po []) ≤ length buffer → laid_rows text h.used.records words buffer ≡ sets buffer 0 (detail_strings p.po [])
  unfolding laid_rows
  rows_laid fits =
      let rest = drop (length holds.chunk) words in
      let here : 0 + length (detail_strings p.po []) ≤ length buffer = omega arith in
      let count : h.used.records ≡ detail_records p.po + 0 = omega (arith, holds.count) in
      ap (λ (n : ℕ). laid_rows text n words buffer) count
      ∙ ap (λ (ws : List ℕ). laid_rows text (detail_records p.po + 0) ws buffer) (words_split text 0 p h words holds)
      ∙ detail_laid p.po text 0 holds.chunk holds.rows 0 rest buffer here

  pub strings_laid_lem : length (strings p) ≤ length buffer → strings_laid text h words buffer ≡ laid (strings p) buffer
  unfolding strings_laid
  strings_laid_lem fits =
      let D = detail_strings p.po [] in
      let U = given p.unit [] in
      let I = given p.appl_instr [] in
      let R = given p.roa [] in
      let M = given p.moa [] in
      let all : strings p ≡ D ++ U ++ I ++ R ++ M = strings_parts p in
      let size = ap length all in
      let l₁ : length (D ++ U) ≡ length D + length_of p.unit = length-append D U ∙ ap (λ (n : ℕ). length D + n) (given_length p.unit) in
      let l₂ : length (D ++ U ++ I) ≡ length (D ++ U) + length_of p.appl_instr = length-append (D ++ U) I ∙ ap (λ (n : ℕ). length (D ++ U) + n) (given_length p.appl_instr) in
      let l₃ : length (D ++ U ++ I ++ R) ≡ length (D ++ U ++ I) + length_of p.roa = length-append (D ++ U ++ I) R ∙ ap (λ (n : ℕ). length (D ++ U ++ I) + n) (given_length p.roa) in
      let l₄ : length (D ++ U ++ I ++ R ++ M) ≡ length (D ++ U ++ I ++ R) + length M = length-append (D ++ U ++ I ++ R) M in
      ap (λ (b : List ℕ). laid_piece text h.moa (laid_piece text h.roa (laid_piece text h.instructions (laid_piece text h.unit b)))) (ap (λ (n : ℕ). laid_rows text n words buffer) (all_taken text 0 p h words holds) ∙ rows_laid (omega arith))
      ∙ ap (λ (b : List ℕ). laid_piece text h.moa (laid_piece text h.roa (laid_piece text h.instructions b))) (piece_next text _ p.unit h.unit D buffer holds.unit (omega arith) (omega arith))
      ∙ ap (λ (b : List ℕ). laid_piece text h.moa (laid_piece text h.roa b)) (piece_next text _ p.appl_instr h.instructions (D ++ U) buffer holds.instructions (omega arith) (omega arith))
      ∙ ap (λ (b : List ℕ). laid_piece text h.moa b) (piece_next text _ p.roa h.roa (D ++ U ++ I) buffer holds.roa (omega arith) (omega arith))
      ∙ piece_next text _ p.moa h.moa (D ++ U ++ I ++ R) buffer holds.moa (omega arith) (omega arith)
      ∙ ap (λ (l : List ℕ). sets buffer 0 l) (sym all)
      ∙ sets-eq (strings p) buffer 0 (omega arith)
      ∙ ap (λ (n : ℕ). strings p ++ drop n buffer) (zero-add (length (strings p)))
