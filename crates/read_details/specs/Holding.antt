-- A posology as the code has read it: its head's cells, the rows of its records, and the quotes of its strings.
use Rattle.std.specs.Prelude.{ℕ, ◌+◌, ◌*◌, ◌<◌, ◌≤◌, ◌≡◌, List, [], length, drop, take}
use Rattle.std.proofs.Math.Option.{Option, none, some, get_or}
use Rattle.json_move.specs.Read.{decoded}
use Rattle.document.specs.Posology.{Posology}
use Rattle.document.specs.Table.{date_cell, length_of}
use Rattle.document.specs.Valid.{detail_strings, detail_records, strings}
use Rattle.read_details.specs.Rows.{DetailRows}
use Rattle.document.specs.declared.terms.Used.{Used}
use Rattle.document.specs.Words.{width}
use Rattle.read_records.specs.declared.read.Piece.{Piece}
use Rattle.read_records.specs.declared.read.HeadRead.{HeadRead}

-- A string of the head: its quote in the text, its start and length in the buffer to come; all 0 where it is absent.
abbrev pub PieceOf : List ℕ → ℕ → Option (List ℕ) → Piece → Type 0
PieceOf text start none p = (p.quote ≡ 0) × (p.start ≡ 0) × (p.len ≡ 0)
PieceOf text start (some cs) p = (p.start ≡ start) × (p.len ≡ length cs) × (0 < length cs) × (decoded (drop p.quote text) ≡ cs)

-- With u taken before it.
pub record Holds (u : Used) (text : List ℕ) (p : Posology) (h : HeadRead) (words : List ℕ) : Type 0 where
  pub chunk : List ℕ
  pub rows : DetailRows p.po text u.text chunk
  pub written : take (length chunk) (drop (width * u.records) words) ≡ chunk
  pub count : h.used.records ≡ u.records + detail_records p.po
  pub size : u.records * width + length chunk ≡ h.used.records * width
  pub few : h.used.records ≤ 64
  pub from : date_cell p.dt_from ≡ h.from
  pub to : date_cell p.dt_to ≡ h.to
  pub reserve : p.in_res ≡ h.reserve
  pub meal : get_or p.rel_meal 0 ≡ h.meal
  pub unit : PieceOf text (u.text + length (detail_strings p.po [])) p.unit h.unit
  pub instructions : PieceOf text (u.text + length (detail_strings p.po []) + length_of p.unit) p.appl_instr h.instructions
  pub roa : PieceOf text (u.text + length (detail_strings p.po []) + length_of p.unit + length_of p.appl_instr) p.roa h.roa
  pub moa : PieceOf text (u.text + length (detail_strings p.po []) + length_of p.unit + length_of p.appl_instr + length_of p.roa) p.moa h.moa
  pub taken : h.used.text ≡ u.text + length (strings p)
