-- What is made of the words after acceptance: the table, and the strings laid into the buffer.
use Rattle.std.specs.Prelude.{ℕ, zero, suc, List, cond, drop, get_or, eqb}
use Rattle.json_move.specs.Read.{decoded}
use Rattle.json_lay.specs.Strings.{buffered}
use Rattle.document.specs.declared.table.Record.{Record}
use Rattle.document.specs.declared.table.Head.{Head}
use Rattle.document.specs.declared.table.Text.{Text}
use Rattle.document.specs.declared.table.Table.{Table}
use Rattle.document.specs.Words.{width}
use Rattle.table_kinds.specs.Kinds.{record_in, groups, at_most, records_in}
use Rattle.read_records.specs.declared.read.Piece.{Piece}
use Rattle.read_records.specs.declared.read.HeadRead.{HeadRead}

-- The records of the words, six each.
abbrev pub records_of : ℕ → List ℕ → List Record
records_of n ws = groups width record_in n ws

-- The buffer after the record of the six words in front: a FreeText's string is laid from its start on.
abbrev pub laid_row : List ℕ → List ℕ → List ℕ → List ℕ
laid_row text ws buffer = cond (eqb (get_or ws 0 0) 2) (buffered buffer (get_or ws 2 0) (decoded (drop (get_or ws 4 0) text))) buffer

unfoldable pub laid_rows : List ℕ → ℕ → List ℕ → List ℕ → List ℕ
laid_rows text zero ws buffer = buffer
laid_rows text (suc n) ws buffer = laid_rows text n (drop width ws) (laid_row text ws buffer)

abbrev pub laid_piece : List ℕ → Piece → List ℕ → List ℕ
laid_piece text p buffer = cond (eqb p.len 0) buffer (buffered buffer p.start (decoded (drop p.quote text)))

-- The head's cells.
abbrev pub piece_cell : Piece → Text
piece_cell p = record { start = p.start; len = p.len }

abbrev pub head_cells : HeadRead → Head
head_cells h =
    record {
      from = h.from;
      to = h.to;
      reserve = h.reserve;
      meal = h.meal;
      unit = piece_cell h.unit;
      instructions = piece_cell h.instructions;
      roa = piece_cell h.roa;
      moa = piece_cell h.moa;
    }

abbrev pub count_of : HeadRead → ℕ
count_of h = at_most h.used.records

unfoldable pub built : HeadRead → List ℕ → Table
unfolding records_in
built h ws = record { head = head_cells h; count = count_of h; text = h.used.text; records = records_in h.used.records ws }

-- The strings of the records in visiting order, then those of the head.
unfoldable pub strings_laid : List ℕ → HeadRead → List ℕ → List ℕ → List ℕ
unfolding laid_rows
strings_laid text h ws buffer = laid_piece text h.moa (laid_piece text h.roa (laid_piece text h.instructions (laid_piece text h.unit (laid_rows text (count_of h) ws buffer))))
