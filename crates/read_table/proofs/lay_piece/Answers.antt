-- A string of the head is laid; an absent one is not.
use native.Mathlib.Omega.{arith}
use Rattle.read_table.proofs.Laid.{piece_lays, piece_passes}
use Rattle.read_table.proofs.lay_piece.Goals as goal

pub returns-then-p-ne0 : goal.returns-then-p-ne0
returns-then-p-ne0 c =
    piece_lays c.args.text.now c.args.p c.args.strings.now _ c.if-p-ne0.true c.lay.ensures.buffer_after

pub returns-else-p-ne0 : goal.returns-else-p-ne0
returns-else-p-ne0 c =
    piece_passes c.args.text.now c.args.p c.args.strings.now (omega arith)
