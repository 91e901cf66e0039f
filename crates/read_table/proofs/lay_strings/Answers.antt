-- The strings of the records, then those of the head.
use native.Mathlib.Omega.{arith}
use Rattle.table_kinds.proofs.Fill.{at_most_lem}
use Rattle.read_table.proofs.Laid.{in_turn}
use Rattle.read_table.proofs.lay_strings.Goals as goal

pub lay_records-requires : goal.lay_records-requires
lay_records-requires c =
    omega (arith, c.at_most.ensures, at_most_lem c.args.h.used.records c.args.words.now)

pub returns : goal.returns
returns c =
    in_turn c.args.text.now c.args.h c.args.words.now c.args.strings.now
    c.at_most.ensures
    c.lay_records.ensures
    c.lay_piece.ensures
    c.lay_piece-2.ensures
    c.lay_piece-3.ensures
    c.lay_piece-4.ensures
