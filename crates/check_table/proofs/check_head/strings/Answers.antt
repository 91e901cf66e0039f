use Rattle.check_table.proofs.Heads.{no_unit, no_instructions, no_roa, pieces_all}
use Rattle.check_table.proofs.check_head.strings.Goals as goal

pub returns-in_err-unit : goal.returns-in_err-unit
returns-in_err-unit c =
    rw c.from_residual.ensures (no_unit {h = c.args.h} c.piece.ensures c.in_err-unit.was)

pub returns-in_err-instructions : goal.returns-in_err-instructions
returns-in_err-instructions c =
    rw c.from_residual-in_err-instructions.ensures (no_instructions {h = c.args.h} c.piece.ensures c.in_ok-unit.was c.piece-2.ensures c.in_err-instructions.was)

pub returns-in_err-roa : goal.returns-in_err-roa
returns-in_err-roa c =
    rw c.from_residual-in_err-roa.ensures (no_roa {h = c.args.h} c.piece.ensures c.in_ok-unit.was c.piece-2.ensures c.in_ok-instructions.was c.piece-3.ensures c.in_err-roa.was)

pub returns : goal.returns
returns c =
    pieces_all {h = c.args.h} c.piece.ensures c.in_ok-unit.was c.piece-2.ensures c.in_ok-instructions.was c.piece-3.ensures c.in_ok-roa.was c.piece-4.ensures
