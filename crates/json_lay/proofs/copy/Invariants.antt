-- Laying what is left of the string into the buffer as it stands makes the buffer that is asked for.
use Rattle.json_decode.specs.Bytes.{ahead}
use Rattle.json_lay.proofs.Pieces.{Puts}
use Rattle.json_lay.proofs.copy.Given as goal

abbrev pub invariant-loop-piece : goal.invariant-loop-piece
invariant-loop-piece l = Puts l.initial.buffer l.to (ahead l.pieces) l.buffer l.k (ahead l.piece-iterator)
