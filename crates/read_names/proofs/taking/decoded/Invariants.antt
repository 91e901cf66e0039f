-- The bytes passed are taken, and the rest is ahead.
use lib.ListN.{drop}
use Rattle.json_move.specs.Read.{decoded}
use Rattle.json_decode.specs.Bytes.{ahead}
use Rattle.read_names.proofs.Letters.{Ahead}
use Rattle.read_names.proofs.taking.decoded.Given as goal

abbrev pub invariant-loop-piece : goal.invariant-loop-piece
invariant-loop-piece g l = Ahead (λ done. g.T.Takes.took l.fn.start done l.t) (decoded (drop l.quote l.text)) (ahead l.piece-iterator)
