use native.Mathlib.Omega.{arith}
use mathlib.Core.Path.{refl, sym}
use Rattle.json_decode.specs.Bytes.{bytes_of}
use Rattle.json_lay.proofs.Pieces.{put_on}
use Rattle.json_lay.proofs.copy.Goals as goal

pub loop-piece-preserved-in-Spelled : goal.loop-piece-preserved-in-Spelled
loop-piece-preserved-in-Spelled c =
    put_on c.loop-piece.invariant (bytes_of c.in-Some.piece) _ c.in-Some.ensures.steps.0 (rw c.in-Spelled.is (omega arith)) (rw c.in-Spelled.is c.put.ensures)

pub loop-piece-preserved : goal.loop-piece-preserved
loop-piece-preserved c =
    let bytes = sym c.as_slice-bytes.ensures in
    put_on c.loop-piece.invariant (bytes_of c.in-Some.piece) _ c.in-Some.ensures.steps.0
    (rw (c.in-Decoded.is, bytes) refl) (rw (c.in-Decoded.is, bytes) c.put-in-Decoded.ensures)
