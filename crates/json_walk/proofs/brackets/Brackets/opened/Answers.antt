-- The bit of the new bracket is the lowest.
use native.Mathlib.Omega.{arith}
use Rattle.json_walk.proofs.Frames.{frames_pushed}
use Rattle.json_walk.proofs.brackets.Brackets.opened.Goals as goal
use Rattle.json_walk.proofs.brackets.Brackets.opened.Goals.{in-Square, in-Curly}

pub returns : goal.returns
returns c =
    elim c.match-bracket.branch [
      | in-Square w ↦ (omega arith, rw (w.in-Square.is, w.bit-is) (frames_pushed _ _ 0 (omega arith)))
      | in-Curly w ↦ (omega arith, rw (w.in-Curly.is, w.bit-is) (frames_pushed _ _ 1 (omega arith)))
    ]
