-- The innermost bracket is the lowest bit.
use native.Mathlib.Omega.{arith}
use borrow.Author.Tests.{ne_eqb}
use Rattle.json_walk.specs.Frames.{frames}
use Rattle.json_walk.proofs.Frames.{frames_top}
use Rattle.json_walk.proofs.brackets.Brackets.innermost.Goals as goal

pub returns-then-self-eq0 : goal.returns-then-self-eq0
unfolding frames
returns-then-self-eq0 c =
    rw c.if-self-eq0.true

pub returns-then-self-eq0-2 : goal.returns-then-self-eq0-2
returns-then-self-eq0-2 c =
    rw (frames_top c.args.self.depth c.args.self.kinds (omega arith), c.if-self-eq0-2.true)

pub returns-else-self-eq0-2 : goal.returns-else-self-eq0-2
returns-else-self-eq0-2 c =
    rw (frames_top c.args.self.depth c.args.self.kinds (omega arith), ne_eqb _ 0 c.if-self-eq0-2.false)
