-- What is told of the position, or 20.
use Rattle.shelf.proofs.Surveyed.{raised}
use Rattle.shelf.proofs.Serving.{stands_at, stands_nowhere}
use Rattle.shelf.proofs.standing.at.Goals as goal

pub returns-in_err-s : goal.returns-in_err-s
returns-in_err-s c =
    rw (raised c.from_residual.result c.from_residual.ensures.1)
    (stands_nowhere c.args.area.now c.args.position (rw c.go_over.ensures at c.in_err-s.ensures.value))

pub returns : goal.returns
returns c = let e = stands_at c.args.area.now c.args.position (rw c.go_over.ensures at c.in_ok-s.ensures.value) in cc
