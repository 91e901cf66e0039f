-- None is open, the last is closed, or one of several.
use native.Mathlib.Omega.{arith}
use Rattle.json_walk.proofs.Turns.{shuts_none, shuts_last, shuts}
use Rattle.json_walk.proofs.shut.Goals as goal

pub returns-in-0 : goal.returns-in-0
returns-in-0 c =
    (shuts_none c.args.text.now c.args.here.at _ _ c.in-0.is, omega arith)

pub returns-in-1 : goal.returns-in-1
returns-in-1 c =
    (shuts_last c.args.text.now c.args.here.at _ _ c.in-1.is, omega arith)

pub returns-in_default : goal.returns-in_default
returns-in_default c =
    let b = c.args.here.brackets in
    (rw (c.closed.ensures.0, c.closed.ensures.1) (shuts c.args.text.now c.args.here.at b.depth b.kinds (omega arith)), omega arith, omega arith)
