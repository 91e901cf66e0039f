-- A twentieth bracket still fits, a twenty-first does not.
use native.Mathlib.Omega.{arith}
use Rattle.json_walk.proofs.Turns.{opens, too_deep_lem}
use Rattle.json_walk.proofs.opened.Goals as goal

pub returns-in_default : goal.returns-in_default
returns-in_default c =
    (too_deep_lem c.args.text.now c.args.here.at _ _ _ _ c.in_default.ensures, omega arith)

pub returns : goal.returns
returns c =
    (opens c.args.text.now c.args.here.at _ _ _ _ c.in-Some.ensures.0 c.in-Some.ensures.1, omega arith, omega arith)
