use native.Mathlib.Omega.{arith}
use Rattle.json_grammar.proofs.Moves.{lead_start, lead_here, lead_one, moved}
use Rattle.json_move.proofs.Skips.{number_goes, number_stops, number_ends}
use Rattle.json_move.proofs.behind_number.Goals as goal

pub loop-i-init : goal.loop-i-init
loop-i-init c =
    lead_start _ _ _

pub loop-i-preserved : goal.loop-i-preserved
loop-i-preserved c =
    let l = c in
    lead_one l.loop-i.invariant l.loop-i-test.true (number_goes _ (cc))

pub returns-then-not-is_numeric : goal.returns-then-not-is_numeric
returns-then-not-is_numeric c =
    let l = c in
    moved (lead_here l.loop-i.invariant l.loop-i-test.true (number_stops _ (cc)))

pub returns : goal.returns
returns c =
    rw c.max.ensures (number_ends c.loop-i.invariant (omega arith))
