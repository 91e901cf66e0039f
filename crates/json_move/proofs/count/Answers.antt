use native.Mathlib.Omega.{arith}
use Rattle.json_move.proofs.Counts.{counted_none, counted_more, counted_end, counted_all}
use Rattle.json_move.proofs.count.Goals as goal

pub loop-n-init : goal.loop-n-init
loop-n-init c =
    counted_none _ _ _ c.first_in-i.ensures

pub returns-then-at_end : goal.returns-then-at_end
returns-then-at_end c =
    counted_end c.loop-n.invariant (cc)

pub loop-n-preserved : goal.loop-n-preserved
loop-n-preserved c =
    counted_more c.loop-n.invariant c.loop-n-test.true (cc) c.next_after-i.ensures

pub returns : goal.returns
returns c =
    counted_all c.loop-n.invariant (omega arith)
