use Rattle.write_numbers.proofs.Fractions.{behind_first, behind_end, behind_on}
use Rattle.write_numbers.proofs.put_fraction.Goals as goal

pub loop-left-init : goal.loop-left-init
loop-left-init c =
    behind_first _ _ c.requires

pub loop-left-preserved : goal.loop-left-preserved
loop-left-preserved c =
    behind_on c.loop-left.invariant c.loop-left-test.true c.digit.ensures c.put.ensures

pub returns : goal.returns
returns c =
    behind_end c.loop-left.invariant c.loop-left-test.false
