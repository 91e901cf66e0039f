use Rattle.check_table.proofs.Laid.{behind_zeros}
use Rattle.check_table.proofs.check.unused.Goals as goal

pub returns : goal.returns
returns c =
    behind_zeros _ _ _ _ c.loop-word.auto.word-index-end c.loop-word-test.false c.loop-word.invariant
