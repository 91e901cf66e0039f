use Rattle.write_numbers.specs.Tens.{tens}
use borrow.Author.Tests.{le-leb, lt-leb}
use Rattle.write_bytes.proofs.Laid.{lays_none}
use Rattle.write_numbers.proofs.put_tens.Goals as goal

pub returns-then-n-gt9 : goal.returns-then-n-gt9
unfolding tens
returns-then-n-gt9 c k =
    rw (lt-leb _ _ c.if-n-gt9.true, ← c.digit.ensures) (c.put.ensures k)

pub returns-else-n-gt9 : goal.returns-else-n-gt9
unfolding tens
returns-else-n-gt9 c k =
    rw (le-leb _ _ c.if-n-gt9.false) (lays_none _ _)
