-- A segment of the day is an integer.
use Rattle.read_dosages.proofs.application.own_field.Goals as goal

pub returns-clause-reads_own : goal.returns-clause-reads_own
returns-clause-reads_own c =
    rw c.if-timed.false c.integer_field.ensures.counts_needed
