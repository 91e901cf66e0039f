-- The marked days as bits: the marks gathered up to a day, and the next power.
use Rattle.read_fields.proofs.DayLaws.{Gathered}
use Rattle.read_fields.proofs.days.set_of.Given as goal

abbrev pub invariant-loop-k : goal.invariant-loop-k
invariant-loop-k l = Gathered l.stood l.set l.power l.k
