use Rattle.write_details.proofs.Days.{LaysDays}
use Rattle.write_details.proofs.timed.put_days.Given as goal

abbrev pub invariant-loop-day : goal.invariant-loop-day
invariant-loop-day l = LaysDays l.initial.out l.last l.set l.later l.day l.left l.out
