-- The days are read element by element; those read so far are marked.
use Rattle.read_fields.proofs.DayElements.{Days}
use Rattle.read_fields.proofs.days.days_in.Given as goal

abbrev pub invariant-loop : goal.invariant-loop
invariant-loop l = Days l.text l.at l.most l.e l.counter l.stood l.again l.initial.used l.used
