use Rattle.table_words.specs.Laying.{Upto}
use Rattle.table_words.proofs.table_words.Given as goal

abbrev pub invariant-loop-i : goal.invariant-loop-i
invariant-loop-i l = Upto l.t.records l.out l.i
