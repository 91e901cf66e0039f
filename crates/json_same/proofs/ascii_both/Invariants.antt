-- Plain ASCII characters that both begin with are passed over.
use Rattle.json_same.specs.Naming.{Paired}
use Rattle.json_same.proofs.ascii_both.Given as goal

abbrev pub invariant-loop-n : goal.invariant-loop-n
invariant-loop-n l = Paired l.text l.p l.q l.n
