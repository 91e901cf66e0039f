-- The letters passed are taken and those from i on are the rest; over these the way leads to the value.
use lib.ListN.{drop}
use Rattle.json_move.specs.Read.{decoded}
use Rattle.json_decode.specs.Characters.{plain_from}
use Rattle.read_names.proofs.Letters.{Ahead, ToValue}
use Rattle.read_names.proofs.taking.plain.Given as goal

abbrev pub invariant-loop-i : goal.invariant-loop-i
invariant-loop-i g l =
    Ahead (λ done. g.T.Takes.took l.fn.start done l.t) (decoded (drop l.quote l.text)) (plain_from l.text l.i) × ToValue l.text l.quote l.i
