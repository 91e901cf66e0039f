-- The slots passed have the names of others.
use lib.ListN.{drop}
use Rattle.json_move.specs.Read.{decoded}
use Rattle.read_names.proofs.Searching.{Searching}
use Rattle.read_names.proofs.table.look_up.Given as goal

abbrev pub invariant-loop-i : goal.invariant-loop-i
invariant-loop-i l = Searching l.seed l.text (decoded (drop l.quote l.text)) l.table l.i
