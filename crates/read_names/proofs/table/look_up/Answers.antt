use Rattle.read_names.proofs.Searching.{search_over}
use Rattle.read_names.proofs.table.look_up.Goals as goal

pub returns : goal.returns
returns c near =
    search_over c.loop-i.invariant c.loop-i-test.false
