-- The table of what was read.
use native.Mathlib.Omega.{arith}
use Rattle.table_kinds.specs.Kinds.{records_in}
use Rattle.read_table.specs.Built.{built}
use Rattle.table_kinds.proofs.Fill.{at_most_lem}
use Rattle.read_table.proofs.table_of.Goals as goal

pub records_of-requires : goal.records_of-requires
records_of-requires c =
    omega (arith, c.at_most-count.ensures, at_most_lem c.args.h.used.records c.args.words.now)

pub returns : goal.returns
unfolding built records_in
returns c =
    rw (c.head_of.ensures, c.records_of.ensures, c.at_most-count.ensures)
