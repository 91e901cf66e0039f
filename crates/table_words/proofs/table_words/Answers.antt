use borrow.Author.Rules.{rules}
use Rattle.table_words.proofs.Laid.{one_more}
use Rattle.table_words.proofs.table_words.Goals as goal

pub loop-i-preserved : goal.loop-i-preserved
loop-i-preserved c =
    rw c.put.ensures (one_more c.args.t.records c.loop-i.out c.loop-i.i _ (search rules) c.loop-i-test.true c.loop-i.invariant c.kind_row.ensures)
