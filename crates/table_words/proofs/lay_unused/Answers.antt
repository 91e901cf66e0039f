use Rattle.document.specs.Table.{no_record}
use Rattle.document.specs.Words.{record_words}
use Rattle.table_rows.proofs.Storing.{stored_length}
use Rattle.table_words.proofs.Anew.{unused_more}
use Rattle.table_words.proofs.lay_unused.Goals as goal

pub loop-i-preserved : goal.loop-i-preserved
loop-i-preserved c =
    rw c.put.ensures
    (stored_length c.loop-i.words c.loop-i.i (record_words no_record) c.loop-i.invariant.0 c.loop-i-test.true, λ rs u z. unused_more rs c.loop-i.words c.loop-i.i c.loop-i-test.true (c.loop-i.invariant.1 rs u z) _ z c.loop-i.auto.i)
