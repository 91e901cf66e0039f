-- One record more, where one is left.
use Rattle.document.proofs.Taken.{all_counted, counted}
use Rattle.document.proofs.terms.one_more.Goals as goal

pub returns-then-used-ge-RECORDS : goal.returns-then-used-ge-RECORDS
returns-then-used-ge-RECORDS c =
    all_counted _ c.if-used-ge-RECORDS.true

pub returns : goal.returns
returns c =
    counted c.args.used c.if-used-ge-RECORDS.false
