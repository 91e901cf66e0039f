use borrow.Author.Tests.{le-leb}
use Rattle.document_figures.proofs.Bytes.{zero_none}
use Rattle.document_figures.proofs.has_millionths.Goals as goal

pub returns-then-fraction-le6 : goal.returns-then-fraction-le6
returns-then-fraction-le6 c =
    rw (le-leb _ 6 c.if-fraction-le6.true) (zero_none c.args.fraction.now 6 c.if-fraction-le6.true)
