use Rattle.document_figures.proofs.Bytes.{zeros}
use Rattle.document_figures.proofs.is_all_zero.Goals as goal

pub returns-then-b-ne48 : goal.returns-then-b-ne48
returns-then-b-ne48 c =
    search zeros

pub loop-b-preserved : goal.loop-b-preserved
loop-b-preserved c =
    search zeros

pub returns : goal.returns
returns c =
    search zeros
