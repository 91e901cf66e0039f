use Rattle.document_figures.proofs.Bytes.{exponents}
use Rattle.document_figures.proofs.has_exponent.Goals as goal

pub returns-then-b-eq69 : goal.returns-then-b-eq69
returns-then-b-eq69 c =
    search exponents

pub returns-then-b-eq101 : goal.returns-then-b-eq101
returns-then-b-eq101 c =
    search exponents

pub loop-b-preserved : goal.loop-b-preserved
loop-b-preserved c =
    search exponents

pub returns : goal.returns
returns c =
    search exponents
