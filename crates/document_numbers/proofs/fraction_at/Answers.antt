-- `document_numbers::fraction_at` meets its contract: what is left behind the point, or at the end.
use Rattle.document_numbers.proofs.Point.{fractions}
use Rattle.document_numbers.proofs.fraction_at.Goals as goal

pub returns-then-point-raw : goal.returns-then-point-raw
returns-then-point-raw c =
    search fractions

pub returns : goal.returns
returns c =
    search fractions
