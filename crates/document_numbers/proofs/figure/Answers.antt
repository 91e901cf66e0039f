-- `document_numbers::figure` meets its contract: its tests are the rows of the table.
use Rattle.document_numbers.proofs.Digits.{figures}
use Rattle.document_numbers.proofs.figure.Goals as goal

pub returns-then-b-lt48 : goal.returns-then-b-lt48
returns-then-b-lt48 c =
    search figures

pub returns-then-b-lt58 : goal.returns-then-b-lt58
returns-then-b-lt58 c =
    search figures

pub returns : goal.returns
returns c =
    search figures
