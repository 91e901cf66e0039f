-- `document_numbers::amount_from` meets its contract: its two tests are those of the range.
use borrow.Author.Tests.{le-leb, lt-leb}
use Rattle.document_numbers.proofs.amount_from.Goals as goal

pub returns-then-n-least : goal.returns-then-n-least
returns-then-n-least c =
    rw (lt-leb _ _ c.if-n-least.true)

pub returns-then-n-gt-MOST : goal.returns-then-n-gt-MOST
returns-then-n-gt-MOST c =
    rw (le-leb _ _ c.if-n-least.false, lt-leb _ _ c.if-n-gt-MOST.true)

pub returns : goal.returns
returns c =
    rw (le-leb _ _ c.if-n-least.false, le-leb _ _ c.if-n-gt-MOST.false)
