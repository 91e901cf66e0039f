-- `document_numbers::integer_among` meets its contract: its two tests are those of the range.
use borrow.Author.Tests.{le-leb, lt-leb}
use Rattle.document_numbers.proofs.integer_among.Goals as goal

pub returns-then-n-least : goal.returns-then-n-least
returns-then-n-least c =
    rw (lt-leb _ _ c.if-n-least.true)

pub returns-then-most-n : goal.returns-then-most-n
returns-then-most-n c =
    rw (le-leb _ _ c.if-n-least.false, lt-leb _ _ c.if-most-n.true)

pub returns : goal.returns
returns c =
    rw (le-leb _ _ c.if-n-least.false, le-leb _ _ c.if-most-n.false)
