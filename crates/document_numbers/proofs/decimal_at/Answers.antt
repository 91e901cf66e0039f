-- `document_numbers::decimal_at` meets its contract: the bytes from the place to behind the number are those that it is written with.
use Rattle.document_numbers.proofs.Written.{written_none, written_is}
use Rattle.document_numbers.proofs.decimal_at.Goals as goal

pub returns-then-text-at : goal.returns-then-text-at
returns-then-text-at c =
    rw (← written_none _ _ c.if-text-at.true) c.decimal_of.ensures

pub returns : goal.returns
returns c =
    rw (← written_is c.behind_number-end.ensures c.if-text-at.false) c.decimal_of-2.ensures
