-- A text read, put again and compared.
use Rattle.shelf.proofs.PlainLaws.{too_long_for_plain, refused_none, plain_if_same}
use Rattle.shelf.proofs.plain_text.is_plain.Goals as goal

pub returns-then-text-gt-LONGEST_PLAIN : goal.returns-then-text-gt-LONGEST_PLAIN
returns-then-text-gt-LONGEST_PLAIN c = too_long_for_plain _ c.if-text-gt-LONGEST_PLAIN.true

pub returns-in-Ok : goal.returns-in-Ok
returns-in-Ok c = plain_if_same c.in-Ok.ensures c.eq.ensures

pub returns-in-Err : goal.returns-in-Err
returns-in-Err c = refused_none c.in-Err.ensures
