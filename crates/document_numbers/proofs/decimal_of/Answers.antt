-- `document_numbers::decimal_of` meets its contract: each answer follows from the parts found by then (Answers).
use Rattle.document_numbers.proofs.Answers.{parts, decimals}
use Rattle.document_numbers.proofs.decimal_of.Goals as goal

pub returns-then-not-is_carried : goal.returns-then-not-is_carried
returns-then-not-is_carried c =
    search decimals

pub returns-then-not-has_millionths : goal.returns-then-not-has_millionths
returns-then-not-has_millionths c =
    search decimals

pub returns-then-is_negative : goal.returns-then-is_negative
returns-then-is_negative c =
    search decimals

pub slice_bounds-counted-end : goal.slice_bounds-counted-end
slice_bounds-counted-end c =
    search parts

pub counted-whole-requires : goal.counted-whole-requires
counted-whole-requires c =
    search parts

pub returns-then-whole-gt-MOST : goal.returns-then-whole-gt-MOST
returns-then-whole-gt-MOST c =
    search decimals

pub returns : goal.returns
returns c =
    search decimals
