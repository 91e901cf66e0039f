-- `document_numbers::integer_of` meets its contract: each answer follows from the parts found by then (Answers).
use native.Mathlib.Omega.{arith}
use Rattle.document_figures.proofs.Bytes.{up_one}
use Rattle.document_numbers.proofs.Answers.{parts, integers}
use Rattle.document_numbers.proofs.integer_of.Goals as goal

pub returns-then-not-is_carried : goal.returns-then-not-is_carried
returns-then-not-is_carried c =
    search integers

pub returns-then-is_negative : goal.returns-then-is_negative
returns-then-is_negative c =
    search integers

pub slice_bounds-counted-end : goal.slice_bounds-counted-end
slice_bounds-counted-end c =
    search parts

pub counted-whole-requires : goal.counted-whole-requires
counted-whole-requires c =
    search parts

pub overflow_add-whole : goal.overflow_add-whole
overflow_add-whole c =
    omega (arith, c.rounding.ensures, up_one c.fraction_at-fraction.result.now)

pub returns : goal.returns
returns c =
    search integers
