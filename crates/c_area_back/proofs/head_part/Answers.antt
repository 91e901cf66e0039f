-- The head's part of an area: what its numbers are read as, and whether these are its numbers.
use mathlib.Core.Path.{sym, ◌∙◌}
use borrow.Author.Tests.{not-false, not-true}
use Rattle.std.proofs.lemmas.Bool.Decides.{not_from_Decides}
use Rattle.std.proofs.lemmas.Slice.Eq.{bytes_eq-Decides}
use Rattle.c_area_back.proofs.Groups.{part_is, other_is}
use Rattle.c_area_back.proofs.head_part.Goals as goal

pub returns-then-ne : goal.returns-then-ne
returns-then-ne c =
    other_is _ _ _ _ c.numbers_from-numbers.ensures c.head_in-head.ensures c.head_numbers.ensures
    (not_from_Decides _ (bytes_eq-Decides _ _) (not-true _ (sym c.ne.ensures ∙ c.if-ne.true)))

pub returns : goal.returns
returns c =
    part_is _ _ _ _ c.numbers_from-numbers.ensures c.head_in-head.ensures c.head_numbers.ensures
    ((bytes_eq-Decides _ _).0 (not-false _ (sym c.ne.ensures ∙ c.if-ne.false)))
