-- What is read makes the reading.
use mathlib.Core.Path.{◌∙◌}
use Rattle.posology.proofs.next.read_next.Goals as goal

pub returns : goal.returns
returns c =
    record { answer = c.answer_of.ensures ∙ c.next_words-r.ensures.answer; table = c.table_of.ensures ∙ c.next_words-r.ensures.table; left = c.next_words-r.ensures.left }
