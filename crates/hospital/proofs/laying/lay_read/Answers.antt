-- The words are made those of the records, and laid behind the head's numbers.
use mathlib.Core.Path.{◌∙◌}
use borrow.Author.Tests.{eq-eqb}
use Rattle.hospital.proofs.ReadLaid.{read_laid}
use Rattle.hospital.proofs.laying.lay_read.Goals as goal

pub returns : goal.returns
returns c =
    c.lay_words.ensures ∙ rw (eq-eqb _ _ c.requires) (read_laid c.args.head c.args.rows.now c.tidy.ensures c.head_of.ensures c.at_most.ensures)
