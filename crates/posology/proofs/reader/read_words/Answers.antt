-- "Order: 17; 1; then the whole text for 2 and 3 .. Then objects in visiting order."
use mathlib.Core.Path.{sym, ◌∙◌}
use Rattle.read_fields.proofs.Refusals.{raised}
use Rattle.posology.proofs.Answers.{refused_made, reads_on, text_walked}
use Rattle.posology.proofs.reader.read_words.Goals as goal

pub returns-in_err-one_text : goal.returns-in_err-one_text
returns-in_err-one_text c =
    rw (raised c.from_residual.result c.from_residual.ensures.1)
    (reads_on c.args.purpose c.args.text.now c.args.strings.now _ _ _ (sym c.in_err-one_text.was ∙ c.one_text.ensures) (refused_made c.in_err-one_text.field-0.0 _ _))

pub walked_words-requires : goal.walked_words-requires
walked_words-requires c =
    text_walked c.args.purpose c.args.text.now (sym c.in_ok-one_text.was ∙ c.one_text.ensures)

pub returns : goal.returns
returns c =
    reads_on c.args.purpose c.args.text.now c.args.strings.now _ _ _ (sym c.in_ok-one_text.was ∙ c.one_text.ensures) c.walked_words.ensures
