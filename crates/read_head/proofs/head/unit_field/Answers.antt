-- The unit by its row.
use borrow.Author.Tests.{eq-eqb, ne_eqb}
use Rattle.read_head.proofs.Pieces.{unit_needed}
use Rattle.read_head.proofs.head.unit_field.Goals as goal

pub returns-then-terms-eq3-clause-reads_unit : goal.returns-then-terms-eq3-clause-reads_unit
returns-then-terms-eq3-clause-reads_unit c =
    rw (eq-eqb c.args.terms.purpose 3 c.if-terms-eq3.true) (λ f slot. c.optional_text.ensures.reads_optional_text f slot _)

pub returns-clause-reads_unit : goal.returns-clause-reads_unit
returns-clause-reads_unit c =
    rw (ne_eqb c.args.terms.purpose 3 c.if-terms-eq3.false)
    (unit_needed c.args.terms c.args.text.now c.args.brace c.args.v c.args.used c.text_field.result (c.text_field.ensures.reads_text c.requires))
