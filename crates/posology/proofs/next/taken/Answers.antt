-- The answer to the text, with the place behind it.
use Rattle.document.specs.Answer.{terms_of, read_walked}
use Rattle.read_fields.proofs.Refusals.{raised}
use Rattle.posology.proofs.Runs.{next_taken, next_refused}
use Rattle.posology.proofs.next.taken.Goals as goal

pub returns-in_err-head : goal.returns-in_err-head
returns-in_err-head c =
    let w = read_walked (terms_of c.args.purpose c.args.strings.now) c.args.run.now in
    rw (raised c.from_residual.result c.from_residual.ensures.1) (next_refused c.args.e _ c.args.strings.now c.in_err-head.field-0.0 w c.in_err-head.ensures)

pub returns : goal.returns
returns c =
    let w = read_walked (terms_of c.args.purpose c.args.strings.now) c.args.run.now in
    next_taken c.args.e _ c.args.strings.now c.in_ok-head.head w c.in_ok-head.ensures
