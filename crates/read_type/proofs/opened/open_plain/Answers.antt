-- A name stands twice, or the object is opened.
use Rattle.document.specs.Visit.{entries_of}
use Rattle.read_type.proofs.Opening.{twice_refused, plain_opened}
use Rattle.read_type.proofs.opened.open_plain.Goals as goal

pub returns-in-Ok : goal.returns-in-Ok
returns-in-Ok c p ms a =
    plain_opened c.args.at (c.in-Ok.ensures p ms a)

pub returns-in-Err : goal.returns-in-Err
returns-in-Err c p ms a =
    twice_refused (entries_of ms) c.args.at (c.in-Err.ensures p ms a)
