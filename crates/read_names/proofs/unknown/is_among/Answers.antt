use mathlib.Core.Path.{◌∙◌}
use Rattle.read_names.proofs.Naming.{among}
use Rattle.read_names.proofs.unknown.is_among.Goals as goal

pub returns-in-Some : goal.returns-in-Some
returns-in-Some c =
    rw c.in-Some.is (c.contains.ensures.value ∙ among c.in-Some.n c.args.known.now)
