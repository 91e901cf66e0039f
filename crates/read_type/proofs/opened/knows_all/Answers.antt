-- The first name that is none of the object's.
use mathlib.Core.Path.{refl}
use Rattle.read_type.proofs.opened.knows_all.Goals as goal

pub returns-in-Some : goal.returns-in-Some
returns-in-Some c row p ms a once =
    let told = c.in-Some.ensures row p ms a once in (refl, told.0, told.1)
