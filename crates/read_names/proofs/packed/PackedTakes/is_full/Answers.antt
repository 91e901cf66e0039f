use mathlib.Core.List.{append_assoc}
use borrow.Author.Tests.{eqb-true}
use Rattle.read_names.proofs.Packing.{letters_full}
use Rattle.read_names.proofs.packed.PackedTakes.is_full.Goals as goal

pub returns : goal.returns
returns c full start bytes more on name k =
    rw (← append_assoc) (letters_full _ more c.args.self (on name k) (eqb-true _ _ full))
