use mathlib.Core.Path.{◌∙◌}
use native.Mathlib.Omega.{arith}
use Rattle.c_numbers.proofs.Straight.{eight_copied}
use Rattle.c_numbers.proofs.put.Goals as goal

pub returns : goal.returns
returns c =
    eight_copied _ _ _ (c.copy_from_slice.ensures.after ∙ c.to_le_bytes.ensures) (omega arith) c.requires
