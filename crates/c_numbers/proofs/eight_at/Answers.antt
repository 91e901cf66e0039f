use native.Mathlib.Omega.{arith}
use Rattle.c_numbers.proofs.Straight.{eight_first}
use Rattle.c_numbers.proofs.eight_at.Goals as goal

pub returns : goal.returns
returns c =
    omega (arith, c.from_le_bytes.ensures, eight_first c.args.at c.args.bytes.now)
