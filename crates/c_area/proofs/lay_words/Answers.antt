-- The head's numbers and the records' fill the area.
use mathlib.Core.Path.{◌≡◌}
use native.Mathlib.Omega.{arith}
use lib.ListN.{length}
use borrow.Author.Tests.{eq-eqb}
use Rattle.c_area.proofs.Laid.{laid_out}
use Rattle.c_area.proofs.lay_words.Goals as goal

pub returns : goal.returns
returns c =
    let size : length c.args.area.now ≡ 3280 = omega arith in
    rw (eq-eqb _ _ size, c.lay_numbers-2.ensures (omega arith), c.lay_numbers.ensures (omega arith)) (laid_out _ _ _ _ _ _ c.head_numbers.ensures (omega arith) size)
