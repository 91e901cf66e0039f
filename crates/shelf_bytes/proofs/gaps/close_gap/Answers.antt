-- The bytes moved down, and zeros laid behind them.
use Rattle.shelf_bytes.proofs.GapLaws.{closed_up}
use native.Mathlib.Omega.{arith}
use Rattle.shelf_bytes.proofs.gaps.close_gap.Goals as goal

pub returns : goal.returns
returns c = closed_up c.args.area.now _ _ c.args.from c.args.size (omega arith) c.copy_within.ensures.len c.copy_within.ensures.after (c.fill.ensures.after (λ y e. e))
