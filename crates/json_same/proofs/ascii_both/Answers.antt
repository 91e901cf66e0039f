use mathlib.Core.Path.{sym, ◌∙◌}
use native.Mathlib.Omega.{arith}
use Rattle.json_same.proofs.Pairs.{paired_one}
use Rattle.json_same.proofs.ascii_both.Goals as goal

pub loop-n-preserved : goal.loop-n-preserved
loop-n-preserved c =
    paired_one c.loop-n.invariant (omega arith) (omega arith) c.if-b-text.false (sym c.is_ascii.ensures ∙ c.if-not-is_ascii.false)
