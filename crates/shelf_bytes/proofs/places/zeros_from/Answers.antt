use mathlib.Core.Path.{refl, sym, ◌∙◌}
use native.Mathlib.Omega.{arith}
use Rattle.shelf_bytes.proofs.HeadLaws.{zeros_not, zeros_step, zeros_end}
use Rattle.shelf_bytes.proofs.places.zeros_from.Goals as goal

pub loop-at-init : goal.loop-at-init
loop-at-init c =
    refl

pub returns-then-area-at-ne0 : goal.returns-then-area-at-ne0
returns-then-area-at-ne0 c =
    sym (c.loop-at.invariant ∙ zeros_not c.args.area.now c.loop-at.at (omega arith) c.if-area-at-ne0.true)

pub loop-at-preserved : goal.loop-at-preserved
loop-at-preserved c =
    c.loop-at.invariant ∙ zeros_step c.args.area.now c.loop-at.at (omega arith) c.if-area-at-ne0.false

pub returns : goal.returns
returns c =
    sym (c.loop-at.invariant ∙ zeros_end c.args.area.now c.loop-at.at (omega arith))
