-- The packed bytes tell the name.
use mathlib.Core.Path.{◌∙◌}
use Rattle.read_names.proofs.Numbered.{short_packed, long_packed, other_tail, other_head}
use Rattle.read_names.proofs.names.name_of.Goals as goal
use Rattle.read_names.proofs.names.name_of.Goals.{else-p-eq99484294934261363-via-then-p-eq99484294934261363+else-p-eq95346, else-p-eq99484294934261363-via-else-p-eq99484294934261363}

pub returns-then-p-eq1 : goal.returns-then-p-eq1
returns-then-p-eq1 c name k =
    c.short_name.ensures ∙ short_packed name _ k c.if-p-eq1.true

pub returns-then-p-eq95346 : goal.returns-then-p-eq95346
returns-then-p-eq95346 c name k =
    long_packed name _ k c.if-p-eq99484294934261363.true c.if-p-eq95346.true

pub returns : goal.returns
returns c name k =
    elim c.else-p-eq99484294934261363.branch [
      | else-p-eq99484294934261363-via-then-p-eq99484294934261363+else-p-eq95346 w ↦ other_tail name _ k c.if-p-eq1.false w.if-p-eq95346.false
      | else-p-eq99484294934261363-via-else-p-eq99484294934261363 w ↦ other_head name _ k c.if-p-eq1.false w.if-p-eq99484294934261363.false
    ]
