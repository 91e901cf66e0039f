use Prim.Native.Nat.{◌+◌, ◌-◌}
use mathlib.Core.Path.{◌≡◌, sym, ◌∙◌}
use native.Mathlib.Omega.{arith}
use Rattle.read_names.proofs.Before.{before_here, before_on, before_none}
use Rattle.read_names.proofs.settling.stood_before.Goals as goal

pub returns-then-names_same : goal.returns-then-names_same
returns-then-names_same c =
    before_here _ _ _ (omega arith) (sym c.if-names_same.true ∙ c.names_same.ensures) ∙ c.loop.invariant

pub loop-preserved : goal.loop-preserved
loop-preserved c =
    let z : c.args.members - (c.loop.counter + 1) ≡ c.args.members - c.loop.counter - 1 = omega arith in
    rw (c.next_after-q.ensures.lands, c.value_of.ensures.lands, z)
    (before_on _ _ _ (omega arith) (sym c.if-names_same.false ∙ c.names_same.ensures) ∙ c.loop.invariant)

pub returns : goal.returns
returns c =
    before_none _ _ _ (omega arith) ∙ c.loop.invariant
