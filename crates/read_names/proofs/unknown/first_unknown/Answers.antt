use Prim.Native.Nat.{◌+◌, ◌-◌}
use mathlib.Core.Path.{◌≡◌, sym, ap, ◌∙◌}
use mathlib.Core.Bool.{not}
use lib.ListN.{length}
use native.Mathlib.Omega.{arith}
use Rattle.read_names.specs.Names.{members_in, is_among}
use Rattle.read_names.proofs.Unknowns.{unknown_end, unknown_none, unknown_here, unknown_on, not_behind}
use Rattle.read_names.proofs.unknown.first_unknown.Goals as goal

pub loop-init : goal.loop-init
unfolding members_in
loop-init c =
    let z : length c.args.text.now - 0 ≡ length c.args.text.now = omega arith in rw (c.first_in-q.ensures.lands, z)

pub returns-then-at_end : goal.returns-then-at_end
returns-then-at_end c h =
    sym c.loop.invariant ∙ unknown_end c.args.known.now _ _ (sym c.at_end.ensures ∙ c.if-at_end.true)

pub returns-then-not-is_among : goal.returns-then-not-is_among
returns-then-not-is_among c h =
    let e = sym c.at_end.ensures ∙ c.if-at_end.false in
    let n = ap (λ o. is_among o c.args.known.now) (sym c.named-m.ensures.0) ∙ sym c.is_among.ensures in
    (sym c.loop.invariant ∙ unknown_here c.args.known.now _ _ (omega arith) e (ap not n ∙ (ap not c.if-not-is_among.true)), not_behind _ _ e)

pub loop-preserved : goal.loop-preserved
loop-preserved c =
    let e = sym c.at_end.ensures ∙ c.if-at_end.false in
    let n = ap (λ o. is_among o c.args.known.now) (sym c.named-m.ensures.0) ∙ sym c.is_among.ensures in
    let z : length c.args.text.now - (c.loop.counter + 1) ≡ length c.args.text.now - c.loop.counter - 1 = omega arith in
    rw (c.next_after-q.ensures.lands, c.named-m.ensures.1.lands, z)
    (unknown_on c.args.known.now _ _ (omega arith) e (ap not n ∙ (ap not c.if-not-is_among.false)) ∙ c.loop.invariant)

pub returns : goal.returns
returns c h =
    sym c.loop.invariant ∙ unknown_none c.args.known.now _ _ (omega arith)
