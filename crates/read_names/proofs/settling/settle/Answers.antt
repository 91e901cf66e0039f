use mathlib.Core.Path.{refl, sym, ap, ◌∙◌}
use lib.ListN.{get_or-replicate}
use native.Mathlib.Omega.{arith}
use Rattle.std.specs.Option.{is_some}
use Rattle.read_names.proofs.Slotted.{noted_known}
use Rattle.read_names.proofs.Members.{settling_none, settled_end, stood, settled_twice, settling_on}
use Rattle.read_names.proofs.settling.settle.Goals as goal

pub loop-init : goal.loop-init
loop-init c = (
  refl,
  λ p ms a. settling_none a c.first_in-q.ensures (rw c.none.ensures) (λ i h. rw c.none.ensures (get_or-replicate 33 i 0 0 h)),
)

pub returns-then-at_end : goal.returns-then-at_end
returns-then-at_end c p ms a =
    settled_end (c.loop.invariant.1 p ms a) (sym c.at_end.ensures ∙ c.if-at_end.true)

pub returns-then-is_some : goal.returns-then-is_some
returns-then-is_some c p ms a =
    let s = c.loop.invariant.1 p ms a in
    let named = sym c.in-Some.is ∙ c.named-m.ensures.0 in
    settled_twice s (sym c.at_end.ensures ∙ c.if-at_end.false)
    (sym (stood s c.in-Some.name named) ∙ ap is_some (sym c.at.ensures) ∙ sym c.is_some.ensures ∙ c.if-is_some.true)

pub loop-preserved : goal.loop-preserved
loop-preserved c = (
  omega (arith, c.loop.invariant.0),
  λ p ms a.
      let s = c.loop.invariant.1 p ms a in
      let named = sym c.in-Some.is ∙ c.named-m.ensures.0 in
      settling_on s (sym c.at_end.ensures ∙ c.if-at_end.false)
      (sym (stood s c.in-Some.name named) ∙ ap is_some (sym c.at.ensures) ∙ sym c.is_some.ensures ∙ c.if-is_some.false)
      (omega (arith, c.loop.invariant.0)) _ named _ c.named-m.ensures.1 _ c.next_after-q.ensures _
      (noted_known _ _ s.size c.in-Some.name _ c.put.ensures),
)
