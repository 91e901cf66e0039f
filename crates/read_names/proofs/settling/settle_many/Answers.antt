use mathlib.Core.Path.{◌≡◌, refl, sym, ◌∙◌}
use lib.ListN.{length, length-replicate, get_or-replicate}
use Prim.Native.Nat.{ℕ}
use native.Mathlib.Omega.{arith}
use Rattle.read_names.proofs.Naming.{numbered}
use Rattle.read_names.proofs.Slotted.{Noted, noted_known, noted_other}
use Rattle.read_names.proofs.Members.{settled_end, settled_all, settled_twice}
use Rattle.read_names.proofs.Tabling.{tabling_none, tabled_twice, before_is, passed_free, passed_nowhere, tabling_on}
use Rattle.read_names.proofs.settling.settle_many.Goals as goal
use Rattle.read_names.proofs.settling.settle_many.Goals.{in-Free, in-Nowhere+else-stood_before, in-Some, in_default}

pub loop-init : goal.loop-init
loop-init c = (
  refl,
  λ p ms a.
      tabling_none a c.first_in-q.ensures (rw c.none.ensures) (λ i h. rw c.none.ensures (get_or-replicate 33 i 0 0 h))
      (length-replicate {A = ℕ} 8192 0) (λ j h. get_or-replicate 8192 j 0 0 h),
)

pub returns-then-at_end : goal.returns-then-at_end
returns-then-at_end c p ms a =
    settled_end (c.loop.invariant.1 p ms a).settling (sym c.at_end.ensures ∙ c.if-at_end.true)

pub returns-in-Stands : goal.returns-in-Stands
returns-in-Stands c p ms a =
    let t = c.loop.invariant.1 p ms a in
    settled_twice t.settling (sym c.at_end.ensures ∙ c.if-at_end.false) (tabled_twice t c.in-Stands.ensures)

pub returns-in-Nowhere : goal.returns-in-Nowhere
returns-in-Nowhere c p ms a =
    let t = c.loop.invariant.1 p ms a in
    settled_twice t.settling (sym c.at_end.ensures ∙ c.if-at_end.false) (before_is t (sym c.if-stood_before.true ∙ c.stood_before.ensures))

pub loop-preserved : goal.loop-preserved
loop-preserved c =
    let put : (c.match-m.object.members ≡ c.loop.object.members)
    × (length c.loop.object.slots.places ≡ 33 → Noted c.loop.object.slots.places (numbered c.named-m.result.name) c.named-m.result.value c.match-m.object.slots.places) =
    elim c.match-m.branch [
      | in-Some w ↦ rw (w.object-is, w.in-Some.is) (refl, λ size. noted_known _ _ size w.in-Some.name _ w.put.ensures)
      | in_default w ↦ rw (w.object-is, w.in_default.is) (refl, λ size. noted_other _ _ _ refl)
    ] in
    rw put.0 (
      omega (arith, c.loop.invariant.0),
      λ p ms a.
          let t = c.loop.invariant.1 p ms a in
          tabling_on t (sym c.at_end.ensures ∙ c.if-at_end.false) (omega (arith, c.loop.invariant.0))
          (elim c.match-look_up.branch [
            | in-Free w ↦ passed_free t w.in-Free.ensures _ w.table-is
            | in-Nowhere+else-stood_before w ↦ passed_nowhere t w.in-Nowhere.ensures (before_is t (sym w.if-stood_before.false ∙ w.stood_before.ensures)) _ w.table-is
          ])
          _ c.named-m.ensures.0 _ c.named-m.ensures.1 _ c.next_after-q.ensures _ (put.1 t.settling.size),
    )

pub returns : goal.returns
returns c p ms a =
    settled_all (c.loop.invariant.1 p ms a).settling (omega (arith, c.loop.invariant.0))
