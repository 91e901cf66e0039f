-- The marked days as bits, a day after the other.
use mathlib.Core.Bool.{true, false}
use native.Mathlib.Omega.{arith}
use Rattle.read_fields.proofs.DayLaws.{gather_start, gather_more, gathered_small}
use Rattle.read_fields.proofs.days.set_of.Goals as goal
use Rattle.read_fields.proofs.days.set_of.Goals.{then-stood-k, else-stood-k}

pub loop-k-init : goal.loop-k-init
loop-k-init c =
    gather_start c.args.stood.now

pub overflow_add-set : goal.overflow_add-set
overflow_add-set c =
    let small = gathered_small c.args.stood.now c.loop-k.set c.loop-k.power c.loop-k.k c.loop-k.invariant in
    elim c.if-stood-k.branch [ then-stood-k w ↦ omega (arith, small.0, small.1, w.set-is) | else-stood-k w ↦ omega (arith, small.0, w.set-is) ]

pub loop-k-preserved : goal.loop-k-preserved
loop-k-preserved c =
    let more = gather_more c.args.stood.now c.loop-k.set c.loop-k.power c.loop-k.k c.loop-k.invariant c.loop-k-test.true in
    elim c.if-stood-k.branch [ then-stood-k w ↦ rw w.set-is (more true w.if-stood-k.true) | else-stood-k w ↦ rw w.set-is (more false w.if-stood-k.false) ]
