use Prim.Native.Nat.{◌+◌, ◌/◌}
use native.Mathlib.Omega.{arith}
use Rattle.write_details.proofs.Pieces.{lays_at}
use Rattle.write_details.proofs.Days.{LaysDays, days_none, day_more, day_less, days_all}
use Rattle.write_details.proofs.timed.put_days.Goals as goal
use Rattle.write_details.proofs.timed.put_days.Goals.{then-left-eq1, else-left-eq1}

pub loop-day-init : goal.loop-day-init
loop-day-init c =
    days_none c.args.out.now c.args.last c.args.set

pub loop-day-preserved : goal.loop-day-preserved
loop-day-preserved c =
    elim c.if-left-eq1.branch [
      | then-left-eq1 w ↦ λ k. rw w.later-is (lays_at w.out-is (day_more c.args.last c.args.set c.loop-day.later c.loop-day.day c.loop-day.left c.loop-day.invariant (omega arith) c.requires w.if-left-eq1.true w.put_comma.ensures w.put_digits.ensures k))
      | else-left-eq1 w ↦ λ k. rw w.later-is (lays_at w.out-is (day_less c.args.last c.args.set c.loop-day.later c.loop-day.day c.loop-day.left c.loop-day.invariant (omega arith) w.if-left-eq1.false k))
    ]

pub returns : goal.returns
returns c =
    days_all c.args.last c.args.set c.loop-day.later c.loop-day.day c.loop-day.left c.loop-day.invariant (omega arith)

pub returns-after-left-eq1 : goal.returns-after-left-eq1
returns-after-left-eq1 c =
    let day : LaysDays c.args.out.now c.args.last c.args.set c.if-left-eq1.later (c.loop-day.day + 1) (c.loop-day.left / 2) c.if-left-eq1.out = elim c.if-left-eq1.branch [
      | then-left-eq1 w ↦ λ k. rw w.later-is (lays_at w.out-is (day_more c.args.last c.args.set c.loop-day.later c.loop-day.day c.loop-day.left c.loop-day.invariant (omega arith) c.requires w.if-left-eq1.true w.put_comma.ensures w.put_digits.ensures k))
      | else-left-eq1 w ↦ λ k. rw w.later-is (lays_at w.out-is (day_less c.args.last c.args.set c.loop-day.later c.loop-day.day c.loop-day.left c.loop-day.invariant (omega arith) w.if-left-eq1.false k))
    ] in
    days_all c.args.last c.args.set c.if-left-eq1.later (c.loop-day.day + 1) (c.loop-day.left / 2) day (omega arith)
