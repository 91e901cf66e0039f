-- A time of day by its bytes.
use borrow.Author.Rules.{rules}
use Rattle.read_fields.proofs.DateLaws.{no_time, minutes_only, time_no_seconds, a_time, time_not_over}
use Rattle.read_fields.proofs.date.time_of.Goals as goal

pub returns-in_err-minutes : goal.returns-in_err-minutes
returns-in_err-minutes c =
    search (rules, no_time)

pub returns-then-bytes-eq5 : goal.returns-then-bytes-eq5
returns-then-bytes-eq5 c =
    minutes_only _ _ c.in_ok-minutes.ensures c.if-bytes-eq5.true

pub returns-in_err-second : goal.returns-in_err-second
returns-in_err-second c =
    search (rules, time_no_seconds c.args.bytes.now _ c.in_ok-minutes.ensures c.if-bytes-eq5.false)

pub returns-then-bytes-eq8 : goal.returns-then-bytes-eq8
returns-then-bytes-eq8 c =
    a_time _ _ c.in_ok-minutes.ensures c.if-bytes-eq5.false _ c.in_ok-second.ensures c.if-bytes-eq8.true

pub returns : goal.returns
returns c =
    time_not_over _ _ c.in_ok-minutes.ensures c.if-bytes-eq5.false _ c.in_ok-second.ensures c.if-bytes-eq8.false
