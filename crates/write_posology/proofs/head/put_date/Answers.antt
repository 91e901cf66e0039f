use Rattle.write_posology.proofs.HeadParts.{day_small, moment_small}
use Rattle.write_bytes.proofs.Laid.{lays_none, lays_then}
use Rattle.write_posology.proofs.head.put_date.Goals as goal

pub returns-in-Absent : goal.returns-in-Absent
returns-in-Absent c k v =
    rw c.in-Absent.is (lays_none _ k)

pub returns-in-Bare : goal.returns-in-Bare
returns-in-Bare c k v =
    let small = day_small _ (rw c.in-Bare.is at v) in
    rw c.in-Bare.is (lays_then (c.put_all.ensures _) (lays_then (c.put_day.ensures _ small.year small.month small.day) (c.put_all-in-Bare.ensures k)))

pub returns-in-Moment : goal.returns-in-Moment
returns-in-Moment c k v =
    let small = moment_small _ _ c.in-Moment.west _ (rw c.in-Moment.is at v) in
    let on = small.on in rw c.in-Moment.is (lays_then (c.put_all-in-Moment.ensures _) (lays_then (c.put_day-in-Moment.ensures _ on.year on.month on.day)
    (lays_then (c.put_moment.ensures _ small.second small.zone) (c.put_all-in-Moment-2.ensures k))))
