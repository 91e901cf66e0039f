-- A calendar day by its bytes.
use native.Mathlib.Omega.{arith}
use Rattle.std.proofs.lemmas.Grind.{common_steps}
use Rattle.std.proofs.lemmas.Bool.Decides.{nat_tests}
use Rattle.read_fields.proofs.DateLaws.{day_tests}
use Rattle.read_fields.proofs.date.day_of.Goals as goal

pub returns-then-is_day : goal.returns-then-is_day
returns-then-is_day c =
    let e = day_tests _ _ c.in_ok-year.ensures _ c.in_ok-month.ensures _ c.in_ok-day.ensures in
    record { outcome = grind (arith, common_steps, nat_tests); small = record { year = c.in_ok-year.ensures.small; month = c.in_ok-month.ensures.small; day = c.in_ok-day.ensures.small }; inside = c.in_ok-day.ensures.inside }

pub returns : goal.returns
returns c =
    let e = day_tests _ _ c.in_ok-year.ensures _ c.in_ok-month.ensures _ c.in_ok-day.ensures in
    grind (arith, common_steps, nat_tests)
