-- A clock by its bytes.
use borrow.Author.Rules.{rules}
use native.Mathlib.Omega.{arith}
use Rattle.std.proofs.lemmas.Grind.{common_steps}
use Rattle.std.proofs.lemmas.Bool.Decides.{nat_tests}
use Rattle.read_fields.proofs.DateLaws.{no_minute, clock_tests}
use Rattle.read_fields.proofs.date.clock_at.Goals as goal

pub returns-in_err-minute : goal.returns-in_err-minute
returns-in_err-minute c =
    search (rules, no_minute)

pub returns-then-minute-le59 : goal.returns-then-minute-le59
returns-then-minute-le59 c =
    let e = clock_tests _ _ _ c.in_ok-hour.ensures _ c.in_ok-minute.ensures in
    record { outcome = grind (arith, common_steps, nat_tests); small = omega arith; inside = omega (arith, c.in_ok-minute.ensures.inside) }

pub returns : goal.returns
returns c =
    let e = clock_tests _ _ _ c.in_ok-hour.ensures _ c.in_ok-minute.ensures in
    grind (arith, common_steps, nat_tests)
