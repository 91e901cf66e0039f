-- Seconds behind minutes.
use borrow.Author.Rules.{rules}
use native.Mathlib.Omega.{arith}
use Rattle.std.proofs.lemmas.Grind.{common_steps}
use Rattle.std.proofs.lemmas.Bool.Decides.{nat_tests}
use Rattle.read_fields.proofs.DateLaws.{no_second, second_tests}
use Rattle.read_fields.proofs.date.seconds_at.Goals as goal

pub returns-in_err-second : goal.returns-in_err-second
returns-in_err-second c =
    search (rules, no_second)

pub returns-then-second-le59 : goal.returns-then-second-le59
returns-then-second-le59 c =
    let e = second_tests _ _ c.args.minutes _ c.in_ok-second.ensures in
    record { outcome = grind (arith, common_steps, nat_tests); small = omega arith; inside = omega (arith, c.in_ok-second.ensures.inside) }

pub returns : goal.returns
returns c =
    let e = second_tests _ _ c.args.minutes _ c.in_ok-second.ensures in
    grind (arith, common_steps, nat_tests)
