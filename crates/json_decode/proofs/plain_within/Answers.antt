use mathlib.Core.Path.{sym, ◌∙◌}
use native.Mathlib.Omega.{arith}
use Rattle.json_decode.specs.Characters.{spot_at}
use Rattle.json_decode.proofs.Runs.{run_none, run_ascii, run_char}
use Rattle.json_decode.proofs.plain_within.Goals as goal

pub loop-i-init : goal.loop-i-init
loop-i-init c =
    run_none _ (spot_at _)

pub loop-i-preserved-then-is_ascii : goal.loop-i-preserved-then-is_ascii
loop-i-preserved-then-is_ascii c =
    run_ascii c.loop-i.invariant c.loop-i-test.true (sym c.is_ascii.ensures ∙ c.if-is_ascii.true)

pub returns-then-most-i : goal.returns-then-most-i
returns-then-most-i c =
    run_char c.loop-i.invariant c.in-Some.ensures

pub loop-i-preserved : goal.loop-i-preserved
loop-i-preserved c =
    run_char c.loop-i.invariant c.in-Some.ensures
