use mathlib.Core.Path.{◌≡◌, refl}
use native.Mathlib.Omega.{arith}
use Rattle.json_grammar.specs.Part.{number_stop}
use Rattle.json_grammar.proofs.Passes.{passes_none, passes_one, skips}
use Rattle.json_number.proofs.Digits.{digit_goes}
use Rattle.json_number.proofs.digits_end.Goals as goal

pub loop-i-init : goal.loop-i-init
loop-i-init c =
    record { passed = λ n e. passes_none (number_stop n) _ _; none = λ h. refl }

pub loop-i-preserved : goal.loop-i-preserved
loop-i-preserved c = record {
  passed = λ n e. passes_one (c.loop-i.invariant.passed n e) c.loop-i-test.true (digit_goes n _ e (omega arith) (omega arith));
  none = λ h. absurd (omega arith);
}

pub returns : goal.returns
returns c =
    let e : c.max.result ≡ c.loop-i.i = grind arith in λ n t. rw e (skips (c.loop-i.invariant.passed n t))
