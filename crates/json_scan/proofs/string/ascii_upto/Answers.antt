use mathlib.Core.Path.{◌≡◌, refl, sym, ◌∙◌}
use native.Mathlib.Omega.{arith}
use Rattle.json_grammar.specs.Part.{string_stop}
use Rattle.json_grammar.specs.declared.string.InString.TheVariants.{Plain}
use Rattle.json_grammar.proofs.Passes.{passes_none, passes_one, skips}
use Rattle.json_scan.proofs.Strings.{ascii_goes}
use Rattle.json_scan.proofs.string.ascii_upto.Goals as goal

pub loop-i-init : goal.loop-i-init
loop-i-init c =
    record { passed = passes_none (string_stop Plain) _ _; none = λ h. refl }

pub loop-i-preserved : goal.loop-i-preserved
loop-i-preserved c = record {
  passed = passes_one c.loop-i.invariant.passed (omega arith) (ascii_goes _ (sym c.is_ascii.ensures ∙ c.if-not-is_ascii.false));
  none = λ h. absurd (omega arith);
}

pub returns-then-not-is_ascii : goal.returns-then-not-is_ascii
returns-then-not-is_ascii c =
    skips c.loop-i.invariant.passed

pub returns : goal.returns
returns c =
    let e : c.max.result ≡ c.loop-i.i = grind arith in rw e (skips c.loop-i.invariant.passed)
