use mathlib.Core.Path.{sym, ◌∙◌}
use native.Mathlib.Omega.{arith}
use Rattle.json_grammar.specs.Part.{past, torn, string_stop}
use Rattle.json_grammar.specs.declared.string.InString.TheVariants.{Plain}
use Rattle.json_grammar.proofs.Passes.{passes_none, passes_one, answers_here, answers_end, skipped}
use Rattle.json_scan.proofs.Strings.{string_goes, string_closes, string_refuses, string_none}
use Rattle.json_scan.proofs.string.states_end.Goals as goal

pub loop-i-init : goal.loop-i-init
loop-i-init c =
    passes_none (string_stop Plain) _ _

pub loop-i-preserved : goal.loop-i-preserved
loop-i-preserved c =
    let e = sym c.char_after.ensures ∙ c.in-Goes.is in
    skipped (passes_one c.loop-i.invariant c.loop-i-test.true (string_goes _ _ e)) c.ascii_skipped-i.ensures

pub returns-in-Closes : goal.returns-in-Closes
returns-in-Closes c =
    let e = sym c.char_after.ensures ∙ c.in-Closes.is in
    let p = passes_one c.loop-i.invariant c.loop-i-test.true {k = past} (string_closes _ _ e) in
    (sym p.same, p.ahead, omega arith)

pub returns-in-Refuses : goal.returns-in-Refuses
returns-in-Refuses c =
    let e = sym c.char_after.ensures ∙ c.in-Refuses.is in
    (answers_here c.loop-i.invariant c.loop-i-test.true torn (string_refuses _ _ e), omega arith)

pub returns : goal.returns
returns c =
    (answers_end c.loop-i.invariant torn c.loop-i-test.false (string_none _), omega arith)
