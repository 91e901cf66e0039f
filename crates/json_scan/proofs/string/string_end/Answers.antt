use mathlib.Core.Path.{sym}
use native.Mathlib.Omega.{arith}
use Rattle.json_grammar.specs.Part.{past, string_stop}
use Rattle.json_grammar.specs.declared.string.InString.TheVariants.{Plain}
use Rattle.json_grammar.proofs.Passes.{passes_none, passes_one, passes_on, skipped}
use Rattle.json_scan.proofs.Strings.{string_closes, quote_closes, stops_from}
use Rattle.json_scan.proofs.string.string_end.Goals as goal

pub loop-i-init : goal.loop-i-init
loop-i-init c =
    skipped (passes_none (string_stop Plain) _ _) c.ascii_end-i.ensures

pub returns-then-text-i-eq34 : goal.returns-then-text-i-eq34
returns-then-text-i-eq34 c =
    let p = passes_one c.loop-i.invariant c.loop-i-test.true {k = past} (string_closes Plain _ (quote_closes _ c.if-text-i-eq34.true)) in
    (sym p.same, p.ahead, omega arith)

pub returns-in-None : goal.returns-in-None
returns-in-None c =
    let l = c.loop-i.invariant in
    stops_from _ _ _ c.states_end.result (sym l.same) l.ahead c.states_end.ensures

pub overflow_add-i : goal.overflow_add-i
overflow_add-i c =
    omega (arith, c.in-Some.ensures.inside)

pub loop-i-smaller : goal.loop-i-smaller
loop-i-smaller c =
    omega (arith, c.in-Some.ensures.forward, c.in-Some.ensures.inside)

pub loop-i-preserved : goal.loop-i-preserved
loop-i-preserved c =
    let o = c.in-Some.ensures in
    skipped (passes_on c.loop-i.invariant o.same (omega (arith, o.forward)) o.inside) c.ascii_end-i-in-Some.ensures

pub returns : goal.returns
returns c =
    let l = c.loop-i.invariant in
    stops_from _ _ _ c.states_end-2.result (sym l.same) l.ahead c.states_end-2.ensures
