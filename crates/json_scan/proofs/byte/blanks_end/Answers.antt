use mathlib.Core.Path.{◌≡◌, sym, ◌∙◌}
use native.Mathlib.Omega.{arith}
use Rattle.json_grammar.specs.Byte.{blanked}
use Rattle.json_grammar.proofs.Moves.{lead_start, lead_here, lead_one, lead_end, moved}
use Rattle.json_scan.proofs.Blanks.{blank_goes, blank_stays, blanked_none}
use Rattle.json_scan.proofs.byte.blanks_end.Goals as goal

pub loop-i-init : goal.loop-i-init
loop-i-init c =
    lead_start blanked _ _

pub loop-i-preserved : goal.loop-i-preserved
loop-i-preserved c =
    lead_one c.loop-i.invariant c.loop-i-test.true (λ s. sym (blank_goes _ (sym c.is_blank.ensures ∙ c.if-not-is_blank.false) s))

pub returns-then-not-is_blank : goal.returns-then-not-is_blank
returns-then-not-is_blank c =
    moved (lead_here c.loop-i.invariant c.loop-i-test.true (λ s. sym (blank_stays _ (sym c.is_blank.ensures ∙ c.if-not-is_blank.true) s)))

pub returns : goal.returns
returns c =
    let e : c.max.result ≡ c.loop-i.i = grind arith in
    rw e (moved (lead_end c.loop-i.invariant c.loop-i-test.false (sym blanked_none)))
