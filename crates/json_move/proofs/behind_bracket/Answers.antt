use lib.ListN.{get_or}
use native.Mathlib.Omega.{arith}
use borrow.Author.Rules.{rules}
use Rattle.json_move.specs.Moving.{behind_string, opens, behind_bracket}
use Rattle.json_grammar.proofs.Moves.{lead_start, lead_one, lead_past, lead_end, moved}
use Rattle.json_move.proofs.Skips.{bracket_quotes, bracket_on, bracket_last, bracket_blank, bracket_over, at_most_one}
use Rattle.json_move.proofs.behind_bracket.Goals as goal

pub loop-i-init : goal.loop-i-init
loop-i-init c =
    (lead_start _ _ _, omega arith, omega arith)

pub loop-i-preserved-then-b-eq34 : goal.loop-i-preserved-then-b-eq34
loop-i-preserved-then-b-eq34 c =
    let l = c in
    (lead_past (λ s. behind_bracket s _) behind_string (lead_one l.loop-i.invariant.0 l.loop-i-test.true (bracket_quotes _ _ c.if-b-eq34.true)) c.behind_string-i.ensures, search rules, search rules)

pub open_behind-open-requires : goal.open_behind-open-requires
open_behind-open-requires c =
    let l = c in (l.loop-i.invariant.1, omega (arith, l.loop-i.invariant.2, l.loop-i-test.true, l.well_formed))

pub returns-then-open-eq0 : goal.returns-then-open-eq0
returns-then-open-eq0 c =
    let l = c in
    let o = c.open_behind-open in
    moved (lead_one l.loop-i.invariant.0 l.loop-i-test.true (bracket_last _ _ o.result c.if-b-eq34.false l.loop-i.invariant.1 o.ensures c.if-open-eq0.true))

pub loop-i-preserved-else-open-eq0 : goal.loop-i-preserved-else-open-eq0
loop-i-preserved-else-open-eq0 c =
    let l = c in
    let o = c.open_behind-open in
    (lead_one l.loop-i.invariant.0 l.loop-i-test.true (bracket_on _ _ o.result c.if-b-eq34.false l.loop-i.invariant.1 o.ensures c.if-open-eq0.false), omega (arith, c.if-open-eq0.false), omega (arith, o.ensures, at_most_one (opens (get_or l.args.text.now l.loop-i.i 0)), l.loop-i.invariant.2))

pub loop-i-preserved : goal.loop-i-preserved
loop-i-preserved c =
    let l = c in
    (lead_one l.loop-i.invariant.0 l.loop-i-test.true (bracket_blank _ _ c.if-b-gt32.false), l.loop-i.invariant.1, omega (arith, l.loop-i.invariant.2))

pub returns : goal.returns
returns c =
    moved (lead_end c.loop-i.invariant.0 c.loop-i-test.false (bracket_over _))
