use Rattle.json_grammar.proofs.Moves.{lead_start, lead_one, lead_end, lead_past, moved}
use Rattle.json_move.specs.Moving.{behind_string}
use mathlib.Core.List.{tail}
use Rattle.json_move.proofs.Skips.{string_closes, string_escapes, string_goes, string_over}
use Rattle.json_move.proofs.behind_string.Goals as goal

pub loop-i-init : goal.loop-i-init
loop-i-init c =
    lead_start _ _ _

pub returns-then-b-eq34 : goal.returns-then-b-eq34
returns-then-b-eq34 c =
    let l = c in
    moved (lead_one l.loop-i.invariant l.loop-i-test.true (string_closes _ c.if-b-eq34.true))

pub loop-i-preserved-then-b-eq92 : goal.loop-i-preserved-then-b-eq92
loop-i-preserved-then-b-eq92 c =
    let l = c in
    lead_past behind_string tail (lead_one l.loop-i.invariant l.loop-i-test.true (string_escapes _ c.if-b-eq34.false c.if-b-eq92.true)) c.behind_byte-i.ensures

pub loop-i-preserved : goal.loop-i-preserved
loop-i-preserved c =
    let l = c in
    lead_one l.loop-i.invariant l.loop-i-test.true (string_goes _ c.if-b-eq34.false c.if-b-eq92.false)

pub returns : goal.returns
returns c =
    moved (lead_end c.loop-i.invariant c.loop-i-test.false string_over)
