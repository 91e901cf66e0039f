use mathlib.Core.Path.{sym, ◌∙◌}
use mathlib.Core.List.{[], ◌∷◌}
use native.Mathlib.Omega.{arith}
use Rattle.json_grammar.specs.Walk as W
use Rattle.json_grammar.specs.Walk.{walk}
use Rattle.json_walk.specs.Frames.{frames}
use Rattle.json_grammar.proofs.Passes.{passes_none, passes_on, answers_end}
use Rattle.json_scan.proofs.Blanks.{no_blank}
use Rattle.json_walk.proofs.Walks.{walk_none, inside_blanks, refuses}
use Rattle.json_walk.proofs.inside_end.Goals as goal

pub loop-here-init : goal.loop-here-init
unfolding frames
loop-here-init c =
    rw (c.one.ensures.0, c.one.ensures.1) (passes_none (walk W.first_name (W.an_object ∷ [])) _ _)

pub turn_at-requires : goal.turn_at-requires
turn_at-requires c =
    (omega arith, no_blank c.blanks_end.ensures (omega arith))

pub returns-in_err-next : goal.returns-in_err-next
returns-in_err-next c =
    refuses _ _ c.from_residual.result (sym (inside_blanks c.loop-here.here c.loop-here.invariant c.blanks_end.ensures).same) c.in_err-next.ensures c.from_residual.ensures.1

pub loop-here-preserved : goal.loop-here-preserved
loop-here-preserved c =
    let t = rw c.in-Go.is at c.in_ok-next.ensures in
    passes_on (inside_blanks c.loop-here.here c.loop-here.invariant c.blanks_end.ensures) t.0 t.1 t.2

pub returns-in-End : goal.returns-in-End
returns-in-End c =
    let t = rw c.in-End.is at c.in_ok-next.ensures in
    (sym (inside_blanks c.loop-here.here c.loop-here.invariant c.blanks_end.ensures).same ∙ t.0, t.1)

pub returns-after-loop-here : goal.returns-after-loop-here
returns-after-loop-here c =
    (answers_end c.loop-here.invariant W.refused2 c.loop-here-test.false (walk_none _ _), omega arith)

pub returns-then-text-here : goal.returns-then-text-here
returns-then-text-here c =
    (answers_end (inside_blanks c.loop-here.here c.loop-here.invariant c.blanks_end.ensures) W.refused2 c.if-text-here.true (walk_none _ _), omega arith)
