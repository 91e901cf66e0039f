-- Blanks, the brace, and the walk from behind it.
use mathlib.Core.Path.{◌≡◌}
use lib.ListN.{length}
use native.Mathlib.Omega.{arith}
use Rattle.json_grammar.specs.Walk as W
use Rattle.json_grammar.proofs.Passes.{passes_one, answers_here, answers_end}
use Rattle.json_scan.proofs.Blanks.{no_blank}
use Rattle.json_walk.proofs.Walks.{walk_none, top_blanks, top_refuses, top_opens}
use Rattle.json_walk.proofs.first_object.Goals as goal
use Rattle.json_walk.proofs.first_object.Goals.{else-start-text-via-then-start-text+else-text-start-eq123, else-start-text-via-else-start-text}

pub returns-then-text-start-eq123 : goal.returns-then-text-start-eq123
returns-then-text-start-eq123 c =
    let v = c.blanks_end-start.ensures in
    let h = c.if-start-text.true in
    rw (passes_one (top_blanks v) h (top_opens _ (no_blank v h) c.if-text-start-eq123.true)).same at c.inside_end.ensures

pub returns-else-start-text : goal.returns-else-start-text
returns-else-start-text c =
    let v = c.blanks_end-start.ensures in
    elim c.else-start-text.branch [
      | else-start-text-via-then-start-text+else-text-start-eq123 w ↦
          let h = w.if-start-text.true in
          (answers_here (top_blanks v) h W.refused2 (top_refuses _ (no_blank v h) w.if-text-start-eq123.false), omega arith)
      | else-start-text-via-else-start-text w ↦
          let inside = v.inside (omega arith) in
          let e : c.blanks_end-start.result ≡ length c.args.text.now = omega (arith, inside) in
          (rw e (answers_end (top_blanks v) W.refused2 w.if-start-text.false (walk_none _ _)), inside)
    ]
