use native.Mathlib.Omega.{arith}
use Rattle.check_table.proofs.Details.{object_inside, object_few, detail_still, detail_free, detail_rest, object_pause, object_posology, objects_last, objects_more, objects_over}
use Rattle.check_table.proofs.Checked.{refuted}
use Rattle.check_table.proofs.check.+details.Goals as goal

pub detail-returns-then-still : goal.detail-returns-then-still
detail-returns-then-still t c =
    detail_still (c.still.ensures.yes c.if-still.true)

pub detail-returns-then-free_text : goal.detail-returns-then-free_text
detail-returns-then-free_text t c =
    let f = c.free_text.ensures.yes c.if-free_text.true in detail_free f (c.b.ensures.here f.row.inside)

pub detail-returns : goal.detail-returns
detail-returns t c =
    detail_rest (c.still.ensures.no c.if-still.false) (c.free_text.ensures.no c.if-free_text.false) c.sequence.ensures

pub object-returns-then-row : goal.object-returns-then-row
object-returns-then-row t c =
    object_pause (c.row.ensures.yes c.if-row.true)

pub object-returns : goal.object-returns
object-returns t c =
    object_posology (c.row-2.ensures.yes c.if-not-row.false) (λ h. (c.nested.ensures h).yes c.if-not-nested.false) c.detail.ensures

pub objects-overflow_add-at : goal.objects-overflow_add-at
objects-overflow_add-at t c =
    let o = c.object.ensures.yes _ c.in_ok-used.was in omega (arith, object_inside o, object_few o, c.below.ensures.here (object_inside o))

pub objects-overflow_add-at-in-loop-at : goal.objects-overflow_add-at-in-loop-at
objects-overflow_add-at-in-loop-at t c =
    let o = c.object.ensures.yes _ c.in_ok-used.was in omega (arith, object_inside o, object_few o, c.below.ensures.here (object_inside o))

pub objects-returns-then-at-end : goal.objects-returns-then-at-end
objects-returns-then-at-end t c =
    objects_last c.loop-at.invariant c.object.ensures c.in_ok-used.was (omega (arith, c.below.ensures.here (object_inside (c.object.ensures.yes _ c.in_ok-used.was)), c.if-at-end.true))

pub objects-loop-at-preserved : goal.objects-loop-at-preserved
objects-loop-at-preserved t c =
    objects_more c.in_ok-used.used _ c.loop-at.invariant c.object.ensures c.in_ok-used.was (omega (arith, c.below.ensures.here (object_inside (c.object.ensures.yes _ c.in_ok-used.was)))) c.if-at-end.false

pub objects-returns : goal.objects-returns
objects-returns t c =
    refuted (λ u. objects_over c.loop-at.invariant c.loop-at-test.false)
