-- Details and sequences, which call one another.
use mathlib.Core.Path.{sym, ◌∙◌}
use native.Mathlib.Omega.{arith}
use borrow.Author.Rules.{rules}
use Rattle.table_rows.proofs.Standing.{behind_told}
use Rattle.write_details.proofs.Details.{prints_sequence, prints_posology, detail_tagged, detail_last}
use Rattle.write_details.proofs.Objects.{reaches_more, lists_reached}
use Rattle.write_details.proofs.detail.+details.Goals as goal

pub put_object-returns : goal.put_object-returns
put_object-returns t c =
    prints_posology (λ e. c.if-tag-eq-PAUSE.false (c.tag.ensures.here c.requires ∙ e)) c.put_span.ensures c.put_all.ensures c.put_detail.ensures c.put.ensures

pub put_objects-loop-r-preserved : goal.put_objects-loop-r-preserved
put_objects-loop-r-preserved t c =
    reaches_more c.loop-r.invariant c.put_comma.ensures c.put_object.ensures c.requires
    c.loop-r-test.true (omega (arith, c.behind-r.ensures)) (behind_told c.behind-r.ensures)

pub put_objects-returns : goal.put_objects-returns
put_objects-returns t c = lists_reached c.loop-r.invariant c.loop-r-test.false

pub put_sequence-returns : goal.put_sequence-returns
put_sequence-returns t c h = prints_sequence h (behind_told c.behind-end.ensures) c.put_all.ensures c.put_objects.ensures c.put_all-2.ensures

pub put_object-returns-then-tag-eq-PAUSE : goal.put_object-returns-then-tag-eq-PAUSE
put_object-returns-then-tag-eq-PAUSE t c =
    c.put_pause.ensures c.args.buffer.now c.args.left (sym (c.tag.ensures.here c.requires) ∙ c.if-tag-eq-PAUSE.true)

pub put_detail-returns-in-1 : goal.put_detail-returns-in-1
put_detail-returns-in-1 t c = detail_tagged c.tag.ensures.here c.in-1.is (c.put_daily.ensures c.args.buffer.now c.args.left)

pub put_detail-returns-in-2 : goal.put_detail-returns-in-2
put_detail-returns-in-2 t c = detail_tagged c.tag.ensures.here c.in-2.is (c.put_free_text.ensures c.args.left)

pub put_detail-returns-in-3 : goal.put_detail-returns-in-3
put_detail-returns-in-3 t c = detail_tagged c.tag.ensures.here c.in-3.is (c.put_single.ensures c.args.buffer.now c.args.left)

pub put_detail-returns-in-4 : goal.put_detail-returns-in-4
put_detail-returns-in-4 t c = detail_tagged c.tag.ensures.here c.in-4.is (c.put_cyclic.ensures c.args.buffer.now c.args.left)

pub put_detail-returns-in_default : goal.put_detail-returns-in_default
put_detail-returns-in_default t c t' k p =
    c.put_sequence.ensures (detail_last c.tag.ensures.here (search rules) (search rules) (search rules) (search rules) p) t' k p
