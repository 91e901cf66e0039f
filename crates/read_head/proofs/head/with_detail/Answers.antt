-- The detail, then the meal code, then the head's strings.
use mathlib.Core.Path.{◌∙◌}
use Rattle.read_fields.proofs.Refusals.{raised}
use Rattle.read_head.proofs.HeadDetail.{po_stops, meal_stops, detail_read}
use Rattle.read_head.proofs.head.with_detail.Goals as goal

pub returns-in_err-used : goal.returns-in_err-used
returns-in_err-used c es once x y z ex ey ez s tells =
    let h = po_stops c.args.at c.args.words.now c.read_po.new.words once x y z tells c.at.ensures c.in_err-used.field-0.0 (c.in_err-used.ensures.reads c.requires) in
    rw (raised c.from_residual.result c.from_residual.ensures.1) (record { answers = h.0; size = h.1 ∙ c.requires.0.size })

pub returns-in_err-meal : goal.returns-in_err-meal
returns-in_err-meal c es once x y z ex ey ez s tells =
    rw (raised c.from_residual-in_err-meal.result c.from_residual-in_err-meal.ensures.1) (record {
      answers = meal_stops c.args.at c.args.words.now c.read_po.new.words once x y z tells c.at.ensures (c.in_ok-used.ensures.reads c.requires) c.at-2.ensures c.in_err-meal.field-0.0 c.in_err-meal.ensures.counts_optional;
      size = (c.in_ok-used.ensures.kept c.requires).size ∙ c.requires.0.size;
    })

pub returns : goal.returns
returns c es once x y z ex ey ez s tells =
    detail_read c.args.at c.args.words.now c.read_po.new.words once x y z tells c.at.ensures (c.in_ok-used.ensures.reads c.requires) c.at-2.ensures c.in_ok-meal.meal c.in_ok-meal.ensures.counts_optional c.in_ok-meal.ensures.counts_still
    ex ey ez c.requires.0.size c.no_piece-p.result c.with_strings.result c.with_strings.ensures
