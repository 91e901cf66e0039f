-- The head: its object opened, its names known, the dates and the mark; then the rest.
use mathlib.Core.Path.{refl}
use Rattle.read_fields.proofs.Refusals.{raised}
use Rattle.read_head.proofs.HeadOpens.{not_opened, unknown_name, from_stops, to_stops, mark_stops, head_read}
use Rattle.read_head.proofs.head.head_at.Goals as goal

pub returns-in_err-o : goal.returns-in_err-o
returns-in_err-o c s tells p ms stands =
    rw (raised c.from_residual.result c.from_residual.ensures.1) (record { answers = not_opened tells stands c.in_err-o.field-0.0 (c.in_err-o.ensures p ms stands); size = c.requires.0.size })

pub returns-in_err-knows_all : goal.returns-in_err-knows_all
returns-in_err-knows_all c s tells p ms stands =
    let plain = c.in_ok-o.ensures p ms stands in
    rw (raised c.from_residual-in_err-knows_all.result c.from_residual-in_err-knows_all.ensures.1) (record {
      answers = unknown_name tells stands plain c.in_err-knows_all.field-0.0 (c.in_err-knows_all.ensures refl p ms stands plain.settled);
      size = c.requires.0.size;
    })

pub returns-in_err-from : goal.returns-in_err-from
returns-in_err-from c s tells p ms stands =
    let plain = c.in_ok-o.ensures p ms stands in
    let known = c.in_ok-knows_all.ensures refl p ms stands plain.settled in
    rw (raised c.from_residual-in_err-from.result c.from_residual-in_err-from.ensures.1) (record {
      answers = from_stops tells stands plain known c.at.ensures c.in_err-from.field-0.0 c.in_err-from.ensures;
      size = c.requires.0.size;
    })

pub returns-in_err-to : goal.returns-in_err-to
returns-in_err-to c s tells p ms stands =
    let plain = c.in_ok-o.ensures p ms stands in
    let known = c.in_ok-knows_all.ensures refl p ms stands plain.settled in
    rw (raised c.from_residual-in_err-to.result c.from_residual-in_err-to.ensures.1) (record {
      answers = to_stops tells stands plain known c.at.ensures c.in_ok-from.from c.in_ok-from.ensures c.at-2.ensures c.in_err-to.field-0.0 c.in_err-to.ensures;
      size = c.requires.0.size;
    })

pub returns-in_err-reserve : goal.returns-in_err-reserve
returns-in_err-reserve c s tells p ms stands =
    let plain = c.in_ok-o.ensures p ms stands in
    let known = c.in_ok-knows_all.ensures refl p ms stands plain.settled in
    rw (raised c.from_residual-in_err-reserve.result c.from_residual-in_err-reserve.ensures.1) (record {
      answers = mark_stops tells stands plain known c.at.ensures c.in_ok-from.from c.in_ok-from.ensures c.at-2.ensures c.in_ok-to.to c.in_ok-to.ensures c.at-3.ensures c.in_err-reserve.field-0.0 c.in_err-reserve.ensures;
      size = c.requires.0.size;
    })

pub returns : goal.returns
returns c s tells p ms stands =
    let plain = c.in_ok-o.ensures p ms stands in
    let known = c.in_ok-knows_all.ensures refl p ms stands plain.settled in
    head_read tells stands plain known c.at.ensures c.in_ok-from.from c.in_ok-from.ensures c.at-2.ensures c.in_ok-to.to c.in_ok-to.ensures c.at-3.ensures c.in_ok-reserve.reserve c.in_ok-reserve.ensures c.with_detail.result c.with_detail.ensures
