-- No list, another count, or four decimals.
use Rattle.read_fields.proofs.Fours.{other_count, four_there}
use Rattle.read_fields.proofs.four.four_field.Goals as goal

pub returns-then-count-ne4 : goal.returns-then-count-ne4
returns-then-count-ne4 c h =
    other_count c.args.brace (c.in_ok-at.ensures.list_needed h) c.count.ensures c.if-count-ne4.true

pub returns : goal.returns
returns c h =
    four_there c.args.brace (c.in_ok-at.ensures.list_needed h) c.count.ensures c.four_in.result c.if-count-ne4.false c.four_in.ensures
