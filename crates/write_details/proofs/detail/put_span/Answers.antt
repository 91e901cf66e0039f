use Rattle.write_details.proofs.Details.{lays_span}
use Rattle.write_details.proofs.detail.put_span.Goals as goal

pub returns : goal.returns
returns c =
    lays_span c.args.words.now c.args.i c.args.name.now c.a.ensures.here c.b.ensures.here c.put_integer.ensures c.put_integer-2.ensures
