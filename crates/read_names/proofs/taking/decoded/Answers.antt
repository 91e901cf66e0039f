use Rattle.json_decode.specs.Bytes.{ahead}
use Rattle.read_names.proofs.Letters.{ahead_more, ahead_full}
use Rattle.read_names.proofs.taking.decoded.Goals as goal

pub returns-then-is_full : goal.returns-then-is_full
returns-then-is_full g c =
    ahead_full (λ done. g.T.Takes.took c.args.start done c.all-t.result) {rest = ahead c.next.new.self}
    (ahead_more (λ done. g.T.Takes.took c.args.start done c.loop-piece.t) (λ done. g.T.Takes.took c.args.start done c.all-t.result) _
    c.loop-piece.invariant (rw c.as_slice.ensures c.in-Some.ensures.steps.0) (c.all-t.ensures c.args.start))
    (c.is_full.ensures c.if-is_full.true c.args.start)
