use Rattle.json_lay.proofs.Pieces.{put_one}
use Rattle.json_lay.proofs.put.Goals as goal

pub loop-i-preserved : goal.loop-i-preserved
loop-i-preserved c =
    put_one c.loop-i.invariant c.loop-i-test.true
