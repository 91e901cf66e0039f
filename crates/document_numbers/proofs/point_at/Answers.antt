use Rattle.document_numbers.proofs.Point.{points}
use Rattle.document_numbers.proofs.point_at.Goals as goal

pub loop-i-init : goal.loop-i-init
loop-i-init c =
    search points

pub returns-then-raw-i-eq46 : goal.returns-then-raw-i-eq46
returns-then-raw-i-eq46 c =
    search points

pub loop-i-preserved : goal.loop-i-preserved
loop-i-preserved c =
    search points

pub returns : goal.returns
returns c =
    search points
