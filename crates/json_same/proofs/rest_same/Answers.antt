use Rattle.json_decode.specs.Bytes.{bytes_ahead}
use Rattle.json_same.proofs.Turns.{compared}
use Rattle.json_same.proofs.rest_same.Goals as goal

pub returns : goal.returns
returns c =
    rw (c.plain_at.ensures, c.plain_at-2.ensures) at (compared bytes_ahead _ _ _ c.eq.ensures.ran)
