-- A whole escape.
use Rattle.json_decode.proofs.Runs.{escape_piece}
use Rattle.json_decode.proofs.next_bytes.Goals as goal

pub returns-in-Some : goal.returns-in-Some
returns-in-Some c =
    let p = escape_piece _ c.args.s c.in-Some.escape _ _ _ c.in-Plain.is c.in-Some.ensures c.width.ensures c.escaped.ensures (c.spot_at.ensures _) in
    record { bytes = p.0; some = p.1 }
