use Rattle.write_bytes.proofs.Laid.{lays_then, lays_as}
use Rattle.write_details.proofs.TimedTexts.{dosage_only_text}
use Rattle.write_details.proofs.timed.put_dosage_only.Goals as goal

pub returns : goal.returns
returns c d k p =
    lays_as (dosage_only_text d k) (lays_then (c.put_all.ensures _) (lays_then (c.put_dosage.ensures d _ p) (c.put.ensures k)))
