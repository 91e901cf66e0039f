use mathlib.Core.List.{◌∷◌, ◌++◌}
use Rattle.document.specs.Bytes.{bytes}
use Rattle.document.specs.Spell.{spell}
use Rattle.write_bytes.proofs.Laid.{lays_then}
use Rattle.write_details.proofs.timed.put_under_days.Goals as goal

pub returns : goal.returns
returns c t k h p =
    let e = c.a.ensures.here h in
    lays_then (c.put_all.ensures _)
    (lays_then (rw e at (c.put_days.ensures (bytes ",\"tdo\":" ++ spell t (125 ∷ k))))
    (lays_then (c.put_all-2.ensures (spell t (125 ∷ k))) (lays_then (c.put_plain.ensures t (125 ∷ k) p) (c.put.ensures k))))
