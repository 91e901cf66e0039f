use mathlib.Core.Path.{refl, sym}
use native.Mathlib.Omega.{arith}
use lib.ListN.{take}
use Rattle.std.proofs.Common.{length-take-le}
use Rattle.write_bytes.proofs.Laid.{lays_bytes, lays_room, sets_beyond}
use Rattle.write_bytes.proofs.Output.put_plain.Goals as goal

pub returns-then-at-self : goal.returns-then-at-self
returns-then-at-self c =
    let e = c.copy_plain-n.ensures in
    let t = length-take-le _ c.args.bytes.now e.within.0 in
    record {
      within = e.within.0;
      first = e.first;
      plain = e.plain;
      laid = lays_room (take _ _) refl (omega (arith, t)) e.stored (omega (arith, t, e.within.1, c.well_formed));
    }

pub returns : goal.returns
returns c =
    let e = c.plain_end-n.ensures in
    let t = length-take-le _ c.args.bytes.now e.within in
    record {
      within = e.within;
      first = e.first;
      plain = e.plain;
      laid = lays_bytes c.args.self.now (take _ c.args.bytes.now) (refl, sym (sets_beyond _ _ (take _ c.args.bytes.now) c.if-at-self.false)) (omega (arith, t, c.saturating_add-self.ensures));
    }
