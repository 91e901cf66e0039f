use mathlib.Core.Path.{refl, sym}
use native.Mathlib.Omega.{arith}
use Rattle.write_bytes.proofs.Laid.{lays_bytes, copied_front, sets_beyond}
use Rattle.write_bytes.proofs.Output.put_front.Goals as goal
use Rattle.write_bytes.proofs.Output.put_front.Goals.{then-at-self, else-at-self}

pub returns : goal.returns
returns c =
    lays_bytes c.if-at-self.self c.args.bytes.now
    (elim c.if-at-self.branch [
      | then-at-self w ↦ rw w.self-is (refl, copied_front _ _ c.args.bytes.now w.copy.ensures (omega (arith, w.if-at-self.true, c.requires w.if-at-self.true)) (omega (arith, w.if-at-self.true)))
      | else-at-self w ↦ rw w.self-is (refl, sym (sets_beyond _ _ c.args.bytes.now w.if-at-self.false))
    ])
    (omega (arith, c.saturating_add-self.ensures))
