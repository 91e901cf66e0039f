-- A byte beyond the buffer changes nothing.
use mathlib.Core.Path.{refl, sym}
use mathlib.Core.List.{[], ◌∷◌}
use native.Mathlib.Omega.{arith}
use lib.Seq.{set_out}
use Rattle.write_bytes.proofs.Laid.{lays_bytes}
use Rattle.write_bytes.proofs.Output.put.Goals as goal
use Rattle.write_bytes.proofs.Output.put.Goals.{then-at-self, else-at-self}

pub returns : goal.returns
returns c =
    lays_bytes c.if-at-self.self (c.args.b ∷ [])
    (elim c.if-at-self.branch [
      | then-at-self w ↦ rw w.self-is (refl, refl)
      | else-at-self w ↦ rw w.self-is (refl, sym (set_out _ _ _ w.if-at-self.false))
    ])
    (omega (arith, c.saturating_add-self.ensures))
