use mathlib.Core.Path.{refl, sym}
use mathlib.Core.List.{[], ◌∷◌}
use native.Mathlib.Omega.{arith}
use Rattle.std.proofs.Common.{add-one}
use Rattle.write_bytes.proofs.Laid.{lays_then, lays_room, lays_bytes, sets_beyond}
use Rattle.write_bytes.proofs.Output.put_pair.Goals as goal

pub returns-then-self-at : goal.returns-then-self-at
returns-then-self-at c =
    let two = c.args.first ∷ c.args.second ∷ [] in
    lays_bytes c.args.self.now two (refl, sym (sets_beyond _ _ two c.if-self-at.true)) (omega (arith, c.saturating_add-self.ensures))

pub returns-then-self-at-gt1 : goal.returns-then-self-at-gt1
returns-then-self-at-gt1 c =
    lays_room (c.args.first ∷ c.args.second ∷ []) refl refl (rw add-one) (omega (arith, c.if-self-at-gt1.true, c.if-self-at.false, c.well_formed))

pub returns-else-self-at-gt1 : goal.returns-else-self-at-gt1
returns-else-self-at-gt1 c k =
    lays_then (c.put.ensures _) (c.put-else-self-at-gt1.ensures k)
