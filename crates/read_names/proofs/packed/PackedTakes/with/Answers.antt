-- A letter behind fewer than seven, behind fewer than fourteen, and behind more.
use mathlib.Core.List.{append_assoc}
use native.Mathlib.Omega.{arith}
use Rattle.read_names.proofs.Packing.{letter_first, letter_second, letter_over}
use Rattle.read_names.proofs.packed.PackedTakes.with.Goals as goal

pub returns-then-self-lt7 : goal.returns-then-self-lt7
returns-then-self-lt7 c start bytes on name k =
    rw (← append_assoc) (letter_first c.args.self c.args.b (omega arith) _ (on name k) _ c.from.ensures c.if-self-lt7.true)

pub returns-then-self-lt14 : goal.returns-then-self-lt14
returns-then-self-lt14 c start bytes on name k =
    rw (← append_assoc) (letter_second c.args.self c.args.b (omega arith) _ (on name k) _ c.from-then-self-lt14.ensures c.if-self-lt7.false c.if-self-lt14.true)

pub returns : goal.returns
returns c start bytes on name k =
    rw (← append_assoc) (letter_over c.args.self c.args.b (omega arith) _ (on name k) c.if-self-lt14.false)
