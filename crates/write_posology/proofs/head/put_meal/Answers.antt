use native.Mathlib.Omega.{arith}
use borrow.Author.Tests.{eq-eqb, ne_eqb}
use Rattle.write_bytes.proofs.Laid.{lays_none}
use Rattle.write_posology.proofs.head.put_meal.Goals as goal

pub returns-else-meal-ne0 : goal.returns-else-meal-ne0
returns-else-meal-ne0 c k =
    rw (eq-eqb _ _ c.if-meal-ne0.false) (lays_none _ k)

pub returns-then-meal-ne0 : goal.returns-then-meal-ne0
returns-then-meal-ne0 c k =
    rw (ne_eqb _ _ c.if-meal-ne0.true, ← c.from.ensures) (c.put_integer.ensures k (omega (arith, c.from.ensures)))
