use borrow.Author.Tests.{eq-eqb, ne_eqb}
use Rattle.write_bytes.proofs.Laid.{lays_none, lays_then}
use Rattle.write_posology.proofs.head.put_text.Goals as goal

pub returns-else-t-ne0 : goal.returns-else-t-ne0
returns-else-t-ne0 c k w =
    rw (eq-eqb _ _ c.if-t-ne0.false) (lays_none _ k)

pub returns-then-t-ne0 : goal.returns-then-t-ne0
returns-then-t-ne0 c k w =
    rw (ne_eqb _ _ c.if-t-ne0.true) (lays_then (c.put_all.ensures _) (rw (c.part-text.ensures w) at (c.put_string.ensures k)))
