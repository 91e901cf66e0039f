-- The empty table.

use Rattle.posology.proofs.reader.empty_table.Goals as goal

pub returns : goal.returns
returns c =
    rw (c.no_text.ensures, c.no_text-2.ensures, c.no_text-3.ensures, c.no_text-4.ensures)
