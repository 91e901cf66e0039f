-- The head's cells.

use Rattle.read_table.proofs.head_of.Goals as goal

pub returns : goal.returns
returns c =
    cc c.text_of-4.ensures
