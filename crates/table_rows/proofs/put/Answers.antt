-- Its six stores are one record's words.
use Prim.Native.Nat.{◌*◌}
use mathlib.Core.Path.{◌∙◌}
use native.Mathlib.Omega.{arith}
use Rattle.document.specs.Words.{width}
use Rattle.table_rows.specs.Storing.{of_row}
use Rattle.table_rows.proofs.Storing.{six_stored, not_stored, stored}
use Rattle.table_rows.proofs.put.Goals as goal

pub returns-then-words-ne-WORDS : goal.returns-then-words-ne-WORDS
returns-then-words-ne-WORDS c =
    not_stored _ _ _ c.then-words-ne-WORDS.either

pub returns : goal.returns
returns c =
    six_stored c.args.words.now (c.args.i * width) _ _ _ _ _ _ (of_row c.args.row)
    (omega arith) (omega arith) (omega arith) (omega arith) (omega arith) (omega arith)
    ∙ stored c.args.words.now c.args.i (of_row c.args.row) c.if-words-ne-WORDS.false c.if-i-ge-RECORDS.false
