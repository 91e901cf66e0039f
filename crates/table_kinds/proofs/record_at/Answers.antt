-- The record of the six words at a place, or an unused one.
use mathlib.Core.Path.{sym, ◌∙◌}
use native.Mathlib.Omega.{arith}
use Rattle.table_kinds.proofs.Tags.{record_here, record_inside, record_outside}
use Rattle.table_kinds.proofs.record_at.Goals as goal
use Rattle.table_kinds.proofs.record_at.Goals.{then-words-lt-WIDTH-via-then-words-lt-WIDTH, then-words-lt-WIDTH-via-else-words-lt-WIDTH+then-words-at}

pub returns-then-words-lt-WIDTH : goal.returns-then-words-lt-WIDTH
returns-then-words-lt-WIDTH c = elim c.then-words-lt-WIDTH.branch [
  | then-words-lt-WIDTH-via-then-words-lt-WIDTH w ↦ sym (record_outside c.args.words.now c.args.at (omega arith))
  | then-words-lt-WIDTH-via-else-words-lt-WIDTH+then-words-at w ↦ sym (record_outside c.args.words.now c.args.at (omega arith))
]

pub returns : goal.returns
returns c =
    record_here c.args.words.now c.args.at c.kind_of.ensures ∙ sym (record_inside c.args.words.now c.args.at (omega arith))
