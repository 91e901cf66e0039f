-- The value behind the colon: over blanks, over the colon and over blanks.
use mathlib.Core.List.{tail}
use Rattle.json_grammar.specs.Byte.{blanked}
use Rattle.json_grammar.proofs.Moves.{then_moves}
use Rattle.json_move.proofs.behind_colon.Goals as goal

pub returns : goal.returns
unfolding blanked
returns c =
    then_moves (then_moves c.blanks_end-colon.ensures tail c.behind_byte.ensures) blanked c.blanks_end.ensures
