-- Over a comma and the blanks behind it, where one stands.
use mathlib.Core.Path.{◌∙◌}
use Rattle.json_grammar.specs.Byte.{blanked}
use Rattle.json_move.specs.Moving.{over_comma}
use Rattle.json_grammar.proofs.Moves.{lead_start, lead_as, moved, then_moves, moves_as}
use Rattle.json_move.proofs.Skips.{comma, no_comma}
use Rattle.json_move.proofs.over_comma.Goals as goal

pub returns-then-byte_at-eq44 : goal.returns-then-byte_at-eq44
returns-then-byte_at-eq44 c =
    moves_as (then_moves c.behind_byte.ensures blanked c.blanks_end.ensures) over_comma (comma _ (cc))

pub returns : goal.returns
returns c =
    moved (lead_as (lead_start over_comma _ _) (no_comma _ (λ e. c.if-byte_at-eq44.false (c.byte_at.ensures ∙ e))))
