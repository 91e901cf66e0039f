-- Behind a value, by its kind.
use mathlib.Core.Path.{refl, sym, ◌∙◌}
use Rattle.json_move.specs.declared.Kind.TheVariants.{Object, Array, Text, Number, True, False, Null}
use Rattle.json_move.specs.Moving.{behind_bracket, behind_string}
use Rattle.json_grammar.proofs.Moves.{then_moves}
use Rattle.json_move.proofs.Skips.{moves_value, moves_either}
use Rattle.json_move.proofs.behind_value.Goals as goal

pub returns-in-Object : goal.returns-in-Object
returns-in-Object c =
    moves_either _ _ _ Object Array (rw c.kind_at.ensures at c.in-Object.is) refl (then_moves c.behind_byte.ensures (λ s. behind_bracket s 0) c.behind_bracket.ensures)

pub returns-in-Text : goal.returns-in-Text
returns-in-Text c =
    moves_value _ _ _ Text (sym c.kind_at.ensures ∙ c.in-Text.is) (then_moves c.behind_byte-in-Text.ensures behind_string c.behind_string.ensures)

pub returns-in-Number : goal.returns-in-Number
returns-in-Number c =
    moves_value _ _ _ Number (sym c.kind_at.ensures ∙ c.in-Number.is) c.behind_number.ensures

pub returns-in-True : goal.returns-in-True
returns-in-True c =
    moves_either _ _ _ True Null (rw c.kind_at.ensures at c.in-True.is) refl c.behind_bytes.ensures

pub returns-in-False : goal.returns-in-False
returns-in-False c =
    moves_value _ _ _ False (sym c.kind_at.ensures ∙ c.in-False.is) c.behind_bytes-in-False.ensures
