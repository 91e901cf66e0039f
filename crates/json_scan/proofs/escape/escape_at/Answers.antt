-- By the letter behind the backslash.
use mathlib.Core.Path.{sym, ap, ◌∙◌}
use native.Mathlib.Omega.{arith}
use Rattle.std.specs.Prelude.{Some}
use Rattle.json_scan.proofs.Escapes.{escape_starts, letter_ends, unit_starts}
use Rattle.json_scan.proofs.escape.escape_at.Goals as goal

pub unit-requires : goal.unit-requires
unit-requires c =
    unit_starts (omega arith) (escape_starts (omega arith) c.if-text-at-ne92.false)
    (sym c.letter_of.ensures ∙ c.in_ok-m.was ∙ ap Some c.in-Unicode.is)

pub returns-in-Means : goal.returns-in-Means
returns-in-Means c =
    letter_ends (omega arith) (escape_starts (omega arith) c.if-text-at-ne92.false)
    (sym c.letter_of.ensures ∙ c.in_ok-m.was ∙ ap Some c.in-Means.is)
