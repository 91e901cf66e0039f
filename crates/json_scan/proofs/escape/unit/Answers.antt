-- Each digit is tested, and by the first two it is a unit by itself or the higher half of a pair.
use mathlib.Core.Path.{sym, ◌∙◌}
use native.Mathlib.Omega.{arith}
use Rattle.json_scan.proofs.Escapes.{unit_plain, unit_low, unit_high}
use Rattle.json_scan.proofs.escape.unit.Goals as goal
use Rattle.json_scan.proofs.escape.unit.Goals.{then-not-is_d-via-then-not-is_d, then-not-is_d-via-else-not-is_d+then-is_to_7}

pub returns-then-not-is_d : goal.returns-then-not-is_d
returns-then-not-is_d c =
    let h = c.four_hex.ensures c.if-not-four_hex.false in
    elim c.then-not-is_d.branch [
      | then-not-is_d-via-then-not-is_d w ↦
          unit_plain c.requires (omega arith) h c.four_digits-v.ensures.value (sym c.is_d.ensures ∙ w.if-not-is_d.true)
      | then-not-is_d-via-else-not-is_d+then-is_to_7 w ↦
          unit_low c.requires (omega arith) h c.four_digits-v.ensures.value (sym c.is_d.ensures ∙ w.if-not-is_d.false)
          (sym w.is_to_7.ensures ∙ w.if-is_to_7.true)
    ]

pub pair-requires-clause-reached : goal.pair-requires-clause-reached
pair-requires-clause-reached c =
    let h = c.four_hex.ensures c.if-not-four_hex.false in
    unit_high c.requires (omega arith) h c.four_digits-v.ensures.value (sym c.is_d.ensures ∙ c.if-not-is_d.false)
    (sym c.is_to_7.ensures ∙ c.if-is_to_7.false) (sym c.is_8_to_b.ensures ∙ c.if-is_8_to_b.true)
