-- Behind the higher half the bytes of the lower one, each tested.
use mathlib.Core.Path.{sym, ap, ◌∙◌}
use Prim.Native.Nat.{◌+◌, ◌*◌}
use native.Mathlib.Omega.{arith}
use Rattle.json_scan.proofs.Escapes.{pair_ends}
use Rattle.json_scan.proofs.escape.pair.Goals as goal

pub returns : goal.returns
returns c =
    pair_ends c.requires.reached c.requires.high_bound (omega arith) (c.four_hex.ensures c.if-not-four_hex.false)
    (ap (λ v. c.args.high * 0x10000 + v) c.four_digits.ensures.value) c.if-text-at-ne92.false c.if-text-at-ne117.false
    (sym c.is_d.ensures ∙ c.if-not-is_d.false) (sym c.is_c_to_f.ensures ∙ c.if-not-is_c_to_f.false)
