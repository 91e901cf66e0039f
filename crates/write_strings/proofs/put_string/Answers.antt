use mathlib.Core.Path.{ap, sym, ◌∙◌}
use native.Mathlib.Omega.{arith}
use lib.ListN.{length, length-drop}
use Rattle.std.proofs.lemmas.Slice.{between_to_end}
use Rattle.write_bytes.proofs.Laid.{lays_none, lays_then, lays_as}
use Rattle.write_strings.proofs.Chars.{quoted_one, quoted_none, spell_text, plain_first, plain_run}
use Rattle.write_strings.proofs.put_string.Goals as goal

pub loop-at-init : goal.loop-at-init
loop-at-init c =
    (omega arith, λ k. lays_none _ _)

pub loop-at-preserved-then-is_plain : goal.loop-at-preserved-then-is_plain
loop-at-preserved-then-is_plain c =
    let put = c.put_plain-n.ensures in
    let rest = between_to_end c.args.bytes.now c.loop-at.at (length c.args.bytes.now) (omega arith) in (
      omega (arith, put.within, ap length rest, length-drop c.loop-at.at c.args.bytes.now),
      λ k. lays_then (c.loop-at.invariant.1 k) (lays_as (plain_run _ _ _ rest put.within put.plain k) (put.laid _)),
    )

pub loop-at-smaller-then-is_plain : goal.loop-at-smaller-then-is_plain
loop-at-smaller-then-is_plain c =
    let put = c.put_plain-n.ensures in
    let rest = between_to_end c.args.bytes.now c.loop-at.at (length c.args.bytes.now) (omega arith) in
    let n = ap length rest in
    let l = length-drop c.loop-at.at c.args.bytes.now in
    omega (arith, put.within, put.first (omega arith) (plain_first c.args.bytes.now c.loop-at.at rest (sym c.is_plain.ensures ∙ c.if-is_plain.true)))

pub loop-at-preserved : goal.loop-at-preserved
loop-at-preserved c =
    (omega arith, λ k. lays_then (c.loop-at.invariant.1 k) (lays_as (quoted_one _ _ k c.loop-at-test.true) (c.put_char.ensures _)))

pub returns : goal.returns
returns c k =
    lays_as (spell_text _ k) (lays_then (c.put.ensures _) (lays_then (rw (quoted_none _ _ k c.loop-at-test.false) at (c.loop-at.invariant.1 k)) (c.put-2.ensures k)))
