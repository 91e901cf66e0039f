use native.Mathlib.Omega.{arith}
use Rattle.std.proofs.Common.{inl, inr}
use Rattle.write_bytes.proofs.Laid.{lays_as}
use Rattle.json_grammar.specs.Rows.{look}
use Rattle.document.specs.Spell.{escaped}
use Rattle.write_strings.proofs.Chars.{escaped_control, escaped_itself}
use Rattle.write_strings.proofs.put_char.Goals as goal

pub returns-in-8 : goal.returns-in-8
unfolding escaped look
returns-in-8 c k =
    rw c.in-8.is (c.put_escape.ensures k)

pub returns-in-9 : goal.returns-in-9
unfolding escaped look
returns-in-9 c k =
    rw c.in-9.is (c.put_escape-in-9.ensures k)

pub returns-in-10 : goal.returns-in-10
unfolding escaped look
returns-in-10 c k =
    rw c.in-10.is (c.put_escape-in-10.ensures k)

pub returns-in-12 : goal.returns-in-12
unfolding escaped look
returns-in-12 c k =
    rw c.in-12.is (c.put_escape-in-12.ensures k)

pub returns-in-13 : goal.returns-in-13
unfolding escaped look
returns-in-13 c k =
    rw c.in-13.is (c.put_escape-in-13.ensures k)

pub returns-in-34 : goal.returns-in-34
unfolding escaped look
returns-in-34 c k =
    elim c.in-34.is [
      | inl e ↦ rw e (rw e at (c.put_escape-in-34.ensures k))
      | inr e ↦ rw e (rw e at (c.put_escape-in-34.ensures k))
    ]

pub returns-in_default : goal.returns-in_default
returns-in_default c k =
    lays_as (escaped_control _ k c.if-b-lt32.true (λ e. omega (arith, e)) (λ e. omega (arith, e)) (λ e. omega (arith, e)) (λ e. omega (arith, e)) (λ e. omega (arith, e))) (c.put_control.ensures k)

pub returns-in_default-2 : goal.returns-in_default-2
returns-in_default-2 c k =
    lays_as (escaped_itself _ k c.if-b-lt32.false (λ e. grind (arith, e)) (λ e. grind (arith, e))) (c.put.ensures k)
