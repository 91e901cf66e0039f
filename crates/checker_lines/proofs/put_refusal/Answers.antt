-- The parts of the line, one behind the other.
use mathlib.Core.List.{[], ◌∷◌}
use native.Mathlib.Omega.{arith}
use Prim.Native.Nat.{◌%◌}
use mathlib.Core.Path.{◌≡◌, ap, ◌∙◌}
use Rattle.document.specs.Refusals.{number_of}
use Rattle.document.specs.Spell.{spell}
use Rattle.document.specs.Plain.{whole}
use Rattle.write_bytes.proofs.Laid.{puts_then}
use Rattle.checker_lines.specs.Lines.{refusal_line, space, line_feed}
use Rattle.checker_lines.proofs.put_refusal.Goals as goal

pub returns : goal.returns
unfolding refusal_line
returns c place-fits =
    let n : c.number.result % 1000000 ≡ c.number.result = omega arith in
    let e : c.from.result % 1000000 ≡ number_of c.args.why.0 = ap (λ x. x % 1000000) c.from.ensures ∙ n ∙ c.number.ensures in
    let f : c.args.why.1 % 1000000 ≡ c.args.why.1 = omega arith in
    puts_then (c.put_all-at.ensures _)
    (puts_then (rw e at (c.put_whole-at.ensures (space ∷ spell (whole c.args.why.1) (line_feed ∷ []))))
    (puts_then (c.put-at.ensures _)
    (puts_then (rw f at (c.put_whole-at-2.ensures (line_feed ∷ [])))
    (c.put.ensures []))))
