-- Where the plain text fits, the line feed goes behind it; where not, the refusal is put.
use mathlib.Core.Path.{refl, sym, ap, ◌∙◌}
use mathlib.Core.List.{[]}
use native.Mathlib.Omega.{arith}
use lib.ListN.{length}
use Rattle.document.specs.Values.{length_values}
use Rattle.document.specs.Plain.{plain}
use Rattle.document.specs.Write.{write_values, buffer_after, Write}
use Rattle.document_meaning.proofs.Lengths.{plain_within}
use Rattle.checker_lines.specs.Lines.{for_plan}
use Rattle.checker_lines.proofs.Printed.{line_written, line_refused, refused_near, plain_fitting}
use Rattle.checker_lines.proofs.put_plain.Goals as goal

pub returns-in-Ok : goal.returns-in-Ok
returns-in-Ok c p behind v f t s =
    let x = plain_fitting p behind (length c.args.out.now) v f t s in
    line_written (length c.args.out.now) (plain p) refl (omega arith)
    (ap length_values (sym c.in-Ok.is) ∙ c.write.ensures.answer ∙ ap write_values x)
    (c.write.ensures.left ∙ ap (λ (y : Write). buffer_after y c.args.out.now) x)
    (c.put.ensures [])

pub returns-in-Err : goal.returns-in-Err
returns-in-Err c p behind v f t s =
    let x = plain_fitting p behind (length c.args.out.now) v f t s in
    let told = ap length_values (sym c.in-Err.is) ∙ c.write.ensures.answer ∙ ap write_values x in
    let near = refused_near (length c.args.out.now) (plain p) told (plain_within for_plan p v.1 f) in
    line_refused (length c.args.out.now) (plain p) told (c.write.ensures.left ∙ ap (λ (y : Write). buffer_after y c.args.out.now) x)
    (c.put_refusal.ensures near.1)
