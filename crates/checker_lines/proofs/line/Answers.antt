-- A posology that was taken is written; a refusal is put.
use mathlib.Core.Path.{refl}
use native.Mathlib.Omega.{arith}
use lib.ListN.{length}
use Rattle.document.specs.Answer.{taken}
use Rattle.write_bytes.proofs.Laid.{puts_as}
use Rattle.checker_lines.proofs.Near.{read_near}
use Rattle.checker_lines.proofs.Printed.{read_accepted, read_refused, line_is}
use Rattle.checker_lines.proofs.line.Goals as goal

pub returns-in-Ok : goal.returns-in-Ok
returns-in-Ok c =
    let a = read_accepted c.read-r.ensures refl c.in-Ok.is in
    puts_as (line_is (length c.args.out.now) c.args.input.now (taken a.posology) a.is)
    (c.put_plain.ensures a.posology a.behind a.is_valid a.fits a.table a.strings_first)

pub returns-in-Err : goal.returns-in-Err
returns-in-Err c =
    let e = read_refused c.read-r.ensures refl c.in-Err.is in
    let near = read_near _ _ e in
    puts_as (line_is (length c.args.out.now) c.args.input.now _ e)
    (c.put_refusal.ensures (omega arith))
