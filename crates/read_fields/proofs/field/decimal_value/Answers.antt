-- A decimal is read, or what stands there is none.
use borrow.Author.Rules.{rules}
use mathlib.Core.Path.{◌≡◌}
use Rattle.read_fields.specs.Reading.{millionths_at}
use Rattle.document.specs.Schema.{decimal}
use Rattle.read_fields.proofs.Refusals.{raised}
use Rattle.read_fields.proofs.Values.{number_refused, decimal_reads}
use Rattle.read_fields.proofs.field.decimal_value.Goals as goal

pub returns-in_err-at : goal.returns-in_err-at
returns-in_err-at c =
    rw (raised c.from_residual.result c.from_residual.ensures.1) (number_refused c.in_err-at.ensures (decimal c.args.least))

pub returns : goal.returns
returns c =
    let q : c.map_err.result ≡ millionths_at c.in_ok-at.at c.decimal_at.result = search rules in
    rw q (decimal_reads c.in_ok-at.ensures _ c.decimal_at.result c.decimal_at.ensures)
