-- What is written where nothing is lent tells the length.
use Rattle.std.specs.Prelude.{ℕ, Result, Ok}
use mathlib.Core.Path.{ap, ◌∙◌, sym}
use Rattle.document.specs.Values.{length_values}
use Rattle.document.specs.Length.{needed}
use Rattle.document.specs.declared.refusal.Refusal.{Refusal}
use Rattle.writer.proofs.MeasuredLengths.{measures, bounded}
use Rattle.writer.proofs.measuring.length.Goals as goal

pub returns-in-Ok : goal.returns-in-Ok
returns-in-Ok c =
    let told = ap (λ (w : Result ℕ Refusal). needed (length_values w)) (sym c.in-Ok.is) in
    let m = measures (Ok c.in-Ok.length) c.write.ensures told in record { measures = m; by_index = bounded (Ok c.in-Ok.length) m }

pub returns-in-Err : goal.returns-in-Err
returns-in-Err c =
    let told = c.needed.ensures ∙ ap (λ (w : Result ℕ Refusal). needed (length_values w)) (sym c.in-Err.is) in
    let m = measures c.needed.result c.write.ensures told in record { measures = m; by_index = bounded c.needed.result m }
