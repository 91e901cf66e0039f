-- Demand 1: every input has one answer, and a refusal leaves all as lent.
use Rattle.std.specs.Prelude.{Result, Ok, Err}
use Rattle.document.specs.declared.refusal.Refusal.{Refusal}
use mathlib.Core.Path.{◌≡◌, sym, ◌∙◌}
use mathlib.Core.List.{List}
use Prim.Native.Nat.{ℕ}
use lib.ListN.{length}
use Rattle.document.specs.Table.{empty_table}
use Rattle.document.specs.Answer.{Reads, ReadsNext, read, read_next, terms_of}
use Rattle.document.specs.Write.{Writes, write}
use Rattle.document_meaning.proofs.Numbered.{reading_one, next_reading_one, length_one}
use Rattle.demands.proofs.Leaves.{refusal, next_refusal, next_blank, write_refusal}
use Rattle.demands.proofs.RefusalCases.{blank_by}
use Rattle.document.specs.declared.table.Table.{Table}
use Rattle.document.specs.declared.table.Reading.{Reading}
use Rattle.document.specs.declared.table.NextReading.{NextReading}
use Rattle.document.specs.declared.table.Next.TheVariants as N

-- "any two answers allowed by it are equal": result, place and each byte of the lent buffers.
pub determined_read : {purpose : ℕ} {text before after after' : List ℕ} {r r' : Reading} → Reads purpose text before r after → Reads purpose text before r' after'
    → (r ≡ r') × (after ≡ after')
determined_read a b = (reading_one _ _ (a.answer ∙ sym b.answer) (a.table ∙ sym b.table), a.left ∙ sym b.left)

pub determined_read_next : {purpose : ℕ} {run before after after' : List ℕ} {r r' : NextReading} → ReadsNext purpose run before r after → ReadsNext purpose run before r' after'
    → (r ≡ r') × (after ≡ after')
determined_read_next a b = (next_reading_one _ _ (a.answer ∙ sym b.answer) (a.table ∙ sym b.table), a.left ∙ sym b.left)

pub determined_write : {purpose : ℕ} {t : Table} {text before after after' : List ℕ} {r r' : Result ℕ Refusal} → Writes purpose t text before r after → Writes purpose t text before r' after'
    → (r ≡ r') × (after ≡ after')
determined_write a b = (length_one _ _ (a.answer ∙ sym b.answer), a.left ∙ sym b.left)

-- A refusal answers an empty table and leaves each lent byte as it was lent.
pub refused_leaves_all : {purpose : ℕ} {why : Refusal} {text before after : List ℕ} {r : Reading} → Reads purpose text before r after → r.answer ≡ Err why
    → (r.table ≡ empty_table) × (after ≡ before)
refused_leaves_all {purpose} {text = text} {before = before} a e = refusal (read (terms_of purpose before) text) a.answer a.table a.left e

pub refused_next_leaves_all : {purpose : ℕ} {why : Refusal} {run before after : List ℕ} {r : NextReading} → ReadsNext purpose run before r after → r.answer ≡ Err why
    → (r.table ≡ empty_table) × (after ≡ before)
refused_next_leaves_all {purpose} {run = run} {before = before} a e = next_refusal (read_next (terms_of purpose before) run) a.answer a.table a.left e

-- "or that only blanks remain (with an empty table, the run's length as the place, and no byte of the text buffer changed)"
pub blank_leaves_all : {purpose n : ℕ} {run before after : List ℕ} {r : NextReading} → ReadsNext purpose run before r after → r.answer ≡ Ok (N.Blank n)
    → (n ≡ length run) × (r.table ≡ empty_table) × (after ≡ before)
blank_leaves_all {purpose} {run = run} {before = before} a e =
    let b = next_blank (read_next (terms_of purpose before) run) a.answer a.table a.left e in
    ((blank_by (terms_of purpose before) run b.0).2, b.1, b.2)

pub refused_write_leaves_all : {purpose : ℕ} {why : Refusal} {t : Table} {text before after : List ℕ} {r : Result ℕ Refusal} → Writes purpose t text before r after → r ≡ Err why
    → after ≡ before
refused_write_leaves_all {purpose} {t = t} {text = text} {before = before} a e = write_refusal (write purpose t text (length before)) a.answer a.left e
