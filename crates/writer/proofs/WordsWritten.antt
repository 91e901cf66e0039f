-- What the words of a table are written as: a table that they are is readable exactly when they are.
use Rattle.std.specs.Prelude.{Result, Err}
use Rattle.document.specs.declared.refusal.Refusal.{Refusal}
use Rattle.document.specs.declared.refusal.Reason.TheVariants.{NotReadable, WrongUse}
use Rattle.document.specs.Refusals.{refusal}
use mathlib.Core.Path.{◌≡◌, refl, ap, sym, subst}
use mathlib.Core.List.{List, []}
use mathlib.Core.Bool.{Bool, true, false}
use Prim.Native.Nat.{ℕ, ◌+◌, ◌*◌, ◌≤◌}
use lib.ListN.{length}
use Rattle.json_grammar.specs.Rows.{choose}
use Rattle.json_grammar.specs.Tree.{Tree}
use Rattle.json_grammar.proofs.Truth.{never_true}
use Rattle.document.specs.Valid.{is_use}
use Rattle.document.specs.Words.{all_words, rows}
use Rattle.document.specs.Write.{readable, refuses, write_values, Writes}
use Rattle.document.specs.declared.table.Head.{Head}
use Rattle.document.specs.declared.table.Table.{Table}
use Rattle.table_words.specs.ByWords.{ByWords}
use Rattle.table_words.proofs.OneTable.{one_table}
use Rattle.check_table.specs.Readable.{ReadableWords}
use Rattle.write_details.specs.Prints.{DetailPrints}
use Rattle.write_posology.specs.Heads.{head_fields, Writable}
use Rattle.writer.specs.Fits.{Fits}
use Rattle.writer.specs.ByWords.{unwritten, WritesWords}
use Rattle.writer.proofs.Written.{writable, prints, short, writes_fitting, not_use, not_readable}

unwritten_by : (purpose : ℕ) (b : Bool) → is_use purpose ≡ b
    → write_values (choose b (λ _. refuses 18 0) λ _. refuses 17 0) ≡ write_values (unwritten purpose)
unwritten_by purpose b e = ap (λ x. write_values (choose x (λ _. refuses 18 0) λ _. refuses 17 0)) (sym e)

-- What writing where the buffer may hold the longest text promises.
abbrev Fitted : Head → ℕ → ℕ → List ℕ → List ℕ → List ℕ → Result ℕ Refusal → List ℕ → Type 0
Fitted h count text ws buffer before r after =
    (d : Tree) → Writable buffer h → DetailPrints ws buffer 3 0 d → length (head_fields buffer h d []) ≤ 6 * text + 128 * count + 256
    → Fits (head_fields buffer h d []) before r after

module _ {purpose count text : ℕ} {h : Head} {ws buffer before : List ℕ} where
  pub words_not_use : is_use purpose ≡ false → WritesWords purpose h count text ws buffer before (Err (refusal WrongUse 0)) before
  words_not_use e = record {
    writes = λ t b. not_use purpose t buffer before e;
    answer = λ f. unwritten_by purpose false e;
    left = λ f. refl;
  }

  pub words_not_readable : is_use purpose ≡ true → (ReadableWords purpose h count text ws buffer → ⊥)
      → WritesWords purpose h count text ws buffer before (Err (refusal NotReadable 0)) before
  words_not_readable e unlike = record {
    writes = λ t b. not_readable purpose t buffer before e (sym (never_true _ (λ r. unlike (record { table = t; by = b; readable = r }))));
    answer = λ f. unwritten_by purpose true e;
    left = λ f. refl;
  }

  table_fits : {r : Result ℕ Refusal} {after : List ℕ} → is_use purpose ≡ true → ReadableWords purpose h count text ws buffer
      → Fitted h count text ws buffer before r after → (t : Table) → ByWords t h count text ws → Writes purpose t buffer before r after
  table_fits {r} {after} used read f t b =
      let n = b.all in
      let own = subst (λ u. readable purpose u buffer ≡ true) (one_table read.by b) read.readable in
      let words = rows (all_words t.records) in
      let g : Fitted t.head t.count t.text words buffer before r after = rw (b.head, b.count, b.text, b.words) f in
      writes_fitting purpose t buffer n used own
      (g _ (writable purpose t buffer n own) (prints purpose t buffer n own) (short purpose t buffer n own))

  pub words_fitting : {r : Result ℕ Refusal} {after : List ℕ} → is_use purpose ≡ true → ReadableWords purpose h count text ws buffer
      → Fitted h count text ws buffer before r after → WritesWords purpose h count text ws buffer before r after
  words_fitting used read f = record {
    writes = table_fits used read f;
    answer = λ none. absurd (none read.table read.by read.readable);
    left = λ none. absurd (none read.table read.by read.readable);
  }
