-- What an answer leaves in the table and in the lent buffers, by its case.
use Rattle.std.specs.Prelude.{Result, Ok, Err}
use Rattle.document.specs.declared.refusal.Refusal.{Refusal}
use mathlib.Core.Path.{◌≡◌, sym, ap, ◌∙◌}
use mathlib.Core.List.{List}
use Prim.Native.Nat.{ℕ}
use Rattle.json_grammar.proofs.Truth.{never}
use Rattle.document.specs.Table.{empty_table}
use Rattle.document.specs.Values.{answer_values, next_values, length_values}
use Rattle.document.specs.Answer.{Read, taken, refused, read_values, table_after, buffer_after, ReadNext, taken_to, blank_to, refused_at, read_next_values, next_table_after, next_buffer_after}
use Rattle.document.specs.Write as W
use Rattle.document.specs.declared.table.Reading.{Reading}
use Rattle.document.specs.declared.table.Next.TheVariants as N
use Rattle.document.specs.declared.table.NextReading.{NextReading}

pub refusal : (x : Read) {r : Reading} {before after : List ℕ} {why : Refusal}
    → answer_values r.answer ≡ read_values x → r.table ≡ table_after x → after ≡ buffer_after x before → r.answer ≡ Err why
    → (r.table ≡ empty_table) × (after ≡ before)
refusal (taken p) e t f h = never (cc (sym (ap answer_values h) ∙ e))
refusal (refused m at) e t f h = (t, f)

pub next_refusal : (x : ReadNext) {r : NextReading} {before after : List ℕ} {why : Refusal}
    → next_values r.answer ≡ read_next_values x → r.table ≡ next_table_after x → after ≡ next_buffer_after x before → r.answer ≡ Err why
    → (r.table ≡ empty_table) × (after ≡ before)
next_refusal (taken_to p at) e t f h = never (cc (sym (ap next_values h) ∙ e))
next_refusal (blank_to m) e t f h = (t, f)
next_refusal (refused_at m at) e t f h = (t, f)

pub next_blank : (x : ReadNext) {r : NextReading} {before after : List ℕ} {n : ℕ}
    → next_values r.answer ≡ read_next_values x → r.table ≡ next_table_after x → after ≡ next_buffer_after x before → r.answer ≡ Ok (N.Blank n)
    → (x ≡ blank_to n) × (r.table ≡ empty_table) × (after ≡ before)
next_blank (taken_to p at) e t f h = never (cc (sym (ap next_values h) ∙ e))
next_blank (blank_to m) e t f h = (cc (sym (ap next_values h) ∙ e), t, f)
next_blank (refused_at m at) e t f h = never (cc (sym (ap next_values h) ∙ e))

pub write_refusal : (x : W.Write) {r : Result ℕ Refusal} {before after : List ℕ} {why : Refusal}
    → length_values r ≡ W.write_values x → after ≡ W.buffer_after x before → r ≡ Err why → after ≡ before
write_refusal (W.writes bytes) e f h = never (cc (sym (ap length_values h) ∙ e))
write_refusal (W.refuses m at) e f h = f
