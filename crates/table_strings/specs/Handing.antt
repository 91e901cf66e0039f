-- Where in the lent buffer a text that is handed out starts.
use Rattle.std.specs.Prelude.{ℕ, ◌+◌, List, cond, length, get_or, leb}
use Rattle.document.specs.Table.{no_record}
use Rattle.document.specs.Write.{kind_text, head_field}
use Rattle.document.specs.declared.table.Text.{Text}
use Rattle.document.specs.declared.table.Table.{Table}
use Rattle.document.specs.declared.table.HeadText.{HeadText}

abbrev pub lent_at : Text → List ℕ → ℕ
lent_at t buffer = cond (leb (t.start + t.len) (length buffer)) t.start 0

unfoldable pub record_at : Table → ℕ → List ℕ → ℕ
record_at t i buffer = lent_at (kind_text (get_or t.records i no_record).kind) buffer

unfoldable pub head_at : Table → HeadText → List ℕ → ℕ
head_at t f buffer = lent_at (head_field t.head f) buffer
