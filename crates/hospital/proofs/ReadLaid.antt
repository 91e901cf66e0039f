-- What was read is laid as the table that it makes.
use Prim.Native.Nat.{ℕ}
use mathlib.Core.Path.{◌≡◌, ap, ◌∙◌}
use mathlib.Core.List.{List, ◌∷◌}
use Rattle.document.specs.Words.{all_words, rows, head_words, table_words}
use Rattle.document.specs.declared.table.Head.{Head}
use Rattle.table_kinds.specs.Kinds.{at_most, records_in}
use Rattle.read_records.specs.declared.read.HeadRead.{HeadRead}
use Rattle.c_numbers.specs.Eights.{all_bytes}
use Rattle.c_area.specs.Area.{area_of}
use Rattle.read_table.specs.Built.{head_cells, built}

pub read_laid : (h : HeadRead) (ws : List ℕ) {tidied : List ℕ} {head : Head} {count : ℕ} → tidied ≡ rows (all_words (records_in h.used.records ws)) → head ≡ head_cells h → count ≡ at_most h.used.records
    → all_bytes (head_words head (count ∷ h.used.text ∷ tidied)) ≡ area_of (built h ws)
unfolding area_of table_words built
read_laid h ws {tidied} {head} {count} e f g =
    ap (λ (l : List ℕ). all_bytes (head_words head (count ∷ h.used.text ∷ l))) e
    ∙ ap (λ (x : Head). all_bytes (head_words x (count ∷ h.used.text ∷ rows (all_words (records_in h.used.records ws))))) f
    ∙ ap (λ (n : ℕ). all_bytes (head_words (head_cells h) (n ∷ h.used.text ∷ rows (all_words (records_in h.used.records ws))))) g
