-- The words of records, laid one record after another.
use Rattle.std.specs.Prelude.{ℕ, ◌*◌, ◌≤◌, ◌<◌, ◌≡◌, List, length, take, drop, get_or}
use Rattle.document.specs.Table.{no_record}
use Rattle.document.specs.Words.{width, words_at_most, all_words, rows}
use Rattle.document.specs.declared.table.Record.{Record}
use Rattle.table_kinds.specs.Kinds.{record_in}

-- The words of the first i records are laid.
abbrev pub Upto : List Record → List ℕ → ℕ → Type 0
Upto rs out i = (i ≤ 64) × (length out ≡ words_at_most) × (take (i * width) out ≡ rows (all_words (take i rs)))

-- The words make the first records.
pub record Makes (rs : List Record) (count : ℕ) (ws : List ℕ) : Type 0 where
  pub size : length rs ≡ 64
  pub each : (i : ℕ) → i < count → record_in (drop (i * width) ws) ≡ get_or rs i no_record

-- From this one on no record is used.
pub record Unused (rs : List Record) (from : ℕ) : Type 0 where
  pub size : length rs ≡ 64
  pub each : (i : ℕ) → from ≤ i → i < 64 → get_or rs i no_record ≡ no_record
