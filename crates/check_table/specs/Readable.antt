-- What the checks of a table tell: its head, its strings and its records.
use Rattle.std.specs.Prelude.{◌≡◌, List, Bool, true, ◌&&◌, ℕ, ◌+◌, ◌*◌, ◌≤◌, length}
use Rattle.document.specs.Date.{is_date, is_second, is_zone}
use Rattle.document.specs.Moments.{in_order}
use Rattle.document.specs.Schema.{meal_codes}
use Rattle.document.specs.Valid.{if_given}
use Rattle.document.specs.Untable.{date_of, zone_of}
use Rattle.document.specs.declared.table.Text.{Text}
use Rattle.document.specs.declared.table.Head.{Head}
use Rattle.document.specs.declared.table.Table.{Table}
use Rattle.document.specs.Words.{width, words_at_most}
use Rattle.document.specs.Write.{readable}
use Rattle.table_words.specs.ByWords.{ByWords}
use Rattle.table_rows.specs.Standing.{below_at}
use Rattle.check_table.specs.Checks.{StringAt, DetailAt, Zeros}

abbrev pub moment_in : ℕ → Bool → ℕ → Bool
moment_in s west zone = is_second s && is_zone (zone_of west zone)

-- A string of the head behind `text` bytes, with u taken after it: absent with start and length 0, or as any string.
pub data PieceAt (buffer : List ℕ) (t : Text) (text u : ℕ) : Type 0 where
  absent : t.len ≡ 0 → t.start ≡ 0 → u ≡ text → PieceAt buffer t text u
  present : StringAt buffer text t.start t.len → u ≡ text + t.len → PieceAt buffer t text u

pub record PiecesAt (buffer : List ℕ) (h : Head) (text u : ℕ) : Type 0 where
  pub u₁ : ℕ
  pub u₂ : ℕ
  pub u₃ : ℕ
  pub unit : PieceAt buffer h.unit text u₁
  pub instructions : PieceAt buffer h.instructions u₁ u₂
  pub roa : PieceAt buffer h.roa u₂ u₃
  pub moa : PieceAt buffer h.moa u₃ u

pub record HeadRight (h : Head) (purpose : ℕ) : Type 0 where
  pub from : if_given is_date (date_of h.from) ≡ true
  pub to : if_given is_date (date_of h.to) ≡ true
  pub ordered : in_order (date_of h.from) (date_of h.to) ≡ true
  pub meal : h.meal ≤ meal_codes
  pub unit : (purpose ≡ 3 → ⊥) → 1 ≤ h.unit.len

pub record LaidAt (ws buffer : List ℕ) (h : Head) (count text : ℕ) : Type 0 where
  pub all : length ws ≡ words_at_most
  pub room : text ≤ 2048
  pub fits : count ≤ 64
  pub counted : count ≡ 1 + below_at ws 0
  pub taken : ℕ
  pub detail : DetailAt ws buffer 3 0 0 taken
  pub pieces : PiecesAt buffer h taken text
  pub zeros : Zeros ws (count * width)

-- What the writer does not refuse with 18.
pub record ReadableWords (purpose : ℕ) (h : Head) (count text : ℕ) (ws buffer : List ℕ) : Type 0 where
  pub table : Table
  pub by : ByWords table h count text ws
  pub readable : readable purpose table buffer ≡ true
