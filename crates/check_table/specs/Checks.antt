-- What the checks of the words tell: which records stand where, and which strings with them (document 01, "The table" and "Objects").
use Rattle.std.specs.Prelude.{◌≡◌, List, true, Option, Some, ℕ, ◌+◌, ◌-◌, ◌≤◌, ◌<◌, length, take, drop, get_or}
use Rattle.document.specs.Utf8.{is_utf8}
use Rattle.table_rows.specs.Standing.{below_at, b_at}
use Rattle.check_doses.specs.Shapes.{Row, shape, between, nothing, some_below, integer, unit}
use Rattle.check_doses.specs.Doses.{Nested, StillAt}
use Rattle.check_doses.specs.declared.records.Shape.{Shape}

-- An answer that gives the only number of text bytes of which P holds, or none where there is none.
pub record Checks (P : ℕ → Type 0) (r : Option ℕ) : Type 0 where
  pub yes : (u : ℕ) → r ≡ Some u → P u
  pub only : (u : ℕ) → P u → r ≡ Some u

-- The records that stand in no detail without strings. A FreeText's is behind `text` bytes, with so much room behind them.
abbrev pub text_shape : ℕ → ℕ → Shape
text_shape text room = shape 2 nothing (between text text) (between 1 room) nothing nothing

abbrev pub sequence_shape : Shape
sequence_shape = shape 5 some_below nothing nothing nothing nothing

abbrev pub posology_shape : Shape
posology_shape = shape 15 some_below integer unit nothing nothing

abbrev pub pause_shape : Shape
pause_shape = shape 16 nothing integer unit nothing nothing

-- A string of the buffer behind the `text` bytes that are taken.
pub record StringAt (buffer : List ℕ) (text start len : ℕ) : Type 0 where
  pub starts : start ≡ text
  pub some : 1 ≤ len
  pub fits : text + len ≤ length buffer
  pub utf8 : is_utf8 (take len (drop text buffer)) ≡ true

pub record FreeTextAt (ws buffer : List ℕ) (i text : ℕ) : Type 0 where
  pub room : text ≤ length buffer
  pub row : Row ws i (text_shape text (length buffer - text))
  pub utf8 : is_utf8 (take (b_at ws i) (drop text buffer)) ≡ true

mutual
  -- A detail at i in which so many sequences may open, behind `text` bytes, with u bytes taken after it.
  pub data DetailAt (ws buffer : List ℕ) : ℕ → ℕ → ℕ → ℕ → Type 0 where
    still : {left i text u : ℕ} → StillAt ws i → u ≡ text → DetailAt ws buffer left i text u
    free_text : {left i text u : ℕ} → FreeTextAt ws buffer i text → u ≡ text + b_at ws i → DetailAt ws buffer left i text u
    sequence : {left i text u : ℕ} → 1 ≤ left → Row ws i sequence_shape → ObjectsAt ws buffer (left - 1) (i + 1 + below_at ws i) (i + 1) text u → DetailAt ws buffer left i text u

  pub data ObjectAt (ws buffer : List ℕ) : ℕ → ℕ → ℕ → ℕ → Type 0 where
    pause : {left i text u : ℕ} → Row ws i pause_shape → u ≡ text → ObjectAt ws buffer left i text u
    posology : {left i text u : ℕ} → Row ws i posology_shape → DetailAt ws buffer left (i + 1) text u → Nested ws i → ObjectAt ws buffer left i text u

  -- The objects from i on, up to record `end`.
  pub data ObjectsAt (ws buffer : List ℕ) : ℕ → ℕ → ℕ → ℕ → ℕ → Type 0 where
    last : {left end i text u : ℕ} → ObjectAt ws buffer left i text u → i + 1 + below_at ws i ≡ end → ObjectsAt ws buffer left end i text u
    more : {left end i text v u : ℕ} → ObjectAt ws buffer left i text v → ObjectsAt ws buffer left end (i + 1 + below_at ws i) v u → ObjectsAt ws buffer left end i text u

pub record SequenceAt (ws buffer : List ℕ) (left i text u : ℕ) : Type 0 where
  pub some : 1 ≤ left
  pub row : Row ws i sequence_shape
  pub objects : ObjectsAt ws buffer (left - 1) (i + 1 + below_at ws i) (i + 1) text u

-- The words from k on are zero.
abbrev pub Zeros : List ℕ → ℕ → Type 0
Zeros ws k = (j : ℕ) → k ≤ j → j < length ws → get_or ws j 0 ≡ 0
