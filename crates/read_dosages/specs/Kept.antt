-- What holds of a visit whatever stands in the text: how many words there are, that records are only added, and that strings stay within the room.
use Rattle.std.specs.Prelude.{ℕ, ◌+◌, ◌<◌, ◌≤◌, ◌≡◌, List, true, length, Result, IfOk}
use Rattle.document.specs.Date.{among}
use Rattle.document.specs.declared.terms.Terms.{Terms}
use Rattle.document.specs.declared.terms.Used.{Used}
use Rattle.document.specs.Words.{words_at_most}
use Rattle.read_records.specs.Under.{types_under}
use Rattle.document.specs.declared.refusal.Refusal.{Refusal}
use Rattle.read_type.specs.declared.opened.Opened.{Opened}

-- The words of 64 records, no more than 64 taken, and no more text than there is room.
pub record Ready (terms : Terms) (before : List ℕ) (u : Used) : Type 0 where
  pub size : length before ≡ words_at_most
  pub few : u.records ≤ 64
  pub fits : u.text ≤ terms.room

-- At least so many records are added.
pub record Grown (terms : Terms) (least : ℕ) (u v : Used) : Type 0 where
  pub some : u.records + least ≤ v.records
  pub few : v.records ≤ 64
  pub fits : v.text ≤ terms.room

pub record Kept (terms : Terms) (least : ℕ) (before : List ℕ) (u : Used) (r : Result Used Refusal) (after : List ℕ) : Type 0 where
  pub size : length after ≡ length before
  pub grown : IfOk r λ v. Grown terms least u v

-- A timed dosage that was not refused: its type may stand there, and a record is left.
pub record Stands (parent : ℕ) (u : Used) (kind : ℕ) (v : Used) : Type 0 where
  pub allowed : among kind (types_under parent) ≡ true
  pub few : v.records < 64
  pub records : v.records ≡ u.records
  pub text : v.text ≡ u.text

abbrev pub OpensThere : ℕ → Used → Result Opened Refusal → Type 0
OpensThere parent u r = IfOk r λ o. Stands parent u o.kind o.used
