-- What the code tells of the bytes of a date or a time, and of a list of days.
use Rattle.std.specs.Prelude.{ℕ, ◌≡◌, List, drop, Option, Some, None, Result}
use Rattle.std.proofs.Math.Option as M
use Rattle.std.proofs.Math.Option.{none, some}
use Rattle.document.specs.Posology as P
use Rattle.document.specs.Date.{date_of, time_of}
use Rattle.document.specs.Lookup.{Found}
use Rattle.document.specs.Schema.{a_list, days}
use Rattle.document.specs.Table.{date_cell, day_set}
use Rattle.document.specs.Visit.{Value, needed}
use Rattle.document.specs.At.{Slot}
use Rattle.document.specs.declared.table.Date.{Date}
use Rattle.document.specs.declared.terms.Used.{Used}
use Rattle.document.specs.declared.refusal.Refusal.{Refusal}
use Rattle.read_fields.specs.Fields.{CountsFrom}
use Rattle.read_fields.specs.declared.field.Counted.{Counted}

-- A date that some bytes make, as the table has it, or none.
abbrev pub IsDateOf : M.Option P.Date → Option Date → Type 0
IsDateOf o (Some d) = (x : P.Date) × (o ≡ some x) × (date_cell (some x) ≡ d)
IsDateOf o None = o ≡ none

abbrev pub IsDate : List ℕ → Option Date → Type 0
IsDate bytes r = IsDateOf (date_of bytes) r

abbrev pub IsTime : List ℕ → Option ℕ → Type 0
IsTime bytes (Some s) = time_of bytes ≡ some s
IsTime bytes None = time_of bytes ≡ none

-- A set of days, as the table has it.
abbrev pub ReadsDays : List ℕ → ℕ → Option ℕ → ℕ → Used → Result Counted Refusal → Type 0
ReadsDays text brace v most u r = (f : Found Value) → Slot text v f → CountsFrom text u (needed (a_list (days most)) (drop brace text) f) day_set r
