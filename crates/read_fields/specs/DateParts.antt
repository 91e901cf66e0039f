-- What the parts of the code for dates and times tell of the bytes from a place on.
use Rattle.std.specs.Prelude.{ℕ, ◌+◌, ◌*◌, ◌≤◌, ◌≡◌, List, [], ◌∷◌, Bool, false, length, drop, eqb, Option as Answer, Some, None}
use Rattle.std.proofs.Math.Option.{Option, none, some}
use Rattle.document.specs.Posology as P
use Rattle.document.specs.Date.{Behind, two, then, only, is_zone, signed, day_at, day_of}
use Rattle.read_fields.specs.declared.date.Day.{Day}

-- Whether this byte stands first.
abbrev pub marked : ℕ → List ℕ → Bool
marked m [] = false
marked m (b ∷ s) = eqb b m

-- A number that was read up to the place `end`.
pub record Numbered (bytes : List ℕ) (o : Option (Behind ℕ)) (end most n : ℕ) : Type 0 where
  pub outcome : o ≡ some (record { value = n; rest = drop end bytes })
  pub small : n ≤ most
  pub inside : end ≤ length bytes

abbrev pub Numbers : List ℕ → Option (Behind ℕ) → ℕ → ℕ → Answer ℕ → Type 0
Numbers bytes o end most (Some n) = Numbered bytes o end most n
Numbers bytes o end most None = o ≡ none

-- yyyy
abbrev pub year : List ℕ → Option (Behind ℕ)
year s = then (two s) λ c. then (two c.rest) λ y. some (record { value = c.value * 100 + y.value; rest = y.rest })

-- The day that a day of the code stands for.
abbrev pub day_read : Day → P.Day
day_read d = day_at d.year d.month d.day

-- What a day's bounds are, for numbers of fewer bits.
pub record Small (d : Day) : Type 0 where
  pub year : d.year ≤ 9999
  pub month : d.month ≤ 99
  pub day : d.day ≤ 99

pub record IsDayOf (bytes : List ℕ) (d : Day) : Type 0 where
  pub outcome : day_of bytes ≡ some (record { value = day_read d; rest = drop 10 bytes })
  pub small : Small d
  pub inside : 10 ≤ length bytes

abbrev pub DayOf : List ℕ → Answer Day → Type 0
DayOf bytes (Some d) = IsDayOf bytes d
DayOf bytes None = day_of bytes ≡ none

-- The day with a second and a zone.
abbrev pub zone_of : ℕ → ℕ → Option P.Zone
zone_of sign n = then (signed sign n) λ z. only (is_zone z) z

abbrev pub in_zone : P.Day → ℕ → Option P.Zone → Option P.Date
in_zone d s o = then o λ z. some (P.moment d s z)
