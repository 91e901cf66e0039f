-- Document 02, Wish 3: the number of a moment against the calendar, and the wish's examples.
use mathlib.Core.Path.{◌≡◌, refl}
use mathlib.Core.List.{List, [], ◌∷◌}
use mathlib.Core.Bool.{Bool, true, false, cond}
use mathlib.Core.Option.{none, some}
use Prim.Native.Nat.{ℕ, suc, ◌+◌, ◌-◌, ◌≤◌, ◌<◌}
use Prim.Native.String.{String}
use native.Mathlib.Omega.{arith}
use lib.Dec.{leb}
use borrow.Author.Tests.{leb-true, leb-false}
use Rattle.document.specs.Posology.{Day, Zone, east, west, Date, moment, free_text, Posology}
use Rattle.document.specs.Date.{day_at, is_day, is_zone}
use Rattle.document.specs.Moments.{minutes_behind, instant, tomorrow, eastward}
use Rattle.document.specs.Bytes.{bytes}
use Rattle.document.specs.Valid.{detail_records}
use Rattle.document.specs.Table.{table_of}
use Rattle.document.specs.Answer.{read}
use Rattle.document.specs.Write.{writes, refuses, write}
use Rattle.document.proofs.Ranges.{in_range}
use Rattle.document.proofs.DayNumbers.{next_number}
use Rattle.document_meaning.proofs.Examples.{Row, row, ◌at◌, records, answers, last_column}

-- One day later is 86,400 more, over the turns of months, years and leap years too.
pub a_day_later : (d : Day) (s : ℕ) (z : Zone) → is_day d ≡ true → instant (tomorrow d) s z ≡ instant d s z + 86400
unfolding instant
a_day_later d s z v = rw (next_number d v) (omega arith)

pub a_second_later : (d : Day) (s : ℕ) (z : Zone) → instant d (suc s) z ≡ instant d s z + 1
unfolding instant
a_second_later d s z = omega arith

-- One zone minute east is 60 less.
minute_east : (z : Zone) → is_zone z ≡ true → is_zone (eastward z) ≡ true → minutes_behind (eastward z) + 1 ≡ minutes_behind z
minute_east (east n) v w = let h : suc n ≤ 840 = leb-true _ _ w in omega arith
minute_east (west n) v w = go (leb n 1) refl (in_range 1 n 840 v)
  where
    go : (b : Bool) → leb n 1 ≡ b → (1 ≤ n) × (n ≤ 840) → minutes_behind (cond b (east 0) (west (n - 1))) + 1 ≡ 840 + n
    go true e h = let k : n ≤ 1 = leb-true _ _ e in let l = h.0 in omega arith
    go false e h = let k : 1 < n = leb-false _ _ e in omega arith

pub a_minute_east : (d : Day) (s : ℕ) (z : Zone) → is_zone z ≡ true → is_zone (eastward z) ≡ true
    → instant d s (eastward z) + 60 ≡ instant d s z
unfolding instant
a_minute_east d s z v w = let h = minute_east z v w in omega arith

-- The wish's pair of dates, the later moment first, and the reverse pair.
abbrev pub backward : String
backward = "{\"dtFrom\":\"2024-03-05T23:30:00+01:00\",\"dtTo\":\"2024-03-06T00:15:00+02:00\",\"po\":{\"t\":2,\"text\":\"x\"}}"

abbrev pub forward : String
forward = "{\"dtFrom\":\"2024-03-06T00:15:00+02:00\",\"dtTo\":\"2024-03-05T23:30:00+01:00\",\"po\":{\"t\":2,\"text\":\"x\"}}"

-- These two; equal moments; one written day; a bare date; a moment of 1899.
abbrev pub table : List Row
table =
    row backward 3 (12 at 0)
    ∷ row forward 3 (records 1)
    ∷ row "{\"dtFrom\":\"2024-03-05T23:30:00+01:00\",\"dtTo\":\"2024-03-05T22:30:00+00:00\",\"po\":{\"t\":2,\"text\":\"x\"}}" 3 (records 1)
    ∷ row "{\"dtFrom\":\"2024-03-05T12:00:00+00:00\",\"dtTo\":\"2024-03-05T11:00:00+00:00\",\"po\":{\"t\":2,\"text\":\"x\"}}" 3 (12 at 0)
    ∷ row "{\"dtFrom\":\"2024-03-05T23:30:00+01:00\",\"dtTo\":\"2024-03-05\",\"po\":{\"t\":2,\"text\":\"x\"}}" 3 (records 1)
    ∷ row "{\"dtFrom\":\"1900-01-01T00:00:00+14:00\",\"dtTo\":\"1900-01-01T00:00:00-14:00\",\"po\":{\"t\":2,\"text\":\"x\"}}" 3 (records 1)
    ∷ []

pub examples : answers table ≡ last_column table
unfolding read detail_records instant
examples = refl

-- Refusal 18 follows: a table with the wish's pair of dates is not written, one with the reverse pair is.
abbrev pub between : Date → Date → Posology
between from to =
    record {
      dt_from = some from;
      dt_to = some to;
      in_res = false;
      po = free_text (bytes "x");
      rel_meal = none;
      unit = none;
      appl_instr = none;
      roa = none;
      moa = none;
    }

abbrev pub evening : Date
evening = moment (day_at 2024 3 5) 84600 (east 60)

abbrev pub night : Date
night = moment (day_at 2024 3 6) 900 (east 120)

pub pair_written :
    (write 3 (table_of (between evening night)) (bytes "x") 2048 ≡ refuses 18 0)
    × (write 3 (table_of (between night evening)) (bytes "x") 2048
    ≡ writes (bytes forward))
unfolding write table_of instant
pair_written = (refl, refl)
