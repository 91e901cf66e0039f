-- Which of two dates is the earlier: document 01, "Dates", and document 02, Wish 3.
use Rattle.std.specs.Prelude.{Bool, true, cond, ℕ, zero, suc, ◌+◌, ◌*◌, ◌-◌, leb}
use Rattle.std.proofs.Math.Option.{Option, none, some}
use Rattle.document.specs.Posology.{Day, Zone, east, west, Date, bare, moment}
use Rattle.document.specs.Date.{leap, days_in, day_at}

-- "the calendar dates as written are compared"
abbrev pub written_day : Day → ℕ
written_day d = (d.year * 100 + d.month) * 100 + d.day

abbrev pub written : Date → ℕ
written (bare d) = written_day d
written (moment d s z) = written_day d

-- 0 where there is no date.
abbrev pub written_if : Option Date → ℕ
written_if none = 0
written_if (some d) = written d

abbrev pub in_written_order : Option Date → Option Date → Bool
in_written_order none to = true
in_written_order (some from) none = true
in_written_order (some from) (some to) = leb (written from) (written to)

-- Days are counted from the beginning of year 0: those of the years before, those of the months before, those of the month.
unfoldable pub days_of_years : ℕ → ℕ
unfolding leap
days_of_years zero = 0
days_of_years (suc year) = days_of_years year + cond (leap year) 366 365

unfoldable pub days_of_months : ℕ → ℕ → ℕ
unfolding days_in
days_of_months year zero = 0
days_of_months year (suc month) = days_of_months year month + days_in year month

unfoldable pub day_number : Day → ℕ
unfolding days_of_years days_of_months
day_number d = days_of_years d.year + days_of_months d.year d.month + d.day

-- "zone at most 14:00 either way": how far clocks are behind those of the easternmost zone, so that no moment's number is below 0.
abbrev pub minutes_behind : Zone → ℕ
minutes_behind (east n) = 840 - n
minutes_behind (west n) = 840 + n

-- The moment at which the clocks of a zone show this day and second, in seconds.
unfoldable pub instant : Day → ℕ → Zone → ℕ
unfolding day_number
instant d s z = day_number d * 86400 + s + minutes_behind z * 60

-- "dtTo may not be before dtFrom." "When both dtFrom and dtTo carry a time, compare the moments."
-- "With a bare date the old comparison stays."
abbrev pub in_order : Option Date → Option Date → Bool
in_order none to = true
in_order (some from) none = true
in_order (some (bare d)) (some to) = in_written_order (some (bare d)) (some to)
in_order (some (moment d s z)) (some (bare e)) = in_written_order (some (moment d s z)) (some (bare e))
in_order (some (moment d s z)) (some (moment e t y)) = leb (instant d s z) (instant e t y)

-- The calendar that moments are held against: the day after a day, and the zone a minute east of one.
abbrev pub tomorrow : Day → Day
tomorrow d =
    cond (leb (suc d.day) (days_in d.year d.month)) (day_at d.year d.month (suc d.day))
    (cond (leb (suc d.month) 12) (day_at d.year (suc d.month) 1)
    (day_at (suc d.year) 1 1))

abbrev pub eastward : Zone → Zone
eastward (east n) = east (suc n)
eastward (west n) = cond (leb n 1) (east 0) (west (n - 1))
