-- Document 01, "Dates" and "Times": the bytes of a date or a time of day, and what they mean.
use Rattle.std.specs.Prelude.{List, [], ◌∷◌, Bool, true, false, cond, ◌&&◌, ◌||◌, ℕ, ◌+◌, ◌*◌, ◌-◌, ◌%◌, eqb, leb}
use Rattle.std.proofs.Math.Option.{Option, none, some}
use Rattle.json_grammar.specs.Rows.{choose}
use Rattle.document.specs.Posology.{Day, Zone, east, west, Date, bare, moment}

abbrev pub day_at : ℕ → ℕ → ℕ → Day
day_at y m d = record { year = y; month = m; day = d }

-- Days of a month.
unfoldable pub leap : ℕ → Bool
leap year = cond (eqb (year % 400) 0) true (cond (eqb (year % 100) 0) false (eqb (year % 4) 0))

abbrev pub among : ℕ → List ℕ → Bool
among n [] = false
among n (m ∷ ms) = eqb n m || among n ms

unfoldable pub days_in : ℕ → ℕ → ℕ
unfolding leap
days_in year month =
    cond (among month (1 ∷ 3 ∷ 5 ∷ 7 ∷ 8 ∷ 10 ∷ 12 ∷ [])) 31
    (cond (among month (4 ∷ 6 ∷ 9 ∷ 11 ∷ [])) 30
    (cond (eqb month 2) (cond (leap year) 29 28) 0))

-- "years 1900 to 2199, real Gregorian days"
unfoldable pub is_day : Day → Bool
unfolding days_in
is_day d = leb 1900 d.year && leb d.year 2199 && leb 1 d.day && leb d.day (days_in d.year d.month)

-- "zone at most 14:00 either way"; "-00:00 is stored as +00:00"
abbrev pub is_zone : Zone → Bool
is_zone (east n) = leb n 840
is_zone (west n) = leb 1 n && leb n 840

abbrev pub is_second : ℕ → Bool
is_second s = leb s 86399

abbrev pub is_date : Date → Bool
is_date (bare d) = is_day d
is_date (moment d s z) = is_day d && is_second s && is_zone z

-- Two digits, and then what stands behind them. A byte that is no digit ends all.
abbrev pub is_digit : ℕ → Bool
is_digit b = leb 48 b && leb b 57

abbrev pub pair : ℕ → ℕ → ℕ
pair a b = (a - 48) * 10 + (b - 48)

-- The bytes that are left, behind what was read of them.
pub record Behind (A : Type 0) : Type 0 where
  pub value : A
  pub rest : List ℕ

abbrev pub two : List ℕ → Option (Behind ℕ)
two [] = none
two (a ∷ []) = none
two (a ∷ b ∷ s) = cond (is_digit a && is_digit b) (some (record { value = pair a b; rest = s })) none

abbrev pub then : {A B : Type 0} → Option A → (A → Option B) → Option B
then none f = none
then (some a) f = f a

-- This byte, and then the rest.
abbrev pub mark : {A : Type 0} → ℕ → List ℕ → (List ℕ → Option A) → Option A
mark m [] f = none
mark m (b ∷ s) f = choose (eqb b m) (λ _. f s) λ _. none

abbrev pub only : {A : Type 0} → Bool → A → Option A
only true a = some a
only false a = none

-- hh:mm, below 24:00
abbrev pub clock : List ℕ → Option (Behind ℕ)
clock s =
    then (two s) λ h.
    mark 58 h.rest λ s₁.
    then (two s₁) λ m.
    only (leb h.value 23 && leb m.value 59) (record { value = h.value * 60 + m.value; rest = m.rest })

abbrev pub alone : {A : Type 0} → List ℕ → A → Option A
alone [] a = some a
alone (b ∷ s) a = none

-- The seconds of a time, from its minutes on.
abbrev pub seconds : Behind ℕ → Option (Behind ℕ)
seconds m =
    mark 58 m.rest λ s.
    then (two s) λ n.
    only (leb n.value 59) (record { value = m.value * 60 + n.value; rest = n.rest })

abbrev pub at_minute : Behind ℕ → List ℕ → Option ℕ
at_minute m [] = some (m.value * 60)
at_minute m (b ∷ s) = then (seconds m) λ n. alone n.rest n.value

-- "hh:mm:ss or hh:mm, which stands for second 00"
unfoldable pub time_of : List ℕ → Option ℕ
time_of s = then (clock s) λ m. at_minute m m.rest

-- yyyy-mm-dd
abbrev pub day_of : List ℕ → Option (Behind Day)
day_of s =
    then (two s) λ c.
    then (two c.rest) λ y.
    mark 45 y.rest λ s₁.
    then (two s₁) λ m.
    mark 45 m.rest λ s₂.
    then (two s₂) λ d.
    let day : Day = record { year = c.value * 100 + y.value; month = m.value; day = d.value } in
    only (is_day day) (record { value = day; rest = d.rest })

abbrev pub minutes_west : ℕ → Zone
minutes_west n = cond (eqb n 0) (east 0) (west n)

-- + is 43 and - is 45.
abbrev pub signed : ℕ → ℕ → Option Zone
signed b n = cond (eqb b 43) (some (east n)) (cond (eqb b 45) (some (minutes_west n)) none)

-- +hh:mm or -hh:mm, and nothing behind it
abbrev pub zone : List ℕ → Option Zone
zone [] = none
zone (b ∷ s) =
    then (clock s) λ m.
    then (alone m.rest m.value) λ n.
    then (signed b n) λ z.
    only (is_zone z) z

-- Thh:mm:ss and a zone, behind a day
abbrev pub moment_of : Day → List ℕ → Option Date
moment_of d s =
    mark 84 s λ s₁.
    then (clock s₁) λ m.
    then (seconds m) λ n.
    then (zone n.rest) λ z.
    some (moment d n.value z)

abbrev pub bare_or : Day → List ℕ → Option Date
bare_or d [] = some (bare d)
bare_or d (b ∷ s) = moment_of d (b ∷ s)

unfoldable pub date_of : List ℕ → Option Date
unfolding is_day
date_of s = then (day_of s) λ d. bare_or d.value d.rest
