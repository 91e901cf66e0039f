-- Dates and times as they are written in a plain text mean what was written.
use mathlib.Core.Path.{◌≡◌, refl, ap, sym, subst, ◌∙◌}
use mathlib.Core.List.{List, [], ◌∷◌}
use mathlib.Core.Bool.{Bool, true, false, cond, ◌&&◌, ◌||◌, false≢true}
use mathlib.Core.Option.{Option, none, some}
use Prim.Native.Nat.{ℕ, ◌+◌, ◌*◌, ◌-◌, ◌/◌, ◌%◌, ◌≤◌, ◌<◌}
use native.Mathlib.Omega.{arith}
use lib.Dec.{eqb, leb}
use borrow.Author.Tests.{leb-true, le-leb, eqb-true, ne_eqb}
use Rattle.document.specs.Posology.{Day, Zone, east, west, Date, bare, moment}
use Rattle.document.specs.Date.{among, leap, days_in, is_day, is_zone, is_second, is_date, is_digit, pair, Behind, two, then, only, clock, seconds, time_of, day_of, minutes_west, zone, date_of}
use Rattle.document.specs.Plain as P
use Rattle.json_grammar.proofs.Truth.{and_both, cond_true}
use Rattle.document.proofs.Ranges.{in_range}
use Rattle.document.proofs.DetailParts.{all_three, all_four}

then_to : {A B : Type 0} (o : Option A) (a : A) (f : A → Option B) (z : Option B) → o ≡ some a → f a ≡ z → then o f ≡ z
then_to {A} o a f z e g = ap (λ (q : Option A). then q f) e ∙ g

only_to : {A : Type 0} (b : Bool) (a : A) → b ≡ true → only b a ≡ some a
only_to {A} b a e = ap (λ (c : Bool). only c a) e

abbrev read : ℕ → List ℕ → Behind ℕ
read n k = record { value = n; rest = k }

a_digit : (d : ℕ) → d ≤ 9 → is_digit (48 + d) ≡ true
a_digit d h = and_both (le-leb 48 (48 + d) (omega arith)) (le-leb (48 + d) 57 (omega arith))

two_reads : (n : ℕ) (k : List ℕ) → n ≤ 99 → two (P.two n k) ≡ some (read n k)
two_reads n k h =
    let e : (48 + n / 10 - 48) * 10 + (48 + n % 10 - 48) ≡ n = omega arith in
    cond_true (is_digit (48 + n / 10) && is_digit (48 + n % 10)) (some (read (pair (48 + n / 10) (48 + n % 10)) k)) none (and_both (a_digit (n / 10) (omega arith)) (a_digit (n % 10) (omega arith)))
    ∙ ap (λ (v : ℕ). some (read v k)) e

clock_reads : (m : ℕ) (k : List ℕ) → m < 1440 → clock (P.clock m k) ≡ some (read m k)
clock_reads m k h =
    let e : m / 60 * 60 + m % 60 ≡ m = omega arith in
    then_to (two (P.clock m k)) (read (m / 60) (58 ∷ P.two (m % 60) k)) _ _ (two_reads (m / 60) (58 ∷ P.two (m % 60) k) (omega arith))
    (then_to (two (P.two (m % 60) k)) (read (m % 60) k) _ _ (two_reads (m % 60) k (omega arith))
    (only_to (leb (m / 60) 23 && leb (m % 60) 59) (read (m / 60 * 60 + m % 60) k) (and_both (le-leb (m / 60) 23 (omega arith)) (le-leb (m % 60) 59 (omega arith)))
    ∙ ap (λ (v : ℕ). some (read v k)) e))

seconds_read : (m s : ℕ) (k : List ℕ) → s ≤ 59 → seconds (read m (58 ∷ P.two s k)) ≡ some (read (m * 60 + s) k)
seconds_read m s k h =
    then_to (two (P.two s k)) (read s k) _ _ (two_reads s k (omega arith))
    (only_to (leb s 59) (read (m * 60 + s) k) (le-leb s 59 h))

pub time_reads : (s : ℕ) → is_second s ≡ true → time_of (P.time_text s []) ≡ some s
unfolding time_of
time_reads s v =
    let h : s ≤ 86399 = leb-true s 86399 v in
    let e : s / 60 * 60 + s % 60 ≡ s = omega arith in
    then_to (clock (P.time_text s [])) (read (s / 60) (58 ∷ P.two (s % 60) [])) _ _ (clock_reads (s / 60) (58 ∷ P.two (s % 60) []) (omega arith))
    (then_to (seconds (read (s / 60) (58 ∷ P.two (s % 60) []))) (read (s / 60 * 60 + s % 60) []) _ _ (seconds_read (s / 60) (s % 60) [] (omega arith))
    (ap (λ (v : ℕ). some v) e))

-- The month of a real day.
abbrev Small : List ℕ → Type 0
Small [] = Unit {0}
Small (n ∷ ms) = (n ≤ 12) × Small ms

or_cases : (a b : Bool) (A : Type 0) → (a || b) ≡ true → (a ≡ true → A) → (b ≡ true → A) → A
or_cases true b A h f g = f refl
or_cases false b A h f g = g h

small : (m : ℕ) (ms : List ℕ) → Small ms → among m ms ≡ true → m ≤ 12
small m [] s h = absurd (false≢true h)
small m (n ∷ ms) s h = or_cases (eqb m n) (among m ms) (m ≤ 12) h (λ e. let f : m ≡ n = eqb-true m n e in let g = s.0 in omega arith) (λ e. small m ms s.1 e)

pub month_days : (y m : ℕ) → days_in y m ≤ 31
unfolding days_in
month_days y m = go (among m (1 ∷ 3 ∷ 5 ∷ 7 ∷ 8 ∷ 10 ∷ 12 ∷ [])) (among m (4 ∷ 6 ∷ 9 ∷ 11 ∷ [])) (eqb m 2) (leap y)
  where
    go : (a b c d : Bool) → cond a 31 (cond b 30 (cond c (cond d 29 28) 0)) ≤ 31
    go true b c d = omega arith
    go false true c d = omega arith
    go false false true true = omega arith
    go false false true false = omega arith
    go false false false d = omega arith

month_small : (y m : ℕ) → 1 ≤ days_in y m → m ≤ 12
unfolding days_in
month_small y m h = go (among m (1 ∷ 3 ∷ 5 ∷ 7 ∷ 8 ∷ 10 ∷ 12 ∷ [])) (among m (4 ∷ 6 ∷ 9 ∷ 11 ∷ [])) (eqb m 2) refl refl refl h
  where
    go : (a b c : Bool) → among m (1 ∷ 3 ∷ 5 ∷ 7 ∷ 8 ∷ 10 ∷ 12 ∷ []) ≡ a → among m (4 ∷ 6 ∷ 9 ∷ 11 ∷ []) ≡ b → eqb m 2 ≡ c → 1 ≤ cond a 31 (cond b 30 (cond c (cond (leap y) 29 28) 0)) → m ≤ 12
    go true b c e f g h = small m (1 ∷ 3 ∷ 5 ∷ 7 ∷ 8 ∷ 10 ∷ 12 ∷ []) (omega arith, (omega arith, (omega arith, (omega arith, (omega arith, (omega arith, (omega arith, tt))))))) e
    go false true c e f g h = small m (4 ∷ 6 ∷ 9 ∷ 11 ∷ []) (omega arith, (omega arith, (omega arith, (omega arith, tt)))) f
    go false false true e f g h = let i : m ≡ 2 = eqb-true m 2 g in omega arith
    go false false false e f g h = absurd (omega arith)

-- The parts of "real Gregorian days".
pub day_parts : (d : Day) → is_day d ≡ true
    → record { first : 1900 ≤ d.year; last : d.year ≤ 2199; from : 1 ≤ d.day; to : d.day ≤ days_in d.year d.month }
unfolding is_day
day_parts d v =
    let w = all_four (leb 1900 d.year) (leb d.year 2199) (leb 1 d.day) (leb d.day (days_in d.year d.month)) v in
    record { first = leb-true _ _ w.0; last = leb-true _ _ w.1; from = leb-true _ _ w.2; to = leb-true _ _ w.3 }

pub small_day : (d : Day) → is_day d ≡ true → (d.year ≤ 2199) × (d.month ≤ 12) × (d.day ≤ 31)
small_day d v =
    let w = day_parts d v in
    let from = w.from in
    let to = w.to in
    let days = month_days d.year d.month in
    (w.last, month_small d.year d.month (omega arith), omega arith)

some_minutes : (n : ℕ) → eqb n 0 ≡ false → minutes_west n ≡ west n
some_minutes n e = ap (λ (b : Bool). cond b (east 0) (west n)) e

abbrev found : Day → List ℕ → Behind Day
found d k = record { value = d; rest = k }

abbrev in_year : Day → ℕ → Day
in_year d y = record { year = y; month = d.month; day = d.day }

day_reads : (d : Day) (k : List ℕ) → is_day d ≡ true → day_of (P.day_text d k) ≡ some (record { value = d; rest = k })
day_reads d k v =
    let s = small_day d v in
    let y = s.0 in let m = s.1 in let e = s.2 in
    then_to (two (P.day_text d k)) (read (d.year / 100) (P.two (d.year % 100) (45 ∷ P.two d.month (45 ∷ P.two d.day k)))) _ _ (two_reads (d.year / 100) _ (omega arith))
    (then_to (two (P.two (d.year % 100) (45 ∷ P.two d.month (45 ∷ P.two d.day k)))) (read (d.year % 100) (45 ∷ P.two d.month (45 ∷ P.two d.day k))) _ _ (two_reads (d.year % 100) _ (omega arith))
    (then_to (two (P.two d.month (45 ∷ P.two d.day k))) (read d.month (45 ∷ P.two d.day k)) _ _ (two_reads d.month _ (omega arith))
    (then_to (two (P.two d.day k)) (read d.day k) _ _ (two_reads d.day k (omega arith))
    (subst (λ (z : ℕ). only (is_day (in_year d z)) (found (in_year d z) k) ≡ some (found d k)) (whole_year d.year) (only_to (is_day d) (found d k) v)))))
  where
    whole_year : (n : ℕ) → n ≡ n / 100 * 100 + n % 100
    whole_year n = omega arith

zone_reads : (z : Zone) → is_zone z ≡ true → zone (P.zone_text z) ≡ some z
zone_reads (east n) v =
    let h : n ≤ 840 = leb-true n 840 v in
    then_to (clock (P.clock n [])) (read n []) _ _ (clock_reads n [] (omega arith)) (only_to (is_zone (east n)) (east n) v)
zone_reads (west n) v =
    let h = in_range 1 n 840 v in
    let e : minutes_west n ≡ west n = some_minutes n (ne_eqb n 0 (λ f. omega arith)) in
    then_to (clock (P.clock n [])) (read n []) _ _ (clock_reads n [] (omega arith)) (subst (λ (z : Zone). only (is_zone z) z ≡ some (west n)) (sym e) (only_to (is_zone (west n)) (west n) v))

pub moment_parts : (d : Day) (s : ℕ) (z : Zone) → is_date (moment d s z) ≡ true → record { day : is_day d ≡ true; second : is_second s ≡ true; zone : is_zone z ≡ true }
moment_parts d s z v =
    let w = all_three (is_day d) (is_second s) (is_zone z) v in
    record { day = w.0; second = w.1; zone = w.2 }

pub date_reads : (d : Date) → is_date d ≡ true → date_of (P.date_text d) ≡ some d
unfolding date_of
date_reads (bare d) v = then_to (day_of (P.day_text d [])) (record { value = d; rest = [] }) _ _ (day_reads d [] v) refl
date_reads (moment d s z) v =
    let w = moment_parts d s z v in
    let h : s ≤ 86399 = leb-true s 86399 w.second in
    let e : s / 60 * 60 + s % 60 ≡ s = omega arith in
    then_to (day_of (P.date_text (moment d s z))) (record { value = d; rest = 84 ∷ P.time_text s (P.zone_text z) }) _ _ (day_reads d (84 ∷ P.time_text s (P.zone_text z)) w.day)
    (then_to (clock (P.time_text s (P.zone_text z))) (read (s / 60) (58 ∷ P.two (s % 60) (P.zone_text z))) _ _ (clock_reads (s / 60) (58 ∷ P.two (s % 60) (P.zone_text z)) (omega arith))
    (then_to (seconds (read (s / 60) (58 ∷ P.two (s % 60) (P.zone_text z)))) (read (s / 60 * 60 + s % 60) (P.zone_text z)) _ _ (seconds_read (s / 60) (s % 60) (P.zone_text z) (omega arith))
    (then_to (zone (P.zone_text z)) z _ _ (zone_reads z w.zone) (ap (λ (n : ℕ). some (moment d n z)) e))))
