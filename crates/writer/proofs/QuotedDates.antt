-- A date between quotes: none of its bytes is escaped.
use mathlib.Core.Path.{◌≡◌, refl, ap, ◌∙◌}
use mathlib.Core.List.{List, [], ◌∷◌, ◌++◌}
use mathlib.Core.Bool.{Bool, true, false}
use Prim.Native.Nat.{ℕ, ◌+◌, ◌/◌, ◌%◌, ◌≤◌, ◌<◌}
use native.Mathlib.Omega.{arith}
use Rattle.document.specs.Posology as P
use Rattle.document.specs.Date.{is_date}
use Rattle.document.specs.Valid.{if_given}
use Rattle.document.specs.Untable.{date_of, zone_of}
use Rattle.document.specs.Spell.{quoted}
use Rattle.document.specs.Plain.{two, clock, time_text, day_text, zone_text, date_text}
use Rattle.document.specs.declared.table.Date.{Date}
use Rattle.document.specs.declared.table.Date.TheVariants.{Absent, Bare, Moment}
use Rattle.document.proofs.RealDates.{Holds}
use Rattle.write_strings.proofs.Chars.{escaped_itself}
use Rattle.write_posology.proofs.HeadParts.{Small, day_small, moment_small}

-- Between the quote and the backslash.
pub data Unescaped : List ℕ → Type 0 where
  none : Unescaped []
  more : (b : ℕ) {bs : List ℕ} → 35 ≤ b → b < 92 → Unescaped bs → Unescaped (b ∷ bs)

pub quoted_itself : {cs : List ℕ} (k : List ℕ) → Unescaped cs → quoted cs k ≡ cs ++ (34 ∷ k)
unfolding quoted
quoted_itself k none = refl
quoted_itself k (more b {bs = bs} l h u) = escaped_itself b (quoted bs k) (omega arith) (λ e. omega arith) (λ e. omega arith) ∙ ap (λ (s : List ℕ). b ∷ s) (quoted_itself k u)

two_unescaped : (n : ℕ) {k : List ℕ} → n ≤ 99 → Unescaped k → Unescaped (two n k)
two_unescaped n h u = more (48 + n / 10) (omega arith) (omega arith) (more (48 + n % 10) (omega arith) (omega arith) u)

clock_unescaped : (n : ℕ) {k : List ℕ} → n < 6000 → Unescaped k → Unescaped (clock n k)
clock_unescaped n h u = two_unescaped (n / 60) (omega arith) (more 58 (omega arith) (omega arith) (two_unescaped (n % 60) (omega arith) u))

time_unescaped : (n : ℕ) {k : List ℕ} → n ≤ 86399 → Unescaped k → Unescaped (time_text n k)
time_unescaped n h u = clock_unescaped (n / 60) (omega arith) (more 58 (omega arith) (omega arith) (two_unescaped (n % 60) (omega arith) u))

day_unescaped : (d : P.Day) {k : List ℕ} → Small d → Unescaped k → Unescaped (day_text d k)
day_unescaped d s u =
    two_unescaped (d.year / 100) (omega arith) (two_unescaped (d.year % 100) (omega arith)
    (more 45 (omega arith) (omega arith) (two_unescaped d.month s.month
    (more 45 (omega arith) (omega arith) (two_unescaped d.day s.day u)))))

zone_unescaped : (west : Bool) (n : ℕ) → n ≤ 840 → Unescaped (zone_text (zone_of west n))
zone_unescaped false n h = more 43 (omega arith) (omega arith) (clock_unescaped n (omega arith) none)
zone_unescaped true n h = more 45 (omega arith) (omega arith) (clock_unescaped n (omega arith) none)

pub date_unescaped : (d : Date) → if_given is_date (date_of d) ≡ true → Holds (λ x. Unescaped (date_text x)) (date_of d)
date_unescaped Absent v = tt
date_unescaped (Bare y m d) v = day_unescaped _ (day_small _ v) none
date_unescaped (Moment y m d s west zone) v =
    let small = moment_small _ s west zone v in
    day_unescaped _ small.on (more 84 (omega arith) (omega arith) (time_unescaped s small.second (zone_unescaped west zone small.zone)))
