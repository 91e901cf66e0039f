-- Months that are none, and the order of two dates of the table.
use mathlib.Core.Path.{◌≡◌, refl}
use mathlib.Core.Bool.{Bool, true, false}
use mathlib.Core.Option.{Option, none, some}
use Prim.Native.Nat.{ℕ, ◌+◌, ◌≤◌}
use native.Mathlib.Omega.{arith}
use lib.Dec.{leb}
use borrow.Author.Tests.{le-leb, ne_eqb}
use Rattle.document.specs.Posology as P
use Rattle.document.specs.Date.{days_in}
use Rattle.document.specs.Moments.{written, written_if, in_written_order, minutes_behind, in_order}
use Rattle.document.specs.Untable.{date_of, zone_of}
use Rattle.document.specs.declared.table.Date.{Date}
use Rattle.document.specs.declared.table.Date.TheVariants as D

pub no_month : (y m : ℕ) → (m ≡ 1 → ⊥) → (m ≡ 2 → ⊥) → (m ≡ 3 → ⊥) → (m ≡ 4 → ⊥) → (m ≡ 5 → ⊥) → (m ≡ 6 → ⊥) → (m ≡ 7 → ⊥) → (m ≡ 8 → ⊥) → (m ≡ 9 → ⊥) → (m ≡ 10 → ⊥) → (m ≡ 11 → ⊥) → (m ≡ 12 → ⊥) → 0 ≡ days_in y m
unfolding days_in
no_month y m n1 n2 n3 n4 n5 n6 n7 n8 n9 n10 n11 n12 =
    rw (ne_eqb m 1 n1, ne_eqb m 3 n3, ne_eqb m 5 n5, ne_eqb m 7 n7, ne_eqb m 8 n8, ne_eqb m 10 n10, ne_eqb m 12 n12, ne_eqb m 4 n4, ne_eqb m 6 n6, ne_eqb m 9 n9, ne_eqb m 11 n11, ne_eqb m 2 n2)

pub order_open : (from : Option P.Date) → true ≡ in_written_order from none
order_open none = refl
order_open (some from) = refl

order_some : (from : Option P.Date) (to : P.Date) → leb (written_if from) (written to) ≡ in_written_order from (some to)
order_some none to = le-leb 0 (written to) (omega arith)
order_some (some from) to = refl

pub order_given : (from : Option P.Date) (to : Date) → (to ≡ D.Absent → ⊥)
    → leb (written_if from) (written_if (date_of to)) ≡ in_written_order from (date_of to)
order_given from D.Absent h = absurd (h refl)
order_given from (D.Bare y m d) h = order_some from _
order_given from (D.Moment y m d s west zone) h = order_some from _

pub behind_small : (west : Bool) (n : ℕ) → minutes_behind (zone_of west n) ≤ 840 + n
behind_small true n = omega arith
behind_small false n = omega arith

-- Where one of the two has no time, the days are compared as written.
pub by_written_start : (from : Date) (to : Option P.Date) → ((y m d s : ℕ) (west : Bool) (zone : ℕ) → from ≡ D.Moment y m d s west zone → ⊥)
    → in_written_order (date_of from) to ≡ in_order (date_of from) to
by_written_start D.Absent to h = refl
by_written_start (D.Bare y m d) none h = refl
by_written_start (D.Bare y m d) (some to) h = refl
by_written_start (D.Moment y m d s west zone) to h = absurd (h y m d s west zone refl)

pub by_written_end : (from : Option P.Date) (to : Date) → ((y m d s : ℕ) (west : Bool) (zone : ℕ) → to ≡ D.Moment y m d s west zone → ⊥)
    → in_written_order from (date_of to) ≡ in_order from (date_of to)
by_written_end none to h = refl
by_written_end (some from) D.Absent h = refl
by_written_end (some (P.bare d)) (D.Bare y m n) h = refl
by_written_end (some (P.moment d s z)) (D.Bare y m n) h = refl
by_written_end (some from) (D.Moment y m d s west zone) h = absurd (h y m d s west zone refl)
