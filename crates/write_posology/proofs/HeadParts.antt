-- A day and a moment by the parts that are put, of which each keeps its last digits only: a date's numbers have no more.
use mathlib.Core.Path.{◌≡◌, refl}
use mathlib.Core.List.{List, ◌∷◌, ◌++◌}
use mathlib.Core.Bool.{Bool, true, false, cond, ◌&&◌}
use Prim.Native.Nat.{ℕ, ◌/◌, ◌%◌, ◌≤◌}
use native.Mathlib.Omega.{arith}
use borrow.Author.Tests.{leb-true}
use Rattle.document.specs.Posology.{Day, moment}
use Rattle.document.specs.Date.{is_day, is_zone, is_second, is_date}
use Rattle.document.specs.Untable.{zone_of}
use Rattle.document.specs.Plain.{two, clock, time_text, day_text, zone_text}
use Rattle.json_grammar.proofs.Truth.{and_left, and_right}
use Rattle.document.proofs.Ranges.{in_range}
use Rattle.document.proofs.WrittenDates.{small_day}

pub day_twos : (y m d : ℕ) (k : List ℕ) → y ≤ 9999 → m ≤ 99 → d ≤ 99
    → day_text (record { year = y; month = m; day = d }) k ≡ two (y / 100 % 100) (two (y % 100 % 100) (45 ∷ two (m % 100) (45 ∷ two (d % 100) k)))
day_twos y m d k hy hm hd =
    let a : y / 100 % 100 ≡ y / 100 = omega arith in
    let b : y % 100 % 100 ≡ y % 100 = omega arith in
    let e : m % 100 ≡ m = omega arith in
    let f : d % 100 ≡ d = omega arith in
    rw (a, b, e, f)

pub moment_parts : {b : ℕ} (s : ℕ) (west : Bool) (z : ℕ) (k : List ℕ) → s ≤ 86399 → z ≤ 840 → b ≡ cond west 45 43
    → 84 ∷ time_text s (zone_text (zone_of west z) ++ k) ≡ 84 ∷ time_text (s % 360000) (b ∷ clock (z % 6000) k)
moment_parts s west z k hs hz h =
    let e : s % 360000 ≡ s = omega arith in
    let f : z % 6000 ≡ z = omega arith in
    rw (e, f, h) (go west)
  where
    go : (w : Bool) → 84 ∷ time_text s (zone_text (zone_of w z) ++ k) ≡ 84 ∷ time_text s (cond w 45 43 ∷ clock z k)
    go true = refl
    go false = refl

zone_small : (west : Bool) (z : ℕ) → is_zone (zone_of west z) ≡ true → z ≤ 840
zone_small false z v = leb-true z 840 v
zone_small true z v = (in_range 1 z 840 v).1

pub record Small (d : Day) : Type 0 where
  pub year : d.year ≤ 9999
  pub month : d.month ≤ 99
  pub day : d.day ≤ 99

pub day_small : (d : Day) → is_day d ≡ true → Small d
day_small d v = let s = small_day d v in record { year = omega arith; month = omega arith; day = omega arith }

pub record SmallMoment (d : Day) (s z : ℕ) : Type 0 where
  pub on : Small d
  pub second : s ≤ 86399
  pub zone : z ≤ 840

pub moment_small : (d : Day) (s : ℕ) (west : Bool) (z : ℕ) → is_date (moment d s (zone_of west z)) ≡ true → SmallMoment d s z
moment_small d s west z v =
    let front = and_left (is_day d && is_second s) (is_zone (zone_of west z)) v in
    record {
      on = day_small d (and_left (is_day d) (is_second s) front);
      second = leb-true s 86399 (and_right (is_day d) (is_second s) front);
      zone = zone_small west z (and_right (is_day d && is_second s) (is_zone (zone_of west z)) v);
    }
