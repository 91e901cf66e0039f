-- The values of a valid posology are carried by the widths of the table.
use Prim.Native.Nat.{ℕ, ◌≤◌, ◌<◌, ◌%◌, ◌^◌}
use mathlib.Core.Path.{◌≡◌}
use mathlib.Core.List.{List}
use mathlib.Core.Bool.{true, ◌&&◌}
use native.Mathlib.Nat.{mod-eq_of_lt}
use native.Mathlib.Omega.{arith}
use lib.Pow.{pow_mono}
use lib.Dec.{leb}
use Rattle.document.specs.Schema.{greatest_integer}
use Rattle.document.specs.Table.{day_set}
use Rattle.document.specs.Valid.{is_duration, is_time_unit, is_days}
use Rattle.document.proofs.Ranges.{in_range}
use Rattle.document.proofs.Days.{days_climb}
use Rattle.document.proofs.DaySets.{days_small}

pub duration_carried : (n : ℕ) → is_duration n ≡ true → n % 0x100000000 ≡ n
duration_carried n h = mod-eq_of_lt (omega (arith, in_range 1 n greatest_integer h))

pub unit_carried : (u : ℕ) → is_time_unit u ≡ true → u % 256 ≡ u
unit_carried u h = mod-eq_of_lt (omega (arith, in_range 1 u 7 h))

pub small_carried : (s hi : ℕ) → hi < 256 → (leb 1 s && leb s hi) ≡ true → s % 256 ≡ s
small_carried s hi k h = mod-eq_of_lt (omega (arith, in_range 1 s hi h))

pub days_carried : (hi : ℕ) (ds : List ℕ) → hi ≤ 28 → is_days hi ds ≡ true → day_set ds % 0x100000000 ≡ day_set ds
days_carried hi ds h k =
    let small = days_small 0 hi ds (omega arith) (days_climb hi ds k) in
    let most : 2 ^ hi ≤ 2 ^ 28 = pow_mono h in
    mod-eq_of_lt (omega arith)
