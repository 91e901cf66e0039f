-- What hexadecimal digits count, and the digits gathered.
use Prim.Native.Nat.{ℕ, ◌+◌, ◌*◌, ◌<◌}
use mathlib.Core.Path.{◌≡◌}
use native.Mathlib.Nat.{mod-eq_of_lt}
use native.Mathlib.Omega.{arith}
use Rattle.std.proofs.lemmas.Bool.Decides.{nat_tests}
use Rattle.json_grammar.specs.Byte.{digit}
use Rattle.json_grammar.specs.Rows.{look}
use Rattle.json_grammar.specs.String.{one_more}

pub digit_small : (b : ℕ) → digit b < 16
unfolding digit look
digit_small b = grind (arith, nat_tests)

-- Up to eight digits are gathered whole.
pub no_wrap : (v b : ℕ) → v < 0x10000000 → one_more v b ≡ v * 16 + digit b
unfolding one_more
no_wrap v b h = mod-eq_of_lt (omega (arith, digit_small b))
