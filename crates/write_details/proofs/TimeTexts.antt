-- A time between quotes has nothing to escape.
use mathlib.Core.Path.{◌≡◌}
use mathlib.Core.List.{List, [], ◌∷◌}
use Prim.Native.Nat.{ℕ, ◌+◌, ◌/◌, ◌%◌, ◌≤◌, ◌<◌}
use native.Mathlib.Omega.{arith}
use Rattle.document.specs.Spell.{quoted}
use Rattle.document.specs.Plain.{two, time_text}
use Rattle.write_strings.proofs.Chars.{escaped_itself}

-- 10 is for the colon, which stands behind the digits.
pub digit_quoted : (n : ℕ) (cs k : List ℕ) → n ≤ 10 → quoted ((48 + n) ∷ cs) k ≡ (48 + n) ∷ quoted cs k
unfolding quoted
digit_quoted n cs k h = escaped_itself (48 + n) (quoted cs k) (omega arith) (λ e. omega arith) (λ e. omega arith)

pub two_quoted : (n : ℕ) (cs k : List ℕ) → n < 100 → quoted (two n cs) k ≡ two n (quoted cs k)
two_quoted n cs k h = rw (digit_quoted (n / 10) _ k (omega arith), digit_quoted (n % 10) _ k (omega arith))

colon_quoted : (cs k : List ℕ) → quoted (58 ∷ cs) k ≡ 58 ∷ quoted cs k
colon_quoted cs k = digit_quoted 10 cs k (omega arith)

pub time_quoted : (s : ℕ) (k : List ℕ) → s < 360000 → quoted (time_text s []) k ≡ time_text s (34 ∷ k)
unfolding quoted
time_quoted s k h = rw (two_quoted (s / 60 / 60) _ k (omega arith), colon_quoted _ k, two_quoted (s / 60 % 60) _ k (omega arith), colon_quoted _ k, two_quoted (s % 60) _ k (omega arith))
