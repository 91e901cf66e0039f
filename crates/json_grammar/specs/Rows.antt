-- Tables over bytes.
use Rattle.std.specs.Prelude.{ℕ, Bool, true, false, cond, ltb}

-- A row says what holds of the numbers below its bound that no earlier row has.
pub data Rows (A : Type 0) : Type 0 where
  else : A → Rows A
  below : ℕ → A → Rows A → Rows A

-- What a table says of a number.
unfoldable pub look : {A : Type 0} → ℕ → Rows A → A
look b (else a) = a
look b (below n a rows) = cond (ltb b n) a (look b rows)

-- The first where a test holds, the second where it does not. Only the one that is chosen is computed.
abbrev pub choose : {A : Type 0} → Bool → (Unit {0} → A) → (Unit {0} → A) → A
choose true a b = a tt
choose false a b = b tt
