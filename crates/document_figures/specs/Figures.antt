-- Document 01, "Numbers": what is told of a number by its sign, its length and its fraction.
use Rattle.std.specs.Prelude.{ℕ, List, [], ◌∷◌, Bool, true, false, ◌&&◌, ◌||◌, not, cond, length, eqb, leb, ltb}

-- "A minus sign is out of range, -0 too."
abbrev pub negative : List ℕ → Bool
negative [] = false
negative (b ∷ s) = eqb b 45

-- E or e
unfoldable pub exponent : List ℕ → Bool
exponent [] = false
exponent (b ∷ s) = eqb b 69 || (eqb b 101 || exponent s)

unfoldable pub all_zero : List ℕ → Bool
all_zero [] = true
all_zero (b ∷ s) = eqb b 48 && all_zero s

-- "at most 18 characters, no exponent"
unfoldable pub carried : List ℕ → Bool
unfolding exponent
carried raw = leb (length raw) 18 && not (exponent raw)

-- "For an integer, a fraction is rounded to the closest whole, one half upward": by its first digit.
abbrev pub up : List ℕ → ℕ
up [] = 0
up (b ∷ s) = cond (ltb b 53) 0 1
