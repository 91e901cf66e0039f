-- Document 01, "Numbers" and rows 8 and 9: examples, by computation.
use Rattle.std.specs.Prelude.{ℕ, ◌≡◌, refl, List, [], ◌∷◌, Bool, true, false, Ok, Err}
use Prim.Native.Char.{code}
use Prim.Native.String.{String, [] as none, ◌∷◌ as first}
use Rattle.document_numbers.specs.declared.NumberError.TheVariants.{NotCarried, Outside}
use Rattle.document_numbers.specs.Number.{Integer, Decimal, integer_in, decimal_from}

abbrev pub bytes : String → List ℕ
bytes none = []
bytes (first c s) = code c ∷ bytes s

abbrev pub cy_du : String → Integer
unfolding integer_in
cy_du s = integer_in 1 99999 (bytes s)

abbrev pub wds : String → Integer
unfolding integer_in
wds s = integer_in 1 7 (bytes s)

-- A decimal that may be zero, and one that may not.
abbrev pub decimal : String → Decimal
unfolding decimal_from
decimal s = decimal_from 0 (bytes s)

abbrev pub positive : String → Decimal
unfolding decimal_from
positive s = decimal_from 1 (bytes s)

abbrev pub whole : ℕ → Bool → Integer
whole n exact = Ok (record { value = n; exact = exact })

-- Refusal 8 is `NotCarried`, refusal 9 is `Outside`.
pub examples :
    -- "a fraction is rounded to the closest whole (001), one half upward"; the range is judged behind the rounding.
    (cy_du "0.4" ≡ Err Outside)
    × (cy_du "0.5" ≡ whole 1 false)
    × (cy_du "2.5" ≡ whole 3 false)
    × (cy_du "1.49999999" ≡ whole 1 false)
    × (cy_du "99999.4" ≡ whole 99999 false)
    × (cy_du "99999.5" ≡ Err Outside)
    × (wds "7.0" ≡ whole 7 true)
    × (wds "7.5" ≡ Err Outside)
    -- "A minus sign is out of range, `-0` too."
    × (wds "-0.4" ≡ Err Outside)
    × (decimal "-0" ≡ Err Outside)
    -- "A decimal must be a whole number of millionths, so `1.0000000` is good."
    × (decimal "1.0000000" ≡ Ok 1000000)
    × (positive "0.0000001" ≡ Err NotCarried)
    × (decimal "-1.0000001" ≡ Err NotCarried)
    × (positive "0.000000" ≡ Err Outside)
    × (decimal "999999.999999" ≡ Ok 999999999999)
    × (decimal "1000000" ≡ Err Outside)
    -- "at most 18 characters, no exponent"
    × (decimal "1.0000000000000000" ≡ Ok 1000000)
    × (decimal "1.00000000000000000" ≡ Err NotCarried)
    × (decimal "-1e1" ≡ Err NotCarried)
    × (wds "1E0" ≡ Err NotCarried)
unfolding integer_in decimal_from
examples = (refl, refl, refl, refl, refl, refl, refl, refl, refl, refl, refl, refl, refl, refl, refl, refl, refl, refl, refl, refl)
