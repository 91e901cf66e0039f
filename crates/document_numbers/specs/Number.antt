-- Document 01, "Numbers", and rows 8 and 9: a number by the bytes that it is written with.
use Rattle.std.specs.Prelude.{ℕ, zero, suc, ◌+◌, ◌*◌, ◌-◌, List, [], ◌∷◌, Bool, ◌&&◌, cond, drop, eqb, leb, Result, Ok, Err}
pub use Rattle.document_figures.specs.Figures.{negative, up}
unfoldable pub use Rattle.document_figures.specs.Figures.{exponent, all_zero, carried}
use Rattle.json_grammar.specs.Rows.{else, below, look, choose}
use Rattle.document_numbers.specs.declared.Whole.{Whole}
use Rattle.document_numbers.specs.declared.NumberError.{NumberError}
use Rattle.document_numbers.specs.declared.NumberError.TheVariants.{NotCarried, Outside}

abbrev pub Integer : Type 0
Integer = Result Whole NumberError

-- Millionths.
abbrev pub Decimal : Type 0
Decimal = Result ℕ NumberError

-- What stands before the point, and behind it.
unfoldable pub before_point : List ℕ → List ℕ
before_point [] = []
before_point (b ∷ s) = choose (eqb b 46) (λ _. []) λ _. b ∷ before_point s

unfoldable pub behind_point : List ℕ → List ℕ
behind_point [] = []
behind_point (b ∷ s) = choose (eqb b 46) (λ _. s) λ _. behind_point s

-- What a digit counts.
unfoldable pub figure : ℕ → ℕ
unfolding look
figure b = look b (below 48 0 (below 58 (b - 48) (else 0)))

-- The number that digits write, behind those that write v.
unfoldable pub counted : ℕ → List ℕ → ℕ
unfolding figure
counted v [] = v
counted v (b ∷ s) = counted (v * 10 + figure b) s

unfoldable pub rounded : List ℕ → ℕ
unfolding counted before_point behind_point
rounded raw = counted 0 (before_point raw) + up (behind_point raw)

abbrev pub among : ℕ → ℕ → ℕ → Bool → Integer
among least most n exact = cond (leb least n && leb n most) (Ok (record { value = n; exact = exact })) (Err Outside)

-- An integer from `least` to `most`: with it, whether the fraction was zero. Range is judged behind the rounding.
unfoldable pub integer_in : ℕ → ℕ → List ℕ → Integer
unfolding carried rounded all_zero behind_point
integer_in least most raw =
    choose (carried raw) (λ _. cond (negative raw) (Err Outside) (among least most (rounded raw) (all_zero (behind_point raw)))) λ _. Err NotCarried

-- So many digits more, with zeros where there are fewer.
unfoldable pub padded : ℕ → ℕ → List ℕ → ℕ
unfolding figure
padded zero v s = v
padded (suc n) v [] = padded n (v * 10) []
padded (suc n) v (b ∷ s) = padded n (v * 10 + figure b) s

-- "A decimal must be a whole number of millionths"
unfoldable pub millionths : List ℕ → ℕ
unfolding counted padded before_point behind_point
millionths raw = padded 6 (counted 0 (before_point raw)) (behind_point raw)

abbrev pub amount : ℕ → ℕ → Decimal
amount least n = cond (leb least n && leb n 999999999999) (Ok n) (Err Outside)

-- A decimal from `least` millionths to 999,999.999999.
unfoldable pub decimal_from : ℕ → List ℕ → Decimal
unfolding carried millionths all_zero behind_point
decimal_from least raw =
    choose (carried raw && all_zero (drop 6 (behind_point raw))) (λ _. cond (negative raw) (Err Outside) (amount least (millionths raw))) λ _. Err NotCarried
