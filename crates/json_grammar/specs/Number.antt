-- A number, byte by byte (RFC 8259, section 6): what may stand next, part by part.
use Rattle.std.specs.Prelude.{ℕ, Bool, true, false, Option, Some, None}
use Rattle.json_grammar.specs.Rows.{Rows, else, below, look}
use Rattle.json_grammar.specs.declared.number.InNumber.{InNumber}
use Rattle.json_grammar.specs.declared.number.InNumber.TheVariants.{Start, Minus, Zero, Whole, Point, Fraction, Mark, Sign, Power}

-- None: the number goes on with no such byte. 43 is +, 45 -, 46 the point, 48 to 57 the digits, 69 and 101 E and e.
abbrev pub first_digit : Rows (Option InNumber)
first_digit = below 48 None (below 49 (Some Zero) (below 58 (Some Whole) (else None)))

abbrev pub digit_to : InNumber → Rows (Option InNumber)
digit_to n = below 48 None (below 58 (Some n) (else None))

abbrev pub marks : Rows (Option InNumber)
marks = below 69 None (below 70 (Some Mark) (below 101 None (below 102 (Some Mark) (else None))))

unfoldable pub onward : InNumber → ℕ → Option InNumber
unfolding look
onward Start b = look b (below 45 None (below 46 (Some Minus) first_digit))
onward Minus b = look b first_digit
onward Zero b = look b (below 46 None (below 47 (Some Point) marks))
onward Whole b = look b (below 46 None (below 47 (Some Point) (below 48 None (below 58 (Some Whole) marks))))
onward Point b = look b (digit_to Fraction)
onward Fraction b = look b (below 48 None (below 58 (Some Fraction) marks))
onward Mark b = look b (below 43 None (below 44 (Some Sign) (below 45 None (below 46 (Some Sign) (digit_to Power)))))
onward Sign b = look b (digit_to Power)
onward Power b = look b (digit_to Power)

-- Whether a number may end here.
abbrev pub may_end : InNumber → Bool
may_end Start = false
may_end Minus = false
may_end Zero = true
may_end Whole = true
may_end Point = false
may_end Fraction = true
may_end Mark = false
may_end Sign = false
may_end Power = true

-- Whether a digit leads back to the same part.
abbrev pub takes_digits : InNumber → Bool
takes_digits Start = false
takes_digits Minus = false
takes_digits Zero = false
takes_digits Whole = true
takes_digits Point = false
takes_digits Fraction = true
takes_digits Mark = false
takes_digits Sign = false
takes_digits Power = true
