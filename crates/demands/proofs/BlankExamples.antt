-- Some bytes, and what the definitions of blanks between tokens say of them.
use mathlib.Core.Path.{◌≡◌, refl}
use mathlib.Core.Bool.{true, false}
use Rattle.document.specs.Bytes.{bytes}
use Rattle.demands.specs.Blanks.{bare, whole, between}

-- Blanks in strings stay, also behind an escaped quote.
bare_of : bare (bytes " { \"a \\\" b\" : [ 1 , true ] } ") ≡ bytes "{\"a \\\" b\":[1,true]}"
unfolding bare
bare_of = refl

-- Blanks part a number or a word, or they do not.
parted_number : whole (bytes "[1 2]") ≡ false
unfolding whole
parted_number = refl

parted_word : whole (bytes "[tr ue]") ≡ false
unfolding whole
parted_word = refl

parted_none : whole (bytes "[ 1 , \"1 2\" , true ]") ≡ true
unfolding whole
parted_none = refl

-- Places between tokens, in a string and in a number.
between_tokens : between (bytes "{\"a\"") (bytes ":1}") ≡ true
unfolding between
between_tokens = refl

in_string_lem : between (bytes "{\"a") (bytes "b\":1}") ≡ false
unfolding between
in_string_lem = refl

in_number_lem : between (bytes "{\"a\":1") (bytes "2}") ≡ false
unfolding between
in_number_lem = refl
