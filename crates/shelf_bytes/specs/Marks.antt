-- Document 02, Wish 2, "a number .. twice": which numbers have stood, as bits of words, 64 to a word.
use Rattle.std.specs.Prelude.{◌≡◌, List, Bool, not, cond, ◌&&◌, ℕ, ◌/◌, ◌%◌, ◌^◌, eqb, ltb, length, get_or, set}
use Rattle.std.specs.Int.{bit_at}
use Rattle.std.specs.Int.RustNames.{bit_or}

abbrev pub word_of : List ℕ → ℕ → ℕ
word_of s n = get_or s (n / 64) 0

unfoldable pub marked : List ℕ → ℕ → Bool
marked s n = eqb (bit_at (word_of s n) (n % 64)) 1

unfoldable pub mark : List ℕ → ℕ → List ℕ
mark s n = set s (n / 64) (bit_or (word_of s n) (2 ^ (n % 64)))

-- A number that the words have a bit for, and that has not stood.
abbrev pub is_new : List ℕ → ℕ → Bool
is_new s n = ltb (n / 64) (length s) && not (marked s n)

pub record Notes (s : List ℕ) (n : ℕ) (r : Bool) (s' : List ℕ) : Type 0 where
  pub new : r ≡ is_new s n
  pub left : s' ≡ cond (is_new s n) (mark s n) s
