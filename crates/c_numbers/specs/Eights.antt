-- Numbers in eight bytes each, the least significant first; and back.
use Rattle.std.specs.Prelude.{ℕ, zero, suc, ◌+◌, ◌*◌, ◌/◌, ◌%◌, List, [], ◌∷◌, drop, get_or}

-- So many bytes of a number, in front of what follows.
unfoldable pub bytes_of : ℕ → ℕ → List ℕ → List ℕ
bytes_of zero x k = k
bytes_of (suc n) x k = x % 256 ∷ bytes_of n (x / 256) k

unfoldable pub all_bytes : List ℕ → List ℕ
unfolding bytes_of
all_bytes [] = []
all_bytes (w ∷ ws) = bytes_of 8 w (all_bytes ws)

-- The number of so many bytes in front; a byte that is not there counts as 0.
unfoldable pub number_in : ℕ → List ℕ → ℕ
number_in zero bytes = 0
number_in (suc n) bytes = get_or bytes 0 0 + 256 * number_in n (drop 1 bytes)
