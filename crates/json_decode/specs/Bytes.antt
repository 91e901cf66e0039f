-- What the iterators over a string's bytes have still to give.
use Rattle.std.specs.Prelude.{ℕ, ◌<◌, ◌≡◌, List, [], ◌++◌, length, drop, Option, MatchOption}
use Rattle.json_decode.specs.Characters.{left}
use Rattle.json_decode.specs.declared.by_piece.Piece.{Piece}
use Rattle.json_decode.specs.declared.by_piece.Piece.TheVariants.{Spelled, Decoded}
use Rattle.json_decode.specs.declared.by_piece.Pieces.{Pieces}
use Rattle.json_decode.specs.declared.by_byte.Cursor.{Cursor}

abbrev pub bytes_of : Piece → List ℕ
bytes_of (Spelled bytes) = bytes.now
bytes_of (Decoded out) = out

-- The bytes that are left of a string.
abbrev pub ahead : Pieces → List ℕ
ahead p = left p.text.now p.spot

-- The next piece, which is not empty, and what is left behind it; none where nothing is left.
abbrev pub YieldsPiece : Pieces → Option Piece → Pieces → Type 0
YieldsPiece p r q = MatchOption r ((ahead p ≡ []) × (ahead q ≡ [])) (λ x. (ahead p ≡ bytes_of x ++ ahead q) × (0 < length (bytes_of x)))

abbrev pub bytes_ahead : Cursor → List ℕ
bytes_ahead c = drop c.given c.out ++ left c.text.now c.spot
