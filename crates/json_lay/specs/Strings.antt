-- Strings of a walked text, laid by their decoded bytes (`decoded` of Read.antt) into a buffer.
use Rattle.std.specs.Prelude.{ℕ, ◌+◌, List, Bool, cond, length, leb, Option, Some, None}
use Rattle.std.proofs.lemmas.List.Edits.{sets}

-- Whether so many bytes have room in a buffer from `to` on.
abbrev pub fits : List ℕ → ℕ → List ℕ → Bool
fits buffer to bytes = leb (to + length bytes) (length buffer)

-- The place behind them, where they have room.
abbrev pub laid : List ℕ → ℕ → List ℕ → Option ℕ
laid buffer to bytes = cond (fits buffer to bytes) (Some (to + length bytes)) None

abbrev pub buffered : List ℕ → ℕ → List ℕ → List ℕ
buffered buffer to bytes = cond (fits buffer to bytes) (sets buffer to bytes) buffer
