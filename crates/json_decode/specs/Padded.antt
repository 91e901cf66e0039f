-- Up to four bytes in an array of four.
use Rattle.std.specs.Prelude.{ℕ, ◌-◌, List, ◌++◌, length, replicate}
use Rattle.json_decode.specs.declared.up_to_four.Out.TheInside.{Inside}

-- The bytes, with zeros behind them.
abbrev pub of_bytes : List ℕ → Inside
of_bytes bytes = record { n = length bytes; bytes = bytes ++ replicate (4 - length bytes) 0 }
