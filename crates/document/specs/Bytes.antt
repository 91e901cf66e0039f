-- A name or a piece of plain text as its bytes. Every one in document 01 is ASCII.
use Rattle.std.specs.Prelude.{List, [], ◌∷◌, ℕ}
use Prim.Native.Char.{code}
use Prim.Native.String.{String, [] as empty, ◌∷◌ as first}

abbrev pub bytes : String → List ℕ
bytes empty = []
bytes (first c s) = code c ∷ bytes s
