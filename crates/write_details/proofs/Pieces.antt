-- A text put piece by piece.
use mathlib.Core.Path.{◌≡◌}
use mathlib.Core.List.{List, ◌++◌}
use Prim.Native.Nat.{ℕ, ◌%◌, ◌<◌}
use Prim.Native.String.{String}
use Rattle.document.specs.Bytes.{bytes}
use Rattle.document.specs.Spell.{spell}
use Rattle.document.specs.Plain.{whole, amount, time_text}
use Rattle.write_bytes.specs.Puts.{Lays}
use Rattle.write_bytes.specs.declared.Output.{Output}

-- What a call puts, in front of anything.
abbrev pub LaysBytes : Output → String → Output → Type 0
LaysBytes before name after = (k : List ℕ) → Lays before (bytes name ++ k) k after

abbrev pub LaysWhole : Output → String → ℕ → Output → Type 0
LaysWhole before name n after = (k : List ℕ) → n < 1000000 → Lays before (bytes name ++ spell (whole n) k) k after

abbrev pub LaysAmount : Output → String → ℕ → Output → Type 0
LaysAmount before name n after = (k : List ℕ) → n < 1000000000000 → Lays before (bytes name ++ spell (amount n) k) k after

abbrev pub LaysTime : Output → ℕ → Output → Type 0
LaysTime before s after = (k : List ℕ) → Lays before (time_text (s % 360000) k) k after

-- An output that an equation tells.
pub lays_at : {before after same : Output} {text rest : List ℕ} → after ≡ same → Lays before text rest same → Lays before text rest after
lays_at e p = rw e p
