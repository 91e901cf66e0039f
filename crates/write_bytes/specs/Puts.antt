-- Bytes laid into a lent buffer one behind the other, as far as it reaches.
use Rattle.std.specs.Prelude.{◌≡◌, List, ◌++◌, cond, ℕ, ◌+◌, ◌≤◌, leb, length}
use Rattle.std.proofs.lemmas.List.Edits.{sets}
use Rattle.write_bytes.specs.declared.Output.{Output}

-- The greatest place that a number tells. No buffer reaches it.
abbrev pub greatest_place : ℕ
greatest_place = 18446744073709551615

abbrev pub up_to : ℕ → ℕ
up_to n = cond (leb n greatest_place) n greatest_place

-- What stands in `text` in front of `rest` is laid from `from` on, and r is the place behind it, whether the buffer reaches that far or not.
pub record Puts (before : List ℕ) (from : ℕ) (text rest : List ℕ) (r : ℕ) (after : List ℕ) : Type 0 where
  pub bytes : List ℕ
  pub in_front : text ≡ bytes ++ rest
  pub place : from ≤ greatest_place → r ≡ up_to (from + length bytes)
  pub laid : from ≤ greatest_place → length before ≤ greatest_place → after ≡ sets before from bytes

-- The same behind what stands in an output, which keeps its buffer.
pub record Lays (before : Output) (text rest : List ℕ) (after : Output) : Type 0 where
  pub same_buffer : after.buffer.ghost_name ≡ before.buffer.ghost_name
  pub puts : Puts before.buffer.now before.at text rest after.at after.buffer.now
