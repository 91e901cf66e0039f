-- Document 01, "Answers by number", 19: a text is written where the buffer holds it.
use Rattle.std.specs.Prelude.{◌≡◌, List, Result, ℕ, length}
use Rattle.document.specs.Values.{length_values}
use Rattle.document.specs.Write.{fitting, write_values, buffer_after}
use Rattle.document.specs.declared.refusal.Refusal.{Refusal}

pub record Fits (bytes before : List ℕ) (r : Result ℕ Refusal) (after : List ℕ) : Type 0 where
  pub answer : length_values r ≡ write_values (fitting (length before) bytes)
  pub left : after ≡ buffer_after (fitting (length before) bytes) before
