-- A text read and put as its plain text: what it comes to, with 2,048 bytes of room for its strings.
use Rattle.std.specs.Prelude.{◌≡◌, List, ℕ, Result}
use Rattle.document.specs.Plain.{plain}
use Rattle.document.specs.Answer.{Read, taken, refused, read}
use Rattle.document.specs.Write.{Write, writes, refuses, write_values, buffer_after, in_greatest_room}
use Rattle.document.specs.Values.{length_values}
use Rattle.document.specs.declared.refusal.Refusal.{Refusal}

abbrev pub plain_of_read : Read → Write
plain_of_read (taken p) = writes (plain p)
plain_of_read (refused n place) = refuses n place

unfoldable pub rewritten : ℕ → List ℕ → Write
rewritten purpose text = plain_of_read (read (in_greatest_room purpose) text)

-- The promise: a refusal leaves each byte of the buffer.
pub record Rewrites (purpose : ℕ) (text before : List ℕ) (r : Result ℕ Refusal) (after : List ℕ) : Type 0 where
  pub answer : length_values r ≡ write_values (rewritten purpose text)
  pub left : after ≡ buffer_after (rewritten purpose text) before
