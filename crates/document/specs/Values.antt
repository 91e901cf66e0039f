-- Document 01, "For any answer that is an enum, a definition gives this paper's number and values for each of its cases": the one place where
-- the cases are numbered. The promises go through it.
use Rattle.std.specs.Prelude.{ℕ, Result, Ok, Err}
use Rattle.document.specs.Refusals.{number_of}
use Rattle.document.specs.declared.refusal.Refusal.{Refusal}
use Rattle.document.specs.declared.table.Next.{Next}
use Rattle.document.specs.declared.table.Next.TheVariants as N

-- Only a refusal has a number in "Answers by number".
pub data Values : Type 0 where
  accepted : Values
  ends : ℕ → Values  -- accepted, with the place behind the last byte that was read or written, or would be
  blanks_only : ℕ → Values  -- only blanks remain: the run's length
  number : ℕ → ℕ → Values  -- refused, with the place

abbrev pub refusal_values : Refusal → Values
refusal_values r = number (number_of r.0) r.1

abbrev pub answer_values : Result (Unit {0}) Refusal → Values
answer_values (Ok u) = accepted
answer_values (Err r) = refusal_values r

abbrev pub next_values : Result Next Refusal → Values
next_values (Ok (N.Taken e)) = ends e
next_values (Ok (N.Blank n)) = blanks_only n
next_values (Err r) = refusal_values r

-- Of writing, and of telling the length: the length is the place.
abbrev pub length_values : Result ℕ Refusal → Values
length_values (Ok n) = ends n
length_values (Err r) = refusal_values r
