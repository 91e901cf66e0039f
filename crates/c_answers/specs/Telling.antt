-- Document 01, "The hospital side calls reading and writing from a C program": the number that a call returns, and the place that it tells.
use Rattle.std.specs.Prelude.{ℕ, Result, Ok, Err}
use Rattle.document.specs.Values.{Values, accepted, ends, blanks_only, number, next_values, length_values, refusal_values}
use Rattle.document.specs.declared.refusal.Refusal.{Refusal}
use Rattle.document.specs.declared.table.Next.{Next}
use Rattle.document.specs.declared.table.Next.TheVariants as N
use Rattle.c_answers.specs.declared.Told.{Told}

-- The number of "only blanks remain".
abbrev pub only_blanks : ℕ
only_blanks = 255

abbrev pub tells : ℕ → ℕ → Told
tells n p = record { number = n; place = p }

-- An acceptance is 0; one without a place of its own tells 0 there too.
abbrev pub told : Values → Told
told accepted = tells 0 0
told (ends e) = tells 0 e
told (blanks_only n) = tells only_blanks n
told (number n place) = tells n place

abbrev pub told_refusal : Refusal → Told
told_refusal r = told (refusal_values r)

abbrev pub told_next : Result Next Refusal → Told
told_next a = told (next_values a)

abbrev pub told_writing : Result ℕ Refusal → Told
told_writing w = told (length_values w)

-- Of refusals of any type, by the number and the place that each has.
module _ {R : Type 0} (n p : R → ℕ) where
  abbrev pub next_values_by : Result Next R → Values
  next_values_by (Ok (N.Taken e)) = ends e
  next_values_by (Ok (N.Blank m)) = blanks_only m
  next_values_by (Err r) = number (n r) (p r)

  abbrev pub length_values_by : Result ℕ R → Values
  length_values_by (Ok m) = ends m
  length_values_by (Err r) = number (n r) (p r)
