-- Of a `Refusal` the values are those of document 01, and of a number and a place, whichever these are, they are told.
use Prim.Native.Nat.{ℕ}
use mathlib.Core.Path.{◌≡◌, refl}
use Rattle.std.specs.Prelude.{Result, Err}
use Rattle.document.specs.Refusals.{number_of}
use Rattle.document.specs.declared.refusal.Refusal.{Refusal}
use Rattle.document.specs.declared.table.Next.{Next}
use Rattle.c_answers.specs.Telling.{tells, told, told_next, told_writing, next_values_by, length_values_by}
use Rattle.c_answers.specs.declared.Numbered.{Numbered}

pub refused_next : (a : Result Next Refusal) → told (next_values_by (λ r. number_of r.0) (λ r. r.1) a) ≡ told_next a
refused_next a = refl

pub refused_writing : (w : Result ℕ Refusal) → told (length_values_by (λ r. number_of r.0) (λ r. r.1) w) ≡ told_writing w
refused_writing w = refl

module _ (r : Numbered) where
  pub numbered_next : told (next_values_by (λ n. n.number) (λ n. n.place) (Err r)) ≡ tells r.number r.place
  numbered_next = refl

  pub numbered_writing : told (length_values_by (λ n. n.number) (λ n. n.place) (Err r)) ≡ tells r.number r.place
  numbered_writing = refl
