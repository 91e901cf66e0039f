-- The parts of a number at its point.
use Rattle.std.specs.Prelude.{ℕ, suc, ◌≤◌, ◌≡◌, List, length, take, drop}
use Rattle.document_numbers.specs.Number.{before_point, behind_point}

pub record Parts (raw : List ℕ) (point : ℕ) : Type 0 where
  pub inside : point ≤ length raw
  pub before : take point raw ≡ before_point raw
  pub behind : drop (suc point) raw ≡ behind_point raw
