-- Which timed dosage may stand under which parent.
use Rattle.std.specs.Prelude.{ℕ, List, [], cond, eqb}
use Rattle.document.specs.Schema.{under_single, under_days, under_cyclic}

-- The rows of the types that may stand under a timed dosage's parent, by the code's numbers: Single, days, Cyclic, Cyclic in weeks, in months. There are no others.
abbrev pub types_under : ℕ → List ℕ
types_under parent =
    cond (eqb parent 0) under_single
    (cond (eqb parent 1) under_days
    (cond (eqb parent 2) (under_cyclic 1)
    (cond (eqb parent 3) (under_cyclic 5)
    (cond (eqb parent 4) (under_cyclic 6) []))))
