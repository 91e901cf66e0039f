-- The numbers in front are each the number of its bytes.
use Rattle.std.proofs.Common.{◌≡◌, ℕ, ◌+◌, ◌*◌, ◌<◌, get_or, drop, length}
use Rattle.c_numbers.specs.Eights.{number_in}
use Rattle.c_area_back.proofs.numbers_from.Given as goal

abbrev pub invariant-loop-i : goal.invariant-loop-i
invariant-loop-i g l =
    record {
      all : length l.number-items ≡ g.row.N;
      read : (k : ℕ) → k < l.i → get_or l.number-items k 0 ≡ number_in 8 (drop (l.from + k * 8) l.area);
    }
