-- The bytes passed change nothing.
use mathlib.Core.Path.{◌≡◌}
use lib.ListN.{drop}
use Rattle.document_figures.specs.Figures.{all_zero}
use Rattle.document_figures.proofs.is_all_zero.Given as goal

abbrev pub invariant-loop-b : goal.invariant-loop-b
invariant-loop-b l = all_zero (drop l.b-index l.raw) ≡ all_zero l.raw
