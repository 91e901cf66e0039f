-- The bytes passed change nothing.
use mathlib.Core.Path.{◌≡◌}
use lib.ListN.{drop}
use Rattle.document_figures.specs.Figures.{exponent}
use Rattle.document_figures.proofs.has_exponent.Given as goal

abbrev pub invariant-loop-b : goal.invariant-loop-b
invariant-loop-b l = exponent (drop l.b-index l.raw) ≡ exponent l.raw
