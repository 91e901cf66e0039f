-- The words of unused records, to the end.
use mathlib.Core.Path.{◌≡◌}
use mathlib.Core.List.{List}
use lib.ListN.{length}
use Rattle.document.specs.Words.{words_at_most}
use Rattle.document.specs.declared.table.Record.{Record}
use Rattle.table_words.specs.Laying.{Upto, Unused}
use Rattle.table_words.proofs.lay_unused.Given as goal

abbrev pub invariant-loop-i : goal.invariant-loop-i
invariant-loop-i l = (length l.words ≡ words_at_most) × ((rs : List Record) → Upto rs l.initial.words l.from → Unused rs l.from → Upto rs l.words l.i)
