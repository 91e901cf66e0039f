-- The words of the first records, made anew.
use Prim.Native.Nat.{◌*◌}
use mathlib.Core.Path.{◌≡◌}
use mathlib.Core.List.{List}
use lib.ListN.{length, drop}
use Rattle.document.specs.Words.{width, words_at_most}
use Rattle.document.specs.declared.table.Record.{Record}
use Rattle.table_words.specs.Laying.{Upto, Makes}
use Rattle.table_words.proofs.lay_made.Given as goal

abbrev pub invariant-loop-i : goal.invariant-loop-i
invariant-loop-i l = (length l.words ≡ words_at_most) × (drop (l.i * width) l.words ≡ drop (l.i * width) l.initial.words) × ((rs : List Record) → Makes rs l.count l.initial.words → Upto rs l.words l.i)
