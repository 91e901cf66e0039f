-- The letters of the word that are left are asked of the rest of the text.
use Prim.Native.Nat.{◌+◌, ◌≤◌}
use lib.ListN.{length, drop}
use Rattle.json_grammar.specs.Part.{word_stop}
use Rattle.json_grammar.proofs.Passes.{Passes}
use Rattle.json_walk.proofs.word_end.Given as goal

abbrev pub invariant-loop-k : goal.invariant-loop-k
invariant-loop-k l = record {
  passed : Passes (word_stop (drop l.k l.word)) (word_stop l.word) l.text l.at (l.at + l.k);
  inside : l.at + l.k ≤ length l.text;
}
