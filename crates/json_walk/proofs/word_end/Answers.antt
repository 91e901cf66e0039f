use Prim.Native.Nat.{◌+◌, ◌≤◌}
use mathlib.Core.Path.{◌≡◌, sym, ◌∙◌}
use native.Mathlib.Nat.{add_assoc}
use lib.ListN.{length}
use native.Mathlib.Omega.{arith}
use Rattle.json_grammar.specs.Part.{torn}
use Rattle.json_grammar.proofs.Passes.{passes_one, answers_here, answers_end}
use Rattle.json_walk.proofs.Words.{word_goes, word_differs, word_cut, word_done}
use Rattle.json_walk.proofs.word_end.Goals as goal
use Rattle.json_walk.proofs.word_end.Goals.{then-i-text-via-then-i-text, then-i-text-via-else-i-text+then-text-i}

pub returns-then-i-text : goal.returns-then-i-text
returns-then-i-text c =
    elim c.then-i-text.branch [
      | then-i-text-via-then-i-text w ↦
          let e : length c.args.text.now ≤ c.args.at + c.loop-k.k = omega arith in
          (rw w.if-i-text.true (answers_end c.loop-k.invariant.passed torn e (word_cut _ _ c.loop-k-test.true)), omega arith)
      | then-i-text-via-else-i-text+then-text-i w ↦
          (answers_here c.loop-k.invariant.passed (omega arith) torn (word_differs _ _ c.loop-k-test.true _ w.if-text-i.true), omega arith)
    ]

pub loop-k-preserved : goal.loop-k-preserved
loop-k-preserved c =
    let p = c.loop-k.invariant in
    record {
      passed = rw (← add_assoc) (passes_one p.passed (omega arith) (word_goes _ _ c.loop-k-test.true _ c.if-text-i.false));
      inside = omega arith;
    }

pub returns : goal.returns
returns c =
    let p = c.loop-k.invariant in
    let e : c.loop-k.k ≡ length c.args.word.now = omega arith in
    let s = rw e at p.passed.same in
    (sym s ∙ word_done c.args.word.now (length c.args.word.now) (omega arith) _, omega arith, rw e at p.inside)
