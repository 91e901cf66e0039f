-- A colon, and then a value; nothing else may stand here.
use native.Mathlib.Omega.{arith}
use native.Mathlib.Numerals.{add-one}
use borrow.Author.Tests.{ne_eqb}
use Rattle.json_grammar.specs.Walk as W
use Rattle.json_grammar.specs.Walk.{step}
use Rattle.json_walk.proofs.Walks.{walk_at}
use Rattle.json_walk.proofs.colon.Goals as goal

pub returns-then-text-here-ne58 : goal.returns-then-text-here-ne58
unfolding step
returns-then-text-here-ne58 c =
    (rw (walk_at _ _ c.requires.0 W.colon _, c.requires.1, ne_eqb _ 58 c.if-text-here-ne58.true), omega arith)

pub returns : goal.returns
unfolding step
returns c =
    (rw (walk_at _ _ c.requires.0 W.colon _, c.requires.1, c.if-text-here-ne58.false, add-one), omega arith, omega arith)
