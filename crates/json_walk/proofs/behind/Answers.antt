-- A comma, or the byte that closes the innermost bracket.
use mathlib.Core.Path.{sym, ◌∙◌}
use native.Mathlib.Omega.{arith}
use native.Mathlib.Numerals.{add-one}
use borrow.Author.Tests.{eq-eqb, ne_eqb}
use Rattle.json_grammar.specs.Walk as W
use Rattle.json_grammar.specs.Walk.{step}
use Rattle.json_walk.proofs.Walks.{walk_at}
use Rattle.json_walk.proofs.Turns.{behind_in}
use Rattle.json_walk.proofs.behind.Goals as goal

pub returns-in_default : goal.returns-in_default
unfolding step
returns-in_default c =
    (rw (walk_at _ _ c.requires.0 W.behind _, c.in_default.ensures, c.requires.1), omega arith)

pub returns-then-b-eq44 : goal.returns-then-b-eq44
returns-then-b-eq44 c =
    (rw (behind_in _ _ c.requires.0 _ c.in-Some.ensures c.requires.1, c.if-b-eq44.true, c.after_comma.ensures, add-one), omega arith, omega arith)

pub returns-then-b-closer : goal.returns-then-b-closer
returns-then-b-closer c =
    rw (behind_in _ _ c.requires.0 _ c.in-Some.ensures c.requires.1, ne_eqb _ 44 c.if-b-eq44.false, eq-eqb _ _ (c.if-b-closer.true ∙ c.closer.ensures)) c.shut.ensures

pub returns : goal.returns
returns c =
    (rw (behind_in _ _ c.requires.0 _ c.in-Some.ensures c.requires.1, ne_eqb _ 44 c.if-b-eq44.false, ne_eqb _ _ (λ e. c.if-b-closer.false (e ∙ sym c.closer.ensures))), omega arith)
