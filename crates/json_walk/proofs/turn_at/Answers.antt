-- A quote, a bracket that closes what is empty, a value, or what stands between values.
use mathlib.Core.Path.{sym, ◌∙◌}
use native.Mathlib.Omega.{arith}
use Rattle.json_walk.specs.Turn.{open_in}
use Rattle.json_walk.proofs.Walks.{empty_shuts, value_begins, name_wrong}
use Rattle.json_walk.proofs.turn_at.Goals as goal

pub returns-then-closes_empty : goal.returns-then-closes_empty
returns-then-closes_empty c =
    rw (empty_shuts _ _ c.requires.0 _ _ c.requires.1 (sym c.closes_empty.ensures ∙ c.if-closes_empty.true)) c.shut.ensures

pub returns-in-Value : goal.returns-in-Value
returns-in-Value c =
    rw (value_begins _ _ c.requires.0 _ _ c.requires.1 c.if-b-eq34.false (sym c.closes_empty.ensures ∙ c.if-closes_empty.false) c.in-Value.is) c.begin.ensures

pub returns-in-FirstName : goal.returns-in-FirstName
returns-in-FirstName c =
    let full = sym c.closes_empty.ensures ∙ c.if-closes_empty.false in
    (name_wrong _ _ c.requires.0 c.args.here.mode (open_in c.args.here.brackets) c.requires.1 c.if-b-eq34.false full c.in-FirstName.is, omega arith)
