-- As many names of the row stand as there are members, or the members are gone through again.
use mathlib.Core.Path.{sym, ◌∙◌}
use Rattle.read_names.proofs.Unknowns.{none_unknown, told_in}
use Rattle.read_names.proofs.unknown.unknown_name.Goals as goal

pub returns-then-standing-settled : goal.returns-then-standing-settled
returns-then-standing-settled c h p ms a o =
    none_unknown c.args.known.now h o (sym c.standing.ensures ∙ c.if-standing-settled.true)

pub returns : goal.returns
returns c h p ms a o =
    told_in c.args.known.now c.first_unknown.result a (c.first_unknown.ensures h)
