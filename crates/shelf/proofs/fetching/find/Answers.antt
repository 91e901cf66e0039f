-- A refusal, or the place behind the head of the record.
use mathlib.Core.Path.{ap, ◌∙◌}
use Rattle.shelf.specs.Answers.{behind_head}
use Rattle.shelf.proofs.Surveyed.{raised}
use Rattle.shelf.proofs.fetching.find.Goals as goal

pub returns-in_err-record : goal.returns-in_err-record
returns-in_err-record c = raised c.from_residual.result c.from_residual.ensures.1 ∙ ap behind_head c.in_err-record.ensures

pub returns : goal.returns
returns c = ap behind_head c.in_ok-record.ensures
