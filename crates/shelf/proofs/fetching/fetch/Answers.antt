-- What is found is read.
use mathlib.Core.Path.{sym}
use Rattle.shelf.proofs.FoundTexts.{fetches, fetches_none}
use Rattle.shelf.proofs.fetching.fetch.Goals as goal

pub returns-in-Ok : goal.returns-in-Ok
returns-in-Ok c = fetches c.args.area.now c.args.number _ _ (sym c.in-Ok.ensures) c.read.ensures

pub returns-in-Err : goal.returns-in-Err
returns-in-Err c = rw c.empty_table.ensures (fetches_none c.args.area.now c.args.number _ (sym c.in-Err.ensures))
