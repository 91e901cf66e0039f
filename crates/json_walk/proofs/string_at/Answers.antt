-- The part behind the quote is a string, in the modes that take one.
use mathlib.Core.Path.{sym}
use native.Mathlib.Numerals.{add-one}
use native.Mathlib.Omega.{arith}
use Rattle.json_walk.specs.Turn.{open_in, mode_of}
use Rattle.json_walk.proofs.Walks.{part_goes, part_breaks, quote_begins, quote_wrong}
use Rattle.json_walk.proofs.string_at.Goals as goal

pub returns-in_default : goal.returns-in_default
returns-in_default c =
    let n = c.in_default.ensures in
    (quote_wrong _ _ c.requires.0 _ (open_in c.args.here.brackets) c.requires.1 (sym n), omega arith)

pub returns-in_err-at : goal.returns-in_err-at
returns-in_err-at c =
    rw (quote_begins _ _ c.requires.0 _ (open_in c.args.here.brackets) c.requires.1 (sym c.in-Some.ensures))
    (part_breaks c.args.text.now c.args.here.at _ _ _ c.from_residual.result (rw add-one at c.in_err-at.ensures) c.from_residual.ensures.1)

pub returns : goal.returns
returns c =
    rw (quote_begins _ _ c.requires.0 _ _ c.requires.1 (sym c.in-Some.ensures))
    (part_goes _ _ _ _ (mode_of c.in-Some.mode) (open_in c.args.here.brackets) (rw add-one at c.in_ok-at.ensures))
