-- The first byte of a value: an object, a list, or a plain value.
use lib.ListN.{get_or}
use native.Mathlib.Omega.{arith}
use Rattle.std.specs.Prelude.{◌≢◌}
use Rattle.json_grammar.specs.Walk as W
use Rattle.json_walk.specs.Turn.{open_in}
use Rattle.json_walk.proofs.Walks.{part_goes, part_breaks, plain_at}
use Rattle.json_walk.proofs.begin.Goals as goal

pub returns-in_err-at-in_default : goal.returns-in_err-at-in_default
returns-in_err-at-in_default c =
    let b = get_or c.args.text.now c.args.here.at 0 in
    let no_object : b ≢ 123 = grind arith in
    let no_list : b ≢ 91 = grind arith in
    rw (plain_at _ _ c.requires.0 (open_in c.args.here.brackets) c.requires.1 no_object no_list)
    (part_breaks c.args.text.now c.args.here.at _ _ _ c.from_residual.result c.in_err-at-in_default.ensures c.from_residual.ensures.1)

pub returns-in_ok-at-in_default : goal.returns-in_ok-at-in_default
returns-in_ok-at-in_default c =
    let b = get_or c.args.text.now c.args.here.at 0 in
    let no_object : b ≢ 123 = grind arith in
    let no_list : b ≢ 91 = grind arith in
    rw (plain_at _ _ c.requires.0 (open_in c.args.here.brackets) c.requires.1 no_object no_list)
    (part_goes _ _ _ _ W.behind (open_in c.args.here.brackets) c.in_ok-at-in_default.ensures)
