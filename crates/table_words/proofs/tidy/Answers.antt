-- The first records' words made anew, and those of unused ones behind them.
use native.Mathlib.Omega.{arith}
use borrow.Author.Rules.{rules}
use Rattle.table_kinds.specs.Kinds.{records_in}
use Rattle.table_kinds.proofs.Fill.{at_most_lem, in_length, in_front_lem, in_rest}
use Rattle.table_words.specs.Laying.{Makes, Unused}
use Rattle.table_words.proofs.tidy.Goals as goal

pub lay_made-requires : goal.lay_made-requires
lay_made-requires c =
    (search rules, omega (arith, at_most_lem c.args.count c.args.words.now))

pub returns : goal.returns
returns c =
    let rs = records_in c.args.count c.args.words.now in
    let makes : Makes rs c.at_most-n.result c.args.words.now = record { size = in_length c.args.count c.args.words.now; each = λ i h. in_front_lem c.args.count c.args.words.now i (omega arith) } in
    let unused : Unused rs c.at_most-n.result = record { size = in_length c.args.count c.args.words.now; each = λ i h k. in_rest c.args.count c.args.words.now i (omega arith) k } in
    c.lay_unused.ensures rs (c.lay_made.ensures.upto rs makes) unused
