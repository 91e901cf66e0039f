-- A table is written by its words.
use mathlib.Core.Path.{refl, sym}
use mathlib.Core.Path.{◌≡◌}
use lib.ListN.{length}
use Rattle.writer.proofs.write.Goals as goal

pub returns : goal.returns
returns c =
    let all : length c.args.t.records ≡ 64 = c.well_formed.0.1.1.1.1.1.0.1.0.1 in
    let words = sym c.table_words-words.ensures in
    c.write_words.ensures.writes c.args.t
    (record { head = refl; count = refl; text = refl; words = words; all = all })
