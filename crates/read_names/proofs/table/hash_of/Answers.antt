use mathlib.Core.Path.{◌∙◌}
use mathlib.Core.List.{[]}
use lib.ListN.{length}
use native.Mathlib.Nat.{min_comm}
use Rattle.std.proofs.lemmas.List.{take_min}
use Rattle.read_names.specs.Names.{hash_of}
use Rattle.read_names.specs.Taken.{hashes_none}
use Rattle.read_names.proofs.table.hash_of.Goals as goal

pub returns : goal.returns
unfolding hash_of
returns c =
    let h = c.all.ensures _ [] (hashes_none c.none.result) in
    h.1 ∙ rw (c.none.ensures.seed, c.none.ensures.hash, c.min.ensures, min_comm (length c.args.text.now) 65535, take_min 65535 c.args.text.now)
