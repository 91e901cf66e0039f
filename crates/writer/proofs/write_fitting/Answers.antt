-- The text is put once where the buffer holds the longest text of such a table.
use mathlib.Core.List.{[]}
use native.Mathlib.Omega.{arith}
use Rattle.writer.proofs.Written.{put_fits}
use Rattle.writer.proofs.MeasuredLengths.{longest_bound}
use Rattle.writer.proofs.write_fitting.Goals as goal

pub returns-then-longest-out : goal.returns-then-longest-out
returns-then-longest-out c =
    let most = longest_bound c.args.count c.args.text c.requires.0 c.requires.1 in
    λ t w d s. put_fits (c.put_posology-n.ensures t [] w d) (omega arith) (omega arith)

pub returns : goal.returns
returns c =
    λ t w d s. c.write_measured.ensures t w d (omega arith)
