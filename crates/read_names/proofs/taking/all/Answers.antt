use mathlib.Core.List.{◌++◌, append_assoc}
use lib.ListN.{take, drop, take-append-drop}
use Rattle.read_names.proofs.taking.all.Goals as goal

pub returns-then-is_full : goal.returns-then-is_full
returns-then-is_full g c start before on =
    let i = c.loop-b.b-index in
    let b = c.args.bytes.now in
    let full = c.is_full.ensures c.if-is_full.true start (before ++ take i b) (drop i b) (c.loop-b.invariant start before on) in
    rw (append_assoc, take-append-drop) at full
