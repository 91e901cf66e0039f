use mathlib.Core.Path.{◌≡◌}
use Prim.Native.Nat.{◌+◌, ◌-◌}
use native.Mathlib.Omega.{arith}
use Rattle.write_details.proofs.detail.part.Goals as goal

pub returns-then-buffer-start : goal.returns-then-buffer-start
returns-then-buffer-start c h =
    absurd (omega arith)

pub returns-then-buffer-from : goal.returns-then-buffer-from
returns-then-buffer-from c h =
    absurd (omega arith)

pub returns : goal.returns
returns c h =
    let e : (c.args.start + c.args.len) - c.args.start ≡ c.args.len = omega arith in
    rw e
