use mathlib.Core.Path.{◌≡◌, sym}
use Prim.Native.Nat.{◌-◌}
use native.Mathlib.Omega.{arith}
use lib.ListN.{length, take, drop}
use Rattle.std.proofs.lemmas.List.{take_rest}
use Rattle.c_numbers.specs.Eights.{number_in}
use Rattle.c_numbers.proofs.Bytes.{number_past}
use Rattle.c_numbers.proofs.Straight.{eight_first}
use Rattle.c_numbers.proofs.number_at.Goals as goal

pub returns-then-bytes-at : goal.returns-then-bytes-at
returns-then-bytes-at c =
    sym (number_past c.args.at c.args.bytes.now c.if-bytes-at.true)

pub returns : goal.returns
returns c =
    let rest = take (length c.args.bytes.now - c.args.at) (drop c.args.at c.args.bytes.now) in
    let e : c.from_le_bytes.result ≡ number_in 8 rest = omega (arith, c.from_le_bytes.ensures, eight_first 0 rest) in
    rw (take_rest c.args.bytes.now c.args.at) at e
