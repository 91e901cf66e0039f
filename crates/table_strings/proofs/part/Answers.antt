-- The part of the lent buffer by start and length, where both lie in it.
use mathlib.Core.Path.{◌≡◌, refl}
use Prim.Native.Nat.{◌+◌, ◌-◌}
use native.Mathlib.Omega.{arith}
use lib.ListN.{length}
use borrow.Author.Tests.{le-leb, lt-leb}
use Rattle.table_strings.proofs.part.Goals as goal

pub returns-then-strings-start : goal.returns-then-strings-start
returns-then-strings-start c =
    rw (lt-leb (c.args.t.start + c.args.t.len) (length c.args.strings.now) (omega arith)) (record { bytes = refl; place = (refl, omega arith) })

pub returns-then-strings-start-2 : goal.returns-then-strings-start-2
returns-then-strings-start-2 c =
    rw (lt-leb (c.args.t.start + c.args.t.len) (length c.args.strings.now) (omega arith)) (record { bytes = refl; place = (refl, omega arith) })

pub returns : goal.returns
returns c =
    let e : (c.args.t.start + c.args.t.len) - c.args.t.start ≡ c.args.t.len = omega arith in rw (le-leb (c.args.t.start + c.args.t.len) (length c.args.strings.now) (omega arith), e) (record { bytes = refl; place = (refl, omega arith) })
