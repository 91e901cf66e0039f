-- Each answer of writing is the call's, and so is the buffer.
use Prim.Native.Nat.{ℕ, ◌<◌}
use mathlib.Core.Path.{refl, sym, ◌∙◌}
use native.Mathlib.Omega.{arith}
use lib.ListN.{get_or}
use Rattle.read_fields.proofs.Refusals.{raised}
use Rattle.hospital.proofs.WriteCalls.{other_size, no_use, no_table, answered}
use Rattle.hospital.proofs.writing.write_from.Goals as goal

pub returns-in_err-sized : goal.returns-in_err-sized
returns-in_err-sized c =
    let e = c.in_err-sized.ensures.other in
    rw (raised c.from_residual.result c.from_residual.ensures.1, e.1, other_size _ _ _ _ e.0) (record { answer = refl; left = refl })

pub returns-then-not-is_use : goal.returns-then-not-is_use
returns-then-not-is_use c =
    rw (no_use _ _ _ _ c.in_ok-sized.ensures.right (sym c.is_use.ensures ∙ c.if-not-is_use.true)) (record { answer = refl; left = refl })

pub returns-in_default : goal.returns-in_default
returns-in_default c =
    let bytes : (i : ℕ) → get_or c.args.table.now i 0 < 256 = λ i. omega (arith, c.type_inv.table i) in
    rw (no_table _ _ _ _ c.in_ok-sized.ensures.right (sym c.is_use.ensures ∙ c.if-not-is_use.false) bytes _ c.in_default.ensures)
    (record { answer = refl; left = refl })

pub returns : goal.returns
returns c =
    let bytes : (i : ℕ) → get_or c.args.table.now i 0 < 256 = λ i. omega (arith, c.type_inv.table i) in
    let w = answered _ _ _ _ c.in_ok-sized.ensures.right (sym c.is_use.ensures ∙ c.if-not-is_use.false) bytes
    c.in-Ok.part c.in-Ok.ensures c.words_in-words.ensures c.write_words.ensures in
    record { answer = w.0; left = w.1 }
