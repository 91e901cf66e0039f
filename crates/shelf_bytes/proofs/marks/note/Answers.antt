-- A number noted: its bit is clear, so the sum sets it.
use Prim.Native.Nat.{◌*◌, ◌/◌, ◌%◌, ◌^◌, ◌<◌}
use native.Mathlib.Omega.{arith}
use lib.ListN.{get_or}
use Rattle.shelf_bytes.proofs.MarkLaws.{not_new, beyond_all, marked_before, sum_fits, new_noted}
use Rattle.shelf_bytes.proofs.marks.note.Goals as goal
use Rattle.shelf_bytes.proofs.marks.note.Goals.{then-set-word-via-then-set-word, then-set-word-via-else-set-word+then-set-word-ne0}

pub returns-then-set-word : goal.returns-then-set-word
returns-then-set-word c =
    not_new c.args.set.now c.args.n
    (elim c.then-set-word.branch [
      | then-set-word-via-then-set-word w ↦ beyond_all c.args.set.now c.args.n w.if-set-word.true
      | then-set-word-via-else-set-word+then-set-word-ne0 w ↦ marked_before c.args.set.now c.args.n w.if-set-word-ne0.true
    ])

pub overflow_add-set : goal.overflow_add-set
overflow_add-set c =
    let l : get_or c.args.set.now (c.args.n / 64) 0 < 2 ^ 64 = omega arith in
    let b : 1 * 2 ^ (c.args.n % 64) % 18446744073709551616 < 2 ^ 64 = omega arith in
    omega (arith, sum_fits _ _ l b c.if-set-word-ne0.false)

pub returns : goal.returns
returns c = new_noted c.args.set.now c.args.n c.if-set-word.false c.if-set-word-ne0.false
