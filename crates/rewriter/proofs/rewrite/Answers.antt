-- What was read is put once: the buffer holds every plain text.
use Prim.Native.Nat.{ℕ}
use mathlib.Core.List.{[]}
use native.Mathlib.Omega.{arith}
use lib.ListN.{length-replicate}
use Rattle.rewriter.proofs.Rewritten.{tidied_length, refused_rewritten, taken_rewritten}
use Rattle.read_fields.proofs.Refusals.{raised}
use Rattle.rewriter.proofs.rewrite.Goals as goal

pub returns-in_err-h : goal.returns-in_err-h
returns-in_err-h c =
    rw (raised c.from_residual.result c.from_residual.ensures.1)
    (refused_rewritten c.args.purpose c.args.text.now _ _ _ (length-replicate {A = ℕ} 2048 0) c.in_err-h.field-0.0 c.in_err-h.ensures c.args.out.now)

pub slice_bounds-put_posology-end-2 : goal.slice_bounds-put_posology-end-2
slice_bounds-put_posology-end-2 c =
    tidied_length _ _ c.tidy.ensures

pub returns : goal.returns
returns c =
    taken_rewritten c.args.purpose c.args.text.now _ _ _ (length-replicate {A = ℕ} 2048 0) c.in_ok-h.h c.in_ok-h.ensures
    c.tidy.ensures c.head_of.ensures (omega (arith, c.well_formed)) (λ d w p. c.put_posology-n.ensures d [] w p)
