-- Behind the first object stand only blanks.
use Prim.Native.Nat.{ℕ}
use mathlib.Core.Path.{◌≡◌}
use mathlib.Core.List.{List}
use native.Mathlib.Omega.{arith}
use lib.ListN.{drop_of_length-le}
use lib.Seq.{drop-cons}
use Rattle.std.specs.Prelude.{Result, Ok, Err, IsErrAnd}
use Rattle.json_grammar.specs.Walk.{first_object, one_object}
use Rattle.json_walk.specs.Turn.{Refused, Tells}
use Rattle.json_walk.specs.declared.Fault.{Fault}
use Rattle.json_walk.specs.declared.Fault.TheVariants.{Broken, Deep}
use Rattle.json_alone.proofs.one_object.Goals as goal

-- a refusal is handed on
refuses : (text : List ℕ) (g : Fault) (r : Result ℕ Fault) → Refused text (first_object text) g → IsErrAnd r (λ fault. fault ≡ g) → Tells text (one_object text) r
unfolding one_object
refuses text (Broken p) (Err fault) h e = rw e (rw h.0, h.1)
refuses text (Deep p) (Err fault) h e = rw e (rw h.0, h.1)
refuses text g (Ok x) h e = absurd e

pub returns-in_err-end : goal.returns-in_err-end
returns-in_err-end c =
    refuses _ _ c.from_residual.result c.in_err-end.ensures c.from_residual.ensures.1

pub returns-then-behind-text : goal.returns-then-behind-text
unfolding one_object
returns-then-behind-text c =
    let t = c.in_ok-end.ensures in
    (rw (t.0, ← c.blanks_end-behind.ensures.lands, drop-cons {A = ℕ} _ _ 0 c.if-behind-text.true), omega arith)

pub returns : goal.returns
unfolding one_object
returns c =
    let t = c.in_ok-end.ensures in
    (rw (t.0, ← c.blanks_end-behind.ensures.lands, drop_of_length-le _ c.if-behind-text.false), t.1)
