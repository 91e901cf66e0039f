-- A run, the closing quote, an escape, a run that goes on, or what is decoded byte by byte.
use Prim.Native.Nat.{ℕ, ◌+◌}
use mathlib.Core.Path.{ap, ◌∙◌}
use native.Mathlib.Omega.{arith}
use lib.ListN.{length, length-append}
use Rattle.json_decode.proofs.Runs.{left_any, run_piece, escape_piece}
use Rattle.json_decode.proofs.by_piece.PiecesIterator.next.Goals as goal

pub returns-then-start-self-clause-steps : goal.returns-then-start-self-clause-steps
returns-then-start-self-clause-steps c =
    run_piece c.args.self.now.run c.if-start-self.true

pub returns-then-closes_at-clause-steps : goal.returns-then-closes_at-clause-steps
returns-then-closes_at-clause-steps c =
    let e = left_any c.args.self.now.text.now c.args.self.now.spot c.in-Plain.is ∙ c.closes_at.ensures c.if-closes_at.true in (e, e)

pub returns-then-start-end-clause-steps : goal.returns-then-start-end-clause-steps
returns-then-start-end-clause-steps c =
    run_piece c.run_on-end.ensures c.if-start-end.true

pub returns-in-Some-clause-steps : goal.returns-in-Some-clause-steps
returns-in-Some-clause-steps c =
    let s = c.args.self.now.spot in
    let behind = left_any c.args.self.now.text.now (record { at = s.at + c.width.result; state = s.state; v = s.v }) c.in-Plain.is in
    escape_piece _ s c.in-Some.escape _ _ _ c.in-Plain.is c.in-Some.ensures c.width.ensures c.escaped.ensures behind

pub returns-in-Some-clause-goes : goal.returns-in-Some-clause-goes
returns-in-Some-clause-goes c =
    let s = returns-in-Some-clause-steps c in
    record { on = λ _. (tt, tt, omega (arith, ap length s.0, s.1, length-append {A = ℕ})); keeps = tt; rests = λ _. tt }
