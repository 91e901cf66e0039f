-- What is looked at is a head, and nothing else is one.
use mathlib.Core.Path.{◌≡◌, sym, ap, ◌∙◌}
use mathlib.Core.Logic.{inl, inr}
use Prim.Native.Nat.{ℕ, ◌+◌}
use lib.ListN.{drop}
use native.Mathlib.Omega.{arith}
use Rattle.std.proofs.Common.{Some}
use Rattle.std.proofs.lemmas.Slice.{between_to_end}
use mathlib.Core.Bool.{false≢true}
use Rattle.shelf_bytes.proofs.HeadLaws.{size_none, size_some, size_behind, marked_first, first_marked}
use Rattle.shelf_bytes.proofs.places.head_at.Goals as goal
use Rattle.shelf_bytes.proofs.places.head_at.Goals.{then-record-size-via-then-record-size, then-record-size-via-else-record-size+then-not-starts_with, then-record-size-via-else-record-size+else-not-starts_with+then-number_at-eq0}

pub returns-in_err-record : goal.returns-in_err-record
returns-in_err-record c =
    c.from_residual.ensures
    ∙ size_behind c.args.area.now c.args.at
    (elim c.in_err-record.ensures.lookup.0 [ inl l ↦ l | inr l ↦ absurd (omega arith) ])

pub returns-then-record-size : goal.returns-then-record-size
returns-then-record-size c =
    let here : c.in_ok-record.record.now ≡ drop c.args.at c.args.area.now =
    c.in_ok-record.ensures.lookup.0.2 ∙ between_to_end c.args.area.now c.args.at _ (omega arith) in
    size_none c.args.area.now c.args.at here λ b.
    elim c.then-record-size.branch [
      | then-record-size-via-then-record-size w ↦ omega (arith, b.long, w.if-record-size.true)
      | then-record-size-via-else-record-size+then-not-starts_with w ↦
          absurd (false≢true (sym w.if-not-starts_with.true ∙ w.starts_with.ensures.value ∙ first_marked c.in_ok-record.record.now b.first_mark b.second_mark))
      | then-record-size-via-else-record-size+else-not-starts_with+then-number_at-eq0 w ↦
          omega (arith, b.least, w.if-number_at-eq0.true, w.number_at-else-not-starts_with.ensures)
    ]

pub returns : goal.returns
returns c =
    let here : c.in_ok-record.record.now ≡ drop c.args.at c.args.area.now =
    c.in_ok-record.ensures.lookup.0.2 ∙ between_to_end c.args.area.now c.args.at _ (omega arith) in
    let marks = marked_first c.in_ok-record.record.now (sym c.starts_with.ensures.value ∙ c.if-not-starts_with.false) in
    ap (λ (n : ℕ). Some (6 + n)) (c.from-size.ensures ∙ c.number_at.ensures)
    ∙ size_some c.args.area.now c.args.at here (λ k. omega (arith, c.type_inv.area k)) marks (omega (arith, c.number_at-else-not-starts_with.ensures))
    (omega (arith, c.number_at.ensures))
