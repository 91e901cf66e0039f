-- A walked text is read: the head and all below it, then the strings are laid.
use Prim.Native.Nat.{ℕ}
use mathlib.Core.Path.{ap}
use native.Mathlib.Omega.{arith}
use Rattle.document.specs.declared.terms.Terms.{Terms}
use Rattle.read_fields.proofs.Refusals.{raised}
use Rattle.posology.proofs.Standing.{standing}
use Rattle.posology.proofs.Answers.{none_ready, from_start, refused_reading, taken_reading}
use borrow.Author.Rules.{rules}
use Rattle.posology.proofs.reader.walked_words.Goals as goal

pub returns-in_err-h : goal.returns-in_err-h
returns-in_err-h c =
    let stands = standing c.args.text.now c.blanks_end-brace.result c.requires.behind c.requires.takes c.blanks_end-brace.ensures.lands in
    let terms : Terms = record { purpose = c.args.purpose; room = c.room_of.result } in
    let lent = none_ready terms c.none_used.result c.args.words.now c.none_used.ensures (search rules) in
    let reads = from_start c.args.purpose c.args.text.now c.args.strings.now c.blanks_end-brace.result stands c.args.words.now _ terms c.none_used.result (ap (λ (n : ℕ). record { purpose = c.args.purpose; room = n }) c.room_of.ensures) c.none_used.ensures (c.in_err-h.ensures.reads (lent, c.blanks_end-brace.ensures.inside (omega arith))) in
    rw (raised c.from_residual.result c.from_residual.ensures.1)
    (refused_reading c.args.purpose c.args.text.now c.args.strings.now c.blanks_end-brace.result stands c.args.words.now _ c.in_err-h.field-0.0 reads)

pub returns : goal.returns
returns c =
    let stands = standing c.args.text.now c.blanks_end-brace.result c.requires.behind c.requires.takes c.blanks_end-brace.ensures.lands in
    let terms : Terms = record { purpose = c.args.purpose; room = c.room_of.result } in
    let lent = none_ready terms c.none_used.result c.args.words.now c.none_used.ensures (search rules) in
    let reads = from_start c.args.purpose c.args.text.now c.args.strings.now c.blanks_end-brace.result stands c.args.words.now _ terms c.none_used.result (ap (λ (n : ℕ). record { purpose = c.args.purpose; room = n }) c.room_of.ensures) c.none_used.ensures (c.in_ok-h.ensures.reads (lent, c.blanks_end-brace.ensures.inside (omega arith))) in
    taken_reading c.args.purpose c.args.text.now c.args.strings.now c.blanks_end-brace.result stands c.args.words.now _ c.in_ok-h.h reads c.lay_strings.ensures
