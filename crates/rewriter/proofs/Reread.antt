-- What the answer of rewriting says of reading the text: refused likewise, or taken, with the plain text first in the buffer.
use mathlib.Core.Path.{◌≡◌, refl, ap, sym, ◌∙◌}
use mathlib.Core.List.{List}
use Prim.Native.Nat.{ℕ, ◌+◌, ◌≤◌}
use native.Mathlib.Omega.{arith}
use lib.ListN.{length, take, drop, length-append}
use lib.Seq.{take_at}
use Rattle.json_grammar.proofs.Truth.{never}
use Rattle.document.specs.Posology.{Posology}
use Rattle.document.specs.Plain.{plain}
use Rattle.document.specs.Values.{ends, refusal_values}
use Rattle.document.specs.Answer as R
use Rattle.document.specs.Answer.{Read, read}
use Rattle.document.specs.Write.{write_values, buffer_after, in_greatest_room}
use Rattle.std.specs.Prelude.{Ok, Err}
use Rattle.document.specs.Refusals.{number_of}
use Rattle.document.specs.declared.refusal.Refusal.{Refusal}
use Rattle.rewriter.specs.Rewriting.{plain_of_read, rewritten, Rewrites}

pub read_refused : {purpose : ℕ} {text before after : List ℕ} {why : Refusal} → Rewrites purpose text before (Err why) after
    → read (in_greatest_room purpose) text ≡ R.refused (number_of why.0) why.1
unfolding rewritten
read_refused {purpose} {text} {why = why} h = go (read (in_greatest_room purpose) text) h.answer
  where
    go : (x : Read) → refusal_values why ≡ write_values (plain_of_read x) → x ≡ R.refused (number_of why.0) why.1
    go (R.taken p) e = never (cc)
    go (R.refused k q) e = cc

pub record ReadAs (purpose : ℕ) (text after : List ℕ) (n : ℕ) : Type 0 where
  pub posology : Posology
  pub taken : read (in_greatest_room purpose) text ≡ R.taken posology
  pub first : take n after ≡ plain posology
  pub inside : n ≤ length after

pub read_taken : {purpose n : ℕ} {text before after : List ℕ} → Rewrites purpose text before (Ok n) after
    → ReadAs purpose text after n
unfolding rewritten
read_taken {purpose} {n} {text} {before} {after} h = go (read (in_greatest_room purpose) text) refl h.answer h.left
  where
    go : (x : Read) → read (in_greatest_room purpose) text ≡ x → ends n ≡ write_values (plain_of_read x)
        → after ≡ buffer_after (plain_of_read x) before → ReadAs purpose text after n
    go (R.taken p) i e f =
        let m : n ≡ length (plain p) = cc in
        let rest = drop (length (plain p)) before in
        let l : length after ≡ length (plain p) + length rest = ap length f ∙ length-append (plain p) rest in
        record { posology = p; taken = i; first = ap (take n) f ∙ take_at (plain p) rest n (sym m); inside = omega arith }
    go (R.refused k q) i e f = never (cc)
