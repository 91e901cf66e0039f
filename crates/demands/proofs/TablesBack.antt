-- A table that is written comes back with its text bytes.
use Rattle.std.specs.Prelude.{Result, Ok}
use Rattle.document.specs.declared.refusal.Refusal.{Refusal}
use mathlib.Core.Path.{◌≡◌, refl, ap, sym, subst, ◌∙◌}
use mathlib.Core.List.{List}
use mathlib.Core.Bool.{true}
use Prim.Native.Nat.{ℕ, ◌≤◌}
use native.Mathlib.Nat.{le-min}
use native.Mathlib.Omega.{arith}
use lib.Dec.{leb}
use lib.ListN.{length, take, drop}
use lib.Seq.{take_at}
use borrow.Author.Tests.{le-leb, lt-leb}
use Rattle.json_grammar.proofs.Truth.{cond_true, cond_false}
use Rattle.document.specs.Posology.{Posology}
use Rattle.document.specs.Valid.{Valid, is_use, room_of, strings}
use Rattle.document.specs.Table.{table_of}
use Rattle.document.specs.Plain.{plain}
use Rattle.document.specs.Values.{ends, answer_values, length_values}
use Rattle.document.specs.Answer.{Read, taken, read, read_values, table_after, buffer_after, terms_of, Reads}
use Rattle.document.specs.Write as W
use Rattle.document.specs.Write.{Write, writes, refuses, write, fitting, readable, write_values, Writes}
use Rattle.document.specs.declared.table.Table.{Table}
use Rattle.document.specs.declared.table.Reading.{Reading}
use Rattle.document_meaning.proofs.Numbered.{answer_one}
use Rattle.document_meaning.proofs.PlainTexts.{plain_reads}
use Rattle.document.proofs.Tables.{stands_for, text_of, stood_written, written_readable, fitted}
use Rattle.demands.specs.Tables.{WrittenAndRead}

pub written_and_read : (purpose : ℕ) (t : Table) (bytes : List ℕ) → is_use purpose ≡ true → readable purpose t bytes ≡ true → WrittenAndRead purpose t bytes
written_and_read purpose t bytes u h =
    let s = stands_for purpose t bytes h in
    let p = s.is in
    let n : t.text ≡ length (strings p) = text_of p s.table in
    let made : (room : ℕ) → write purpose t bytes room ≡ fitting room (plain p) = λ room. stood_written purpose t bytes room u h ∙ ap (λ (q : Posology). fitting room (plain q)) s.read in
    record {
      text = plain p;
      written = λ room f. made room ∙ cond_true (leb (length (plain p)) room) _ _ (le-leb (length (plain p)) room f);
      too_long = λ room f. made room ∙ cond_false (leb (length (plain p)) room) _ _ (lt-leb (length (plain p)) room f);
      one = λ room w e. fitted room (plain p) w (sym (made room) ∙ e);
      posology = p;
      back = λ terms e f. plain_reads terms p (subst (λ n. Valid n p) (sym e) (u, s.valid)) s.fits (omega arith);
      table = s.table;
      strings_first = sym s.strings_first ∙ ap (λ (m : ℕ). take m bytes) (sym n);
    }

-- What was written, read in the room of a buffer that holds the strings.
pub record ReadBack (purpose : ℕ) (t : Table) (bytes w lent : List ℕ) : Type 0 where
  pub posology : Posology
  pub back : read (terms_of purpose lent) w ≡ taken posology
  pub table : table_of posology ≡ t
  pub strings_first : strings posology ≡ take t.text bytes

pub read_back : (purpose : ℕ) (t : Table) (bytes w lent : List ℕ) (room : ℕ) → write purpose t bytes room ≡ writes w → t.text ≤ length lent → ReadBack purpose t bytes w lent
read_back purpose t bytes w lent room e f =
    let r = written_readable purpose t bytes room w e in
    let b = written_and_read purpose t bytes r.0 r.1 in
    let s = stands_for purpose t bytes r.1 in
    let n : t.text ≡ length (strings s.is) = text_of s.is s.table in
    let fits : t.text ≤ room_of (length lent) = le-min f (omega arith) in
    record {
      posology = b.posology;
      back = ap (read (terms_of purpose lent)) (b.one room w e) ∙ b.back (terms_of purpose lent) refl fits;
      table = b.table;
      strings_first = b.strings_first;
    }

-- The text that was written stands first in the buffer.
pub record TextFirst (x : Write) (n : ℕ) (after : List ℕ) : Type 0 where
  pub text : List ℕ
  pub is : x ≡ writes text
  pub long : n ≡ length text
  pub first : take n after ≡ text

pub text_first : (x : Write) (before : List ℕ) {n : ℕ} {after : List ℕ} → ends n ≡ write_values x → after ≡ W.buffer_after x before → TextFirst x n after
text_first (writes w) before {n} e l =
    let m : n ≡ length w = cc e in
    record { text = w; is = refl; long = m; first = ap (take n) l ∙ take_at w (drop (length w) before) n (sym m) }
text_first (refuses m at) before e l = let z : ◌≡◌ {A = ℕ} 0 1 = cc in absurd (omega arith)

-- What an acceptance leaves.
taken_leaves : (x : Read) (p : Posology) (before : List ℕ) {r : Reading} {after : List ℕ}
    → x ≡ taken p → answer_values r.answer ≡ read_values x → r.table ≡ table_after x → after ≡ buffer_after x before
    → (r.answer ≡ Ok tt) × (r.table ≡ table_of p) × (take (length (strings p)) after ≡ strings p)
taken_leaves x p before {r} g e t l = (
  answer_one r.answer (Ok tt) (e ∙ ap read_values g),
  t ∙ ap table_after g,
  ap (take (length (strings p))) (l ∙ ap (λ (y : Read). buffer_after y before) g) ∙ take_at (strings p) (drop (length (strings p)) before) (length (strings p)) refl,
)

pub promised_back : {purpose n : ℕ} {t : Table} {bytes before after lent left : List ℕ} {w : Result ℕ Refusal} {r : Reading}
    → Writes purpose t bytes before w after → w ≡ Ok n → Reads purpose (take n after) lent r left → t.text ≤ length lent
    → (r.answer ≡ Ok tt) × (r.table ≡ t) × (take t.text left ≡ take t.text bytes)
promised_back {purpose} {n} {t} {bytes} {before} {after} {lent} {left} a e b f =
    let x = text_first (write purpose t bytes (length before)) before (sym (ap length_values e) ∙ a.answer) a.left in
    let k = read_back purpose t bytes x.text lent (length before) x.is f in
    let p = k.posology in
    let m : t.text ≡ length (strings p) = text_of p k.table in
    let y = taken_leaves (read (terms_of purpose lent) (take n after)) p lent (ap (read (terms_of purpose lent)) x.first ∙ k.back) b.answer b.table b.left in
    (y.0, y.1 ∙ k.table, ap (λ (i : ℕ). take i left) m ∙ y.2 ∙ k.strings_first)
