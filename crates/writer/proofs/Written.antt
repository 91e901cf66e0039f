-- What a readable table is written as.
use Rattle.std.specs.Prelude.{Result, Ok, Err}
use Rattle.document.specs.declared.refusal.Refusal.{Refusal}
use Rattle.document.specs.declared.refusal.Reason.TheVariants.{BufferTooShort, NotReadable, WrongUse}
use Rattle.document.specs.Refusals.{refusal}
use mathlib.Core.Path.{◌≡◌, refl, ap, sym, subst, ◌∙◌}
use mathlib.Core.List.{List, [], ◌++◌, append-nil}
use mathlib.Core.Bool.{Bool, true, false, cond}
use Prim.Native.Nat.{ℕ, ◌+◌, ◌≤◌, ◌<◌}
use native.Mathlib.Omega.{arith}
use lib.Dec.{leb}
use lib.ListN.{length, drop}
use lib.Seq.{sets-eq}
use borrow.Author.Tests.{le-leb, lt-leb}
use Rattle.json_grammar.specs.Rows.{choose}
use Rattle.document.specs.Valid.{is_use}
use Rattle.document.specs.Words.{all_words, rows}
use Rattle.document.specs.Untable.{posology_of}
use Rattle.document.specs.Plain.{plain, detail_tree}
use Rattle.document.specs.Values.{ends, number}
use Rattle.document.specs.Write.{readable, writes, refuses, fitting, write, write_values, buffer_after, Writes}
use Rattle.document.specs.Length.{bound}
use Rattle.document.specs.Answer.{laid}
use Rattle.document.specs.declared.table.Table.{Table}
use Rattle.document.specs.declared.table.Text.{Text}
use Rattle.document.proofs.Untables.{detail_append}
use Rattle.document.proofs.Untabled.{bytes_of, strings_append}
use Rattle.document_meaning.proofs.TableLengths.{readable_length}
use Rattle.check_table.specs.Readable.{PieceAt, absent, present}
use Rattle.check_table.proofs.Read.{readable_laid}
use Rattle.document.proofs.ValidParts.{valid_parts}
use Rattle.check_table.proofs.Stands.{readable_stands}
use Rattle.write_bytes.specs.Puts.{greatest_place, up_to, Puts}
use Rattle.write_details.specs.Prints.{DetailPrints}
use Rattle.write_posology.specs.Heads.{head_fields, Within, Writable}
use Rattle.writer.specs.Fits.{Fits}
use Rattle.writer.proofs.PrintedDetail.{detail_prints}
use Rattle.writer.proofs.HeadTexts.{head_plain}

-- A text that was put from the buffer's start on.
pub measured : {before : List ℕ} {text : List ℕ} {r : ℕ} {after : List ℕ} → Puts before 0 text [] r after → length text ≤ greatest_place → r ≡ length text
measured {before} {text} p h =
    let e : text ≡ p.bytes = p.in_front ∙ append-nil p.bytes in
    let n = ap length e in
    let z : 0 + length p.bytes ≡ length p.bytes = omega arith in
    p.place (omega arith) ∙ ap up_to z ∙ ap (λ b. cond b (length p.bytes) greatest_place) (le-leb (length p.bytes) greatest_place (omega arith)) ∙ sym n

pub stored : {before : List ℕ} {text : List ℕ} {r : ℕ} {after : List ℕ} → Puts before 0 text [] r after → length before ≤ greatest_place → length text ≤ length before → after ≡ laid text before
stored {before} {text} p g h =
    let e : text ≡ p.bytes = p.in_front ∙ append-nil p.bytes in
    let n = ap length e in
    let z : 0 + length p.bytes ≡ length p.bytes = omega arith in
    p.laid (omega arith) g ∙ sets-eq p.bytes before 0 (omega arith) ∙ ap (λ m. p.bytes ++ drop m before) z ∙ ap (λ bs. bs ++ drop (length bs) before) (sym e)

fitting_by : (bytes before : List ℕ) (b : _) → leb (length bytes) (length before) ≡ b → fitting (length before) bytes ≡ cond b (writes bytes) (refuses 19 (length bytes))
fitting_by bytes before b e = ap (λ c. cond c (writes bytes) (refuses 19 (length bytes))) e

pub fits : {bytes before after : List ℕ} {n : ℕ} → n ≡ length bytes → n ≤ length before → after ≡ laid bytes before → Fits bytes before (Ok n) after
fits {bytes} {before} e h l =
    let f = fitting_by bytes before true (le-leb (length bytes) (length before) (omega arith)) in
    record { answer = ap ends e ∙ sym (ap write_values f); left = l ∙ sym (ap (λ w. buffer_after w before) f) }

pub put_fits : {before text after : List ℕ} {r : ℕ} → Puts before 0 text [] r after → length before ≤ greatest_place → length text ≤ length before → Fits text before (Ok r) after
put_fits p g h = let n = measured p (omega arith) in fits n (omega arith) (stored p g h)

pub fits_not : {bytes before : List ℕ} {n : ℕ} → n ≡ length bytes → length before < n → Fits bytes before (Err (refusal BufferTooShort n)) before
fits_not {bytes} {before} e h =
    let f = fitting_by bytes before false (lt-leb (length bytes) (length before) (omega arith)) in
    record { answer = ap (number 19) e ∙ sym (ap write_values f); left = sym (ap (λ w. buffer_after w before) f) }

piece_within : {buffer : List ℕ} {t : Text} {text u : ℕ} → PieceAt buffer t text u → Within buffer t
piece_within (absent l s e) = omega arith
piece_within (present p e) = omega (arith, p.starts, p.fits)

module _ (purpose : ℕ) (t : Table) (buffer : List ℕ) (n : length t.records ≡ 64) (h : readable purpose t buffer ≡ true) where
  pub writable : Writable buffer t.head
  writable =
      let r = readable_laid purpose t buffer n h in
      let ps = r.1.pieces in
      record { from = r.0.from; to = r.0.to; meal = r.0.meal; unit = piece_within ps.unit; instructions = piece_within ps.instructions; roa = piece_within ps.roa; moa = piece_within ps.moa }

  pub prints : DetailPrints (rows (all_words t.records)) buffer 3 0 (detail_tree (posology_of t buffer).po)
  prints =
      let s = readable_stands purpose t buffer n h in
      let p = s.is in
      let few = s.few in
      let rest = bytes_of p.unit ++ (bytes_of p.appl_instr ++ (bytes_of p.roa ++ (bytes_of p.moa ++ s.behind))) in
      subst (λ q. DetailPrints (rows (all_words t.records)) buffer 3 0 (detail_tree q.po)) (sym s.read)
      (detail_prints p.po 3 0 0 [] rest (valid_parts purpose p s.valid).detail (omega arith) s.lies (s.strings_first ∙ strings_append p s.behind ∙ sym (detail_append p.po rest)) (omega arith))

  pub plainly : head_fields buffer t.head (detail_tree (posology_of t buffer).po) [] ≡ plain (posology_of t buffer)
  unfolding posology_of
  plainly = sym (head_plain (posology_of t buffer) t.head buffer [] refl refl refl refl refl refl refl refl writable.from writable.to)

  pub short : length (head_fields buffer t.head (detail_tree (posology_of t buffer).po) []) ≤ bound t.count t.text
  short = let b = (readable_length purpose t buffer h).0 in let e = ap length plainly in omega arith

-- What is written where the use and the table are right or not.
by : (purpose : ℕ) (t : Table) (buffer : List ℕ) (room : ℕ) (a b : Bool) → is_use purpose ≡ a → readable purpose t buffer ≡ b → write purpose t buffer room ≡ choose a (λ _. choose b (λ _. fitting room (plain (posology_of t buffer))) λ _. refuses 18 0) λ _. refuses 17 0
unfolding write
by purpose t buffer room a b e f = ap (λ x. choose x (λ _. choose (readable purpose t buffer) (λ _. fitting room (plain (posology_of t buffer))) λ _. refuses 18 0) λ _. refuses 17 0) e ∙ ap (λ x. choose a (λ _. choose x (λ _. fitting room (plain (posology_of t buffer))) λ _. refuses 18 0) λ _. refuses 17 0) f

pub writes_fitting : (purpose : ℕ) (t : Table) (buffer : List ℕ) {before after : List ℕ} {r : Result ℕ Refusal} → length t.records ≡ 64 → is_use purpose ≡ true → readable purpose t buffer ≡ true → Fits (head_fields buffer t.head (detail_tree (posology_of t buffer).po) []) before r after → Writes purpose t buffer before r after
writes_fitting purpose t buffer {before} n used h f =
    let e = ap (fitting (length before)) (plainly purpose t buffer n h) ∙ sym (by purpose t buffer (length before) true true used h) in
    record { answer = f.answer ∙ ap write_values e; left = f.left ∙ ap (λ w. buffer_after w before) e }

pub not_use : (purpose : ℕ) (t : Table) (buffer before : List ℕ) → is_use purpose ≡ false → Writes purpose t buffer before (Err (refusal WrongUse 0)) before
not_use purpose t buffer before e =
    let f = sym (by purpose t buffer (length before) false (readable purpose t buffer) e refl) in
    record { answer = ap write_values f; left = ap (λ w. buffer_after w before) f }

pub not_readable : (purpose : ℕ) (t : Table) (buffer before : List ℕ) → is_use purpose ≡ true → readable purpose t buffer ≡ false → Writes purpose t buffer before (Err (refusal NotReadable 0)) before
not_readable purpose t buffer before e g =
    let f = sym (by purpose t buffer (length before) true false e g) in
    record { answer = ap write_values f; left = ap (λ w. buffer_after w before) f }
