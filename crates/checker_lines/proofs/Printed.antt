-- The line that is put, by what writing and reading answered.
use mathlib.Core.Path.{◌≡◌, refl, ap, sym, subst, ◌∙◌}
use mathlib.Core.List.{List, [], ◌∷◌, ◌++◌}
use mathlib.Core.Bool.{Bool, true, false, cond}
use Prim.Native.Nat.{ℕ, ◌+◌, ◌≤◌, ◌<◌}
use native.Mathlib.Omega.{arith}
use borrow.Author.Tests.{leb-true}
use lib.Dec.{leb}
use lib.ListN.{length, drop}
use lib.Seq.{sets-eq}
use Rattle.json_grammar.proofs.Truth.{never}
use Rattle.document.specs.Posology.{Posology}
use Rattle.document.specs.Valid.{Valid, Fits, room_of, strings}
use Rattle.document.specs.Table.{table_of}
use Rattle.document.specs.Plain.{plain}
use Rattle.document.specs.Values.{ends, number, answer_values}
use Rattle.document.specs.Answer as R
use Rattle.document.specs.Answer.{Read, taken, refused, read, read_values, table_after, Reads, laid}
use Rattle.document.specs.Write.{writes, refuses, write, fitting, write_values, buffer_after, greatest_room, in_greatest_room}
use Rattle.document.specs.Length.{greatest_length}
use Rattle.document.specs.declared.table.Table.{Table}
use Rattle.document.specs.declared.table.Reading.{Reading}
use Rattle.std.specs.Prelude.{Ok, Err}
use Rattle.document.specs.Refusals.{number_of}
use Rattle.document.specs.declared.refusal.Refusal.{Refusal}
use Rattle.document_meaning.proofs.Lengths.{plain_within}
use Rattle.document.proofs.Tables.{own_written}
use Rattle.document_meaning.proofs.Spelled.{accepted_spells}
use Rattle.write_bytes.specs.Puts.{greatest_place, Puts}
use Rattle.write_bytes.proofs.Laid.{up_to_lem, puts_then}
use Rattle.checker_lines.specs.Lines.{for_plan, line_feed, refusal_line, written_line, line_of, line}

-- Bytes laid over a buffer are put there.
laid_puts : {before after : List ℕ} {n : ℕ} (bytes rest : List ℕ) → length bytes ≤ length before → length before ≤ greatest_place → n ≡ length bytes → after ≡ laid bytes before → Puts before 0 (bytes ++ rest) rest n after
laid_puts {before} {after} {n} bytes rest h g e f =
    let z : 0 + length bytes ≡ length bytes = omega arith in
    record {
      bytes = bytes;
      in_front = refl;
      place = λ _. omega (arith, up_to_lem (0 + length bytes));
      laid = λ _ _. f ∙ sym (sets-eq bytes before 0 (omega arith) ∙ ap (λ (k : ℕ). bytes ++ drop k before) z);
    }

-- Where the text fits, it is in front of the line feed.
pub line_written : (buffer : ℕ) (bytes : List ℕ) {before after after' : List ℕ} {n r : ℕ} → length before ≡ buffer → buffer ≤ greatest_place
    → ends n ≡ write_values (fitting buffer bytes) → after ≡ buffer_after (fitting buffer bytes) before → Puts after n (line_feed ∷ []) [] r after'
    → Puts before 0 (written_line (fitting buffer bytes)) [] r after'
line_written buffer bytes {before} {after} {after'} {n} {r} l g = go (leb (length bytes) buffer) refl
  where
    go : (b : Bool) → leb (length bytes) buffer ≡ b → ends n ≡ write_values (cond b (writes bytes) (refuses 19 (length bytes)))
        → after ≡ buffer_after (cond b (writes bytes) (refuses 19 (length bytes))) before → Puts after n (line_feed ∷ []) [] r after'
        → Puts before 0 (written_line (cond b (writes bytes) (refuses 19 (length bytes)))) [] r after'
    go true k e f q = let fits = leb-true (length bytes) buffer k in puts_then (laid_puts bytes (line_feed ∷ []) (omega arith) (omega arith) (cc e) f) q
    go false k e f q = never (cc e)

-- Where it does not, the refusal is told.
pub line_refused : (buffer : ℕ) (bytes : List ℕ) {before after after' : List ℕ} {m at r : ℕ} → number m at ≡ write_values (fitting buffer bytes) → after ≡ buffer_after (fitting buffer bytes) before
    → Puts after 0 (refusal_line m at) [] r after' → Puts before 0 (written_line (fitting buffer bytes)) [] r after'
line_refused buffer bytes {before} {after} {after'} {m} {at} {r} = go (leb (length bytes) buffer)
  where
    go : (b : Bool) → number m at ≡ write_values (cond b (writes bytes) (refuses 19 (length bytes)))
        → after ≡ buffer_after (cond b (writes bytes) (refuses 19 (length bytes))) before → Puts after 0 (refusal_line m at) [] r after'
        → Puts before 0 (written_line (cond b (writes bytes) (refuses 19 (length bytes)))) [] r after'
    go true e f q = never (cc e)
    go false e f q =
        let a : m ≡ 19 = cc e in
        let b : at ≡ length bytes = cc e in
        subst (λ (s : List ℕ). Puts s 0 (refusal_line 19 (length bytes)) [] r after') f (rw (a, b) at q)

pub refused_near : (buffer : ℕ) (bytes : List ℕ) {m at : ℕ} → number m at ≡ write_values (fitting buffer bytes) → length bytes ≤ greatest_length → (m < 1000000) × (at < 1000000)
refused_near buffer bytes {m} {at} e short = go (leb (length bytes) buffer) e
  where
    go : (b : Bool) → number m at ≡ write_values (cond b (writes bytes) (refuses 19 (length bytes))) → (m < 1000000) × (at < 1000000)
    go true g = never (cc g)
    go false g = let a : m ≡ 19 = cc g in let b : at ≡ length bytes = cc g in (omega arith, omega arith)

-- What writing a posology's table comes to.
pub plain_fitting : (p : Posology) (behind : List ℕ) {t : Table} {text : List ℕ} (room : ℕ) → Valid for_plan p → Fits greatest_room p → t ≡ table_of p → text ≡ strings p ++ behind
    → write for_plan t text room ≡ fitting room (plain p)
plain_fitting p behind room v f e g = rw (e, g) (own_written for_plan room p behind v f)

pub taken_near : (input : List ℕ) (p : Posology) → read (in_greatest_room for_plan) input ≡ taken p → length (plain p) ≤ greatest_length
taken_near input p e = let s = accepted_spells (in_greatest_room for_plan) input p e in plain_within for_plan p s.1.1 s.3

-- A text that was taken: its table and its strings are those of a posology that can be written.
pub record Accepted (input : List ℕ) (t : Table) (text : List ℕ) : Type 0 where
  pub posology : Posology
  pub behind : List ℕ
  pub is_valid : Valid for_plan posology
  pub fits : Fits greatest_room posology
  pub table : t ≡ table_of posology
  pub strings_first : text ≡ strings posology ++ behind
  pub is : read (in_greatest_room for_plan) input ≡ taken posology

pub read_accepted : {input before after : List ℕ} {r : Reading} → Reads for_plan input before r after → length before ≡ greatest_room → r.answer ≡ Ok tt → Accepted input r.table after
read_accepted {input} {before} {after} {r} h l e =
    let room : room_of (length before) ≡ greatest_room = omega arith in
    go (read (in_greatest_room for_plan) input) refl (rw room at h.answer) (rw room at h.table) (rw room at h.left)
  where
    go : (x : Read) → read (in_greatest_room for_plan) input ≡ x → answer_values r.answer ≡ read_values x → r.table ≡ table_after x → after ≡ R.buffer_after x before → Accepted input r.table after
    go (taken p) is a t b =
        let s = accepted_spells (in_greatest_room for_plan) input p is in
        record { posology = p; behind = drop (length (strings p)) before; is_valid = s.1; fits = s.3; table = t; strings_first = b; is = is }
    go (refused n place) is a t b = never (cc (sym a ∙ ap answer_values e))

pub read_refused : {input before after : List ℕ} {r : Reading} {why : Refusal} → Reads for_plan input before r after → length before ≡ greatest_room → r.answer ≡ Err why
    → read (in_greatest_room for_plan) input ≡ refused (number_of why.0) why.1
read_refused {input} {before} {after} {r} {why} h l e =
    let room : room_of (length before) ≡ greatest_room = omega arith in
    go (read (in_greatest_room for_plan) input) refl (rw room at h.answer)
  where
    go : (x : Read) → read (in_greatest_room for_plan) input ≡ x → answer_values r.answer ≡ read_values x → read (in_greatest_room for_plan) input ≡ refused (number_of why.0) why.1
    go (taken p) is a = never (cc (sym a ∙ ap answer_values e))
    go (refused m at) is a = let both : number m at ≡ number (number_of why.0) why.1 = sym a ∙ ap answer_values e in is ∙ cc both

-- The line, by what reading comes to.
pub line_is : (buffer : ℕ) (input : List ℕ) (x : Read) → read (in_greatest_room for_plan) input ≡ x → line buffer input ≡ line_of buffer x
unfolding line
line_is buffer input x e = ap (line_of buffer) e
