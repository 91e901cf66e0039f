-- Two answers that a promise of the shelf allows are equal, with each byte of the area and of the buffer.
use mathlib.Core.Path.{◌≡◌, refl, ap, sym, ◌∙◌}
use mathlib.Core.List.{List}
use Prim.Native.Nat.{ℕ}
use Rattle.std.specs.Prelude.{Result, Ok, Err}
use Rattle.json_grammar.proofs.Truth.{never}
use Rattle.document.specs.Refusals.{number_of}
use Rattle.document.specs.declared.refusal.Refusal.{Refusal}
use Rattle.document.specs.declared.table.Reading.{Reading}
use Rattle.document_meaning.proofs.Numbered.{refusal_one, reading_one}
use Rattle.shelf_list.specs.Calls.{Call, Serves}
use Rattle.shelf.specs.Answers.{refused_answer, put_answer, remove_answer, at_answer, Fetches}

refused_one : (r r' : Refusal) → refused_answer r ≡ refused_answer r' → r ≡ r'
refused_one r r' e =
    let n : number_of r.0 ≡ number_of r'.0 = cc e in
    let p : r.1 ≡ r'.1 = cc e in
    refusal_one r r' (cc (n, p))

-- The numbering of the answers is one to one.
pub put_one : (r r' : Result ℕ Refusal) → put_answer r ≡ put_answer r' → r ≡ r'
put_one (Ok l) (Ok l') e = cc e
put_one (Ok l) (Err r) e = never (cc e)
put_one (Err r) (Ok l) e = never (cc e)
put_one (Err r) (Err r') e = ap Err (refused_one r r' e)

pub remove_one : (r r' : Result (Unit {0}) Refusal) → remove_answer r ≡ remove_answer r' → r ≡ r'
remove_one (Ok u) (Ok u') e = refl
remove_one (Ok u) (Err r) e = never (cc e)
remove_one (Err r) (Ok u) e = never (cc e)
remove_one (Err r) (Err r') e = ap Err (refused_one r r' e)

pub at_one : (r r' : Result ℕ Refusal) → at_answer r ≡ at_answer r' → r ≡ r'
at_one (Ok n) (Ok n') e = cc e
at_one (Ok n) (Err r) e = never (cc e)
at_one (Err r) (Ok n) e = never (cc e)
at_one (Err r) (Err r') e = ap Err (refused_one r r' e)

pub determined_put : {c : Call} {before after after' : List ℕ} {r r' : Result ℕ Refusal} → Serves c before (put_answer r) after
    → Serves c before (put_answer r') after' → (r ≡ r') × (after ≡ after')
determined_put {r = r} {r' = r'} a b = (put_one r r' (a.result ∙ sym b.result), a.left ∙ sym b.left)

pub determined_remove : {c : Call} {before after after' : List ℕ} {r r' : Result (Unit {0}) Refusal} → Serves c before (remove_answer r) after
    → Serves c before (remove_answer r') after' → (r ≡ r') × (after ≡ after')
determined_remove {r = r} {r' = r'} a b = (remove_one r r' (a.result ∙ sym b.result), a.left ∙ sym b.left)

pub determined_fetch : {number : ℕ} {area before after after' : List ℕ} {r r' : Reading} → Fetches number area before r after
    → Fetches number area before r' after' → (r ≡ r') × (after ≡ after')
determined_fetch a b = (reading_one _ _ (a.answer ∙ sym b.answer) (a.table ∙ sym b.table), a.left ∙ sym b.left)
