-- The writer makes the plain texts, one behind the other, and nothing else.
use mathlib.Core.Path.{◌≡◌, refl, ap, sym, ◌∙◌}
use mathlib.Core.List.{List, [], ◌∷◌, append-nil}
use mathlib.Core.Bool.{Bool, true, false, cond}
use mathlib.Core.Option.{Option, none, some}
use Prim.Native.Nat.{ℕ}
use native.Mathlib.Omega.{arith}
use lib.Dec.{leb}
use lib.ListN.{length}
use borrow.Author.Tests.{leb-true, le-leb}
use Rattle.json_grammar.proofs.Truth.{cond_true}
use Rattle.document.specs.Posology.{Posology}
use Rattle.document.specs.Table.{table_of}
use Rattle.document.specs.Plain.{plain}
use Rattle.document.specs.Valid.{Valid, Fits, strings}
use Rattle.document.specs.Write.{Write, writes, refuses, write, fitting, greatest_room}
use Rattle.document.specs.Length.{greatest_length}
use Rattle.document.specs.declared.terms.Terms.{Terms}
use Rattle.document_meaning.proofs.Lengths.{plain_within}
use Rattle.document_meaning.proofs.PlainThen.{plain_then_lem}
use Rattle.document.proofs.Tables.{own_written}
use Rattle.demands.specs.Runs.{in_front, write_all, plain_texts, AllValid, no_posology, next_posology, AllWithin, no_text, next_text}

-- What it makes of one, in a buffer of so many bytes.
one_written : (purpose buffer : ℕ) (p : Posology) → Valid purpose p → Fits greatest_room p → write purpose (table_of p) (strings p) buffer ≡ fitting buffer (plain p)
one_written purpose buffer p v f = ap (λ (s : List ℕ). write purpose (table_of p) s buffer) (sym (append-nil (strings p))) ∙ own_written purpose buffer p [] v f

pub texts_written : (terms : Terms) (buffer : ℕ) {ps : List Posology} → AllValid terms ps → AllWithin buffer ps → write_all terms.purpose buffer ps ≡ some (plain_texts ps)
unfolding write_all plain_texts
texts_written terms buffer no_posology no_text = refl
texts_written terms buffer (next_posology {p = p} {ps = ps} v f g w) (next_text h more) =
    ap (λ (x : Write). in_front x (write_all terms.purpose buffer ps)) (one_written terms.purpose buffer p v f ∙ cond_true (leb (length (plain p)) buffer) _ _ (le-leb (length (plain p)) buffer h))
    ∙ ap (in_front (writes (plain p))) (texts_written terms buffer w more)
    ∙ ap some (sym (plain_then_lem p (plain_texts ps)))

-- Where all are written, the buffer holds each.
module _ (buffer : ℕ) (p : Posology) (ps : List Posology) (run : List ℕ) (rest : Option (List ℕ)) (more : (s : List ℕ) → rest ≡ some s → AllWithin buffer ps) where
  front_within : (b : Bool) → leb (length (plain p)) buffer ≡ b → (o : Option (List ℕ)) → rest ≡ o
      → in_front (cond b (writes (plain p)) (refuses 19 (length (plain p)))) o ≡ some run → AllWithin buffer (p ∷ ps)
  front_within true h (some s) i e = next_text (leb-true (length (plain p)) buffer h) (more s i)
  front_within true h none i e = let z : ◌≡◌ {A = ℕ} 0 1 = cc in absurd (omega arith)
  front_within false h o i e = let z : ◌≡◌ {A = ℕ} 0 1 = cc in absurd (omega arith)

written_within : (terms : Terms) (buffer : ℕ) {ps : List Posology} (run : List ℕ) → AllValid terms ps → write_all terms.purpose buffer ps ≡ some run → AllWithin buffer ps
unfolding write_all
written_within terms buffer run no_posology e = no_text
written_within terms buffer run (next_posology {p = p} {ps = ps} v f g w) e =
    front_within buffer p ps run (write_all terms.purpose buffer ps) (λ s i. written_within terms buffer s w i) (leb (length (plain p)) buffer) refl (write_all terms.purpose buffer ps) refl
    (sym (ap (λ (x : Write). in_front x (write_all terms.purpose buffer ps)) (one_written terms.purpose buffer p v f)) ∙ e)

pub written_texts : (terms : Terms) (buffer : ℕ) {ps : List Posology} (run : List ℕ) → AllValid terms ps → write_all terms.purpose buffer ps ≡ some run → plain_texts ps ≡ run
written_texts terms buffer run v e = let a = texts_written terms buffer v (written_within terms buffer run v e) in cc

pub all_within : (terms : Terms) {ps : List Posology} → AllValid terms ps → AllWithin greatest_length ps
all_within terms no_posology = no_text
all_within terms (next_posology {p = p} v f g w) = next_text {p = p} (plain_within terms.purpose p v.1 f) (all_within terms w)
