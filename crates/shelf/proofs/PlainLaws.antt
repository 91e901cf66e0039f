-- A text read for use 3 and put again: whether it is a plain text.
use mathlib.Core.Path.{◌≡◌, refl, ap, sym, ◌∙◌}
use mathlib.Core.List.{List, [], ◌∷◌}
use mathlib.Core.Bool.{Bool, true, false, cond, ◌&&◌}
use mathlib.Core.Option.{Option, none, some}
use Prim.Native.Nat.{ℕ, ◌<◌}
use native.Mathlib.Omega.{arith}
use lib.Dec.{eqb}
use lib.ListN.{length, take}
use Rattle.std.specs.Cmp.Lexicographic.{pointwise}
use Rattle.std.specs.Prelude.{Ok, Err}
use Rattle.json_grammar.proofs.Truth.{never_true}
use Rattle.document.specs.Lookup.{same}
use Rattle.document.specs.Posology.{Posology}
use Rattle.document.specs.Plain.{plain}
use Rattle.document.specs.Answer.{Read, taken, refused, read}
use Rattle.document.specs.Write.{in_greatest_room}
use Rattle.document.specs.Length.{greatest_length}
use Rattle.document.specs.Refusals.{number_of}
use Rattle.document.specs.declared.refusal.Refusal.{Refusal}
use Rattle.document_meaning.proofs.Lengths.{plain_within}
use Rattle.shelf_list.specs.Shelf.{both_uses, is_given, if_plain, plain_of, is_plain}
use Rattle.shelf_list.proofs.Records.{plain_of_text}
use Rattle.rewriter.specs.Rewriting.{Rewrites}
use Rattle.rewriter.proofs.Reread.{read_refused, read_taken}

-- As `==` compares two slices.
compared : (s t : List ℕ) → pointwise eqb s t ≡ same s t
compared [] [] = refl
compared [] (y ∷ t) = refl
compared (x ∷ s) [] = refl
compared (x ∷ s) (y ∷ t) = ap (λ (b : Bool). eqb x y && b) (compared s t)

-- A text that is longer than every plain text is none.
pub too_long_for_plain : (text : List ℕ) → greatest_length < length text → false ≡ is_plain text
too_long_for_plain text l = never_true (is_plain text) (go (plain_of text) refl)
  where
    go : (o : Option Posology) → plain_of text ≡ o → is_given o ≡ true → ⊥
    go none e h = let z : ◌≡◌ {A = ℕ} 0 1 = cc in omega arith
    go (some p) e h =
        let i = plain_of_text text p e in
        let s = plain_within both_uses p i.is_valid i.fits in
        let n = ap length i.text_is in
        omega arith

plain_of_read_lem : (text : List ℕ) (r : Read) → read (in_greatest_room both_uses) text ≡ r → is_plain text ≡ is_given (if_plain text r)
unfolding plain_of
plain_of_read_lem text r e = ap (λ (x : Read). is_given (if_plain text x)) e

is_same : (p : Posology) (b : Bool) → is_given (cond b (some p) none) ≡ b
is_same p true = refl
is_same p false = refl

-- What is refused is none.
pub refused_none : {text before after : List ℕ} {why : Refusal} → Rewrites both_uses text before (Err why) after → false ≡ is_plain text
refused_none {text} {why = why} h = sym (plain_of_read_lem text (refused (number_of why.0) why.1) (read_refused h))

-- What was put stands first in the buffer: the text is plain where it is the same.
pub plain_if_same : {text before after : List ℕ} {n : ℕ} {b : Bool} → Rewrites both_uses text before (Ok n) after
    → b ≡ pointwise eqb (take n after) text → b ≡ is_plain text
plain_if_same {text} {after = after} {n = n} h e =
    let r = read_taken h in
    let p = r.posology in
    e ∙ compared (take n after) text
    ∙ ap (λ (s : List ℕ). same s text) r.first
    ∙ sym (is_same p (same (plain p) text))
    ∙ sym (plain_of_read_lem text (taken p) r.taken)
