-- What one record more changes in what is told of the records passed.
use mathlib.Core.Path.{◌≡◌, refl, ap, sym, ◌∙◌}
use mathlib.Core.List.{List, [], ◌∷◌, ◌++◌}
use mathlib.Core.Bool.{Bool, true, false, cond}
use Prim.Native.Nat.{ℕ, zero, suc, ◌+◌}
use native.Mathlib.Omega.{arith}
use lib.Dec.{eqb, eqb-suc-suc}
use lib.ListN.{length, length-append}
use borrow.Author.Tests.{ne_eqb, eqb-true}
use Rattle.document.proofs.Same.{eqb_sym}
use Rattle.shelf_list.specs.Shelf.{Entry, size, used, stands}
use Rattle.shelf_list.specs.Calls.{number_standing}
use Rattle.shelf_list.proofs.Lists.{or_false, used_append}
use Rattle.std.specs.Prelude.{Some, None}
use Rattle.json_grammar.proofs.Truth.{cond_false}
use Rattle.shelf.specs.Survey.{place, place_from, survey_of, with_record}

-- A number that has not stood is not that of an entry passed.
pub place_last : (n i : ℕ) (es : List Entry) (e : Entry) → stands e.number es ≡ false
    → place_from i n (es ++ (e ∷ [])) ≡ cond (eqb e.number n) (Some (place (i + used es) (size e))) (place_from i n es)
place_last n i [] e s =
    let z : i + 0 ≡ i = omega arith in
    ap (λ (b : Bool). cond b (Some (place i (size e))) None) (eqb_sym n e.number)
    ∙ ap (λ (m : ℕ). cond (eqb e.number n) (Some (place m (size e))) None) (sym z)
place_last n i (f ∷ es) e s =
    let d = or_false (eqb e.number f.number) (stands e.number es) s in
    go (eqb n f.number) refl d.0 (place_last n (i + size f) es e d.1)
  where
    go : (b : Bool) → eqb n f.number ≡ b → eqb e.number f.number ≡ false
        → place_from (i + size f) n (es ++ (e ∷ [])) ≡ cond (eqb e.number n) (Some (place (i + size f + used es) (size e))) (place_from (i + size f) n es)
        → cond b (Some (place i (size f))) (place_from (i + size f) n (es ++ (e ∷ [])))
        ≡ cond (eqb e.number n) (Some (place (i + (size f + used es)) (size e))) (cond b (Some (place i (size f))) (place_from (i + size f) n es))
    go true h d below =
        let other : eqb e.number n ≡ false = ap (eqb e.number) (eqb-true n f.number h) ∙ d in
        sym (cond_false (eqb e.number n) (Some (place (i + (size f + used es)) (size e))) (Some (place i (size f))) other)
    go false h d below =
        let m : i + size f + used es ≡ i + (size f + used es) = omega arith in
        below ∙ ap (λ (k : ℕ). cond (eqb e.number n) (Some (place k (size e))) (place_from (i + size f) n es)) m

pub standing_last : (i : ℕ) (es : List Entry) (e : Entry)
    → number_standing i (es ++ (e ∷ [])) ≡ cond (eqb (length es) i) e.number (number_standing i es)
standing_last zero [] e = refl
standing_last (suc i) [] e = ap (λ (b : Bool). cond b e.number 0) (sym (ne_eqb 0 (suc i) (λ h. omega arith)))
standing_last zero (f ∷ es) e = ap (λ (b : Bool). cond b e.number f.number) (sym (ne_eqb (suc (length es)) 0 (λ h. omega arith)))
standing_last (suc i) (f ∷ es) e =
    standing_last i es e ∙ ap (λ (b : Bool). cond b e.number (number_standing i es)) (sym (eqb-suc-suc (length es) i))

pub survey_goes_on : (number position : ℕ) (es : List Entry) (e : Entry) → stands e.number es ≡ false
    → with_record (survey_of number position es) e.number (size e) number position ≡ survey_of number position (es ++ (e ∷ []))
survey_goes_on number position es e s =
    let z : 0 + used es ≡ used es = omega arith in
    rw (used_append es e, length-append es (e ∷ []), place_last number 0 es e s, z, standing_last position es e)
