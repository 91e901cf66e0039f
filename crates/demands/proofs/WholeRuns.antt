-- A run that has a text for each posology is read to its end, and a run that is read to its end has them.
use mathlib.Core.Path.{◌≡◌, refl, ap, subst, ◌∙◌}
use mathlib.Core.List.{List, [], ◌∷◌}
use mathlib.Core.Bool.{true}
use mathlib.Core.Option.{Option, none, some}
use Prim.Native.Nat.{ℕ, zero, suc, ◌+◌, ◌≤◌, ◌<◌}
use native.Mathlib.Omega.{arith}
use lib.ListN.{length, drop}
use Rattle.json_grammar.specs.Tree.{place_in, Tree}
use Rattle.json_grammar.specs.Grammar.{Blanks}
use Rattle.json_grammar.proofs.Truth.{choose_true}
use Rattle.json_laws.specs.Leading.{Leading, leading}
use Rattle.json_laws.proofs.Shorter.{blanks_shorter, value_shorter, to_sharp}
use Rattle.document.specs.Posology.{Posology}
use Rattle.document.specs.Valid.{Valid, Fits, is_use}
use Rattle.document.specs.Write.{greatest_room}
use Rattle.document.specs.Answer.{ReadNext, taken_to, blank_to, refused_at, next_begun, read_next, text_at_most}
use Rattle.document.specs.declared.terms.Terms.{Terms}
use Rattle.document_meaning.proofs.NextTexts.{behind_next}
use Rattle.document_meaning.proofs.Spelled.{next_spells, spelled_next}
use Rattle.demands.specs.Runs.{Ended, ended, posologies, and_then, onward, read_from, AllValid, no_posology, next_posology, RunOf, only_blanks, text_then, Says}
use Rattle.demands.proofs.RefusalCases.{blank_by}

blanks_left : (terms : Terms) {s : List ℕ} → is_use terms.purpose ≡ true → Blanks s [] → read_next terms s ≡ blank_to (length s)
unfolding read_next
blanks_left terms {s} u b = choose_true (is_use terms.purpose) _ _ u ∙ ap (next_begun terms s) (to_sharp b tt)

leading_shorter : {t : Tree} {s r : List ℕ} → Leading t s r → length r < length s
leading_shorter (leading b v) = omega (arith, blanks_shorter b, value_shorter v)

-- The first text of a run is taken as p if its tree is one of p's.
abbrev pub TakesFirst : (Posology → Tree → Type 0) → Terms → Type 0
TakesFirst Is terms =
    (s r : List ℕ) (t : Tree) (p : Posology) → Valid terms.purpose p → Fits terms.room p → Is p t → Leading t s r → place_in s r ≤ text_at_most → read_next terms s ≡ taken_to p (place_in s r)

-- Each takes a byte, so the bytes that are left are steps enough.
module _ (Is : Posology → Tree → Type 0) (terms : Terms) (u : is_use terms.purpose ≡ true) (first : TakesFirst Is terms) where
  pub run_read : (n : ℕ) {from : ℕ} {s : List ℕ} {es : List Ended}
      → RunOf Is from s es → AllValid terms (posologies es) → length s ≤ n → read_from (suc n) terms from s ≡ some es
  unfolding read_from
  run_read n (only_blanks {from = from} {s = s} b) v h = ap (λ (x : ReadNext). onward from x (λ e. read_from n terms (from + e) (drop e s))) (blanks_left terms u b)
  run_read zero (text_then i l near more) v h = absurd (omega (arith, leading_shorter l))
  run_read (suc n) (text_then {from = from} {p = p} {t = t} {s = s} {r = r} i l near more) (next_posology v f g w) h =
      let a = first s r t p v g i l near in
      let k = leading_shorter l in
      ap (λ (x : ReadNext). onward from x (λ e. read_from (suc n) terms (from + e) (drop e s))) a
      ∙ ap (λ (q : List ℕ). and_then (ended p (from + place_in s r)) (read_from (suc n) terms (from + place_in s r) q)) (behind_next terms p (place_in s r) l a)
      ∙ ap (and_then (ended p (from + place_in s r))) (run_read n more w (omega arith))

pub takes_spelled : (terms : Terms) → TakesFirst Says terms
takes_spelled terms s r t p v f h l near = spelled_next terms p (place_in s r) v f l h.0 h.1 refl near

-- A text of n bytes, with its leading blanks.
pub text_ends : {Is : Posology → Tree → Type 0} {from n : ℕ} {p : Posology} {t : Tree} {s r : List ℕ} {es : List Ended}
    → place_in s r ≡ n → Is p t → Leading t s r → place_in s r ≤ text_at_most → RunOf Is (from + n) r es → RunOf Is from s (ended p (from + n) ∷ es)
text_ends {Is} {from} {p = p} {s = s} {r = r} {es = es} e i l near more =
    subst (λ (n : ℕ). RunOf Is (from + n) r es → RunOf Is from s (ended p (from + n) ∷ es)) e (λ rest. text_then i l near rest) more

module _ (terms : Terms) (small : terms.room ≤ greatest_room) where
  abbrev Made : ℕ → List ℕ → List Ended → Type 0
  Made from s es = AllValid terms (posologies es) × RunOf Says from s es

  one_made : {from : ℕ} {es : List Ended} (s : List ℕ) (p : Posology) (e : ℕ)
      → read_next terms s ≡ taken_to p e → Made (from + e) (drop e s) es → Made from s (ended p (from + e) ∷ es)
  one_made {from} {es} s p e h m =
      let k = next_spells terms s p e h in
      let f = k.1 in
      let near : place_in s k.3 ≤ text_at_most = let a = k.7 in let b = k.8 in omega arith in
      let more = subst (λ (q : List ℕ). RunOf Says (from + e) q es) (behind_next terms p e k.4 h) m.1 in
      (next_posology k.0 (omega arith) f m.0, text_ends k.7 (k.5, k.6) k.4 near more)

  -- By what the first comes to, and then by what the rest does.
  module _ (from : ℕ) (s : List ℕ) (es : List Ended) (rest : ℕ → Option (List Ended)) (more : (e : ℕ) (ds : List Ended) → rest e ≡ some ds → Made (from + e) (drop e s) ds) where
    then_made : (p : Posology) (e : ℕ) → read_next terms s ≡ taken_to p e → (x : Option (List Ended)) → rest e ≡ x → and_then (ended p (from + e)) x ≡ some es → Made from s es
    then_made p e h (some ds) i g = let a : ended p (from + e) ∷ ds ≡ es = cc g in subst (Made from s) a (one_made s p e h (more e ds i))
    then_made p e h none i g = let z : ◌≡◌ {A = ℕ} 0 1 = cc in absurd (omega arith)

    first_made : (x : ReadNext) → read_next terms s ≡ x → onward from x rest ≡ some es → Made from s es
    first_made (taken_to p e) h g = then_made p e h (rest e) refl g
    first_made (blank_to n) h g = let a : [] ≡ es = cc g in subst (Made from s) a (no_posology, only_blanks (blank_by terms s h).1)
    first_made (refused_at n place) h g = let z : ◌≡◌ {A = ℕ} 0 1 = cc in absurd (omega arith)

  pub run_made : (n from : ℕ) (s : List ℕ) (es : List Ended) → read_from n terms from s ≡ some es → Made from s es
  unfolding read_from
  run_made zero from s es h = let z : ◌≡◌ {A = ℕ} 0 1 = cc in absurd (omega arith)
  run_made (suc n) from s es h =
      first_made from s es (λ e. read_from n terms (from + e) (drop e s)) (λ e ds i. run_made n (from + e) (drop e s) ds i) (read_next terms s) refl h
