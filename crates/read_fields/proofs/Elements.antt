-- A list gone through: the elements that still stand from a place on.
use Prim.Native.Nat.{ℕ, zero, suc, ◌<◌, ◌≤◌}
use mathlib.Core.Path.{◌≡◌, refl, ap, sym, ◌∙◌, subst}
use mathlib.Core.List.{List, [], ◌∷◌}
use mathlib.Core.Bool.{Bool, true, false}
use native.Mathlib.Omega.{arith}
use lib.ListN.{length, drop}
use Rattle.json_grammar.specs.Byte.{blanked, is_blank}
use Rattle.json_grammar.specs.Tree.{Place, Moves, Tree, list, Elements, no_element, element}
use Rattle.json_grammar.specs.Grammar.{Value, an_empty_list, a_list, Listed, first, Behind, bracket, next_element}
use Rattle.json_move.specs.Moving.{first_in, over_comma, next_after, at_end, closes}
use Rattle.json_laws.proofs.Moved.{first_element_lem, next_after_element, element_not_end}
use Rattle.json_laws.proofs.Shorter.{to_sharp, listed_sharp, blanks_shorter, value_shorter, listed_shorter}
use Rattle.document.specs.At.{At}

pub absurd_bool : {A : Type 0} → true ≡ false → A
absurd_bool h = let z : ◌≡◌ {A = ℕ} 0 1 = cc in let bad : ⊥ = omega arith in absurd bad

-- The elements from a place on: none at a list's end.
pub data Standing (text : List ℕ) : ℕ → Elements → Type 0 where
  over : {e : ℕ} → at_end (drop e text) ≡ true → Standing text e no_element
  there : {e : ℕ} {ts : Elements} {r : List ℕ} → Listed ts (drop e text) r → Standing text e ts

-- An element that stands, and those behind it.
pub record Here (text : List ℕ) (e : ℕ) (es : Elements) : Type 0 where
  pub tree : Tree
  pub rest : Elements
  pub split : es ≡ element tree rest
  pub stands : At text e tree
  pub onward : (e' : ℕ) → drop e' text ≡ next_after (drop e text) → Standing text e' rest

listed_here : {text : List ℕ} {e : ℕ} {ts : Elements} {r s : List ℕ} → Listed ts s r → s ≡ drop e text → Standing text e ts
listed_here {text} {e} {ts} {r} l q = there (subst (λ (s : List ℕ). Listed ts s r) q l)

first_standing : {text : List ℕ} {e : ℕ} {p : Place} {es : Elements} {s r : List ℕ} → Value (list p es) s r → drop e text ≡ first_in s → Standing text e es
unfolding first_in at_end closes is_blank
first_standing (an_empty_list b) q = over (ap at_end (q ∙ to_sharp b refl))
first_standing (a_list b l) q = listed_here l (sym (q ∙ first_element_lem 91 b l))

pub standing_first : {text : List ℕ} {at e : ℕ} {p : Place} {es : Elements} → At text at (list p es) → Moves first_in text at e → Standing text e es
standing_first a m = first_standing a.spelled m.lands

behind_standing : {text : List ℕ} {e : ℕ} {ts : Elements} {n r : List ℕ} → Behind ts n r → drop e text ≡ over_comma n → Standing text e ts
unfolding blanked at_end closes is_blank
behind_standing bracket q = over (ap at_end q)
behind_standing (next_element b l) q = listed_here l (sym (q ∙ to_sharp b (listed_sharp l)))

listed_splits : {text : List ℕ} {e : ℕ} {ts : Elements} {s r : List ℕ} → Listed ts s r → s ≡ drop e text → e < length text → Here text e ts
listed_splits {text} (first {t} {ts} {s} {m} v b h) q inside =
    record {
      tree = t;
      rest = ts;
      split = refl;
      stands = record { rest = m; spelled = subst (λ (x : List ℕ). Value t x m) q v; inside = inside };
      onward = λ e' w. behind_standing h (w ∙ ap next_after (sym q) ∙ next_after_element v b h);
    }

not_end_inside : (text : List ℕ) (e : ℕ) → at_end (drop e text) ≡ false → e < length text
unfolding at_end
not_end_inside [] zero h = let z : ◌≡◌ {A = ℕ} 0 1 = cc in omega arith
not_end_inside [] (suc e) h = let z : ◌≡◌ {A = ℕ} 0 1 = cc in omega arith
not_end_inside (b ∷ s) zero h = omega arith
not_end_inside (b ∷ s) (suc e) h = omega (arith, not_end_inside s e h)

pub standing_here : {text : List ℕ} {e : ℕ} {es : Elements} → Standing text e es → at_end (drop e text) ≡ false → Here text e es
standing_here (over h) q = let z : ◌≡◌ {A = Bool} true false = sym h ∙ q in absurd_bool z
standing_here {text} {e} (there l) q = listed_splits l refl (not_end_inside text e q)

pub standing_over : {text : List ℕ} {e : ℕ} {es : Elements} → Standing text e es → at_end (drop e text) ≡ true → es ≡ no_element
standing_over (over h) q = refl
standing_over (there l) q = let z : ◌≡◌ {A = Bool} true false = sym q ∙ element_not_end l in absurd_bool z

-- The same of an element that is known to stand.
not_over : {text : List ℕ} {e : ℕ} {t : Tree} {ts : Elements} → Standing text e (element t ts) → at_end (drop e text) ≡ false
not_over (there l) = element_not_end l

pub standing_at : {text : List ℕ} {e : ℕ} {t : Tree} {ts : Elements} → Standing text e (element t ts) → At text e t
standing_at {text} {e} {t} s =
    let x = standing_here s (not_over s) in
    let q : x.tree ≡ t = cc in
    subst (λ (y : Tree). At text e y) q x.stands

pub standing_next : {text : List ℕ} {e e' : ℕ} {t : Tree} {ts : Elements} → Standing text e (element t ts) → Moves next_after text e e' → Standing text e' ts
standing_next {text} {e} {e'} {t} {ts} s m =
    let x = standing_here s (not_over s) in
    let q : x.rest ≡ ts = cc in
    subst (λ (y : Elements). Standing text e' y) q (x.onward e' m.lands)

-- Each element takes some of the text, so where no byte is left none stands.
pub standing_none : {text : List ℕ} {e : ℕ} {es : Elements} → Standing text e es → length (drop e text) ≡ 0 → es ≡ no_element
standing_none (over h) q = refl
standing_none (there l) q = absurd (omega (arith, listed_shorter l))

behind_shorter : {ts : Elements} {s r : List ℕ} → Behind ts s r → length (over_comma s) ≤ length s
unfolding first_in is_blank
behind_shorter bracket = omega arith
behind_shorter (next_element b l) = rw (to_sharp b (listed_sharp l)) (omega (arith, blanks_shorter b))

listed_next : {ts : Elements} {s r : List ℕ} → Listed ts s r → length (next_after s) < length s
listed_next (first v b h) = rw (next_after_element v b h) (omega (arith, behind_shorter h, blanks_shorter b, value_shorter v))

pub next_shorter : {text : List ℕ} {e e' : ℕ} {es : Elements} → Standing text e es → at_end (drop e text) ≡ false → Moves next_after text e e' → length (drop e' text) < length (drop e text)
next_shorter (over h) q m = absurd_bool (sym h ∙ q)
next_shorter (there l) q m = rw m.lands (listed_next l)
