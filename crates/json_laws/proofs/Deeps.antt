-- Where the walk refuses for depth.
use Prim.Native.Nat.{ℕ, suc, ◌-◌, ◌≤◌}
use mathlib.Core.Path.{◌≡◌, refl, ap, ◌∙◌}
use mathlib.Core.List.{List, [], ◌∷◌, ◌++◌, append_assoc}
use mathlib.Core.Logic.{◌⊎◌, inl, inr}
use mathlib.Core.Bool.{true}
use lib.ListN.{length, length-append}
use lib.Seq.{take_at, take-append-add, take-append-le, get_or-append_seam}
use native.Mathlib.Numerals.{add-one}
use native.Mathlib.Omega.{arith}
use Rattle.json_grammar.specs.Byte.{blanked}
use Rattle.json_grammar.specs.Tree.{object, place_in}
use Rattle.json_grammar.specs.Grammar.{text}
use Rattle.json_grammar.specs.Walk as W
use Rattle.json_grammar.specs.Walk.{step, deep, Frame, Mode, Walked, end, refused2, refused3, first_object, one_object, only_blanks, alone}
use Rattle.json_move.specs.Moving.{opens}
use Rattle.json_laws.specs.Begins.{Begins}
use Rattle.json_laws.specs.Open.{open_after, open_in, TwentyFirst}
use Rattle.json_laws.proofs.Fits.{FitsNext, backward, completion}
use Rattle.json_laws.proofs.Halts.{Leads, halts, leads_fits}
use Rattle.json_laws.proofs.Counted.{counting, counted}
use Rattle.json_laws.proofs.Levels.{leads_counted, open_leads, level}

opens_bracket : (b : ℕ) → ((b ≡ 91) ⊎ (b ≡ 123)) → opens b ≡ true
unfolding opens
opens_bracket b (inl e) = rw e
opens_bracket b (inr e) = rw e

-- What would be in a bracket that is too deep.
inside_deep : (b : ℕ) (k : List Frame) → ((b ≡ 91) ⊎ (b ≡ 123)) → (c : List ℕ) × FitsNext b k deep c []
inside_deep b k (inl e) = let h = completion W.first_element (W.a_list ∷ k) in (h.0, (λ _. h.1, λ q. absurd (omega arith)))
inside_deep b k (inr e) = let h = completion W.first_name (W.an_object ∷ k) in (h.0, (λ q. absurd (omega arith), λ _. h.1))

module _ {w : List ℕ} {n : Mode} {l : List Frame} (b : ℕ) (q : List ℕ) (h : Leads W.top [] w n l) (e : step n b l ≡ deep) where
  bound : (20 ≤ length l) × ((b ≡ 91) ⊎ (b ≡ 123)) × ((v : List ℕ) → counting n (length l) (b ∷ v) ≡ open_after (suc (length l)) v)
  bound = let g = leads_counted h tt (omega arith) in rw e at (counted n g.0 b l)

  filled : length l ≡ 20
  filled = let g = leads_counted h tt (omega arith) in let x = bound.0 in omega arith

  one_more : open_in (w ++ (b ∷ [])) ≡ 21
  unfolding open_in open_after
  one_more = (leads_counted h tt (omega arith)).2 (b ∷ []) ∙ bound.2 [] ∙ ap suc filled

  begins_deep : Begins (w ++ (b ∷ []))
  begins_deep =
      let i = inside_deep b l bound.1 in
      let g = leads_fits h (b ∷ i.0) [] (backward n b l i.0 [] (rw e i.1)) in
      (i.0, object g.0 g.1, rw append_assoc (text g.4 g.5 g.6))

  twenty_first : TwentyFirst (w ++ (b ∷ q)) (length w)
  twenty_first = record {
    inside = simp length-append (omega arith);
    bracket = rw (get_or-append_seam w b q 0) (opens_bracket b bound.1);
    twenty = rw (take_at w (b ∷ q) (length w) refl) (open_leads h ∙ filled);
    twenty_one = rw (← add-one (length w), take-append-add w (b ∷ q) 1) one_more;
    before = λ i p. rw (take-append-le i w (b ∷ q) p) (level h i);
    begins = rw (← add-one (length w), take-append-add w (b ∷ q) 1) begins_deep;
  }

placed : (s w p : List ℕ) → s ≡ w ++ p → TwentyFirst (w ++ p) (length w) → TwentyFirst s (place_in s p)
placed s w p e h = let n : length s - length p ≡ length w = omega (arith, ap length e ∙ length-append w p) in rw (n, e) h

pub first_deep : (s p : List ℕ) → first_object s ≡ refused3 p → TwentyFirst s (place_in s p)
first_deep s [] e = absurd (rw e at (halts W.top [] s))
first_deep s (b ∷ q) e = let h = rw e at (halts W.top [] s) in placed s h.0 (b ∷ q) h.4 (twenty_first b q h.3 h.5)

pub one_is_deep : (s p : List ℕ) → one_object s ≡ refused3 p → first_object s ≡ refused3 p
unfolding one_object
one_is_deep s p e = which (first_object s) refl e
  where
    over : (q m : List ℕ) → only_blanks m (end q) ≡ refused3 p → first_object s ≡ refused3 p
    over q [] h = let z : ◌≡◌ {A = ℕ} 0 1 = cc in absurd (omega arith)
    over q (b ∷ m) h = let z : ◌≡◌ {A = ℕ} 0 1 = cc in absurd (omega arith)

    which : (w : Walked) → first_object s ≡ w → alone w ≡ refused3 p → first_object s ≡ refused3 p
    which (end q) f h = over q (blanked q) h
    which (refused2 q) f h = let z : ◌≡◌ {A = ℕ} 0 1 = cc in absurd (omega arith)
    which (refused3 q) f h = f ∙ h
