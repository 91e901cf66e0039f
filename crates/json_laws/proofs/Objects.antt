-- The first object of some bytes, and a text, as the walk finds them.
use Prim.Native.Nat.{ℕ, ◌≤◌, ◌<◌}
use mathlib.Core.Path.{◌≡◌, refl, sym, ◌∙◌}
use mathlib.Core.List.{List, [], ◌∷◌}
use mathlib.Core.Bool.{Bool, true, false}
use lib.Dec.{ltb}
use borrow.Author.Tests.{ltb-true, ltb-false}
use native.Mathlib.Omega.{arith}
use Rattle.json_grammar.specs.Byte.{blanked}
use Rattle.json_grammar.specs.Tree.{Place, Tree, object}
use Rattle.json_grammar.specs.Grammar.{Blanks, here, Text, text}
use Rattle.json_grammar.specs.Walk as W
use Rattle.json_grammar.specs.Walk.{walk, Walked, end, refused2, refused3, first_object, one_object, only_blanks, alone}
use Rattle.json_laws.specs.Depth.{depth}
use Rattle.json_laws.specs.Leading.{Leading, leading}
use Rattle.json_laws.proofs.Blanks.{over_blanks, blanks_blanked}
use Rattle.json_laws.proofs.Through.{Deep, Through, pass_blanks, object_through}
use Rattle.json_laws.proofs.Fits.{Fits, backward}
use Rattle.json_laws.proofs.Halts.{halts, leads_fits}

-- Bytes that begin with an object of the grammar: what is behind it, or refused for depth.
pub first_through : {t : Tree} {s r : List ℕ} → Leading t s r → Through (depth t) [] (first_object s) (end r)
first_through (leading b v) = rw (pass_blanks W.top [] refl b) (object_through v)

-- What is refused for nothing else is refused for depth, or is walked to its end.
pub data Outcome (t : Tree) (w v : Walked) : Type 0 where
  fine : depth t ≤ 20 → w ≡ v → Outcome t w v
  too_deep : 20 < depth t → Deep w → Outcome t w v

pub outcome : {t : Tree} {w v : Walked} → Through (depth t) [] w v → Outcome t w v
outcome {t} {w} {v} h = which (ltb 20 (depth t)) refl
  where
    which : (x : Bool) → ltb 20 (depth t) ≡ x → Outcome t w v
    which true e = let l = ltb-true 20 (depth t) e in too_deep l (h.deeper (omega arith))
    which false e = let l = ltb-false 20 (depth t) e in fine l (h.fits (omega arith))

-- The walk comes to the end of objects of the grammar alone.
pub end_leading : {s r : List ℕ} → first_object s ≡ end r → (t : Tree) × Leading t s r × (depth t ≤ 20)
end_leading {s} {r} e = let h = rw e at (halts W.top [] s) in found (rw (sym h.5) at (leads_fits h.3 (h.4 ∷ r) r (backward h.1 h.4 h.2 r r (rw h.6 here))))
  where
    which : (t : Tree) (m : List ℕ) → Leading t s m → Outcome t (first_object s) (end m) → (t : Tree) × Leading t s r × (depth t ≤ 20)
    which t m l (fine d w) = let q : m ≡ r = cc in (t, rw q at l, d)
    which t m l (too_deep d w) = let a = w.1 in let z : ◌≡◌ {A = ℕ} 0 1 = cc in absurd (omega arith)

    found : Fits W.top [] s r → (t : Tree) × Leading t s r × (depth t ≤ 20)
    found f = let l = leading f.4 f.5 in which (object f.0 f.1) f.3 l (outcome (first_through l))

-- A text is refused for nothing but depth.
pub one_end : (s r : List ℕ) → first_object s ≡ end r → Blanks r [] → one_object s ≡ end r
unfolding one_object walk blanked
one_end s r e b = rw (e, over_blanks b)

one_deep : (s p : List ℕ) → first_object s ≡ refused3 p → one_object s ≡ refused3 p
unfolding one_object
one_deep s p e = rw e

pub text_end : {t : Tree} {s : List ℕ} → Text t s → depth t ≤ 20 → (r : List ℕ) × (first_object s ≡ end r) × (one_object s ≡ end r)
text_end (text {s = s} {r = r} b v c) d = let e = (first_through (leading b v)).fits (omega arith) in (r, e, one_end s r e c)

text_deep : {t : Tree} {s : List ℕ} → Text t s → 20 < depth t → (p : Place) × (first_object s ≡ refused3 p) × (one_object s ≡ refused3 p)
text_deep (text {s = s} b v c) d = let h = (first_through (leading b v)).deeper (omega arith) in (h.0, h.1, one_deep s h.0 h.1)

apart_2 : (t : Tree) (w : Walked) (p : Place) → (depth t ≤ 20 → (r : Place) × (w ≡ end r)) → (20 < depth t → (q : Place) × (w ≡ refused3 q)) → w ≡ refused2 p → ⊥
apart_2 t w p f g e = which (ltb 20 (depth t)) refl
  where
    which : (x : Bool) → ltb 20 (depth t) ≡ x → ⊥
    which true d = let h = g (ltb-true 20 (depth t) d) in let i = h.1 in let z : ◌≡◌ {A = ℕ} 0 1 = cc in omega arith
    which false d = let h = f (ltb-false 20 (depth t) d) in let i = h.1 in let z : ◌≡◌ {A = ℕ} 0 1 = cc in omega arith

pub first_not_2 : {t : Tree} {s : List ℕ} (p : Place) → Text t s → first_object s ≡ refused2 p → ⊥
first_not_2 {t} {s} p h = apart_2 t (first_object s) p (λ d. let e = text_end h d in (e.0, e.1)) (λ d. let e = text_deep h d in (e.0, e.1))

pub one_not_2 : {t : Tree} {s : List ℕ} (p : Place) → Text t s → one_object s ≡ refused2 p → ⊥
one_not_2 {t} {s} p h = apart_2 t (one_object s) p (λ d. let e = text_end h d in (e.0, e.2)) (λ d. let e = text_deep h d in (e.0, e.2))

-- Behind a text's object are blanks alone.
pub one_is_first : (s r : List ℕ) → one_object s ≡ end r → (first_object s ≡ end r) × Blanks r []
unfolding one_object
one_is_first s r e = which (first_object s) refl e
  where
    over : (q m : List ℕ) → first_object s ≡ end q → blanked q ≡ m → only_blanks m (end q) ≡ end r → (first_object s ≡ end r) × Blanks r []
    over q [] f g h = let i : q ≡ r = cc in (f ∙ h, rw i at (rw g at (blanks_blanked q)))
    over q (b ∷ m) f g h = let z : ◌≡◌ {A = ℕ} 0 1 = cc in absurd (omega arith)

    which : (w : Walked) → first_object s ≡ w → alone w ≡ end r → (first_object s ≡ end r) × Blanks r []
    which (end q) f h = over q (blanked q) f refl h
    which (refused2 q) f h = let z : ◌≡◌ {A = ℕ} 0 1 = cc in absurd (omega arith)
    which (refused3 q) f h = let z : ◌≡◌ {A = ℕ} 0 1 = cc in absurd (omega arith)
