-- The walk of a run takes off its shortest beginning that is a text.
use Prim.Native.Nat.{ℕ, ◌≤◌}
use mathlib.Core.Path.{◌≡◌, refl, sym, ap, ◌∙◌}
use mathlib.Core.List.{List, [], ◌∷◌, ◌++◌, append_assoc, append-nil}
use lib.ListN.{length, take, length-append}
use native.Mathlib.Omega.{arith}
use Rattle.json_grammar.specs.Tree.{Tree, object}
use Rattle.json_grammar.specs.Grammar.{here, Text, text}
use Rattle.json_grammar.specs.Walk as W
use Rattle.json_grammar.specs.Walk.{Frame, Mode, walk, step, deep, ended, end, refused2, refused3, first_object}
use Rattle.json_laws.proofs.Fits.{Fits, backward}
use Rattle.json_laws.proofs.Halts.{Leads, halts, leads_fits, leads_walk}
use Rattle.json_laws.specs.Open.{open_in}
use Rattle.json_laws.proofs.Levels.{level_ended}
use Rattle.json_laws.proofs.Objects.{Outcome, fine, too_deep, outcome, first_through}
use Rattle.json_laws.proofs.Trees.{text_leading}

-- More bytes behind change nothing of what was walked.
module _ {w : List ℕ} {n : Mode} {l : List Frame} (u : List ℕ) (a : ℕ) (q v : List ℕ) (d : u ≡ w ++ (a ∷ q)) (h : Leads W.top [] w n l) where
  ended_on : step n a l ≡ ended → first_object (u ++ v) ≡ end (q ++ v)
  unfolding walk
  ended_on e = rw (d, append_assoc w (a ∷ q) v, leads_walk h (a ∷ (q ++ v)), e)

  deep_on : step n a l ≡ deep → first_object (u ++ v) ≡ refused3 (a ∷ (q ++ v))
  unfolding walk
  deep_on e = rw (d, append_assoc w (a ∷ q) v, leads_walk h (a ∷ (q ++ v)), e)

  -- up to the end it is a text
  ended_text : step n a l ≡ ended → (x : List ℕ) × (u ≡ x ++ q) × (t : Tree) × Text t x
  ended_text e = which (leads_fits h (a ∷ []) [] (backward n a l [] [] (rw e here)))
    where
      which : Fits W.top [] (w ++ (a ∷ [])) [] → (x : List ℕ) × (u ≡ x ++ q) × (t : Tree) × Text t x
      which g = (w ++ (a ∷ []), rw (append_assoc w (a ∷ []) q) d, object g.0 g.1, text g.4 g.5 g.6)

-- What is taken off, and no more, is walked to its end, with no more than 20 brackets open.
taken_front : {w s r : List ℕ} {n : Mode} {l : List Frame} (a : ℕ) → s ≡ w ++ (a ∷ r) → Leads W.top [] w n l → step n a l ≡ ended
    → (u : List ℕ) × (s ≡ u ++ r) × (first_object u ≡ end []) × ((i : ℕ) → open_in (take i u) ≤ 20)
taken_front {w} {r = r} a d h e = (w ++ (a ∷ []), rw (append_assoc w (a ∷ []) r) d, rw append-nil at (ended_on (w ++ (a ∷ [])) a [] [] refl h e), level_ended a refl h e here)

pub taken_end : {s r : List ℕ} → first_object s ≡ end r → (u : List ℕ) × (s ≡ u ++ r) × (first_object u ≡ end []) × ((i : ℕ) → open_in (take i u) ≤ 20)
taken_end {s} {r} e = let h = rw e at (halts W.top [] s) in taken_front h.4 h.5 h.3 h.6

pub end_longer : (u q v : List ℕ) → first_object u ≡ end q → first_object (u ++ v) ≡ end (q ++ v)
end_longer u q v e = let h = rw e at (halts W.top [] u) in ended_on u h.4 q v h.5 h.3 h.6

deep_longer : (u p v : List ℕ) → first_object u ≡ refused3 p → first_object (u ++ v) ≡ refused3 (p ++ v)
deep_longer u [] v e = absurd (rw e at (halts W.top [] u))
deep_longer u (b ∷ q) v e = let h = rw e at (halts W.top [] u) in deep_on u b q v h.4 h.3 h.5

-- What is taken off is a text.
pub taken_text : {s r : List ℕ} → first_object s ≡ end r → (w : List ℕ) × (s ≡ w ++ r) × (t : Tree) × Text t w
taken_text {s} {r} e = let h = rw e at (halts W.top [] s) in ended_text s h.4 r [] h.5 h.3 h.6

-- And no text that the run begins with is shorter.
pub none_shorter : {t : Tree} (u v r : List ℕ) → first_object (u ++ v) ≡ end r → Text t u → length v ≤ length r
none_shorter {t} u v r e h = let l = text_leading h in which l.0 (outcome (first_through l.1))
  where
    which : (q : List ℕ) → Outcome t (first_object u) (end q) → length v ≤ length r
    which q (fine d f) = let g = end_longer u q v f in let i : q ++ v ≡ r = cc in omega (arith, sym (length-append q v) ∙ ap length i)
    which q (too_deep d f) = let g = deep_longer u f.0 v f.1 in let z : ◌≡◌ {A = ℕ} 0 1 = cc in absurd (omega arith)

-- A run that is refused with 2 has no text for a beginning.
pub no_beginning : {t : Tree} (u v p : List ℕ) → Text t u → first_object (u ++ v) ≡ refused2 p → ⊥
no_beginning {t} u v p h e = let l = text_leading h in which l.0 (outcome (first_through l.1))
  where
    which : (q : List ℕ) → Outcome t (first_object u) (end q) → ⊥
    which q (fine d f) = let g = end_longer u q v f in let z : ◌≡◌ {A = ℕ} 0 1 = cc in omega arith
    which q (too_deep d f) = let g = deep_longer u f.0 v f.1 in let z : ◌≡◌ {A = ℕ} 0 1 = cc in omega arith
