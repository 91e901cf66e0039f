-- A run is cut exactly when it is longer than 32,768 bytes, these begin a text, no 21st bracket is open in them, and no text ends there.
use mathlib.Core.Path.{◌≡◌, refl, sym, ap, subst, ◌∙◌}
use mathlib.Core.List.{List, [], ◌++◌}
use mathlib.Core.Logic.{inl, inr}
use Prim.Native.Nat.{ℕ, suc, ◌≤◌, ◌<◌}
use native.Mathlib.Omega.{arith}
use lib.ListN.{length, take, drop, take-append-drop, length-append}
use lib.Seq.{take-append-le}
use Rattle.json_grammar.specs.Tree.{Place, Tree, place_in}
use Rattle.json_grammar.specs.Grammar.{Blanks, Text}
use Rattle.json_grammar.specs.Walk.{top, walk, Walked, end, refused2, refused3, first_object}
use Rattle.json_laws.specs.Begins.{Begins}
use Rattle.json_laws.specs.Open.{Shallow}
use Rattle.json_laws.proofs.Objects.{Outcome, fine, too_deep, outcome, first_through}
use Rattle.json_laws.proofs.Trees.{text_leading}
use Rattle.json_laws.proofs.Shortest.{taken_text, taken_end, end_longer, none_shorter, no_beginning}
use Rattle.json_laws.proofs.Exactly.{begins_take, fault_behind, not_shallow}
use Rattle.json_laws.proofs.Refusal2.{place_of_2_in_run}
use Rattle.json_laws.proofs.Refusal3.{place_of_3_in_run, no_3_before_2_in_run}
use Rattle.json_laws.proofs.Points.{split}
use Rattle.json_laws.proofs.Through.{pass_blanks}
use Rattle.document.specs.Answer.{text_at_most}
use Rattle.demands.specs.Refusals.{NoneEnds}
use Rattle.demands.proofs.RefusalCases.{Cut, ended_behind, refused_behind}

-- A text that a run begins with is walked to its end, if no 21st bracket is open in it.
shallow_text : {t : Tree} (u v : List ℕ) → Text t u → Shallow (u ++ v) (length u) → (r : Place) × (first_object (u ++ v) ≡ end r)
shallow_text {t} u v h s = let l = text_leading h in which l.0 (outcome (first_through l.1))
  where
    which : (q : List ℕ) → Outcome t (first_object u) (end q) → (r : Place) × (first_object (u ++ v) ≡ end r)
    which q (fine d f) = (q ++ v, end_longer u q v f)
    which q (too_deep d f) =
        let w = place_of_3_in_run u f.0 f.1 in
        let i = w.inside in
        let o = s (suc (place_in u f.0)) i in
        let e = rw (take-append-le (suc (place_in u f.0)) u v i) at o in
        let g = w.twenty_one in
        absurd (omega arith)

-- The beginning of a text, with more behind it.
front_begins : {t : Tree} (n : ℕ) (w r : List ℕ) → n ≤ length w → Text t w → Begins (take n (w ++ r))
front_begins {t} n w r h x = rw take-append-le (drop n w, t, rw take-append-drop x)

-- What is cut is so.
module _ (run : List ℕ) where
  cut_longer : Cut run → text_at_most < length run
  cut_longer (ended_behind r e h) = omega arith
  cut_longer (refused_behind p e l h) = l

  cut_begins : Cut run → Begins (take text_at_most run)
  cut_begins (ended_behind r e h) =
      let w = taken_text e in
      let i : text_at_most ≤ length w.0 = omega (arith, ap length w.1 ∙ length-append w.0 r) in
      subst (λ (s : List ℕ). Begins (take text_at_most s)) (sym w.1) (front_begins text_at_most w.0 r i w.3)
  cut_begins (refused_behind p (inl e) l h) = begins_take run text_at_most (place_in run p) h (place_of_2_in_run run p e).before
  cut_begins (refused_behind p (inr e) l h) = begins_take run text_at_most (suc (place_in run p)) (omega arith) (place_of_3_in_run run p e).begins

  cut_shallow : Cut run → Shallow run text_at_most
  cut_shallow (ended_behind r e h) i l =
      let w = taken_end e in
      let j : i ≤ length w.0 = omega (arith, ap length w.1 ∙ length-append w.0 r) in
      rw (w.1, take-append-le i w.0 r j) (w.3 i)
  cut_shallow (refused_behind p (inl e) _ h) i l = no_3_before_2_in_run run p e i (omega arith)
  cut_shallow (refused_behind p (inr e) _ h) i l = (place_of_3_in_run run p e).before i (omega arith)

  cut_none : Cut run → NoneEnds run
  cut_none (ended_behind r e h) u v d l t x =
      let a = none_shorter u v r (ap first_object (sym d) ∙ e) x in
      omega (arith, ap length d ∙ length-append u v)
  cut_none (refused_behind p (inl e) _ h) u v d l t x = no_beginning u v p x (ap first_object (sym d) ∙ e)
  cut_none (refused_behind p (inr e) m h) u v d l t x =
      let s = cut_shallow (refused_behind p (inr e) m h) in
      let w = shallow_text u v x (subst (λ (y : List ℕ). Shallow y (length u)) d λ i j. s i (omega arith)) in
      let f = w.1 in
      let z : ◌≡◌ {A = ℕ} 0 1 = cc in
      omega arith

  -- And nothing else is.
  pub is_cut : text_at_most < length run → NoneEnds run → Begins (take text_at_most run) → Shallow run text_at_most → Cut run
  is_cut l none b s = which (first_object run) refl
    where
      which : (w : Walked) → first_object run ≡ w → Cut run
      which (end r) e =
          let w = taken_text e in
          split text_at_most (place_in run r) (λ h. ended_behind r e h) λ h.
          absurd (none w.0 r w.1 (omega (arith, ap length w.1 ∙ length-append w.0 r)) w.2 w.3)
      -- the last of the first 32,768 bytes is at 32,767
      which (refused2 p) e = let h = fault_behind run (place_in run p) 32767 (place_of_2_in_run run p e) (omega arith) b in refused_behind p (inl e) l (omega arith)
      which (refused3 p) e =
          split (place_in run p) text_at_most (λ h. absurd (not_shallow run (place_in run p) text_at_most (place_of_3_in_run run p e) s h)) λ h.
          refused_behind p (inr e) l h

  pub cut_so : Cut run → (text_at_most < length run) × NoneEnds run × Begins (take text_at_most run) × Shallow run text_at_most
  cut_so c = (cut_longer c, cut_none c, cut_begins c, cut_shallow c)

-- A run with a 21st bracket is not all blanks.
pub deep_not_blank : (run : List ℕ) (p : Place) → first_object run ≡ refused3 p → Blanks run [] → ⊥
unfolding walk
deep_not_blank run p e b = let f = pass_blanks top [] refl b in let z : ◌≡◌ {A = ℕ} 0 1 = cc in omega arith
