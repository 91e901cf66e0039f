-- Where the walk refuses bytes that are no text: those before begin one, and with the next byte they begin none.
use Prim.Native.Nat.{ℕ, suc, ◌-◌, ◌≤◌}
use mathlib.Core.Path.{◌≡◌, refl, sym, ap, ◌∙◌}
use mathlib.Core.List.{List, [], ◌∷◌, ◌++◌, append_assoc, append-nil}
use mathlib.Core.Logic.{◌⊎◌, inl, inr}
use mathlib.Core.Bool.{false}
use lib.ListN.{length, take, length-append}
use lib.Seq.{take_at, take-append-add, take-append-le}
use native.Mathlib.Numerals.{add-one}
use native.Mathlib.Omega.{arith}
use Rattle.json_grammar.specs.Byte.{is_blank, blanked}
use Rattle.json_grammar.specs.Tree.{Place, Tree, object, place_in}
use Rattle.json_grammar.specs.Grammar.{Blanks, Text, text}
use Rattle.json_grammar.specs.Walk as W
use Rattle.json_grammar.specs.Walk.{walk, step, wrong, ended, Frame, Mode, Walked, end, refused2, refused3, first_object, one_object, only_blanks, alone}
use Rattle.json_laws.specs.Begins.{Begins, FirstFault}
use Rattle.json_laws.proofs.Blanks.{sharp_blanked, over_blanks, blanks_blanked, blanked_sharp, the_blanks}
use Rattle.json_laws.proofs.Fits.{Fits, backward, completion}
use Rattle.json_laws.proofs.Halts.{Leads, halts, leads_fits, leads_walk}
use Rattle.json_laws.specs.Open.{open_in, Shallow}
use Rattle.json_laws.proofs.Levels.{level, level_ended}
use Rattle.json_laws.proofs.Objects.{first_not_2, one_not_2}

-- With the next byte the bytes w begin no text, if there is one.
abbrev pub Ends : List ℕ → Place → Type 0
Ends w [] = Unit {0}
Ends w (b ∷ q) = Begins (w ++ (b ∷ [])) → ⊥

pub record Fault (s p : List ℕ) : Type 0 where
  pub front : List ℕ
  pub split : s ≡ front ++ p
  pub begins : Begins front
  pub ends : Ends front p
  pub level : (i : ℕ) → open_in (take i front) ≤ 20

-- A state that is completed as a text.
begun : {w : List ℕ} {n : Mode} {l : List Frame} → Leads W.top [] w n l → (c : List ℕ) → Fits n l c [] → Begins w
begun h c f = let g = leads_fits h c [] f in (c, object g.0 g.1, text g.4 g.5 g.6)

no_more : (w : List ℕ) (b : ℕ) (f : List ℕ → Walked) → ((t : Tree) (s : List ℕ) (p : Place) → Text t s → f s ≡ refused2 p → ⊥) → ((c : List ℕ) → f (w ++ (b ∷ c)) ≡ refused2 (b ∷ c)) → Begins (w ++ (b ∷ [])) → ⊥
no_more w b f g e h = g h.1 (w ++ (b ∷ h.0)) (b ∷ h.0) (rw append_assoc at h.2) (e h.0)

stuck_walk : {w : List ℕ} {n : Mode} {l : List Frame} (b : ℕ) → Leads W.top [] w n l → step n b l ≡ wrong → (c : List ℕ) → first_object (w ++ (b ∷ c)) ≡ refused2 (b ∷ c)
unfolding walk
stuck_walk b h e c = leads_walk h (b ∷ c) ∙ rw e

pub first_fault : (s p : List ℕ) → first_object s ≡ refused2 p → Fault s p
first_fault s [] e =
    let h = rw e at (halts W.top [] s) in
    let c = completion h.1 h.2 in
    record { front = h.0; split = h.4; begins = begun h.3 c.0 c.1; ends = tt; level = level h.3 }
first_fault s (b ∷ q) e =
    let h = rw e at (halts W.top [] s) in
    let c = completion h.1 h.2 in
    record {
      front = h.0;
      split = h.4;
      begins = begun h.3 c.0 c.1;
      ends = no_more h.0 b first_object (λ t s p. first_not_2 p) (stuck_walk b h.3 h.5);
      level = level h.3;
    }

-- Behind the object: blanks v, and then a byte that is none.
module _ {w : List ℕ} {n : Mode} {l : List Frame} (v : List ℕ) (a b : ℕ) (h : Leads W.top [] w n l) (e : step n a l ≡ ended) (f : (c : List ℕ) → Blanks (v ++ c) c) (sharp : is_blank b ≡ false) where
  stray_walk : (c : List ℕ) → one_object ((w ++ (a ∷ v)) ++ (b ∷ c)) ≡ refused2 (b ∷ c)
  unfolding one_object walk
  stray_walk c = rw (append_assoc w (a ∷ v) (b ∷ c), leads_walk h (a ∷ (v ++ (b ∷ c))), e, over_blanks (f (b ∷ c)), sharp_blanked (b ∷ c) sharp)

  to_the_end : Blanks v []
  to_the_end = rw append-nil at (f [])

  ended_text : Begins (w ++ (a ∷ v))
  ended_text =
      let g = leads_fits h (a ∷ v) [] (backward n a l v [] (rw e to_the_end)) in
      ([], object g.0 g.1, rw append-nil (text g.4 g.5 g.6))

  stray_fault : (s r q : List ℕ) → s ≡ w ++ (a ∷ r) → r ≡ v ++ (b ∷ q) → Fault s (b ∷ q)
  stray_fault s r q d g = record { front = w ++ (a ∷ v); split = d ∙ rw (g, append_assoc w (a ∷ v) (b ∷ q)); begins = ended_text; ends = no_more (w ++ (a ∷ v)) b one_object (λ t s p. one_not_2 p) stray_walk; level = level_ended a refl h e to_the_end }

behind_fault : (s r : List ℕ) (b : ℕ) (q : List ℕ) → first_object s ≡ end r → blanked r ≡ b ∷ q → Fault s (b ∷ q)
behind_fault s r b q e g =
    let h = rw e at (halts W.top [] s) in
    let v = the_blanks (rw g at (blanks_blanked r)) in
    stray_fault v.0 h.4 b h.3 h.6 v.2 (rw g at (blanked_sharp r)) s r q h.5 v.1

pub one_fault : (s p : List ℕ) → one_object s ≡ refused2 p → Fault s p
unfolding one_object
one_fault s p e = which (first_object s) refl e
  where
    over : (r m : List ℕ) → first_object s ≡ end r → blanked r ≡ m → only_blanks m (end r) ≡ refused2 p → Fault s p
    over r [] f g h = let z : ◌≡◌ {A = ℕ} 0 1 = cc in absurd (omega arith)
    over r (b ∷ q) f g h = let i : b ∷ q ≡ p = cc in rw i at (behind_fault s r b q f g)

    which : (w : Walked) → first_object s ≡ w → alone w ≡ refused2 p → Fault s p
    which (end r) f h = over r (blanked r) f refl h
    which (refused2 q) f h = first_fault s p (f ∙ h)
    which (refused3 q) f h = let z : ◌≡◌ {A = ℕ} 0 1 = cc in absurd (omega arith)

-- A fault by its number.
fault_ends : (w : List ℕ) (p : Place) → Ends w p → (length w ≡ length (w ++ p)) ⊎ (Begins (take (suc (length w)) (w ++ p)) → ⊥)
fault_ends w [] e = inl (ap length (sym (append-nil w)))
fault_ends w (b ∷ q) e = inr (λ h. e (rw (← add-one (length w), take-append-add w (b ∷ q) 1) at h))

numbered : (s p w : List ℕ) → s ≡ w ++ p → Begins w → Ends w p → FirstFault s (place_in s p)
numbered s p w e b f =
    let n : length s - length p ≡ length w = omega (arith, ap length e ∙ length-append w p) in
    rw (n, e) record { inside = simp length-append (omega arith); before = rw (take_at w p (length w) refl) b; fault = fault_ends w p f }

pub fault_number : (s p : List ℕ) → Fault s p → FirstFault s (place_in s p)
fault_number s p f = numbered s p f.front f.split f.begins f.ends

-- Up to it no more than 20 brackets are open.
pub fault_shallow : (s p : List ℕ) → Fault s p → Shallow s (place_in s p)
fault_shallow s p f i h =
    let e = ap length f.split ∙ length-append f.front p in
    rw (f.split, take-append-le i f.front p (omega arith)) (f.level i)
