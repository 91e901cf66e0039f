-- The places of refusals 2 and 3 are no others: where a text has such a place, that is the walk's answer.
use Prim.Native.Nat.{ℕ, suc, ◌≤◌, ◌<◌}
use mathlib.Core.Path.{◌≡◌, refl}
use mathlib.Core.List.{List, [], ◌++◌, append_assoc}
use mathlib.Core.Logic.{◌⊎◌, inl, inr}
use lib.ListN.{length, take, drop, take-append-drop}
use lib.Seq.{take-take}
use native.Mathlib.Omega.{arith}
use Rattle.json_grammar.specs.Tree.{Place, Tree, place_in}
use Rattle.json_grammar.specs.Grammar.{Text}
use Rattle.json_grammar.specs.Walk as W
use Rattle.json_grammar.specs.Walk.{Walked, end, refused2, refused3, one_object}
use Rattle.json_move.specs.Read.{tree_of}
use Rattle.json_laws.specs.Begins.{Begins, FirstFault}
use Rattle.json_laws.specs.Open.{open_in, Shallow, TwentyFirst}
use Rattle.json_laws.proofs.Points.{split}
use Rattle.json_laws.proofs.Halts.{halts}
use Rattle.json_laws.proofs.Levels.{level_ended}
use Rattle.json_laws.proofs.Objects.{one_is_first}
use Rattle.json_laws.proofs.Spells.{sound}
use Rattle.json_laws.proofs.Faults.{one_fault, fault_number, fault_shallow}
use Rattle.json_laws.proofs.Deeps.{first_deep, one_is_deep}

-- The beginning of what begins a text begins one.
begins_front : (u v : List ℕ) → Begins (u ++ v) → Begins u
begins_front u v h = (v ++ h.0, h.1, rw append_assoc at h.2)

pub begins_take : (s : List ℕ) (i n : ℕ) → i ≤ n → Begins (take n s) → Begins (take i s)
begins_take s i n l h = rw (take-take i n s l) at (begins_front (take i (take n s)) (drop i (take n s)) (rw take-append-drop h))

module _ (s : List ℕ) where
  -- bytes that begin a text end before its first fault
  pub fault_behind : (n m : ℕ) → FirstFault s n → m < length s → Begins (take (suc m) s) → m < n
  fault_behind n m f l b = split m n (λ h. h) (λ h. which h f.fault)
    where
      which : n ≤ m → (n ≡ length s) ⊎ (Begins (take (suc n) s) → ⊥) → m < n
      which h (inl e) = omega arith
      which h (inr g) = absurd (g (begins_take s (suc n) (suc m) (omega arith) b))

  pub one_fault_place : (n m : ℕ) → FirstFault s n → FirstFault s m → n ≡ m
  one_fault_place n m f g = split n m (λ h. absurd (less n m f g h)) (λ h. split m n (λ i. absurd (less m n g f i)) (λ i. omega arith))
    where
      less : (n m : ℕ) → FirstFault s n → FirstFault s m → n < m → ⊥
      less n m f g h = let x = g.inside in let i = fault_behind n n f (omega arith) (begins_take s (suc n) m h g.before) in omega arith

  -- past the 21st bracket it is not shallow
  pub not_shallow : (n m : ℕ) → TwentyFirst s n → Shallow s m → n < m → ⊥
  not_shallow n m t h l = let a = h (suc n) l in let e = t.twenty_one in omega arith

  pub one_deep_place : (n m : ℕ) → TwentyFirst s n → TwentyFirst s m → n ≡ m
  one_deep_place n m t u = split n m (λ h. absurd (not_shallow n m t u.before h)) (λ h. split m n (λ i. absurd (not_shallow m n u t.before i)) (λ i. omega arith))

  accepted_level : (r : List ℕ) → one_object s ≡ end r → (i : ℕ) → open_in (take i s) ≤ 20
  accepted_level r e i =
      let f = one_is_first s r e in
      let h = rw f.0 at (halts W.top [] s) in
      level_ended h.4 h.5 h.3 h.6 f.1 i

  abbrev At : (Place → Walked) → ℕ → Type 0
  At answer n = (p : Place) × (one_object s ≡ answer p) × (place_in s p ≡ n)

  pub answer_3 : (n : ℕ) → TwentyFirst s n → At refused3 n
  answer_3 n t = which (one_object s) refl
    where
      which : (w : Walked) → one_object s ≡ w → At refused3 n
      which (end r) e = absurd (not_shallow n (suc n) t (λ i _. accepted_level r e i) (omega arith))
      which (refused2 p) e =
          let f = one_fault s p e in
          absurd (not_shallow n (place_in s p) t (fault_shallow s p f) (fault_behind (place_in s p) n (fault_number s p f) t.inside t.begins))
      which (refused3 p) e = (p, e, one_deep_place (place_in s p) n (first_deep s p (one_is_deep s p e)) t)

  pub answer_2 : (n : ℕ) → FirstFault s n → Shallow s n → ((t : Tree) → Text t s → ⊥) → At refused2 n
  answer_2 n f h textless = which (one_object s) refl
    where
      which : (w : Walked) → one_object s ≡ w → At refused2 n
      which (end r) e = absurd (textless (tree_of s) (sound e).0)
      which (refused2 p) e = (p, e, one_fault_place (place_in s p) n (fault_number s p (one_fault s p e)) f)
      which (refused3 p) e = let t = first_deep s p (one_is_deep s p e) in absurd (not_shallow (place_in s p) n t h (fault_behind n (place_in s p) f t.inside t.begins))
