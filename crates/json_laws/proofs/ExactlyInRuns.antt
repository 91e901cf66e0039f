-- The places of refusals 2 and 3 in a run are no others.
use Prim.Native.Nat.{ℕ, suc, ◌+◌, ◌-◌, ◌≤◌, ◌<◌}
use mathlib.Core.Path.{◌≡◌, refl, sym, ap, ◌∙◌}
use mathlib.Core.List.{List, [], ◌∷◌, ◌++◌, append_assoc}
use mathlib.Core.Bool.{true, false≢true}
use lib.ListN.{length, take, get_or, length-append}
use lib.Seq.{take-append-le, take-append-add, get_or-append-add, take-suc}
use native.Mathlib.Omega.{arith}
use Rattle.json_grammar.specs.Byte.{is_blank}
use Rattle.json_grammar.specs.Tree.{Place, Tree, place_in}
use Rattle.json_grammar.specs.Grammar.{Blanks, here, blank, Text}
use Rattle.json_grammar.specs.Walk.{Walked, end, refused2, refused3, first_object}
use Rattle.json_move.specs.Moving.{opens}
use Rattle.json_laws.specs.Begins.{Begins, FirstFault}
use Rattle.json_laws.specs.Open.{open_in, Shallow, TwentyFirst}
use Rattle.json_laws.proofs.Points.{split}
use Rattle.json_laws.proofs.Bytes.{apart}
use Rattle.json_laws.proofs.Objects.{Outcome, fine, too_deep, outcome, first_through}
use Rattle.json_laws.proofs.Trees.{text_leading}
use Rattle.json_laws.proofs.Shortest.{taken_text, taken_end, end_longer}
use Rattle.json_laws.proofs.Faults.{first_fault, fault_number, fault_shallow}
use Rattle.json_laws.proofs.Deeps.{first_deep}
use Rattle.json_laws.proofs.Exactly.{fault_behind, one_fault_place, not_shallow, one_deep_place}

-- Among blanks stands no bracket that opens.
all_blank : {s : List ℕ} (x : List ℕ) (b : ℕ) (c : List ℕ) → Blanks s [] → s ≡ x ++ (b ∷ c) → is_blank b ≡ true
all_blank [] b c here e = let z : ◌≡◌ {A = ℕ} 0 1 = cc in absurd (omega arith)
all_blank (a ∷ x) b c here e = let z : ◌≡◌ {A = ℕ} 0 1 = cc in absurd (omega arith)
all_blank [] b c (blank {b = d} h bs) e = let q : d ≡ b = cc in rw q at h
all_blank (a ∷ x) b c (blank {s = t} h bs) e = let q : t ≡ x ++ (b ∷ c) = cc in all_blank x b c bs q

-- Behind the end of its object a text has blanks.
text_rest : {t : Tree} (u v : List ℕ) → first_object u ≡ end [] → Text t (u ++ v) → Blanks v []
text_rest {t} u v e h = let l = text_leading h in which l.0 l.2 (outcome (first_through l.1))
  where
    which : (r : List ℕ) → Blanks r [] → Outcome t (first_object (u ++ v)) (end r) → Blanks v []
    which r b (fine d f) = let g = end_longer u [] v e in let i : r ≡ v = cc in rw i at b
    which r b (too_deep d f) = let g = end_longer u [] v e in let j = f.1 in let z : ◌≡◌ {A = ℕ} 0 1 = cc in absurd (omega arith)

open_not_blank : (b : ℕ) → opens b ≡ true → is_blank b ≡ true → ⊥
unfolding opens is_blank
open_not_blank b o e = false≢true (sym (rw (apart is_blank b 91 e refl, apart is_blank b 123 e refl)) ∙ o)

-- The 21st bracket is not behind the object's end.
module _ (u r : List ℕ) (e : first_object u ≡ end []) where
  begins_blank : (x : List ℕ) (b : ℕ) → Begins (u ++ (x ++ (b ∷ []))) → is_blank b ≡ true
  begins_blank x b h = all_blank x b h.0 (text_rest u ((x ++ (b ∷ [])) ++ h.0) e (rw append_assoc at h.2)) (append_assoc x (b ∷ []) h.0)

  not_behind : (j : ℕ) → TwentyFirst (u ++ r) (length u + j) → ⊥
  not_behind j t =
      let i : j < length r = omega (arith, t.inside, length-append u r) in
      let k : suc (length u + j) ≡ length u + suc j = omega arith in
      let q : take (suc (length u + j)) (u ++ r) ≡ u ++ (take j r ++ (get_or r j 0 ∷ [])) = ap (λ n. take n (u ++ r)) k ∙ take-append-add u r (suc j) ∙ ap (λ x. u ++ x) (take-suc r j 0 i) in
      open_not_blank (get_or r j 0) (rw (get_or-append-add u r j 0) at t.bracket) (begins_blank (take j r) (get_or r j 0) (rw q at t.begins))

  not_before : (n : ℕ) → n < length u → ((i : ℕ) → open_in (take i u) ≤ 20) → TwentyFirst (u ++ r) n → ⊥
  not_before n l h t = let a = h (suc n) in let q = rw (take-append-le (suc n) u r l) at t.twenty_one in omega arith

  not_ended_lem : (n : ℕ) → ((i : ℕ) → open_in (take i u) ≤ 20) → TwentyFirst (u ++ r) n → ⊥
  not_ended_lem n h t = split n (length u) (λ l. not_before n l h t) (λ l. let q : n ≡ length u + (n - length u) = omega arith in not_behind (n - length u) (rw q at t))

module _ (s : List ℕ) where
  abbrev At : (Place → Walked) → ℕ → Type 0
  At answer n = (p : Place) × (first_object s ≡ answer p) × (place_in s p ≡ n)

  pub run_answer_3 : (n : ℕ) → TwentyFirst s n → At refused3 n
  run_answer_3 n t = which (first_object s) refl
    where
      which : (w : Walked) → first_object s ≡ w → At refused3 n
      which (end r) e = let h = taken_end e in absurd (not_ended_lem h.0 r h.2 n h.3 (rw h.1 at t))
      which (refused2 p) e =
          let f = first_fault s p e in
          absurd (not_shallow s n (place_in s p) t (fault_shallow s p f) (fault_behind s (place_in s p) n (fault_number s p f) t.inside t.begins))
      which (refused3 p) e = (p, e, one_deep_place s (place_in s p) n (first_deep s p e) t)

  pub run_answer_2 : (n : ℕ) → FirstFault s n → Shallow s n → ((t : Tree) (u v : List ℕ) → s ≡ u ++ v → Text t u → ⊥) → At refused2 n
  run_answer_2 n f h textless = which (first_object s) refl
    where
      which : (w : Walked) → first_object s ≡ w → At refused2 n
      which (end r) e = let g = taken_text e in absurd (textless g.2 g.0 r g.1 g.3)
      which (refused2 p) e = (p, e, one_fault_place s (place_in s p) n (fault_number s p (first_fault s p e)) f)
      which (refused3 p) e = let t = first_deep s p e in absurd (not_shallow s (place_in s p) n t h (fault_behind s n (place_in s p) f t.inside t.begins))
