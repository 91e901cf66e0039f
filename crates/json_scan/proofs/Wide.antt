-- A character outside ASCII: each of its bytes stands for itself.
use Prim.Native.Nat.{ℕ, ◌+◌, ◌<◌}
use mathlib.Core.Path.{◌≡◌, refl}
use mathlib.Core.Bool.{Bool, true, false, cond}
use mathlib.Core.List.{List, [], ◌∷◌, ◌++◌}
use lib.Dec.{eqb}
use lib.ListN.{length, get_or, take, drop, length-drop}
use lib.Seq.{take-suc, get_or-drop}
use borrow.Author.Tests.{eqb-true}
use native.Mathlib.Numerals.{add-one}
use native.Mathlib.Omega.{arith}
use Rattle.json_grammar.specs.Rows.{look}
use Rattle.json_grammar.specs.Byte.{is_tail, within}
use Rattle.json_grammar.specs.String.{after, after_lead, lead, letter, go_if, gather, given}
use Rattle.json_grammar.specs.declared.string.Lead.{Lead}
use Rattle.json_grammar.specs.declared.string.InString.{InString}
use Rattle.json_grammar.specs.declared.string.InString.TheVariants.{Plain, Escape, Tail2, Tail1}
use Rattle.json_grammar.specs.declared.string.CharStep.TheVariants.{Goes}
use Rattle.json_grammar.proofs.Truth.{never}
use Rattle.json_scan.specs.Reached.{Reached, Opened, Bare}
use Rattle.json_scan.proofs.Steps.{starts, goes}

front : (text : List ℕ) (at n p : ℕ) → p ≡ at + n → p < length text
    → take n (drop at text) ++ (get_or text p 0 ∷ []) ≡ take (n + 1) (drop at text)
front text at n p e h =
    let l : n < length (drop at text) = simp length-drop (omega arith) in
    rw (add-one, take-suc (drop at text) n 0 l, get_or-drop, e)

module _ {text : List ℕ} {at : ℕ} where
  -- a byte that stands for itself
  itself : {n : ℕ} {s t : InString} → Reached text at n (take n (drop at text)) s 0 → (p : ℕ) → p ≡ at + n → p < length text
      → given s 0 (get_or text p 0) ≡ get_or text p 0 ∷ [] → gather s 0 (get_or text p 0) ≡ 0 → after s (get_or text p 0) ≡ Goes t
      → Reached text at (n + 1) (take (n + 1) (drop at text)) t 0
  itself {n} r p e h b z g = rw (b, z, front text at n p e h) at (goes r p e h g)

  tail : {n : ℕ} {s t : InString} → Reached text at n (take n (drop at text)) s 0 → Bare s → at + n < length text
      → after s (get_or text (at + n) 0) ≡ Goes t → Reached text at (n + 1) (take (n + 1) (drop at text)) t 0
  tail r b h g = itself r _ refl h (b _).0 (b _).1 g

  pub second : {lo hi : ℕ} {t : InString} → Opened text at lo hi t → at + 1 < length text → within lo hi (get_or text (at + 1) 0) ≡ true
      → Reached text at 2 (take 2 (drop at text)) t 0
  second o h e = tail o.reached o.bare h (rw (o.second, e))

module _ {text : List ℕ} {at n : ℕ} (h : at + n < length text) (e : is_tail (get_or text (at + n) 0) ≡ true) where
  pub tail_2 : Reached text at n (take n (drop at text)) Tail2 0 → Reached text at (n + 1) (take (n + 1) (drop at text)) Tail1 0
  unfolding after given gather
  tail_2 r = tail r (λ b. (refl, refl)) h (rw e)

  pub tail_1 : Reached text at n (take n (drop at text)) Tail1 0 → Reached text at (n + 1) (take (n + 1) (drop at text)) Plain 0
  unfolding after given gather
  tail_1 r = tail r (λ b. (refl, refl)) h (rw e)

-- The backslash alone does not stand for itself.
bare_lead : (b : ℕ) {s : InString} → after Plain b ≡ Goes s → Bare s → given Plain 0 b ≡ b ∷ []
unfolding after given gather lead letter look
bare_lead b {s} g o = by (eqb b 92) refl
  where
    by : (t : Bool) → eqb b 92 ≡ t → cond t [] (b ∷ []) ≡ b ∷ []
    by true e =
        let q : Goes Escape ≡ Goes s = rw (eqb-true b 92 e) at g in
        let z : s ≡ Escape = cc in
        let y : ◌≡◌ {A = List ℕ} [] (0 ∷ []) = rw z at (o 0).0 in
        never (cc)
    by false e = refl

pub opens : (text : List ℕ) (at : ℕ) {lo hi : ℕ} {l : Lead} {s t : InString} → at < length text
    → lead (get_or text at 0) ≡ l → after_lead l ≡ Goes s → Bare s → ((b : ℕ) → after s b ≡ go_if (within lo hi b) t) → Opened text at lo hi t
unfolding after gather
opens text at {s = s} h e a o f =
    let g : after Plain (get_or text at 0) ≡ Goes s = rw e a in
    let r = itself (starts text at (omega arith)) at (omega arith) h (bare_lead (get_or text at 0) g o) refl g in
    record { state = s; reached = r; bare = o; second = f }
