-- Elements put one by one, with commas between them: what is left of them at each turn.
use mathlib.Core.Path.{◌≡◌, refl}
use mathlib.Core.List.{List, ◌∷◌}
use mathlib.Core.Bool.{Bool, true, false, cond}
use Prim.Native.Nat.{ℕ}
use Rattle.json_grammar.specs.Tree.{Tree, Elements, no_element, element}
use Rattle.document.specs.Spell.{spell, first_element, more_elements}
use Rattle.write_bytes.specs.Puts.{Lays}
use Rattle.write_bytes.specs.declared.Output.{Output}
use Rattle.write_details.specs.Prints.{Prints, Lists}
use Rattle.write_bytes.proofs.Laid.{lays_none, lays_then, lays_as}

-- Some elements, behind others or first.
abbrev pub elements_from : Bool → Elements → List ℕ → List ℕ
elements_from later es k = cond later (more_elements es k) (first_element es k)

pub next_element_lem : (later : Bool) (t : Tree) (es : Elements) (k : List ℕ) → elements_from later (element t es) k ≡ cond later (44 ∷ spell t (more_elements es k)) (spell t (more_elements es k))
unfolding spell
next_element_lem true t es k = refl
next_element_lem false t es k = refl

pub last_element : (later : Bool) (k : List ℕ) → elements_from later no_element k ≡ 93 ∷ k
unfolding spell
last_element true k = refl
last_element false k = refl

-- Of the elements that P says of record i, those that it says of record r are left.
abbrev pub Listed : (ℕ → Elements → Type 0) → ℕ → Output → ℕ → Bool → Output → Type 0
Listed P i before r later out = (ts : Elements) (k : List ℕ) → P i ts → (left : Elements) × P r left × Lays before (first_element ts k) (elements_from later left k) out

-- A first element, and those that P says of record r behind it.
pub data Next (P : ℕ → Elements → Type 0) (Q : Tree → Type 0) (r : ℕ) : Elements → Type 0 where
  next : {t : Tree} {es : Elements} → Q t → P r es → Next P Q r (element t es)

module _ (P : ℕ → Elements → Type 0) (i : ℕ) {before : Output} where
  pub listed_none : (later : Bool) → later ≡ false → Listed P i before i later before
  listed_none later e ts k p = (ts, p, rw e (lays_none before (first_element ts k)))

  module _ (r : ℕ) (later : Bool) {out : Output} (l : Listed P i before r later out) where
    pub listed_more : (Q : Tree → Type 0) (s : ℕ) (soon : Bool) → soon ≡ true → ((left : Elements) → P r left → Next P Q s left)
        → {between after : Output} → ((k : List ℕ) → Lays out (cond later (44 ∷ k) k) k between) → Prints Q between after → Listed P i before s soon after
    listed_more Q s soon e step {between} {after} comma prints ts k p = let x = l ts k p in rw e (go (step x.0 x.1) x.2)
      where
        go : {left : Elements} → Next P Q s left → Lays before (first_element ts k) (elements_from later left k) out → (rest : Elements) × P s rest × Lays before (first_element ts k) (more_elements rest k) after
        go (next {t = t} {es = es} q m) y = (es, m, lays_then y (lays_as (next_element_lem later t es k) (lays_then (comma _) (prints t _ q))))

    pub listed_all : ((left : Elements) → P r left → left ≡ no_element) → Lists (P i) before out
    listed_all ends ts k p = let x = l ts k p in let e = ends x.0 x.1 in lays_then x.2 (rw e (lays_as (last_element later k) (lays_none out (93 ∷ k))))
