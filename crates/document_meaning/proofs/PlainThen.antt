-- What follows a plain text changes none of its bytes: the text in front of k is the text, and then k.
use mathlib.Core.Path.{◌≡◌, refl, ap, sym, ◌∙◌}
use mathlib.Core.List.{List, [], ◌∷◌, ◌++◌, append_assoc}
use mathlib.Core.Bool.{Bool, true, false, cond}
use Prim.Native.Nat.{ℕ}
use lib.Dec.{ltb}
use Rattle.json_grammar.specs.Rows.{Rows, else, below, look}
use Rattle.json_grammar.specs.Tree.{Tree, object, list, string, number, bool, null, Members, no_member, member, Elements, no_element, element}
use Rattle.document.specs.Posology.{Posology}
use Rattle.document.specs.Spell.{escaped, quoted, boolean, spell, first_member, more_members, first_element, more_elements}
use Rattle.document.specs.Plain.{plain, plain_then, plain_tree}
use Rattle.document.proofs.Sizes.{escaped_rows}

-- A function of each row's answer.
abbrev rows_by : {A B : Type 0} → (A → B) → Rows A → Rows B
rows_by f (else a) = else (f a)
rows_by f (below n a rows) = below n (f a) (rows_by f rows)

look_by : {A B : Type 0} (f : A → B) (b : ℕ) (rows : Rows A) → look b (rows_by f rows) ≡ f (look b rows)
unfolding look
look_by f b (else a) = refl
look_by f b (below n a rows) = which (ltb b n) (look_by f b rows)
  where
    which : (t : Bool) → look b (rows_by f rows) ≡ f (look b rows) → cond t (f a) (look b (rows_by f rows)) ≡ f (cond t a (look b rows))
    which true e = refl
    which false e = e

escaped_then : (b : ℕ) (j k : List ℕ) → escaped b (j ++ k) ≡ escaped b j ++ k
unfolding escaped
escaped_then b j k = look_by (λ (s : List ℕ). s ++ k) b (escaped_rows b j)

quoted_then : (cs j k : List ℕ) → quoted cs (j ++ k) ≡ quoted cs j ++ k
unfolding quoted
quoted_then [] j k = refl
quoted_then (c ∷ cs) j k = ap (escaped c) (quoted_then cs j k) ∙ escaped_then c (quoted cs j) k

boolean_then : (b : Bool) (j k : List ℕ) → boolean b (j ++ k) ≡ boolean b j ++ k
boolean_then true j k = refl
boolean_then false j k = refl

-- A name and its value.
pub named_then : {v : List ℕ} (n w k : List ℕ) → v ≡ w ++ k → quoted n (58 ∷ v) ≡ quoted n (58 ∷ w) ++ k
named_then n w k e = ap (λ (s : List ℕ). quoted n (58 ∷ s)) e ∙ quoted_then n (58 ∷ w) k

mutual
  unfolding spell

  pub spell_then : (t : Tree) (j k : List ℕ) → spell t (j ++ k) ≡ spell t j ++ k
  spell_then (object p ms) j k = ap (λ (s : List ℕ). 123 ∷ s) (first_member_then ms j k)
  spell_then (list p es) j k = ap (λ (s : List ℕ). 91 ∷ s) (first_element_then es j k)
  spell_then (string p cs) j k = ap (λ (s : List ℕ). 34 ∷ s) (quoted_then cs j k)
  spell_then (number p raw) j k = sym (append_assoc raw j k)
  spell_then (bool p b) j k = boolean_then b j k
  spell_then (null p) j k = refl

  first_member_then : (ms : Members) (j k : List ℕ) → first_member ms (j ++ k) ≡ first_member ms j ++ k
  first_member_then no_member j k = refl
  first_member_then (member q n t ms) j k =
      ap (λ (s : List ℕ). 34 ∷ s)
      (named_then n (spell t (more_members ms j)) k (ap (spell t) (more_members_then ms j k) ∙ spell_then t (more_members ms j) k))

  more_members_then : (ms : Members) (j k : List ℕ) → more_members ms (j ++ k) ≡ more_members ms j ++ k
  more_members_then no_member j k = refl
  more_members_then (member q n t ms) j k =
      ap (λ (s : List ℕ). 44 ∷ 34 ∷ s)
      (named_then n (spell t (more_members ms j)) k (ap (spell t) (more_members_then ms j k) ∙ spell_then t (more_members ms j) k))

  first_element_then : (es : Elements) (j k : List ℕ) → first_element es (j ++ k) ≡ first_element es j ++ k
  first_element_then no_element j k = refl
  first_element_then (element t es) j k = ap (spell t) (more_elements_then es j k) ∙ spell_then t (more_elements es j) k

  more_elements_then : (es : Elements) (j k : List ℕ) → more_elements es (j ++ k) ≡ more_elements es j ++ k
  more_elements_then no_element j k = refl
  more_elements_then (element t es) j k = ap (λ (s : List ℕ). 44 ∷ s) (ap (spell t) (more_elements_then es j k) ∙ spell_then t (more_elements es j) k)

pub plain_then_lem : (p : Posology) (k : List ℕ) → plain_then p k ≡ plain p ++ k
unfolding plain_then
plain_then_lem p k = spell_then (plain_tree p) [] k
