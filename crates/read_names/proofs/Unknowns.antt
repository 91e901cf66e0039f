-- The first member whose name is not in a row.
use Prim.Native.Nat.{ℕ, ◌+◌, ◌-◌, ◌<◌, ◌≤◌}
use mathlib.Core.Path.{◌≡◌, refl, sym, ap, subst, ◌∙◌}
use mathlib.Core.List.{List, [], ◌∷◌}
use mathlib.Core.Bool.{Bool, true, false, cond, not, ◌||◌, false≢true}
use mathlib.Core.Option.{Option, none, some}
use lib.ListN.{length, drop, length-drop, drop_of_length-le}
use lib.Dec.{eqb, leb}
use native.Mathlib.Omega.{arith}
use borrow.Author.Tests.{eqb-true, eqb-false, eq-eqb, ne_eqb, leb-true, leb-false, not-true}
use Rattle.json_grammar.specs.Tree.{Place, Members, object}
use Rattle.json_move.specs.Moving.{next_after, at_end, value_of as behind_name}
use Rattle.json_move.specs.Read.{decoded, members_at}
use Rattle.json_laws.proofs.Moved.{members_in_lem}
use Rattle.document.specs.Lookup.{Entry, Found, nothing, same, has, find, unknown}
use Rattle.document.specs.Visit.{Value, entries_of}
use Rattle.document.specs.At.{At, Slot, empty, filled}
use Rattle.json_grammar.proofs.Truth.{and_left, and_right}
use Rattle.read_names.specs.Names.{spelled, name_of, members_in, Once, row_names, is_in, is_among, is_row, standing_of, Tells, number_of, place_of}
use Rattle.read_names.specs.declared.names.Name.{Name}
use Rattle.read_names.specs.declared.slots.Slots.{Slots}
use Rattle.read_names.specs.declared.slots.Object.{Object}
use Rattle.std.specs.Prelude.{Option as Place_or}
use Rattle.std.specs.Option.{is_some}
use Rattle.std.proofs.lemmas.List.Sums.{sum_by-cons}
use Rattle.read_names.proofs.Naming.{numbered, number_in, among_by}
use Rattle.read_names.proofs.Numbered.{named_same, same_named}
use Rattle.read_names.proofs.Members.{members_more, members_end, members_none}

-- ---- a row's names by their numbers
module _ (k : Name) (ks : List Name) (row : is_row (k ∷ ks) ≡ true) where
  row_once : is_in k ks ≡ false
  row_once = not-true (is_in k ks) (and_left _ _ row)

  row_rest : is_row ks ≡ true
  row_rest = and_right (not (is_in k ks)) _ row

row_by : (row : List Name) (n : List ℕ) → has n (row_names row) ≡ number_in (numbered (name_of n)) row
row_by [] n = refl
row_by (k ∷ ks) n = rw (same_named k n, row_by ks n)

row_has : (row : List Name) (n : List ℕ) → has n (row_names row) ≡ is_among (name_of n) row
row_has row n = row_by row n ∙ sym (among_by (name_of n) row)

-- ---- the members gone through again
module _ (row : List Name) (left : ℕ) (s : Place) where
  abbrev rest : Option Place
  rest = unknown (row_names row) (entries_of (members_at left s))

  pub unknown_end : at_end s ≡ true → rest ≡ none
  unfolding entries_of
  unknown_end e = rw (members_end left s e)

  pub unknown_none : left ≤ 0 → rest ≡ none
  unfolding entries_of
  unknown_none h = let z : left ≡ 0 = omega arith in rw (z, members_none s)

  module _ (h : 0 < left) (e : at_end s ≡ false) where
    pub unknown_here : not (is_among (name_of (decoded s)) row) ≡ true → rest ≡ some s
    unfolding entries_of
    unknown_here f = rw (members_more left s h e, row_has row (decoded s), f)

    pub unknown_on : not (is_among (name_of (decoded s)) row) ≡ false → unknown (row_names row) (entries_of (members_at (left - 1) (next_after (behind_name s)))) ≡ rest
    unfolding entries_of
    unknown_on f = rw (members_more left s h e, row_has row (decoded s), f)

pub not_behind : (text : List ℕ) (q : ℕ) → at_end (drop q text) ≡ false → q ≤ length text
unfolding at_end
not_behind text q e = go (leb q (length text)) refl
  where
    go : (x : Bool) → leb q (length text) ≡ x → q ≤ length text
    go true h = leb-true q (length text) h
    go false h = let l : length text ≤ q = omega (arith, leb-false q (length text) h) in absurd (false≢true (sym e ∙ ap at_end (drop_of_length-le text l)))

-- ---- where as many names of a row stand as there are members, none is unknown
abbrev one_if : Bool → ℕ
one_if b = cond b 1 0

abbrev known : List (List ℕ) → List (Entry Value) → ℕ
known ns [] = 0
known ns (e ∷ es) = one_if (has e.name ns) + known ns es

abbrev named : List ℕ → List (Entry Value) → ℕ
named n [] = 0
named n (e ∷ es) = one_if (same n e.name) + named n es

one_at_most : (b : Bool) → one_if b ≤ 1
one_at_most true = omega arith
one_at_most false = omega arith

known_most : (ns : List (List ℕ)) (es : List (Entry Value)) → known ns es ≤ length es
known_most ns [] = omega arith
known_most ns (e ∷ es) = omega (arith, one_at_most (has e.name ns), known_most ns es)

all_known : (ns : List (List ℕ)) (es : List (Entry Value)) → length es ≤ known ns es → unknown ns es ≡ none
all_known ns [] h = refl
all_known ns (e ∷ es) h = go (has e.name ns) refl (all_known ns es)
  where
    go : (x : Bool) → has e.name ns ≡ x → (length es ≤ known ns es → unknown ns es ≡ none) → unknown ns (e ∷ es) ≡ none
    go true z f = let l : length (e ∷ es) ≤ 1 + known ns es = rw z at h in rw z (f (omega arith))
    go false z f = let l : length (e ∷ es) ≤ 0 + known ns es = rw z at h in absurd (omega (arith, known_most ns es))

named_none : (n : List ℕ) (es : List (Entry Value)) → named n es ≡ 0 → find n es ≡ nothing
named_none n [] h = refl
named_none n (e ∷ es) h = go (same n e.name) refl (named_none n es)
  where
    go : (x : Bool) → same n e.name ≡ x → (named n es ≡ 0 → find n es ≡ nothing) → find n (e ∷ es) ≡ nothing
    go true z f = let l : 1 + named n es ≡ 0 = rw z at h in absurd (omega arith)
    go false z f = let l : 0 + named n es ≡ 0 = rw z at h in rw z (f (omega arith))

slot_none : {text : List ℕ} {o : Place_or ℕ} {f : Found Value} → Slot text o f → f ≡ nothing → is_some o ≡ false
slot_none empty e = refl
slot_none (filled a) e = let z : ◌≡◌ {A = ℕ} 0 1 = cc in absurd (omega arith)

stands_named : (text : List ℕ) (o : Place_or ℕ) (n : List ℕ) (es : List (Entry Value)) → Slot text o (find n es) → one_if (is_some o) ≤ named n es
stands_named text o n es s = go (is_some o) refl
  where
    go : (x : Bool) → is_some o ≡ x → one_if (is_some o) ≤ named n es
    go false e = rw e (omega arith)
    go true e = rw e (more (leb 1 (named n es)) refl)
      where
        more : (z : Bool) → leb 1 (named n es) ≡ z → 1 ≤ named n es
        more true l = leb-true 1 _ l
        more false l =
            let none : named n es ≡ 0 = omega (arith, leb-false 1 (named n es) l) in
            absurd (false≢true (sym (slot_none s (named_none n es none)) ∙ e))

module _ (k : Name) (ks : List Name) (row : is_row (k ∷ ks) ≡ true) where
  one_row : (n : List ℕ) → one_if (same (spelled k) n) + one_if (has n (row_names ks)) ≤ one_if (same n (spelled k) || has n (row_names ks))
  one_row n =
      rw (named_same k n, same_named k n, row_by ks n)
      (go (eqb (number_of k) (numbered (name_of n))) refl)
    where
      go : (x : Bool) → eqb (number_of k) (numbered (name_of n)) ≡ x
          → one_if (eqb (number_of k) (numbered (name_of n))) + one_if (number_in (numbered (name_of n)) ks) ≤ one_if (eqb (numbered (name_of n)) (number_of k) || number_in (numbered (name_of n)) ks)
      go true z =
          let e = eqb-true (number_of k) (numbered (name_of n)) z in
          let absent : number_in (numbered (name_of n)) ks ≡ false = rw (← e) (row_once k ks row) in
          rw (z, absent, eq-eqb (numbered (name_of n)) (number_of k) (sym e)) (omega arith)
      go false z = rw (z, ne_eqb (numbered (name_of n)) (number_of k) (λ y. eqb-false (number_of k) (numbered (name_of n)) z (sym y))) (omega arith)

  row_known : (es : List (Entry Value)) → named (spelled k) es + known (row_names ks) es ≤ known (row_names (k ∷ ks)) es
  row_known [] = omega arith
  row_known (e ∷ es) = omega (arith, one_row e.name, row_known es)

module _ (text : List ℕ) (slots : Slots) (es : List (Entry Value)) (all : (n : Name) → Slot text (place_of slots n) (find (spelled n) es)) where
  standing_known : (row : List Name) → is_row row ≡ true → standing_of slots row ≤ known (row_names row) es
  standing_known [] e = omega arith
  standing_known (k ∷ ks) e =
      omega (arith, sum_by-cons (λ n. one_if (is_some (place_of slots n))) k ks, stands_named text (place_of slots k) (spelled k) es (all k), standing_known ks (row_rest k ks e), row_known k ks e es)

pub none_unknown : {text : List ℕ} {es : List (Entry Value)} {o : Object} (row : List Name) → is_row row ≡ true → Once text es o
    → standing_of o.slots row ≡ o.members → unknown (row_names row) es ≡ none
none_unknown {text} {es} {o} row ok once e = all_known (row_names row) es (omega (arith, standing_known text o.slots es once.slot row ok, once.count))

-- ---- of the object that stands there
pub told_in : {text : List ℕ} {at : ℕ} {p : Place} {ms : Members} (row : List Name) (r : Place_or ℕ) → At text at (object p ms)
    → Tells text (unknown (row_names row) (entries_of (members_in text (drop at text)))) r → Tells text (unknown (row_names row) (entries_of ms)) r
unfolding members_in
told_in {text} {at} row r a t =
    let enough : length (drop at text) ≤ length text = rw length-drop (omega arith) in
    subst (λ x. Tells text (unknown (row_names row) (entries_of x)) r) (members_in_lem a.spelled (length text) enough) t
