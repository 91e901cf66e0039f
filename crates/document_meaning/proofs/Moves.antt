-- Reordering keeps the depth, goes back and goes on; and trees that differ in places alone are reordered ones.
use mathlib.Core.Path.{◌≡◌, refl, ap, subst, ◌∙◌}
use Prim.Native.Nat.{ℕ, suc, max, ◌≤◌}
use native.Mathlib.Omega.{arith}
use native.Mathlib.Nat.{le-max_left, le-max_right, max-le}
use Rattle.json_grammar.specs.Tree.{Tree, object, list, string, number, bool, null, Members, no_member, member, Elements, no_element, element}
use Rattle.json_laws.specs.Depth.{depth, depth_of_members, depth_of_elements}
use Rattle.document.specs.Same.{Reordered, an_object, a_list, a_string, a_number, a_bool, a_null, ReorderedMembers, no_members, next_member, swap, twice, ReorderedElements, no_elements, next_element, unplaced, unplaced_members, unplaced_elements}

max_other : (a b c : ℕ) → max a (max b c) ≤ max b (max a c)
max_other a b c =
    let p = le-max_left b (max a c) in
    let q = le-max_right b (max a c) in
    let r = le-max_left a c in
    let s = le-max_right a c in
    max-le {a = a} {b = max b c} {k = max b (max a c)} (omega arith) (max-le {a = b} {b = c} {k = max b (max a c)} (omega arith) (omega arith))

max_swap : (a b c : ℕ) → max a (max b c) ≡ max b (max a c)
max_swap a b c = let p = max_other a b c in let q = max_other b a c in omega arith

mutual
  unfolding depth

  pub reordered_depth : {t u : Tree} → Reordered t u → depth t ≡ depth u
  reordered_depth (an_object h) = ap suc (members_depth h)
  reordered_depth (a_list h) = ap suc (elements_depth h)
  reordered_depth a_string = refl
  reordered_depth a_number = refl
  reordered_depth a_bool = refl
  reordered_depth a_null = refl

  members_depth : {ms ns : Members} → ReorderedMembers ms ns → depth_of_members ms ≡ depth_of_members ns
  members_depth no_members = refl
  members_depth (next_member h k) = let a = reordered_depth h in let b = members_depth k in rw (a, b)
  members_depth (swap {t = t} {u = u} {ms = ms}) = max_swap (depth t) (depth u) (depth_of_members ms)
  members_depth (twice h k) = members_depth h ∙ members_depth k

  elements_depth : {es ds : Elements} → ReorderedElements es ds → depth_of_elements es ≡ depth_of_elements ds
  elements_depth no_elements = refl
  elements_depth (next_element h k) = let a = reordered_depth h in let b = elements_depth k in rw (a, b)

mutual
  unfolding unplaced

  unplacing : (t : Tree) → Reordered t (unplaced t)
  unplacing (object p ms) = an_object (unplacing_members ms)
  unplacing (list p es) = a_list (unplacing_elements es)
  unplacing (string p cs) = a_string
  unplacing (number p raw) = a_number
  unplacing (bool p b) = a_bool
  unplacing (null p) = a_null

  unplacing_members : (ms : Members) → ReorderedMembers ms (unplaced_members ms)
  unplacing_members no_member = no_members
  unplacing_members (member q n t ms) = next_member (unplacing t) (unplacing_members ms)

  unplacing_elements : (es : Elements) → ReorderedElements es (unplaced_elements es)
  unplacing_elements no_element = no_elements
  unplacing_elements (element t es) = next_element (unplacing t) (unplacing_elements es)

mutual
  unfolding unplaced

  placing : (t : Tree) → Reordered (unplaced t) t
  placing (object p ms) = an_object (placing_members ms)
  placing (list p es) = a_list (placing_elements es)
  placing (string p cs) = a_string
  placing (number p raw) = a_number
  placing (bool p b) = a_bool
  placing (null p) = a_null

  placing_members : (ms : Members) → ReorderedMembers (unplaced_members ms) ms
  placing_members no_member = no_members
  placing_members (member q n t ms) = next_member (placing t) (placing_members ms)

  placing_elements : (es : Elements) → ReorderedElements (unplaced_elements es) es
  placing_elements no_element = no_elements
  placing_elements (element t es) = next_element (placing t) (placing_elements es)

mutual
  pub reordered_then : {t u v : Tree} → Reordered t u → Reordered u v → Reordered t v
  reordered_then (an_object h) (an_object k) = an_object (twice h k)
  reordered_then (a_list h) (a_list k) = a_list (elements_then h k)
  reordered_then a_string a_string = a_string
  reordered_then a_number a_number = a_number
  reordered_then a_bool a_bool = a_bool
  reordered_then a_null a_null = a_null

  elements_then : {es ds cs : Elements} → ReorderedElements es ds → ReorderedElements ds cs → ReorderedElements es cs
  elements_then no_elements no_elements = no_elements
  elements_then (next_element h r) (next_element i s) = next_element (reordered_then h i) (elements_then r s)

mutual
  pub reordered_back : {t u : Tree} → Reordered t u → Reordered u t
  reordered_back (an_object h) = an_object (members_back h)
  reordered_back (a_list h) = a_list (elements_back h)
  reordered_back a_string = a_string
  reordered_back a_number = a_number
  reordered_back a_bool = a_bool
  reordered_back a_null = a_null

  members_back : {ms ns : Members} → ReorderedMembers ms ns → ReorderedMembers ns ms
  members_back no_members = no_members
  members_back (next_member h k) = next_member (reordered_back h) (members_back k)
  members_back swap = swap
  members_back (twice h k) = twice (members_back k) (members_back h)

  elements_back : {es ds : Elements} → ReorderedElements es ds → ReorderedElements ds es
  elements_back no_elements = no_elements
  elements_back (next_element h k) = next_element (reordered_back h) (elements_back k)

pub moved : (t u : Tree) → unplaced t ≡ unplaced u → Reordered t u
moved t u e = reordered_then (subst (λ (v : Tree). Reordered t v) e (unplacing t)) (placing u)
