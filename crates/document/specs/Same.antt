-- Trees that differ in places alone, and trees that differ also in the order of members, in any object at any depth.
use Rattle.std.specs.Prelude.{List, [], Bool, ℕ}
use Rattle.json_grammar.specs.Tree.{Place, Tree, object, list, string, number, bool, null, Members, no_member, member, Elements, no_element, element}

-- A tree without its places.
unfoldable mutual
  pub unplaced : Tree → Tree
  unplaced (object p ms) = object [] (unplaced_members ms)
  unplaced (list p es) = list [] (unplaced_elements es)
  unplaced (string p cs) = string [] cs
  unplaced (number p raw) = number [] raw
  unplaced (bool p b) = bool [] b
  unplaced (null p) = null []

  pub unplaced_members : Members → Members
  unplaced_members no_member = no_member
  unplaced_members (member q n t ms) = member [] n (unplaced t) (unplaced_members ms)

  pub unplaced_elements : Elements → Elements
  unplaced_elements no_element = no_element
  unplaced_elements (element t es) = element (unplaced t) (unplaced_elements es)

mutual
  pub data Reordered : Tree → Tree → Type 0 where
    an_object : {p q : Place} {ms ns : Members} → ReorderedMembers ms ns → Reordered (object p ms) (object q ns)
    a_list : {p q : Place} {es ds : Elements} → ReorderedElements es ds → Reordered (list p es) (list q ds)
    a_string : {p q : Place} {cs : List ℕ} → Reordered (string p cs) (string q cs)
    a_number : {p q : Place} {raw : List ℕ} → Reordered (number p raw) (number q raw)
    a_bool : {p q : Place} {b : Bool} → Reordered (bool p b) (bool q b)
    a_null : {p q : Place} → Reordered (null p) (null q)

  pub data ReorderedMembers : Members → Members → Type 0 where
    no_members : ReorderedMembers no_member no_member
    next_member : {p q : Place} {n : List ℕ} {t u : Tree} {ms ns : Members} → Reordered t u → ReorderedMembers ms ns → ReorderedMembers (member p n t ms) (member q n u ns)
    swap : {p q p' q' : Place} {n m : List ℕ} {t u : Tree} {ms : Members} → ReorderedMembers (member p n t (member q m u ms)) (member q' m u (member p' n t ms))
    twice : {ms ns os : Members} → ReorderedMembers ms ns → ReorderedMembers ns os → ReorderedMembers ms os

  pub data ReorderedElements : Elements → Elements → Type 0 where
    no_elements : ReorderedElements no_element no_element
    next_element : {t u : Tree} {es ds : Elements} → Reordered t u → ReorderedElements es ds → ReorderedElements (element t es) (element u ds)
