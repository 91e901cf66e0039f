-- The plain spelling of a tree is a spelling of it by JSON's grammar, if its numbers are numbers and its strings UTF-8.
use Prim.Native.Nat.{ℕ}
use mathlib.Core.Path.{◌≡◌, refl}
use mathlib.Core.List.{List, ◌∷◌, ◌++◌}
use mathlib.Core.Bool.{true, false}
use Rattle.json_grammar.specs.Rows.{look}
use Rattle.json_grammar.specs.Byte.{is_numeric}
use Rattle.json_grammar.specs.Tree.{Place, Tree, object, list, string, number, bool, null, Members, no_member, member, Elements, no_element, element}
use Rattle.json_grammar.specs.Grammar.{Value, Behind, Follows}
use Rattle.json_grammar.specs.Grammar as G
use Rattle.document.specs.Utf8.{is_utf8}
use Rattle.document.specs.Spell.{quoted, spell, first_member, more_members, first_element, more_elements}
use Rattle.document.specs.Same.{Reordered, an_object, a_list, a_string, a_number, a_bool, a_null, ReorderedMembers, no_members, next_member, ReorderedElements, no_elements, next_element}
use Rattle.document_meaning.proofs.Numerals.{Ends, Numeral}
use Rattle.document_meaning.proofs.QuotedChars.{quoted_chars}

unfoldable mutual
  pub Spellable : Tree → Type 0
  Spellable (object p ms) = SpellableMembers ms
  Spellable (list p es) = SpellableElements es
  Spellable (string p cs) = is_utf8 cs ≡ true
  Spellable (number p raw) = Numeral raw
  Spellable (bool p b) = Unit {0}
  Spellable (null p) = Unit {0}

  pub SpellableMembers : Members → Type 0
  SpellableMembers no_member = Unit {0}
  SpellableMembers (member q n t ms) = (is_utf8 n ≡ true) × (Spellable t × SpellableMembers ms)

  pub SpellableElements : Elements → Type 0
  SpellableElements no_element = Unit {0}
  SpellableElements (element t es) = Spellable t × SpellableElements es

-- What stands behind a value is a comma or the closing bracket.
element_ends : (es : Elements) (k : List ℕ) → Ends (more_elements es k)
unfolding spell is_numeric look
element_ends no_element k = refl
element_ends (element t es) k = refl

member_ends : (ms : Members) (k : List ℕ) → Ends (more_members ms k)
unfolding spell is_numeric look
member_ends no_member k = refl
member_ends (member q n t ms) k = refl

-- A tree with places that differs from t in nothing else, and its spelling.
abbrev Spelled : Tree → List ℕ → List ℕ → Type 0
Spelled t s k = (u : Tree) × Value u s k × Reordered t u

abbrev SpelledBehind : Elements → List ℕ → List ℕ → Type 0
SpelledBehind es s k = (ds : Elements) × Behind ds s k × ReorderedElements es ds

abbrev SpelledFollowing : Members → List ℕ → List ℕ → Type 0
SpelledFollowing ms s k = (ns : Members) × Follows ns s k × ReorderedMembers ms ns

-- An object, whatever stands behind it.
abbrev pub SpelledObject : Members → List ℕ → List ℕ → Type 0
SpelledObject ms s k = (p : Place) × (ns : Members) × Value (object p ns) s k × ReorderedMembers ms ns

mutual
  unfolding spell Spellable

  spelled : (t : Tree) (k : List ℕ) → Spellable t → Ends k → Spelled t (spell t k) k
  spelled (object p ms) k g e = let o = spelled_object ms k g in (object o.0 o.1, o.2, an_object o.3)
  spelled (list p es) k g e = spelled_list p es k g
  spelled (string p cs) k g e = (string (34 ∷ quoted cs k) cs, G.a_string (quoted_chars cs k g), a_string)
  spelled (number p raw) k g e = (number (raw ++ k) raw, G.a_number (g k e), a_number)
  spelled (bool p true) k g e = (bool (116 ∷ 114 ∷ 117 ∷ 101 ∷ k) true, G.a_true, a_bool)
  spelled (bool p false) k g e = (bool (102 ∷ 97 ∷ 108 ∷ 115 ∷ 101 ∷ k) false, G.a_false, a_bool)
  spelled (null p) k g e = (null (110 ∷ 117 ∷ 108 ∷ 108 ∷ k), G.a_null, a_null)

  pub spelled_object : (ms : Members) (k : List ℕ) → SpellableMembers ms → SpelledObject ms (123 ∷ first_member ms k) k
  spelled_object no_member k g = (123 ∷ 125 ∷ k, no_member, G.an_empty_object G.here, no_members)
  spelled_object (member q n t ms) k g =
      let v = spelled t (more_members ms k) g.1.0 (member_ends ms k) in
      let m = spelled_following ms k g.1.1 in
      let s = quoted n (58 ∷ spell t (more_members ms k)) in
      (123 ∷ 34 ∷ s, member (34 ∷ s) n v.0 m.0, G.an_object G.here (G.name (quoted_chars n (58 ∷ spell t (more_members ms k)) g.0) G.here G.here v.1 G.here m.1), next_member v.2 m.2)

  spelled_following : (ms : Members) (k : List ℕ) → SpellableMembers ms → SpelledFollowing ms (more_members ms k) k
  spelled_following no_member k g = (no_member, G.brace, no_members)
  spelled_following (member q n t ms) k g =
      let v = spelled t (more_members ms k) g.1.0 (member_ends ms k) in
      let m = spelled_following ms k g.1.1 in
      let s = quoted n (58 ∷ spell t (more_members ms k)) in
      (member (34 ∷ s) n v.0 m.0, G.next_member G.here (G.name (quoted_chars n (58 ∷ spell t (more_members ms k)) g.0) G.here G.here v.1 G.here m.1), next_member v.2 m.2)

  spelled_list : (p : Place) (es : Elements) (k : List ℕ) → SpellableElements es → Spelled (list p es) (91 ∷ first_element es k) k
  spelled_list p no_element k g = (list (91 ∷ 93 ∷ k) no_element, G.an_empty_list G.here, a_list no_elements)
  spelled_list p (element t es) k g =
      let v = spelled t (more_elements es k) g.0 (element_ends es k) in
      let m = spelled_behind es k g.1 in
      (list (91 ∷ spell t (more_elements es k)) (element v.0 m.0), G.a_list G.here (G.first v.1 G.here m.1), a_list (next_element v.2 m.2))

  spelled_behind : (es : Elements) (k : List ℕ) → SpellableElements es → SpelledBehind es (more_elements es k) k
  spelled_behind no_element k g = (no_element, G.bracket, no_elements)
  spelled_behind (element t es) k g =
      let v = spelled t (more_elements es k) g.0 (element_ends es k) in
      let m = spelled_behind es k g.1 in
      (element v.0 m.0, G.next_element G.here (G.first v.1 G.here m.1), next_element v.2 m.2)
