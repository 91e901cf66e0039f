-- The plain text of a detail and of a sequence's objects (document 01, "Objects"): the bytes between the texts of its parts.
use mathlib.Core.Path.{◌≡◌, refl}
use mathlib.Core.List.{List, [], ◌∷◌, ◌++◌}
use Prim.Native.Nat.{ℕ}
use Rattle.json_grammar.specs.Rows.{look}
use Rattle.json_grammar.specs.Tree.{Tree, list, Members, no_member, Elements, no_element, element}
use Rattle.document.specs.Bytes.{bytes}
use Rattle.document.specs.Spell.{spell, more_members, first_element, quoted, escaped}
use Rattle.document.specs.Plain.{whole, amount, text_tree, field, typed, whole_digits}

module _ (k : List ℕ) where
  pub daily_text : (a b c d : ℕ) → spell (typed 1 (field "ds" (list [] (element (amount a) (element (amount b) (element (amount c) (element (amount d) no_element))))) no_member)) k ≡ bytes "{\"t\":1,\"ds\":[" ++ spell (amount a) (44 ∷ spell (amount b) (44 ∷ spell (amount c) (44 ∷ spell (amount d) (93 ∷ 125 ∷ k))))
  unfolding spell quoted escaped look whole_digits
  daily_text a b c d = refl

  pub free_text_lem : (cs : List ℕ) → spell (typed 2 (field "text" (text_tree cs) no_member)) k ≡ bytes "{\"t\":2,\"text\":" ++ spell (text_tree cs) (125 ∷ k)
  unfolding spell quoted escaped look whole_digits
  free_text_lem cs = refl

  pub single_text : (t : Tree) → spell (typed 3 (field "tdo" t no_member)) k ≡ bytes "{\"t\":3,\"tdo\":" ++ spell t (125 ∷ k)
  unfolding spell quoted escaped look whole_digits
  single_text t = refl

  pub cyclic_text : (unit du : ℕ) (t : Tree) (ms : Members) → spell (typed 4 (field "cyDuU" (whole unit) (field "cyDu" (whole du) (field "tdo" t ms)))) k ≡ bytes "{\"t\":4,\"cyDuU\":" ++ spell (whole unit) (bytes ",\"cyDu\":" ++ spell (whole du) (bytes ",\"tdo\":" ++ spell t (more_members ms k)))
  unfolding spell quoted escaped look whole_digits
  cyclic_text unit du t ms = refl

  pub sequence_text : (os : Elements) → spell (typed 5 (field "sos" (list [] os) no_member)) k ≡ bytes "{\"t\":5,\"sos\":[" ++ first_element os (125 ∷ k)
  unfolding spell quoted escaped look whole_digits
  sequence_text os = refl

  pub posology_text_lem : (du unit : ℕ) (t : Tree) → spell (typed 1 (field "du" (whole du) (field "duU" (whole unit) (field "po" t no_member)))) k ≡ bytes "{\"t\":1,\"du\":" ++ spell (whole du) (bytes ",\"duU\":" ++ spell (whole unit) (bytes ",\"po\":" ++ spell t (125 ∷ k)))
  unfolding spell quoted escaped look whole_digits
  posology_text_lem du unit t = refl

  pub pause_text : (du unit : ℕ) → spell (typed 2 (field "du" (whole du) (field "duU" (whole unit) no_member))) k ≡ bytes "{\"t\":2,\"du\":" ++ spell (whole du) (bytes ",\"duU\":" ++ spell (whole unit) (125 ∷ k))
  unfolding spell quoted escaped look whole_digits
  pause_text du unit = refl
