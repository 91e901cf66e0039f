-- The plain texts of dosages and applications (document 01, "The plain text"), a piece for each call that puts it.
use mathlib.Core.Path.{◌≡◌, refl}
use mathlib.Core.List.{List, [], ◌∷◌, ◌++◌}
use Prim.Native.Nat.{ℕ, ◌<◌}
use Rattle.json_grammar.specs.Rows.{look}
use Rattle.json_grammar.specs.Tree.{Tree, object, no_member}
use Rattle.document.specs.Bytes.{bytes}
use Rattle.document.specs.Spell.{spell, quoted, escaped}
use Rattle.document.specs.Plain.{whole_digits, whole, amount, text_tree, time_text, field, typed}
use Rattle.write_details.proofs.TimeTexts.{time_quoted}

pub simple_text : (a : ℕ) (k : List ℕ) → spell (typed 1 (field "a" (amount a) no_member)) k ≡ bytes "{\"t\":1,\"a\":" ++ spell (amount a) (125 ∷ k)
unfolding spell quoted escaped look whole_digits
simple_text a k = refl

pub from_to_text : (a b unit du : ℕ) (k : List ℕ) → spell (typed 2 (field "aFrom" (amount a) (field "aTo" (amount b) (field "duU" (whole unit) (field "du" (whole du) no_member))))) k ≡ bytes "{\"t\":2,\"aFrom\":" ++ spell (amount a) (bytes ",\"aTo\":" ++ spell (amount b) (bytes ",\"duU\":" ++ spell (whole unit) (bytes ",\"du\":" ++ spell (whole du) (125 ∷ k))))
unfolding spell quoted escaped look whole_digits
from_to_text a b unit du k = refl

pub range_text : (a b : ℕ) (k : List ℕ) → spell (typed 3 (field "aMin" (amount a) (field "aMax" (amount b) no_member))) k ≡ bytes "{\"t\":3,\"aMin\":" ++ spell (amount a) (bytes ",\"aMax\":" ++ spell (amount b) (125 ∷ k))
unfolding spell quoted escaped look whole_digits
range_text a b k = refl

pub at_time_text : (d : Tree) (dt : ℕ) (k : List ℕ) → dt < 360000 → spell (object [] (field "do" d (field "dt" (text_tree (time_text dt [])) no_member))) k ≡ bytes "{\"do\":" ++ spell d (bytes ",\"dt\":\"" ++ time_text dt (bytes "\"}" ++ k))
unfolding spell quoted escaped look
at_time_text d dt k h = rw (time_quoted dt (125 ∷ k))

pub in_segment_text : (d : Tree) (s : ℕ) (k : List ℕ) → spell (object [] (field "do" d (field "s" (whole s) no_member))) k ≡ bytes "{\"do\":" ++ spell d (bytes ",\"s\":" ++ spell (whole s) (125 ∷ k))
unfolding spell quoted escaped look
in_segment_text d s k = refl
