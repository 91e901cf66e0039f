-- The plain texts of timed dosages (document 01, "The plain text"), a piece for each call that puts it.
use mathlib.Core.Path.{◌≡◌, refl}
use mathlib.Core.List.{List, [], ◌∷◌, ◌++◌}
use Prim.Native.Nat.{ℕ}
use Rattle.json_grammar.specs.Rows.{look}
use Rattle.json_grammar.specs.Tree.{Tree, list, no_member, Elements}
use Rattle.document.specs.Bytes.{bytes}
use Rattle.document.specs.Spell.{spell, first_element, quoted, escaped}
use Rattle.document.specs.Plain.{whole_digits, whole, field, typed}

pub dosage_only_text : (d : Tree) (k : List ℕ) → spell (typed 1 (field "do" d no_member)) k ≡ bytes "{\"t\":1,\"do\":" ++ spell d (125 ∷ k)
unfolding spell quoted escaped look whole_digits
dosage_only_text d k = refl

pub times_text : (ts : Elements) (k : List ℕ) → spell (typed 2 (field "ts" (list [] ts) no_member)) k ≡ bytes "{\"t\":2,\"ts\":[" ++ first_element ts (125 ∷ k)
unfolding spell quoted escaped look whole_digits
times_text ts k = refl

pub segments_text : (ss : Elements) (k : List ℕ) → spell (typed 3 (field "ss" (list [] ss) no_member)) k ≡ bytes "{\"t\":3,\"ss\":[" ++ first_element ss (125 ∷ k)
unfolding spell quoted escaped look whole_digits
segments_text ss k = refl

pub week_days_text : (ds : Elements) (t : Tree) (k : List ℕ) → spell (typed 4 (field "wds" (list [] ds) (field "tdo" t no_member))) k ≡ bytes "{\"t\":4,\"wds\":[" ++ first_element ds (bytes ",\"tdo\":" ++ spell t (125 ∷ k))
unfolding spell quoted escaped look whole_digits
week_days_text ds t k = refl

pub days_of_month_text : (ds : Elements) (t : Tree) (k : List ℕ) → spell (typed 5 (field "doms" (list [] ds) (field "tdo" t no_member))) k ≡ bytes "{\"t\":5,\"doms\":[" ++ first_element ds (bytes ",\"tdo\":" ++ spell t (125 ∷ k))
unfolding spell quoted escaped look whole_digits
days_of_month_text ds t k = refl

pub interval_text : (d : Tree) (du unit : ℕ) (k : List ℕ) → spell (typed 6 (field "do" d (field "miDu" (whole du) (field "miDuU" (whole unit) no_member)))) k ≡ bytes "{\"t\":6,\"do\":" ++ spell d (bytes ",\"miDu\":" ++ spell (whole du) (bytes ",\"miDuU\":" ++ spell (whole unit) (125 ∷ k)))
unfolding spell quoted escaped look whole_digits
interval_text d du unit k = refl
