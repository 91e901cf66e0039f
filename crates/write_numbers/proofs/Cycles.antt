-- tdpc, left out where it is 1.
use mathlib.Core.Path.{◌≡◌}
use mathlib.Core.List.{List, ◌∷◌, ◌++◌}
use mathlib.Core.Bool.{not}
use Prim.Native.Nat.{ℕ}
use lib.Dec.{eqb}
use borrow.Author.Tests.{eq-eqb, ne_eqb}
use Rattle.json_grammar.specs.Rows.{look}
use Rattle.json_grammar.specs.Tree.{no_member}
use Rattle.document.specs.Bytes.{bytes}
use Rattle.document.specs.Spell.{spell, more_members, quoted, escaped}
use Rattle.document.specs.Plain.{whole, field_if}

module _ (k : List ℕ) where
  pub once_text : (per : ℕ) → per ≡ 1 → more_members (field_if (not (eqb per 1)) "tdpc" (whole per) no_member) k ≡ 125 ∷ k
  unfolding spell
  once_text per e = rw (eq-eqb per 1 e)

  pub per_text : (per : ℕ) → (per ≡ 1 → ⊥) → more_members (field_if (not (eqb per 1)) "tdpc" (whole per) no_member) k ≡ bytes ",\"tdpc\":" ++ spell (whole per) (125 ∷ k)
  unfolding spell quoted escaped look
  per_text per e = rw (ne_eqb per 1 e)
