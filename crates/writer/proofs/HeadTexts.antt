-- The plain text of a posology, field by field.
use mathlib.Core.Path.{◌≡◌, refl, ap, ◌∙◌}
use mathlib.Core.List.{List, ◌∷◌, ◌++◌}
use mathlib.Core.Bool.{Bool, true, false}
use mathlib.Core.Option.{Option, none, some}
use Prim.Native.Nat.{ℕ}
use Prim.Native.String.{String}
use lib.ListN.{drop}
use Rattle.json_grammar.specs.Rows.{look}
use Rattle.json_grammar.specs.Tree.{Tree, Members, no_member}
use Rattle.document.specs.Bytes.{bytes}
use Rattle.document.specs.Posology.{Posology, Date}
use Rattle.document.specs.Date.{is_date}
use Rattle.document.specs.Valid.{if_given}
use Rattle.document.specs.Untable.{date_of, meal_of, text_of}
use Rattle.document.specs.Spell.{escaped, quoted, spell, first_member, more_members}
use Rattle.document.specs.Plain.{date_text, whole, text_tree, date_tree, reserve_tree, detail_tree, mapped, field, field_of, members_of, head_slots, plain_tree, plain_then}
use Rattle.document.specs.declared.table.Head.{Head}
use Rattle.document.proofs.RealDates.{Holds}
use Rattle.write_posology.specs.Heads.{date_field, reserve_field, meal_field, text_field, head_fields}
use Rattle.writer.proofs.QuotedDates.{Unescaped, quoted_itself, date_unescaped}

-- Behind another member stands a comma, and what would stand there first.
abbrev Stands : Members → Type 0
Stands ms = (k : List ℕ) → more_members ms k ≡ 44 ∷ first_member ms k

member_stands : (n : String) (t : Tree) (ms : Members) → Stands (field n t ms)
unfolding spell
member_stands n t ms k = refl

field_stands : (n : String) (o : Option Tree) (ms : Members) → Stands ms → Stands (field_of n o ms)
field_stands n none ms s = s
field_stands n (some t) ms s = member_stands n t ms

-- ---- in front of the detail
date_first : (n : String) (name : List ℕ) → ((l : List ℕ) → 34 ∷ quoted (bytes n) (58 ∷ 34 ∷ l) ≡ name ++ l)
    → (o : Option Date) (ms : Members) (k : List ℕ) → Holds (λ d. Unescaped (date_text d)) o → Stands ms
    → first_member (field_of n (mapped date_tree o) ms) k ≡ date_field name o (first_member ms k)
unfolding spell
date_first n name e none ms k u s = refl
date_first n name e (some d) ms k u s = e _ ∙ ap (λ (l : List ℕ). name ++ l) (quoted_itself (more_members ms k) u ∙ ap (λ (l : List ℕ). date_text d ++ (34 ∷ l)) (s k))

reserve_first : (b : Bool) (ms : Members) (k : List ℕ) → Stands ms → first_member (field_of "inRes" (reserve_tree b) ms) k ≡ reserve_field b (first_member ms k)
unfolding spell quoted escaped look
reserve_first true ms k s = ap (λ (l : List ℕ). bytes "\"inRes\":true" ++ l) (s k)
reserve_first false ms k s = refl

-- ---- behind it
meal_more : (o : Option ℕ) (ms : Members) (k : List ℕ) → more_members (field_of "relMeal" (mapped whole o) ms) k ≡ meal_field o (more_members ms k)
unfolding spell quoted escaped look
meal_more none ms k = refl
meal_more (some m) ms k = refl

text_more : (n : String) (name : List ℕ) → ((l : List ℕ) → 44 ∷ 34 ∷ quoted (bytes n) (58 ∷ l) ≡ name ++ l)
    → (o : Option (List ℕ)) (ms : Members) (k : List ℕ) → more_members (field_of n (mapped text_tree o) ms) k ≡ text_field name o (more_members ms k)
unfolding spell
text_more n name e none ms k = refl
text_more n name e (some cs) ms k = e _

-- ---- all of them
detail_first : (t : Tree) (ms : Members) (k : List ℕ) → first_member (field "po" t ms) k ≡ bytes "\"po\":" ++ spell t (more_members ms k)
unfolding spell quoted escaped look
detail_first t ms k = refl

members_plain : (p : Posology) (k : List ℕ) → plain_then p k ≡ 123 ∷ first_member (members_of (head_slots p)) k
unfolding plain_then plain_tree spell
members_plain p k = refl

none_more : (k : List ℕ) → more_members no_member k ≡ 125 ∷ k
unfolding spell
none_more k = refl

-- The dates are valid: of a greater number a digit could be a backslash, and be escaped.
pub head_plain : (p : Posology) (h : Head) (buffer : List ℕ) (k : List ℕ) → p.dt_from ≡ date_of h.from → p.dt_to ≡ date_of h.to → p.in_res ≡ h.reserve
    → p.rel_meal ≡ meal_of h.meal → p.unit ≡ text_of buffer h.unit → p.appl_instr ≡ text_of buffer h.instructions → p.roa ≡ text_of buffer h.roa → p.moa ≡ text_of buffer h.moa
    → if_given is_date (date_of h.from) ≡ true → if_given is_date (date_of h.to) ≡ true
    → plain_then p k ≡ head_fields buffer h (detail_tree p.po) k
unfolding quoted escaped look
head_plain p h buffer k from to reserve meal unit instructions roa moa vf vt =
    let members : ℕ → Members = λ n. members_of (drop n (head_slots p)) in
    let po : Stands (members 3) = member_stands "po" (detail_tree p.po) (members 4) in
    let in_reserve : Stands (members 2) = field_stands "inRes" (reserve_tree p.in_res) (members 3) po in
    rw (
      members_plain p k,
      date_first "dtFrom" (bytes "\"dtFrom\":\"") (λ l. refl) p.dt_from (members 1) k (rw from (date_unescaped h.from vf)) (field_stands "dtTo" (mapped date_tree p.dt_to) (members 2) in_reserve),
      date_first "dtTo" (bytes "\"dtTo\":\"") (λ l. refl) p.dt_to (members 2) k (rw to (date_unescaped h.to vt)) in_reserve,
      reserve_first p.in_res (members 3) k po,
      detail_first,
      meal_more,
      text_more "unit" (bytes ",\"unit\":") (λ l. refl),
      text_more "applInstr" (bytes ",\"applInstr\":") (λ l. refl),
      text_more "roa" (bytes ",\"roa\":") (λ l. refl),
      text_more "moa" (bytes ",\"moa\":") (λ l. refl),
      none_more,
      from,
      to,
      reserve,
      meal,
      unit,
      instructions,
      roa,
      moa,
    )
