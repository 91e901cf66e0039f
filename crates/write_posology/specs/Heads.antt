-- The fields of a posology's plain text, as they stand around the detail: those in front of it with a comma behind, those behind it with one in front.
use Rattle.std.specs.Prelude.{◌≡◌, List, ◌∷◌, ◌++◌, Bool, true, false, ℕ, ◌+◌, ◌≤◌, length}
use Rattle.std.proofs.Math.Option.{Option, none, some}
use Rattle.json_grammar.specs.Tree.{Tree}
use Rattle.document.specs.Bytes.{bytes}
use Rattle.document.specs.Posology.{Date}
use Rattle.document.specs.Date.{is_date}
use Rattle.document.specs.Schema.{meal_codes}
use Rattle.document.specs.Valid.{if_given}
use Rattle.document.specs.Untable.{date_of, meal_of, text_of}
use Rattle.document.specs.Spell.{spell}
use Rattle.document.specs.Plain.{date_text, text_tree, whole}
use Rattle.document.specs.declared.table.Text.{Text}
use Rattle.document.specs.declared.table.Head.{Head}

abbrev pub date_field : List ℕ → Option Date → List ℕ → List ℕ
date_field name none k = k
date_field name (some d) k = name ++ (date_text d ++ (34 ∷ 44 ∷ k))

abbrev pub reserve_field : Bool → List ℕ → List ℕ
reserve_field true k = bytes "\"inRes\":true," ++ k
reserve_field false k = k

abbrev pub meal_field : Option ℕ → List ℕ → List ℕ
meal_field none k = k
meal_field (some m) k = bytes ",\"relMeal\":" ++ spell (whole m) k

abbrev pub text_field : List ℕ → Option (List ℕ) → List ℕ → List ℕ
text_field name none k = k
text_field name (some cs) k = name ++ spell (text_tree cs) k

abbrev pub string_fields : List ℕ → Head → List ℕ → List ℕ
string_fields buffer h k =
    text_field (bytes ",\"unit\":") (text_of buffer h.unit)
    (text_field (bytes ",\"applInstr\":") (text_of buffer h.instructions)
    (text_field (bytes ",\"roa\":") (text_of buffer h.roa)
    (text_field (bytes ",\"moa\":") (text_of buffer h.moa) k)))

-- Up to the detail.
abbrev pub front_fields : Head → List ℕ → List ℕ
front_fields h k =
    123 ∷ date_field (bytes "\"dtFrom\":\"") (date_of h.from)
    (date_field (bytes "\"dtTo\":\"") (date_of h.to)
    (reserve_field h.reserve (bytes "\"po\":" ++ k)))

abbrev pub head_fields : List ℕ → Head → Tree → List ℕ → List ℕ
head_fields buffer h detail k = front_fields h (spell detail (meal_field (meal_of h.meal) (string_fields buffer h (125 ∷ k))))

abbrev pub Within : List ℕ → Text → Type 0
Within buffer t = t.start + t.len ≤ length buffer

-- A head whose values can be written.
pub record Writable (buffer : List ℕ) (h : Head) : Type 0 where
  pub from : if_given is_date (date_of h.from) ≡ true
  pub to : if_given is_date (date_of h.to) ≡ true
  pub meal : h.meal ≤ meal_codes
  pub unit : Within buffer h.unit
  pub instructions : Within buffer h.instructions
  pub roa : Within buffer h.roa
  pub moa : Within buffer h.moa
