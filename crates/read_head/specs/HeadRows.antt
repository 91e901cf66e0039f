-- The head's rows in the steps in which the code reads them, and what each step has to show.
use Rattle.std.specs.Prelude.{ℕ, ◌+◌, ◌≤◌, ◌*◌, ◌≡◌, List, [], Bool, true, false, cond, eqb, length, drop, take, Option as Maybe, Result}
use Rattle.std.proofs.Math.Option.{Option, get_or}
use Rattle.json_grammar.specs.Tree.{Place}
use Rattle.document.specs.Posology as P
use Rattle.document.specs.Moments.{in_order}
use Rattle.document.specs.Lookup.{Entry, Found}
use Rattle.document.specs.Schema.{Rows, need, may, gives_if, unit_if, a_text, a_number, integer, an_object, a_detail, meal_codes, sequences_inside}
use Rattle.document.specs.Table.{date_cell}
use Rattle.document.specs.Valid.{detail_records, detail_strings}
use Rattle.document.specs.Visit.{State, Outcome, Value, needed, optional, present, fields}
use Rattle.document.specs.declared.table.Date.{Date}
use Rattle.document.specs.At.{Slot}
use Rattle.read_names.specs.Names.{Once}
use Rattle.document.specs.Told.{Tells}
use Rattle.document.specs.declared.terms.Terms.{Terms}
use Rattle.document.specs.declared.terms.Used.{Used}
use Rattle.document.specs.Words.{width, words_at_most}
use Rattle.read_fields.specs.Fields.{WordsFrom}
use Rattle.read_details.specs.Rows.{DetailRows}
use Rattle.read_head.specs.Heads.{HeadReads}
use Rattle.document.specs.declared.refusal.Refusal.{Refusal}
use Rattle.read_names.specs.declared.slots.Object.{Object}
use Rattle.read_fields.specs.declared.field.Worded.{Worded}
use Rattle.read_records.specs.declared.read.Piece.{Piece}
use Rattle.read_records.specs.declared.read.HeadRead.{HeadRead}

-- Behind unit, applInstr and roa; and so on forward.
module _ (from to : Option P.Date) (reserve : Option Bool) (po : P.Detail) (meal : Option ℕ) where
  abbrev pub moa_rows : Option (List ℕ) → Option (List ℕ) → Option (List ℕ) → Rows P.Posology
  moa_rows unit instr roa =
      may "moa" a_text λ moa.
      gives_if (in_order from to) (record { dt_from = from; dt_to = to; in_res = get_or reserve false; po = po; rel_meal = meal; unit = unit; appl_instr = instr; roa = roa; moa = moa })

  abbrev pub roa_rows : Option (List ℕ) → Option (List ℕ) → Rows P.Posology
  roa_rows unit instr = may "roa" a_text λ roa. moa_rows unit instr roa

  abbrev pub instr_rows : Option (List ℕ) → Rows P.Posology
  instr_rows unit = may "applInstr" a_text λ instr. roa_rows unit instr

  abbrev pub string_rows : Bool → Rows P.Posology
  string_rows optional = unit_if optional λ unit. instr_rows unit

abbrev pub po_rows : Bool → Option P.Date → Option P.Date → Option Bool → Rows P.Posology
po_rows optional from to reserve =
    need "po" (an_object (a_detail sequences_inside)) λ po.
    may "relMeal" (a_number (integer 1 meal_codes)) λ meal.
    string_rows from to reserve po meal optional

-- "unit (optional for use 3)"
abbrev pub unit_read : Bool → Place → Found Value → State → Outcome (Option (List ℕ))
unit_read true p f l = optional a_text p f l
unit_read false p f l = present (needed a_text p f l)

abbrev pub ReadsUnit : Terms → List ℕ → ℕ → Maybe ℕ → Used → Result Worded Refusal → Type 0
ReadsUnit terms text brace v u r = (f : Found Value) → Slot text v f → WordsFrom terms text u (unit_read (eqb terms.purpose 3) (drop brace text) f) (λ x. x) r

abbrev pub no_piece : Piece
no_piece = record { quote = 0; start = 0; len = 0 }

-- An absent string has start 0.
abbrev pub piece_at : ℕ → ℕ → ℕ → Piece
piece_at quote start len = cond (eqb len 0) no_piece (record { quote = quote; start = start; len = len })

-- What is read ahead of the head's strings, with u taken before it.
pub record Begun (u : Used) (text : List ℕ) (dt_from dt_to : Option P.Date) (in_res : Option Bool) (po : P.Detail) (rel_meal : Option ℕ) (h : HeadRead) (before words : List ℕ) : Type 0 where
  pub chunk : List ℕ
  pub rows : DetailRows po text u.text chunk
  pub written : take (length chunk) (drop (width * u.records) words) ≡ chunk
  pub kept : take (width * u.records) words ≡ take (width * u.records) before
  pub count : h.used.records ≡ u.records + detail_records po
  pub size : u.records * width + length chunk ≡ h.used.records * width
  pub few : h.used.records ≤ 64
  pub from : date_cell dt_from ≡ h.from
  pub to : date_cell dt_to ≡ h.to
  pub reserve : get_or in_res false ≡ h.reserve
  pub meal : get_or rel_meal 0 ≡ h.meal
  pub taken : h.used.text ≡ u.text + length (detail_strings po [])
  pub whole : length words ≡ words_at_most

abbrev pub ReadsStrings : Terms → List ℕ → ℕ → Object → HeadRead → Result HeadRead Refusal → Type 0
ReadsStrings terms text at o h r =
    (es : List (Entry Value)) → Once text es o
    → (u : Used) (from to : Option P.Date) (reserve : Option Bool) (po : P.Detail) (meal : Option ℕ) (before words : List ℕ) → Begun u text from to reserve po meal h before words
    → (s : State) → Tells terms text h.used s
    → HeadReads terms text u before (fields (string_rows from to reserve po meal (eqb terms.purpose 3)) (drop at text) es s) r words

abbrev pub ReadsFromDetail : Terms → List ℕ → ℕ → Object → Date → Date → Bool → Used → List ℕ → Result HeadRead Refusal → List ℕ → Type 0
ReadsFromDetail terms text at o from to reserve u before r after =
    (es : List (Entry Value)) → Once text es o
    → (x y : Option P.Date) (z : Option Bool) → date_cell x ≡ from → date_cell y ≡ to → get_or z false ≡ reserve
    → (s : State) → Tells terms text u s
    → HeadReads terms text u before (fields (po_rows (eqb terms.purpose 3) x y z) (drop at text) es s) r after
