-- What reading a head leaves: the posology that Visit.antt reads there, held as Holding.antt says; or the refusal.
use Rattle.std.specs.Prelude.{ℕ, ◌*◌, ◌≤◌, ◌≡◌, List, length, take, Result, Ok, Err}
use Rattle.json_grammar.specs.Tree.{Place, Members, object}
use Rattle.document.specs.Posology.{Posology}
use Rattle.document.specs.Schema.{a_posology}
use Rattle.document.specs.Visit.{State, Outcome, done, members, entries_of}
use Rattle.document.specs.At.{At}
use Rattle.document.specs.Told.{Tells}
use Rattle.document.specs.declared.terms.Terms.{Terms}
use Rattle.document.specs.declared.terms.Used.{Used}
use Rattle.document.specs.Words.{width, words_at_most}
use Rattle.read_fields.specs.Fields.{Refuses}
use Rattle.read_dosages.specs.Kept.{Ready}
use Rattle.read_details.specs.Holding.{Holds}
use Rattle.read_records.specs.declared.read.HeadRead.{HeadRead}
use Rattle.document.specs.Refusals.{number_of, refusal}
use Rattle.document.specs.declared.refusal.Reason.TheVariants.{Unasked}
use Rattle.document.specs.declared.refusal.Refusal.{Refusal}

-- The records behind those taken before are its own, and those are as they were.
pub record HeadDone (terms : Terms) (text : List ℕ) (u : Used) (before : List ℕ) (o : Outcome Posology) (h : HeadRead) (after : List ℕ) : Type 0 where
  pub value : Posology
  pub state : State
  pub outcome : o ≡ done value state
  pub tells : Tells terms text h.used state
  pub holds : Holds u text value h after
  pub kept : take (width * u.records) after ≡ take (width * u.records) before

abbrev pub HeadAnswers : Terms → List ℕ → Used → List ℕ → Outcome Posology → Result HeadRead Refusal → List ℕ → Type 0
HeadAnswers terms text u before o (Ok h) after = HeadDone terms text u before o h after
HeadAnswers terms text u before o (Err r) after = Refuses text o (number_of r.0) r.1

pub record HeadReads (terms : Terms) (text : List ℕ) (u : Used) (before : List ℕ) (o : Outcome Posology) (h : Result HeadRead Refusal) (after : List ℕ) : Type 0 where
  pub answers : HeadAnswers terms text u before o h after
  pub size : length after ≡ words_at_most

abbrev pub ReadsHead : Terms → List ℕ → ℕ → Used → List ℕ → Result HeadRead Refusal → List ℕ → Type 0
ReadsHead terms text at u before h after =
    (s : State) → Tells terms text u s → (p : Place) (ms : Members) → At text at (object p ms)
    → HeadReads terms text u before (members (a_posology terms.purpose) p (entries_of ms) s) h after

abbrev pub Lent : Terms → List ℕ → ℕ → Used → List ℕ → Type 0
Lent terms text at u before = Ready terms before u × (at ≤ length text)

-- Of whatever is lent. Words of another number than 64 records have, more taken than there is, or a place behind the text, are refused with 0 at 0
-- and the words left as they are.
pub record AnswersHead (terms : Terms) (text : List ℕ) (at : ℕ) (u : Used) (before : List ℕ) (h : Result HeadRead Refusal) (after : List ℕ) : Type 0 where
  pub reads : Lent terms text at u before → ReadsHead terms text at u before h after
  pub other : (Lent terms text at u before → ⊥) → (h ≡ Err (refusal Unasked 0)) × (after ≡ before)
