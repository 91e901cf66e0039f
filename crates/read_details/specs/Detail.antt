-- The detail of a posology, of whatever is lent.
use Rattle.std.specs.Prelude.{ℕ, ◌≤◌, ◌≡◌, List, length, Option, Result, Err}
use Rattle.json_grammar.specs.Tree.{Place, object, Members}
use Rattle.document.specs.Visit.{State, entries_of}
use Rattle.document.specs.At.{At}
use Rattle.document.specs.Told.{Tells}
use Rattle.read_names.specs.Names.{Once}
use Rattle.read_names.specs.declared.slots.Object.{Object}
use Rattle.read_type.specs.Opens.{by_kind, type_slot}
use Rattle.document.specs.Refusals.{refusal}
use Rattle.document.specs.declared.refusal.Reason.TheVariants.{Unasked}
use Rattle.document.specs.declared.refusal.Refusal.{Refusal}
use Rattle.document.specs.Schema.{a_detail, sequences_inside}
use Rattle.document.specs.declared.terms.Terms.{Terms}
use Rattle.document.specs.declared.terms.Used.{Used}
use Rattle.read_dosages.specs.Visiting.{Visited, VisitsNeeded}
use Rattle.read_dosages.specs.Kept.{Ready, Kept}
use Rattle.read_details.specs.Rows.{DetailAt}

-- A detail of type 5, its names settled: 14, then its body.
abbrev pub VisitsSequence : Terms → ℕ → List ℕ → ℕ → Object → Used → List ℕ → Result Used Refusal → List ℕ → Type 0
VisitsSequence terms left text at o u before r after =
    (s : State) → Tells terms text u s → (p : Place) (ms : Members) → At text at (object p ms) → Once text (entries_of ms) o
    → type_slot o ≤ length text
    → Visited terms text u before (DetailAt text) (by_kind (a_detail left) 5 text at o (entries_of ms) s) r after

abbrev pub Lent : Terms → List ℕ → ℕ → Used → List ℕ → Type 0
Lent terms text brace u before = Ready terms before u × (brace ≤ length text)

-- Words of another number than 64 records have, more taken than there is, or a brace behind the text, are refused with 0 at 0 and the words left
-- as they are.
pub record AnswersDetail (terms : Terms) (text : List ℕ) (brace : ℕ) (v : Option ℕ) (u : Used) (before : List ℕ) (r : Result Used Refusal) (after : List ℕ) : Type 0 where
  pub reads : Lent terms text brace u before → VisitsNeeded terms (a_detail sequences_inside) (DetailAt text) text brace v u before r after
  pub kept : Lent terms text brace u before → Kept terms 1 before u r after
  pub other : (Lent terms text brace u before → ⊥) → (r ≡ Err (refusal Unasked 0)) × (after ≡ before)
