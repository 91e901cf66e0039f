-- The timed dosage of a detail, of whatever is lent.
use Rattle.std.specs.Prelude.{ℕ, ◌<◌, ◌≤◌, ◌≡◌, List, length, Option, Result, Err}
use Rattle.document.specs.Schema.{a_timed}
use Rattle.document.specs.Refusals.{refusal}
use Rattle.document.specs.declared.refusal.Reason.TheVariants.{Unasked}
use Rattle.document.specs.declared.refusal.Refusal.{Refusal}
use Rattle.document.specs.declared.terms.Terms.{Terms}
use Rattle.document.specs.declared.terms.Used.{Used}
use Rattle.read_dosages.specs.Visiting.{TimedRows, VisitsNeeded}
use Rattle.read_dosages.specs.Kept.{Ready, Kept}
use Rattle.read_records.specs.Under.{types_under}

-- Words, a brace in the text, and a parent of the table's five.
abbrev pub Lent : Terms → List ℕ → ℕ → ℕ → Used → List ℕ → Type 0
Lent terms text brace parent u before = Ready terms before u × (brace ≤ length text) × (parent < 5)

-- Anything else is refused with 0 at 0 and the words left as they are.
pub record AnswersTimed (terms : Terms) (text : List ℕ) (brace : ℕ) (v : Option ℕ) (parent : ℕ) (u : Used) (before : List ℕ) (r : Result Used Refusal) (after : List ℕ) : Type 0 where
  pub reads : Lent terms text brace parent u before → VisitsNeeded terms (a_timed (types_under parent)) TimedRows text brace v u before r after
  pub kept : Lent terms text brace parent u before → Kept terms 1 before u r after
  pub other : (Lent terms text brace parent u before → ⊥) → (r ≡ Err (refusal Unasked 0)) × (after ≡ before)
