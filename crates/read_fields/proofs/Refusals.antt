-- A refusal of what comes first is the refusal of all.
use Prim.Native.Nat.{ℕ}
use mathlib.Core.Path.{◌≡◌, ap, ◌∙◌}
use mathlib.Core.List.{List}
use Rattle.std.specs.Prelude.{Result, Err, IsErrAnd}
use Rattle.std.proofs.lemmas.Result.{err_from_is_err_and}
use Rattle.document.specs.declared.refusal.Refusal.{Refusal}
use Rattle.document.specs.Visit.{State, Outcome, bind}
use Rattle.read_fields.specs.Fields.{Refuses}

pub refuses_as : {A : Type 0} {text : List ℕ} {o o' : Outcome A} {n p : ℕ} → o ≡ o' → Refuses text o' n p → Refuses text o n p
refuses_as e r = record { outcome = e ∙ r.outcome; inside = r.inside }

pub refuses_bind : {A B : Type 0} {text : List ℕ} {o : Outcome A} {n p : ℕ} (k : A → State → Outcome B) → Refuses text o n p → Refuses text (bind o k) n p
refuses_bind k r = record { outcome = ap (λ o. bind o k) r.outcome; inside = r.inside }

-- What the exit of a `?` returns.
pub raised : {T : Type 0} (r : Result T Refusal) {e : Refusal} → IsErrAnd r (λ d. d ≡ e) → r ≡ Err e
raised r h = let p = err_from_is_err_and r h in rw (p.1, p.2)
