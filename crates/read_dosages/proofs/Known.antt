-- The names and the fields of each object's rows.
use Prim.Native.Nat.{ℕ}
use mathlib.Core.Path.{◌≡◌, refl, sym, subst}
use mathlib.Core.List.{List, [], ◌∷◌}
use mathlib.Core.Bool.{Bool, true, false, cond}
use Rattle.json_grammar.specs.Tree.{Place}
use Rattle.document.specs.Bytes.{bytes}
use Rattle.document.specs.Lookup.{Entry, find}
use Rattle.document.specs.Schema.{a_timed, a_dosage, an_object, rows_of, types_of, dosage_only_rows, times_rows, day_segments_rows, week_days_rows, days_of_month_rows, interval_rows, simple_rows, from_to_rows, range_rows, at_time_rows, in_segment_rows}
use Rattle.document.specs.Visit.{State, done, bind, needed, fields, Value}
use Rattle.read_names.specs.Names.{names, name_at, spelled, is_row}
use Rattle.read_names.specs.declared.names.Name.{Name}
use Rattle.read_names.specs.declared.names.Name.TheVariants as N
use Rattle.read_dosages.specs.Visiting.{an_application, own_field}
use Rattle.read_dosages.proofs.Alike.{application, either}
use Rattle.read_dosages.proofs.Bodies.{Known}

-- Dosages
pub simple_known : Known a_dosage 1 (bytes "t" ∷ []) (N.T ∷ N.A ∷ [])
unfolding rows_of simple_rows name_at names
simple_known = record { counted = refl; named = refl }

pub from_to_known : Known a_dosage 2 (bytes "t" ∷ []) (N.T ∷ N.AFrom ∷ N.ATo ∷ N.DuU ∷ N.Du ∷ [])
unfolding rows_of from_to_rows name_at names
from_to_known = record { counted = refl; named = refl }

pub range_known : Known a_dosage 3 (bytes "t" ∷ []) (N.T ∷ N.AMin ∷ N.AMax ∷ [])
unfolding rows_of range_rows name_at names
range_known = record { counted = refl; named = refl }

-- Applications
pub application_plain : (timed : Bool) → types_of (an_application timed) ≡ 0
application_plain true = refl
application_plain false = refl

module _ (timed : Bool) {own : Name} (e : own ≡ cond timed N.Dt N.S) where
  pub application_row : is_row (N.Do ∷ own ∷ []) ≡ true
  application_row = either (λ _ (k : Name). is_row (N.Do ∷ k ∷ []) ≡ true) timed e refl refl

  pub application_known : Known (an_application timed) 0 [] (N.Do ∷ own ∷ [])
  unfolding rows_of at_time_rows in_segment_rows name_at names
  application_known = either (λ t (k : Name). Known (an_application t) 0 [] (N.Do ∷ k ∷ [])) timed e (record { counted = refl; named = refl }) (record { counted = refl; named = refl })

-- Timed dosages
pub applications_row : (timed : Bool) {own : Name} → own ≡ cond timed N.Ts N.Ss → is_row (N.T ∷ own ∷ []) ≡ true
applications_row timed e = either (λ _ (k : Name). is_row (N.T ∷ k ∷ []) ≡ true) timed e refl refl

pub days_row : (week : Bool) {own : Name} → own ≡ cond week N.Wds N.Doms → is_row (N.T ∷ own ∷ N.Tdo ∷ []) ≡ true
days_row week e = either (λ _ (k : Name). is_row (N.T ∷ k ∷ N.Tdo ∷ []) ≡ true) week e refl refl

module _ (ts : List ℕ) where
  pub dosage_only_known : Known (a_timed ts) 1 (bytes "t" ∷ []) (N.T ∷ N.Do ∷ [])
  unfolding rows_of dosage_only_rows name_at names
  dosage_only_known = record { counted = refl; named = refl }

  pub applications_known : (timed : Bool) {kind : ℕ} {own : Name} → kind ≡ cond timed 2 3 → own ≡ cond timed N.Ts N.Ss → Known (a_timed ts) kind (bytes "t" ∷ []) (N.T ∷ own ∷ [])
  unfolding rows_of times_rows day_segments_rows name_at names
  applications_known timed {own = own} t e =
      subst (λ (n : ℕ). Known (a_timed ts) n (bytes "t" ∷ []) (N.T ∷ own ∷ [])) (sym t)
      (either (λ b (k : Name). Known (a_timed ts) (cond b 2 3) (bytes "t" ∷ []) (N.T ∷ k ∷ [])) timed e (record { counted = refl; named = refl }) (record { counted = refl; named = refl }))

  pub days_known : (week : Bool) {kind : ℕ} {own : Name} → kind ≡ cond week 4 5 → own ≡ cond week N.Wds N.Doms → Known (a_timed ts) kind (bytes "t" ∷ []) (N.T ∷ own ∷ N.Tdo ∷ [])
  unfolding rows_of week_days_rows days_of_month_rows name_at names
  days_known week {own = own} t e =
      subst (λ (n : ℕ). Known (a_timed ts) n (bytes "t" ∷ []) (N.T ∷ own ∷ N.Tdo ∷ [])) (sym t)
      (either (λ b (k : Name). Known (a_timed ts) (cond b 4 5) (bytes "t" ∷ []) (N.T ∷ k ∷ N.Tdo ∷ [])) week e (record { counted = refl; named = refl }) (record { counted = refl; named = refl }))

  pub interval_known : Known (a_timed ts) 6 (bytes "t" ∷ []) (N.T ∷ N.Do ∷ N.MiDu ∷ N.MiDuU ∷ [])
  unfolding rows_of interval_rows name_at names
  interval_known = record { counted = refl; named = refl }

-- What an application reads, field by field.
module _ (p : Place) (es : List (Entry Value)) (l : State) where
  pub application_fields : (timed : Bool) {own : Name} → own ≡ cond timed N.Dt N.S
      → fields (rows_of (an_application timed) 0) p es l
      ≡ (bind (needed (an_object a_dosage) p (find (spelled N.Do) es) l) λ d l₁.
      bind (own_field timed p (find (spelled own) es) l₁) λ n l₂.
      done (application timed d n) l₂)
  unfolding rows_of at_time_rows in_segment_rows name_at names
  application_fields timed e =
      either (λ t (k : Name).
      fields (rows_of (an_application t) 0) p es l
      ≡ (bind (needed (an_object a_dosage) p (find (spelled N.Do) es) l) λ d l₁.
      bind (own_field t p (find (spelled k) es) l₁) λ n l₂.
      done (application t d n) l₂))
      timed e refl refl
