-- What visiting an object leaves: the value that Visit.antt reads there, as rows of six words behind those before it; or the refusal.
use Rattle.std.specs.Prelude.{ℕ, ◌+◌, ◌*◌, ◌≡◌, List, [], ◌∷◌, Bool, true, false, length, drop, Option, Result, Ok, Err}
use Rattle.std.proofs.lemmas.List.Edits.{sets}
use Rattle.json_grammar.specs.Tree.{Place, object, list, Members, Elements}
use Rattle.document.specs.Bytes.{bytes}
use Rattle.document.specs.Posology as P
use Rattle.document.specs.Lookup.{Found, Entry}
use Rattle.document.specs.Schema.{Family, a_timed, an_at_time, an_in_segment, OfFamily, an_object, a_string, a_number, time, integer}
use Rattle.document.specs.Visit.{State, Outcome, done, Value, entries_of, values_of, needed, members, body, each}
use Rattle.document.specs.Table.{times_rows, segments_rows, timed_rows, dosage_row}
use Rattle.document.specs.Words.{width, rows, all_words}
use Rattle.document.specs.At.{At, Slot}
use Rattle.document.specs.Told.{Tells, GoesOn}
use Rattle.document.specs.declared.table.Record.{Record}
use Rattle.document.specs.declared.terms.Terms.{Terms}
use Rattle.document.specs.declared.terms.Used.{Used}
use Rattle.read_names.specs.Names.{Once}
use Rattle.document.specs.Refusals.{number_of}
use Rattle.document.specs.declared.refusal.Refusal.{Refusal}
use Rattle.read_names.specs.declared.slots.Object.{Object}
use Rattle.read_fields.specs.Fields.{Refuses, CountsFrom, itself}
use Rattle.read_fields.specs.declared.field.Counted.{Counted}
use Rattle.read_records.specs.Under.{types_under}
use Rattle.read_type.specs.declared.opened.Opened.{Opened}

-- Rows of a value whose strings start at a place of the buffer, and end at another.
abbrev pub RowsIn : Type 0 → Type 1
RowsIn A = ℕ → A → ℕ → List ℕ → Type 0

pub record Did {A : Type 0} (terms : Terms) (text : List ℕ) (u : Used) (before : List ℕ) (rows_in : RowsIn A) (o : Outcome A) (v : Used) (after : List ℕ) : Type 0 where
  pub value : A
  pub state : State
  pub chunk : List ℕ
  pub outcome : o ≡ done value state
  pub tells : Tells terms text v state
  pub row : rows_in v.text value u.text chunk
  pub words : after ≡ sets before (width * u.records) chunk
  pub size : u.records * width + length chunk ≡ v.records * width

abbrev pub Visited : {A : Type 0} → Terms → List ℕ → Used → List ℕ → RowsIn A → Outcome A → Result Used Refusal → List ℕ → Type 0
Visited terms text u before rows_in o (Ok v) after = Did terms text u before rows_in o v after
Visited terms text u before rows_in o (Err r) after = Refuses text o (number_of r.0) r.1 × (length after ≡ length before)

-- An application: at a time where `timed`, else in a segment of the day.
abbrev pub an_application : Bool → Family
an_application true = an_at_time
an_application false = an_in_segment

-- The field that only one of them has: dt, or s.
abbrev pub own_field : Bool → Place → Found Value → State → Outcome ℕ
own_field true p f l = needed (a_string time) p f l
own_field false p f l = needed (a_number (integer 1 4)) p f l

abbrev pub ReadsOwn : Bool → List ℕ → ℕ → Option ℕ → Used → Result Counted Refusal → Type 0
ReadsOwn timed text brace v u r = (f : Found Value) → Slot text v f → CountsFrom text u (own_field timed (drop brace text) f) itself r

-- The rows of each value. None has a string.
abbrev pub DosageRows : RowsIn P.Dosage
DosageRows end d at chunk = (chunk ≡ rows (all_words (dosage_row d ∷ []))) × (end ≡ at)

abbrev pub applications_rows : (timed : Bool) → List (OfFamily (an_application timed)) → List Record
applications_rows true ts = times_rows ts []
applications_rows false ss = segments_rows ss []

abbrev pub ApplicationsRows : (timed : Bool) → RowsIn (List (OfFamily (an_application timed)))
ApplicationsRows timed end as' at chunk = (chunk ≡ rows (all_words (applications_rows timed as'))) × (end ≡ at)

abbrev pub ApplicationRows : (timed : Bool) → RowsIn (OfFamily (an_application timed))
ApplicationRows timed end a at chunk = ApplicationsRows timed end (a ∷ []) at chunk

abbrev pub TimedRows : RowsIn P.Timed
TimedRows end td at chunk = (chunk ≡ rows (all_words (timed_rows td []))) × (end ≡ at)

-- From what u tells of these terms on.
module _ (terms : Terms) where
  -- An object of a family at a place is visited.
  abbrev pub VisitsObject : (f : Family) → RowsIn (OfFamily f) → List ℕ → ℕ → Used → List ℕ → Result Used Refusal → List ℕ → Type 0
  VisitsObject f rows_in text at u before r after =
      (s : State) → Tells terms text u s → (p : Place) (ms : Members) → At text at (object p ms)
      → Visited terms text u before rows_in (members f p (entries_of ms) s) r after

  -- What is left of an object of type t, its names settled.
  abbrev pub VisitsBody : (f : Family) → ℕ → List (List ℕ) → RowsIn (OfFamily f) → List ℕ → ℕ → Object → Used → List ℕ → Result Used Refusal → List ℕ → Type 0
  VisitsBody f t also rows_in text at o u before r after =
      (s : State) → Tells terms text u s → (p : Place) (ms : Members) → At text at (object p ms) → Once text (entries_of ms) o
      → Visited terms text u before rows_in (body f t also p (entries_of ms) s) r after

  -- The same of an object with a type.
  abbrev pub VisitsTyped : (f : Family) → ℕ → RowsIn (OfFamily f) → List ℕ → ℕ → Object → Used → List ℕ → Result Used Refusal → List ℕ → Type 0
  VisitsTyped f t rows_in text at o u before r after = VisitsBody f t (bytes "t" ∷ []) rows_in text at o u before r after

  -- A needed object in a slot.
  abbrev pub VisitsNeeded : (f : Family) → RowsIn (OfFamily f) → List ℕ → ℕ → Option ℕ → Used → List ℕ → Result Used Refusal → List ℕ → Type 0
  VisitsNeeded fam rows_in text brace v u before r after =
      (s : State) → Tells terms text u s → (f : Found Value) → Slot text v f
      → Visited terms text u before rows_in (needed (an_object fam) (drop brace text) f s) r after

  -- The elements of a list, each an object of a family.
  abbrev pub VisitsEach : (f : Family) → RowsIn (List (OfFamily f)) → List ℕ → ℕ → Used → List ℕ → Result Used Refusal → List ℕ → Type 0
  VisitsEach fam rows_in text at u before r after =
      (s : State) → Tells terms text u s → (p : Place) (es : Elements) → At text at (list p es)
      → Visited terms text u before rows_in (each (an_object fam) (values_of es) s) r after

-- A timed dosage opened: 10 where its type may not stand, 15 where no record is left.
pub record Under (parent : ℕ) (text : List ℕ) (at : ℕ) (u : Used) (es : List (Entry Value)) (o : Opened) : Type 0 where
  pub settled : Once text es o.object
  pub opens : (terms : Terms) (s : State) → Tells terms text u s
      → GoesOn terms text (members (a_timed (types_under parent)) (drop at text) es s) o.used (body (a_timed (types_under parent)) o.kind (bytes "t" ∷ []) (drop at text) es)

abbrev pub OpensUnder : ℕ → List ℕ → ℕ → Used → List (Entry Value) → Result Opened Refusal → Type 0
OpensUnder parent text at u es (Ok o) = Under parent text at u es o
OpensUnder parent text at u es (Err r) =
    (terms : Terms) (s : State) → Tells terms text u s → Refuses text (members (a_timed (types_under parent)) (drop at text) es s) (number_of r.0) r.1

abbrev pub OpensTimed : ℕ → List ℕ → ℕ → Used → Result Opened Refusal → Type 0
OpensTimed parent text at u r = (p : Place) (ms : Members) → At text at (object p ms) → OpensUnder parent text at u (entries_of ms) r
