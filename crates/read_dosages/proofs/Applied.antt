-- An application: its own field, and its two fields in turn, behind the dosage below it.
use Prim.Native.Nat.{ℕ, ◌*◌, ◌-◌}
use mathlib.Core.Path.{◌≡◌, refl, ap, ◌∙◌}
use mathlib.Core.List.{List, []}
use mathlib.Core.Bool.{Bool, cond}
use lib.Seq.{sets}
use Rattle.std.specs.Prelude.{Ok, Err}
use Rattle.json_grammar.specs.Tree.{Place}
use Rattle.document.specs.Posology as P
use Rattle.document.specs.Lookup.{Entry, find}
use Rattle.document.specs.Schema.{a_dosage, an_object, OfFamily, rows_of}
use Rattle.document.specs.Visit.{State, Outcome, done, bind, needed, Value}
use Rattle.document.specs.Told.{more, Still, GoesOn}
use Rattle.document.specs.Words.{width, words, row}
use Rattle.document.specs.Refusals.{number_of}
use Rattle.document.specs.declared.refusal.Refusal.{Refusal}
use Rattle.document.specs.declared.terms.Terms.{Terms}
use Rattle.document.specs.declared.terms.Used.{Used}
use Rattle.read_names.specs.Names.{spelled}
use Rattle.read_names.specs.declared.names.Name.{Name}
use Rattle.read_names.specs.declared.names.Name.TheVariants as N
use Rattle.read_fields.specs.Fields.{Refuses, CountsFrom, itself}
use Rattle.read_fields.specs.declared.field.Counted.{Counted}
use Rattle.read_fields.proofs.Refusals.{refuses_as, refuses_bind}
use Rattle.read_dosages.specs.Visiting.{Did, DosageRows, an_application, ApplicationRows, own_field}
use Rattle.read_dosages.proofs.Rowed.{above_did}
use Rattle.read_dosages.proofs.Bodies.{Comes, done_bind}
use Rattle.read_dosages.proofs.Alike.{application}
use Rattle.read_dosages.proofs.Known.{application_fields}
use Rattle.read_dosages.proofs.Chunks.{application_rows, counted}

-- The two fields in turn.
module _ (timed : Bool) {own : Name} (named : own ≡ cond timed N.Dt N.S) {terms : Terms} {text : List ℕ} {o : Outcome (OfFamily (an_application timed))} {p : Place} {es : List (Entry Value)} {w : Used}
    (b : Comes terms text o p es (rows_of (an_application timed) 0) w) where
  abbrev below : Outcome P.Dosage
  below = needed (an_object a_dosage) p (find (spelled N.Do) es) b.state

  abbrev behind : P.Dosage → State → Outcome (OfFamily (an_application timed))
  behind d l = bind (own_field timed p (find (spelled own) es) l) λ n m. done (application timed d n) m

  begins : o ≡ bind below behind
  begins = b.outcome ∙ application_fields p es b.state timed named

  pub dosage_stops : {n q : ℕ} → Refuses text below n q → Refuses text o n q
  dosage_stops h = refuses_as begins (refuses_bind behind h)

  module _ {before mid : List ℕ} {v : Used} (d : Did terms text w before DosageRows below v mid) where
    pub own_stops : (r : Refusal) → CountsFrom text v (own_field timed p (find (spelled own) es)) itself (Err r) → Refuses text o (number_of r.0) r.1
    own_stops r reads = refuses_as (begins ∙ done_bind behind d.outcome) (refuses_bind (λ n m. done (application timed d.value n) m) (reads terms d.state d.tells))

    module _ (c : Counted) (reads : CountsFrom text v (own_field timed p (find (spelled own) es)) itself (Ok c)) where
      both_read : GoesOn terms text o c.used λ m. done (application timed d.value c.value) m
      both_read =
          let h = reads terms d.state d.tells in
          record {
            state = h.state;
            outcome =
                begins ∙ done_bind behind d.outcome ∙ done_bind (λ n m. done (application timed d.value n) m) h.outcome
                ∙ ap (λ x. done (application timed d.value x) h.state) h.holds;
            tells = h.tells;
          }

      -- Its record in front of the dosage's.
      pub application_did : {u : Used} {after : List ℕ} {tag : ℕ} → tag ≡ cond timed 17 18 → Still (more u) w → Still v c.used
          → after ≡ sets mid (width * u.records) (row (words (c.used.records - u.records - 1) tag c.value 0 0 0) []) → Did terms text u before (ApplicationRows timed) o c.used after
      application_did {u} {tag = tag} t one same stored =
          above_did d (application timed d.value c.value) (words (c.used.records - u.records - 1) tag c.value 0 0 0) both_read.outcome both_read.tells (
            application_rows timed d.value c.value t (counted u c.used d 1 d.row.0 refl one.records same.records) d.row.0,
            same.text ∙ d.row.1 ∙ one.text,
          ) one.records same.records stored
