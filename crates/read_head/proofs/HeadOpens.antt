-- The head's object opened, its names known, and its first rows: the dates and the reserve mark.
use Prim.Native.Nat.{ℕ}
use mathlib.Core.Path.{◌≡◌, refl, sym, ap, ◌∙◌}
use mathlib.Core.List.{List, [], ◌∷◌}
use mathlib.Core.Bool.{Bool, true, false}
use mathlib.Core.Option.{Option, none}
use lib.Dec.{eqb}
use lib.ListN.{drop}
use Rattle.std.specs.Prelude.{Option as Maybe, Result, Ok, Err}
use Rattle.json_grammar.specs.Tree.{Place, Members, object}
use Rattle.document.specs.Bytes.{bytes}
use Rattle.document.specs.Posology as P
use Rattle.document.specs.Lookup.{Entry, find, unknown}
use Rattle.document.specs.Schema.{Rows, may, a_string, date, a_flag, a_posology, rows_of, posology_rows, names}
use Rattle.document.specs.Visit.{State, Outcome, refuse, unless, Value, entries_of, optional, fields, members}
use Rattle.document.specs.At.{At, Slot}
use Rattle.document.specs.Told.{Tells}
use Rattle.document.specs.Refusals.{number_of}
use Rattle.document.specs.declared.refusal.Reason.{Reason}
use Rattle.document.specs.declared.refusal.Refusal.{Refusal}
use Rattle.document.specs.declared.table.Date.{Date}
use Rattle.document.specs.declared.terms.Terms.{Terms}
use Rattle.document.specs.declared.terms.Used.{Used}
use Rattle.read_names.specs.Names.{name_at, names as all_names, row_names, place_of}
use Rattle.read_names.specs.declared.names.Name.{Name}
use Rattle.read_names.specs.declared.names.Name.TheVariants as N
use Rattle.read_names.specs.declared.slots.Object.{Object}
use Rattle.read_fields.specs.Fields.{Refuses, Dated, Given, ReadsDate, ReadsFlag}
use Rattle.read_fields.proofs.Refusals.{refuses_as}
use Rattle.read_type.specs.Opens.{OpensAs, Plain, KnowsAll}
use Rattle.read_type.proofs.Typed.{slot_of}
use Rattle.read_records.specs.declared.read.HeadRead.{HeadRead}
use Rattle.read_dosages.proofs.Bodies.{Comes, object_at, passed_given, stopped_given}
use Rattle.read_head.specs.Heads.{HeadReads}
use Rattle.read_head.specs.HeadRows.{po_rows, ReadsFromDetail}
use Rattle.read_head.proofs.HeadDetail.{head_as}

-- The names of the head's rows.
abbrev head_names : List Name
head_names = N.DtFrom ∷ N.DtTo ∷ N.InRes ∷ N.Po ∷ N.RelMeal ∷ N.Unit ∷ N.ApplInstr ∷ N.Roa ∷ N.Moa ∷ []

named : (b : Bool) → names (posology_rows b) ≡ row_names head_names
unfolding posology_rows name_at all_names
named true = refl
named false = refl

abbrev reserve_rows : Bool → Option P.Date → Option P.Date → Rows P.Posology
reserve_rows b x y = may "inRes" a_flag λ z. po_rows b x y z

abbrev to_rows : Bool → Option P.Date → Rows P.Posology
to_rows b x = may "dtTo" (a_string date) λ y. reserve_rows b x y

abbrev from_rows : Bool → Rows P.Posology
from_rows b = may "dtFrom" (a_string date) λ x. to_rows b x

-- By the results of what the code reads in turn.
module _ {terms : Terms} {text : List ℕ} {at : ℕ} {u : Used} {s : State} (tells : Tells terms text u s) {p : Place} {ms : Members} (stands : At text at (object p ms)) where
  abbrev es : List (Entry Value)
  es = entries_of ms

  abbrev b : Bool
  b = eqb terms.purpose 3

  abbrev all : Outcome P.Posology
  all = members (a_posology terms.purpose) p es s

  at_brace : all ≡ members (a_posology terms.purpose) (drop at text) es s
  at_brace = ap (λ (q : Place). members (a_posology terms.purpose) q es s) (object_at stands)

  pub not_opened : (r : Refusal) → OpensAs text at es (Err r) → Refuses text all (number_of r.0) r.1
  not_opened r opens = refuses_as at_brace (opens (a_posology terms.purpose) s)

  module _ {o : Object} (plain : Plain text at es o) where
    opened : all ≡ unless (unknown (row_names head_names) es) 5 (fields (posology_rows b) (drop at text) es s)
    unfolding rows_of
    opened =
        at_brace ∙ plain.opens (a_posology terms.purpose) refl s
        ∙ ap (λ (ns : List (List ℕ)). unless (unknown ns es) 5 (fields (posology_rows b) (drop at text) es s)) (named b)

    pub unknown_name : (r : Refusal) → KnowsAll text (unknown (row_names head_names) es) (Err r) → Refuses text all (number_of r.0) r.1
    unknown_name r told =
        record {
          outcome =
              opened ∙ ap (λ (x : Option Place). unless x 5 (fields (posology_rows b) (drop at text) es s)) told.1
              ∙ ap (λ (w : Reason). refuse (number_of w) (drop r.1 text)) (sym told.0);
          inside = told.2;
        }

    module _ (known : unknown (row_names head_names) es ≡ none) {v₁ : Maybe ℕ} (asked₁ : v₁ ≡ place_of o.slots N.DtFrom) where
      begins : Comes terms text all (drop at text) es (from_rows b) u
      unfolding posology_rows
      begins =
          record {
            state = s;
            outcome = opened ∙ ap (λ (x : Option Place). unless x 5 (fields (posology_rows b) (drop at text) es s)) known;
            tells = tells;
          }

      from_slot : Slot text v₁ (find (bytes "dtFrom") es)
      unfolding name_at all_names
      from_slot = slot_of N.DtFrom plain.settled asked₁

      pub from_stops : (r : Refusal) → ReadsDate text v₁ (Err r) → Refuses text all (number_of r.0) r.1
      from_stops r reads = stopped_given begins (reads (find (bytes "dtFrom") es) from_slot (drop at text) begins.state)

      module _ (d₁ : Date) (reads₁ : ReadsDate text v₁ (Ok d₁)) {v₂ : Maybe ℕ} (asked₂ : v₂ ≡ place_of o.slots N.DtTo) where
        from : Dated (optional (a_string date) (drop at text) (find (bytes "dtFrom") es) begins.state) begins.state d₁
        from = reads₁ (find (bytes "dtFrom") es) from_slot (drop at text) begins.state

        behind_from : Comes terms text all (drop at text) es (to_rows b from.value) u
        behind_from = passed_given begins from.outcome

        to_slot : Slot text v₂ (find (bytes "dtTo") es)
        unfolding name_at all_names
        to_slot = slot_of N.DtTo plain.settled asked₂

        pub to_stops : (r : Refusal) → ReadsDate text v₂ (Err r) → Refuses text all (number_of r.0) r.1
        to_stops r reads = stopped_given behind_from (reads (find (bytes "dtTo") es) to_slot (drop at text) behind_from.state)

        module _ (d₂ : Date) (reads₂ : ReadsDate text v₂ (Ok d₂)) {v₃ : Maybe ℕ} (asked₃ : v₃ ≡ place_of o.slots N.InRes) where
          to : Dated (optional (a_string date) (drop at text) (find (bytes "dtTo") es) behind_from.state) behind_from.state d₂
          to = reads₂ (find (bytes "dtTo") es) to_slot (drop at text) behind_from.state

          behind_to : Comes terms text all (drop at text) es (reserve_rows b from.value to.value) u
          behind_to = passed_given behind_from to.outcome

          mark_slot : Slot text v₃ (find (bytes "inRes") es)
          unfolding name_at all_names
          mark_slot = slot_of N.InRes plain.settled asked₃

          pub mark_stops : (r : Refusal) → ReadsFlag text v₃ (Err r) → Refuses text all (number_of r.0) r.1
          mark_stops r reads = stopped_given behind_to (reads (find (bytes "inRes") es) mark_slot (drop at text) behind_to.state)

          module _ (marked : Bool) (reads₃ : ReadsFlag text v₃ (Ok marked)) where
            mark : Given (optional a_flag (drop at text) (find (bytes "inRes") es) behind_to.state) behind_to.state marked
            mark = reads₃ (find (bytes "inRes") es) mark_slot (drop at text) behind_to.state

            behind_mark : Comes terms text all (drop at text) es (po_rows b from.value to.value mark.value) u
            behind_mark = passed_given behind_to mark.outcome

            pub head_read : {before : List ℕ} (h : Result HeadRead Refusal) {after : List ℕ} → ReadsFromDetail terms text at o d₁ d₂ marked u before h after → HeadReads terms text u before all h after
            head_read h rest =
                head_as behind_mark.outcome (rest es plain.settled from.value to.value mark.value from.cell to.cell mark.marks behind_mark.state behind_mark.tells)
