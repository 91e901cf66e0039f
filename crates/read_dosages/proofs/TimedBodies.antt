-- The bodies of timed dosages, by the answers of their parts.
use Prim.Native.Nat.{ℕ, ◌+◌, ◌*◌, ◌-◌, ◌<◌}
use mathlib.Core.Path.{◌≡◌, refl, ap, subst, ◌∙◌}
use mathlib.Core.Option.{none}
use mathlib.Core.List.{List, [], ◌∷◌}
use mathlib.Core.Bool.{Bool, true, false, cond}
use lib.ListN.{length, drop}
use lib.Seq.{sets}
use Rattle.std.specs.Prelude.{Option, Result, Ok, Err}
use Rattle.json_grammar.specs.Tree.{Place, object, Members}
use Rattle.document.specs.Bytes.{bytes}
use Rattle.document.specs.Posology as P
use Rattle.document.specs.Lookup.{find, unknown}
use Rattle.document.specs.Schema.{OfFamily, a_timed, a_dosage, an_object, a_number, integer, a_list, days, any_objects, under_days, Rows, need, gives, rows_of, dosage_only_rows, times_rows, day_segments_rows, week_days_rows, days_of_month_rows, interval_rows}
use Rattle.document.specs.Table.{day_set}
use Rattle.document.specs.Valid.{timed_records}
use Rattle.document.specs.Visit.{State, Outcome, needed, body, entries_of}
use Rattle.document.specs.Words.{width, words, row}
use Rattle.document.specs.At.{At, Slot}
use Rattle.document.specs.Told.{Tells, more, Still, Hands}
use Rattle.document.specs.Refusals.{number_of}
use Rattle.document.specs.declared.refusal.Refusal.{Refusal}
use Rattle.document.specs.declared.terms.Terms.{Terms}
use Rattle.document.specs.declared.terms.Used.{Used}
use Rattle.read_names.specs.Names.{Once, place_of, row_names, spelled, name_at, names}
use Rattle.read_names.specs.declared.names.Name.{Name}
use Rattle.read_names.specs.declared.names.Name.TheVariants as N
use Rattle.read_names.specs.declared.slots.Object.{Object}
use Rattle.read_fields.specs.Fields.{Refuses, CountsNeeded, ListNeeded}
use Rattle.read_fields.specs.Dates.{ReadsDays}
use Rattle.read_fields.specs.declared.field.Counted.{Counted}
use Rattle.read_type.proofs.Typed.{slot_of}
use Rattle.read_dosages.specs.Visiting.{Did, Visited, an_application, DosageRows, ApplicationsRows, TimedRows, VisitsNeeded, VisitsEach}
use Rattle.read_dosages.proofs.Alike.{with_applications, on_days}
use Rattle.read_dosages.proofs.Bodies.{Comes, object_at, body_opens, took, stopped, took_integer, stopped_integer, counted_hands, stopped_counted}
use Rattle.read_dosages.proofs.Below.{more_records, more_text, took_below, object_did, object_stopped}
use Rattle.read_dosages.proofs.Chunks.{counted, dosage_only_rows_lem, applications_rows_lem, applications_length, days_rows, timed_length, interval_rows_lem}
use Rattle.read_dosages.proofs.Known.{dosage_only_known, applications_known, days_known, interval_known}
use Rattle.read_dosages.proofs.Rowed.{above_did, visited_as}

-- The rows that are read alike, and the name of the field that only one of two has.
applications_need : (ts : List ℕ) (timed : Bool) {kind : ℕ} → kind ≡ cond timed 2 3
    → rows_of (a_timed ts) kind ≡ (need (cond timed "ts" "ss") (a_list (any_objects (an_application timed))) λ as'. gives (with_applications timed as'))
unfolding rows_of times_rows day_segments_rows
applications_need ts true t = ap (λ (n : ℕ). rows_of (a_timed ts) n) t
applications_need ts false t = ap (λ (n : ℕ). rows_of (a_timed ts) n) t

applications_name : (timed : Bool) {own : Name} → own ≡ cond timed N.Ts N.Ss → spelled own ≡ bytes (cond timed "ts" "ss")
unfolding name_at names
applications_name true e = ap (λ (n : Name). spelled n) e
applications_name false e = ap (λ (n : Name). spelled n) e

days_need : (ts : List ℕ) (week : Bool) {kind : ℕ} → kind ≡ cond week 4 5
    → rows_of (a_timed ts) kind ≡ (need (cond week "wds" "doms") (a_list (days (cond week 7 28))) λ ds. need "tdo" (an_object (a_timed under_days)) λ td. gives (on_days week ds td))
unfolding rows_of week_days_rows days_of_month_rows
days_need ts true t = ap (λ (n : ℕ). rows_of (a_timed ts) n) t
days_need ts false t = ap (λ (n : ℕ). rows_of (a_timed ts) n) t

days_name : (week : Bool) {own : Name} → own ≡ cond week N.Wds N.Doms → spelled own ≡ bytes (cond week "wds" "doms")
unfolding name_at names
days_name true e = ap (λ (n : Name). spelled n) e
days_name false e = ap (λ (n : Name). spelled n) e

module _ {terms : Terms} {text : List ℕ} {u w : Used} {s : State} (tells : Tells terms text u s) (few : u.records < 64) (one : w ≡ more u) {at : ℕ} {p : Place} {ms : Members}
    (a : At text at (object p ms)) {o : Object} (once : Once text (entries_of ms) o) (ts : List ℕ) where
  abbrev read : ℕ → Outcome P.Timed
  read t = body (a_timed ts) t (bytes "t" ∷ []) p (entries_of ms) s

  do_slot : {v : Option ℕ} → v ≡ place_of o.slots N.Do → Slot text v (find (bytes "do") (entries_of ms))
  unfolding name_at names
  do_slot = slot_of N.Do once

  -- DosageOnly
  module _ (all : unknown (row_names (N.T ∷ N.Do ∷ [])) (entries_of ms) ≡ none) {dose : Option ℕ} (asked : dose ≡ place_of o.slots N.Do) (before mid : List ℕ) where
    only_opens : Comes terms text (read 1) (drop at text) (entries_of ms) (need "do" (an_object a_dosage) λ d. gives (P.dosage_only d)) w
    unfolding rows_of dosage_only_rows
    only_opens = body_opens (dosage_only_known ts) tells few p (entries_of ms) all one (object_at a)

    pub only_refused : (r : Refusal) → VisitsNeeded terms a_dosage DosageRows text at dose w before (Err r) mid → Refuses text (read 1) (number_of r.0) r.1 × (length mid ≡ length before)
    only_refused r below = object_stopped at only_opens DosageRows before mid (do_slot asked) r below

    pub only_did : {v : Used} {after : List ℕ} → VisitsNeeded terms a_dosage DosageRows text at dose w before (Ok v) mid
        → after ≡ sets mid (width * u.records) (row (words (v.records - u.records - 1) 6 0 0 0 0) []) → Did terms text u before TimedRows (read 1) v after
    only_did {v} below stored =
        let d = object_did at only_opens DosageRows before mid (do_slot asked) below in
        let g = took_below only_opens d in
        above_did d (P.dosage_only d.value) (words (v.records - u.records - 1) 6 0 0 0 0) g.outcome g.tells
        (dosage_only_rows_lem d.value (counted u v d 1 d.row.0 refl (more_records u one) refl) d.row.0, d.row.1 ∙ more_text u one)
        (more_records u one) refl stored

  -- Times and DaySegments
  module _ (timed : Bool) {kind : ℕ} {own : Name} (t : kind ≡ cond timed 2 3) (name : own ≡ cond timed N.Ts N.Ss) (all : unknown (row_names (N.T ∷ own ∷ [])) (entries_of ms) ≡ none)
      {list : Option ℕ} (asked : list ≡ place_of o.slots own) where
    abbrev listed : State → Outcome (List (OfFamily (an_application timed)))
    listed l = needed (a_list (any_objects (an_application timed))) (drop at text) (find (bytes (cond timed "ts" "ss")) (entries_of ms)) l

    applications_open : Comes terms text (read kind) (drop at text) (entries_of ms) (need (cond timed "ts" "ss") (a_list (any_objects (an_application timed))) λ as'. gives (with_applications timed as')) w
    applications_open =
        subst (λ (rs : Rows P.Timed). Comes terms text (read kind) (drop at text) (entries_of ms) rs w) (applications_need ts timed t)
        (body_opens (applications_known ts timed t name) tells few p (entries_of ms) all one (object_at a))

    list_slot : Slot text list (find (bytes (cond timed "ts" "ss")) (entries_of ms))
    list_slot = subst (λ (b : List ℕ). Slot text list (find b (entries_of ms))) (applications_name timed name) (slot_of own once asked)

    pub list_refused : (r : Refusal) → ListNeeded text at list (Err r) → Refuses text (read kind) (number_of r.0) r.1
    list_refused r finds = stopped applications_open (finds _ list_slot (any_objects (an_application timed)) applications_open.state)

    module _ {l : ℕ} (finds : ListNeeded text at list (Ok l)) (before mid : List ℕ) where
      list_visited : (x : Result Used Refusal) → VisitsEach terms (an_application timed) (ApplicationsRows timed) text l w before x mid
          → Visited terms text w before (ApplicationsRows timed) (listed applications_open.state) x mid
      list_visited x below =
          let listing = finds _ list_slot in
          visited_as terms text w before (ApplicationsRows timed) x mid (listing.outcome (any_objects (an_application timed)) applications_open.state)
          (below applications_open.state applications_open.tells listing.place listing.inner listing.stands)

      pub applications_refused : (r : Refusal) → VisitsEach terms (an_application timed) (ApplicationsRows timed) text l w before (Err r) mid
          → Refuses text (read kind) (number_of r.0) r.1 × (length mid ≡ length before)
      applications_refused r below = let h = list_visited (Err r) below in (stopped applications_open h.0, h.1)

      pub applications_did : {v : Used} {after : List ℕ} → VisitsEach terms (an_application timed) (ApplicationsRows timed) text l w before (Ok v) mid
          → after ≡ sets mid (width * u.records) (row (words (v.records - u.records - 1) (kind + 5) 0 0 0 0) []) → Did terms text u before TimedRows (read kind) v after
      applications_did {v} below stored =
          let d = list_visited (Ok v) below in
          let g = took_below applications_open d in
          above_did d (with_applications timed d.value) (words (v.records - u.records - 1) (kind + 5) 0 0 0 0) g.outcome g.tells
          (applications_rows_lem timed d.value t (counted u v d (length d.value + length d.value) d.row.0 (applications_length timed d.value) (more_records u one) refl) d.row.0, d.row.1 ∙ more_text u one)
          (more_records u one) refl stored

  -- WeekDays and DaysOfMonth
  module _ (week : Bool) {kind : ℕ} {own : Name} (t : kind ≡ cond week 4 5) (name : own ≡ cond week N.Wds N.Doms) (all : unknown (row_names (N.T ∷ own ∷ N.Tdo ∷ [])) (entries_of ms) ≡ none)
      {list : Option ℕ} (asked : list ≡ place_of o.slots own) {most : ℕ} (limit : most ≡ cond week 7 28) where
    days_open : Comes terms text (read kind) (drop at text) (entries_of ms) (need (cond week "wds" "doms") (a_list (days (cond week 7 28))) λ ds. need "tdo" (an_object (a_timed under_days)) λ td. gives (on_days week ds td)) w
    days_open =
        subst (λ (rs : Rows P.Timed). Comes terms text (read kind) (drop at text) (entries_of ms) rs w) (days_need ts week t)
        (body_opens (days_known ts week t name) tells few p (entries_of ms) all one (object_at a))

    days_slot : Slot text list (find (bytes (cond week "wds" "doms")) (entries_of ms))
    days_slot = subst (λ (b : List ℕ). Slot text list (find b (entries_of ms))) (days_name week name) (slot_of own once asked)

    reads_days : (r : Result Counted Refusal) → ReadsDays text at list most w r → ReadsDays text at list (cond week 7 28) w r
    reads_days r reads = subst (λ (m : ℕ). ReadsDays text at list m w r) limit reads

    tdo_slot : {v : Option ℕ} → v ≡ place_of o.slots N.Tdo → Slot text v (find (bytes "tdo") (entries_of ms))
    unfolding name_at names
    tdo_slot = slot_of N.Tdo once

    pub days_refused : (r : Refusal) → ReadsDays text at list most w (Err r) → Refuses text (read kind) (number_of r.0) r.1
    days_refused r reads = stopped_counted days_open day_set r (reads_days (Err r) reads _ days_slot)

    module _ (c : Counted) (reads : ReadsDays text at list most w (Ok c)) {tdo : Option ℕ} (asked' : tdo ≡ place_of o.slots N.Tdo) (before mid : List ℕ) where
      days_read : Hands terms text (needed (a_list (days (cond week 7 28))) (drop at text) (find (bytes (cond week "wds" "doms")) (entries_of ms)) days_open.state) c.used λ ds. day_set ds ≡ c.value
      days_read = counted_hands days_open day_set c (reads_days (Ok c) reads _ days_slot)

      pub below_days_refused : (r : Refusal) → VisitsNeeded terms (a_timed under_days) TimedRows text at tdo c.used before (Err r) mid
          → Refuses text (read kind) (number_of r.0) r.1 × (length mid ≡ length before)
      below_days_refused r below = object_stopped at (took days_open days_read) TimedRows before mid (tdo_slot asked') r below

      pub days_did : {v : Used} {after : List ℕ} → Still w c.used → VisitsNeeded terms (a_timed under_days) TimedRows text at tdo c.used before (Ok v) mid
          → after ≡ sets mid (width * u.records) (row (words (v.records - u.records - 1) (kind + 5) c.value 0 0 0) []) → Did terms text u before TimedRows (read kind) v after
      days_did {v} still below stored =
          let b = took days_open days_read in
          let d = object_did at b TimedRows before mid (tdo_slot asked') below in
          let g = took_below b d in
          let first = still.records ∙ more_records u one in
          above_did d (on_days week days_read.value d.value) (words (v.records - u.records - 1) (kind + 5) c.value 0 0 0) g.outcome g.tells
          (days_rows week days_read.value d.value t days_read.holds (counted u v d (timed_records d.value) d.row.0 (timed_length d.value) first refl) d.row.0, d.row.1 ∙ still.text ∙ more_text u one)
          first refl stored

  -- Interval
  module _ (all : unknown (row_names (N.T ∷ N.Do ∷ N.MiDu ∷ N.MiDuU ∷ [])) (entries_of ms) ≡ none) {dose : Option ℕ} (asked : dose ≡ place_of o.slots N.Do) (before mid : List ℕ) where
    interval_opens : Comes terms text (read 6) (drop at text) (entries_of ms) (need "do" (an_object a_dosage) λ d. need "miDu" (a_number (integer 1 99999)) λ du. need "miDuU" (a_number (integer 1 7)) λ unit. gives (P.interval d du unit)) w
    unfolding rows_of interval_rows
    interval_opens = body_opens (interval_known ts) tells few p (entries_of ms) all one (object_at a)

    du_slot : {v : Option ℕ} → v ≡ place_of o.slots N.MiDu → Slot text v (find (bytes "miDu") (entries_of ms))
    unfolding name_at names
    du_slot = slot_of N.MiDu once

    unit_slot : {v : Option ℕ} → v ≡ place_of o.slots N.MiDuU → Slot text v (find (bytes "miDuU") (entries_of ms))
    unfolding name_at names
    unit_slot = slot_of N.MiDuU once

    pub interval_refused : (r : Refusal) → VisitsNeeded terms a_dosage DosageRows text at dose w before (Err r) mid → Refuses text (read 6) (number_of r.0) r.1 × (length mid ≡ length before)
    interval_refused r below = object_stopped at interval_opens DosageRows before mid (do_slot asked) r below

    module _ {v : Used} (below : VisitsNeeded terms a_dosage DosageRows text at dose w before (Ok v) mid) {du : Option ℕ} (asked' : du ≡ place_of o.slots N.MiDu) where
      interval_did_below : Did terms text w before DosageRows (needed (an_object a_dosage) (drop at text) (find (bytes "do") (entries_of ms)) interval_opens.state) v mid
      interval_did_below = object_did at interval_opens DosageRows before mid (do_slot asked) below

      pub duration_refused : (r : Refusal) → CountsNeeded text at du (integer 1 99999) v (Err r) → Refuses text (read 6) (number_of r.0) r.1
      duration_refused r reads = stopped_integer (took_below interval_opens interval_did_below) r (reads _ (du_slot asked'))

      module _ (span : Counted) (reads : CountsNeeded text at du (integer 1 99999) v (Ok span)) {unit : Option ℕ} (asked'' : unit ≡ place_of o.slots N.MiDuU) where
        span_read : Comes terms text (read 6) (drop at text) (entries_of ms) (need "miDuU" (a_number (integer 1 7)) λ unit. gives (P.interval interval_did_below.value span.value unit)) span.used
        span_read = took_integer (took_below interval_opens interval_did_below) span (reads _ (du_slot asked'))

        pub unit_refused : (r : Refusal) → CountsNeeded text at unit (integer 1 7) span.used (Err r) → Refuses text (read 6) (number_of r.0) r.1
        unit_refused r reads' = stopped_integer span_read r (reads' _ (unit_slot asked''))

        pub interval_did : (c : Counted) {after : List ℕ} → CountsNeeded text at unit (integer 1 7) span.used (Ok c) → Still v c.used
            → after ≡ sets mid (width * u.records) (row (words (c.used.records - u.records - 1) 11 span.value c.value 0 0) []) → Did terms text u before TimedRows (read 6) c.used after
        interval_did c reads' still stored =
            let d = interval_did_below in
            let g = took_integer span_read c (reads' _ (unit_slot asked'')) in
            above_did d (P.interval d.value span.value c.value) (words (c.used.records - u.records - 1) 11 span.value c.value 0 0) g.outcome g.tells
            (interval_rows_lem d.value span.value c.value (counted u c.used d 1 d.row.0 refl (more_records u one) still.records) d.row.0, still.text ∙ d.row.1 ∙ more_text u one)
            (more_records u one) still.records stored
