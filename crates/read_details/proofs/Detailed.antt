-- The fields of a detail and of a sequence's object in turn, and what was done of each.
use Prim.Native.Nat.{ℕ, ◌+◌, ◌*◌, ◌-◌, ◌<◌}
use Prim.Native.String.{String}
use mathlib.Core.Path.{◌≡◌, refl, ap, sym, ◌∙◌, subst}
use mathlib.Core.List.{List, [], ◌∷◌}
use mathlib.Core.Option.{some}
use native.Mathlib.Omega.{arith}
use lib.ListN.{length, length-append}
use lib.Seq.{sets}
use Rattle.std.specs.Prelude.{Option, Result, Ok, Err}
use Rattle.json_grammar.specs.Tree.{Place}
use Rattle.document.specs.Posology as P
use Rattle.document.specs.Table.{detail_rows}
use Rattle.document.specs.Valid.{timed_records, detail_strings}
use Rattle.document.specs.Bytes.{bytes}
use Rattle.document.specs.Lookup.{Entry, find}
use Rattle.document.specs.Schema.{a_list, four_decimals, Four, a_text, a_timed, Rows, need, gives, a_detail, a_sequence_object, rows_of, daily_rows, free_text_rows, single_rows, cyclic_rows, sequence_rows, posology_sequence_rows, pause_rows}
use Rattle.document.specs.Visit.{State, Outcome, done, needed, Value}
use Rattle.document.specs.Words.{width, row, words}
use Rattle.document.specs.Told.{more, Still, Hands}
use Rattle.document.specs.Refusals.{number_of}
use Rattle.document.specs.declared.refusal.Refusal.{Refusal}
use Rattle.document.specs.declared.terms.Terms.{Terms}
use Rattle.document.specs.declared.terms.Used.{Used}
use Rattle.document.proofs.Taken.{still_same, still_then}
use Rattle.document.proofs.Untables.{joined_append}
use Rattle.read_names.specs.Names.{name_at, names as all_names}
use Rattle.read_names.specs.declared.names.Name.TheVariants as N
use Rattle.read_fields.specs.Fields.{Refuses, ReadsFour, StringIs, WordsFrom, Longer}
use Rattle.read_fields.specs.declared.four.Four.{Four as FourRead}
use Rattle.read_fields.specs.declared.field.Worded.{Worded}
use Rattle.read_dosages.specs.Visiting.{Did, VisitsNeeded, TimedRows}
use Rattle.read_dosages.specs.Kept.{Grown}
use Rattle.read_dosages.proofs.Bodies.{Known, Comes, passed, stopped}
use Rattle.read_dosages.proofs.Rowed.{leaf_did, above_did}
use Rattle.read_dosages.proofs.Chunks.{timed_length, counted, row_above}
use Rattle.read_details.specs.Rows.{DetailRows, DetailAt, ObjectIn}

-- The names of each object's rows.
module _ (n : ℕ) where
  pub daily_known : Known (a_detail n) 1 (bytes "t" ∷ []) (N.T ∷ N.Ds ∷ [])
  unfolding rows_of daily_rows name_at all_names
  daily_known = record { counted = refl; named = refl }

  pub free_text_known : Known (a_detail n) 2 (bytes "t" ∷ []) (N.T ∷ N.Text ∷ [])
  unfolding rows_of free_text_rows name_at all_names
  free_text_known = record { counted = refl; named = refl }

  pub single_known : Known (a_detail n) 3 (bytes "t" ∷ []) (N.T ∷ N.Tdo ∷ [])
  unfolding rows_of single_rows name_at all_names
  single_known = record { counted = refl; named = refl }

  pub cyclic_known : Known (a_detail n) 4 (bytes "t" ∷ []) (N.T ∷ N.CyDuU ∷ N.CyDu ∷ N.Tdo ∷ N.Tdpc ∷ [])
  unfolding rows_of cyclic_rows name_at all_names
  cyclic_known = record { counted = refl; named = refl }

  pub sequence_known : Known (a_detail n) 5 (bytes "t" ∷ []) (N.T ∷ N.Sos ∷ [])
  unfolding rows_of sequence_rows name_at all_names
  sequence_known = record { counted = refl; named = refl }

  pub posology_sequence_known : Known (a_sequence_object n) 1 (bytes "t" ∷ []) (N.T ∷ N.Du ∷ N.DuU ∷ N.Po ∷ [])
  unfolding rows_of posology_sequence_rows name_at all_names
  posology_sequence_known = record { counted = refl; named = refl }

  pub pause_known : Known (a_sequence_object n) 2 (bytes "t" ∷ []) (N.T ∷ N.Du ∷ N.DuU ∷ [])
  unfolding rows_of pause_rows name_at all_names
  pause_known = record { counted = refl; named = refl }

-- A record is counted, and what is read behind it takes none.
pub counted_still : (u : Used) {w v : Used} → w ≡ more u → Still w v → Still (more u) v
counted_still u e s = still_then (still_same (sym e)) s

pub grown_longer : {terms : Terms} {u w v : Used} {n : ℕ} → u.records < 64 → w ≡ more u → Longer terms w n v → Grown terms 1 u v
grown_longer {u = u} {w} {v} few e l =
    let k : w.records ≡ u.records + 1 = ap (λ (x : Used). x.records) e in
    record { some = omega (arith, k, l.records); few = omega (arith, k, l.records, few); fits = l.fits }

-- Four decimals, and a string.
module _ {A : Type 0} {terms : Terms} {text : List ℕ} {o : Outcome A} {es : List (Entry Value)} {u : Used} where
  module _ {p : Place} {n : String} {k : Four → Rows A} (g : Comes terms text o p es (need n (a_list four_decimals) k) u) where
    pub took_four : (f : FourRead) → ((l : State) → ReadsFour text (needed (a_list four_decimals) p (find (bytes n) es) l) l (Ok f))
        → Comes terms text o p es (k (record { morning = f.morning; noon = f.noon; evening = f.evening; night = f.night })) u
    took_four f reads = passed g (reads g.state)

    pub stopped_four : (r : Refusal) → ((l : State) → ReadsFour text (needed (a_list four_decimals) p (find (bytes n) es) l) l (Err r)) → Refuses text o (number_of r.0) r.1
    stopped_four r reads = stopped g (reads g.state)

  module _ {p : Place} {n : String} {k : List ℕ → Rows A} (g : Comes terms text o p es (need n a_text k) u) where
    pub text_hands : (w : Worded) → WordsFrom terms text u (needed a_text p (find (bytes n) es)) (λ cs. some cs) (Ok w)
        → Hands terms text (needed a_text p (find (bytes n) es) g.state) w.used λ cs. StringIs text w.quote w.len (some cs)
    text_hands w reads = reads g.state g.tells

    pub stopped_text : (r : Refusal) → WordsFrom terms text u (needed a_text p (find (bytes n) es)) (λ cs. some cs) (Err r) → Refuses text o (number_of r.0) r.1
    stopped_text r reads = stopped g (reads g.state g.tells)

-- A record with none below it.
module _ {terms : Terms} (text : List ℕ) {p : Place} {es : List (Entry Value)} {u v : Used} {before after : List ℕ} where
  pub daily_did : {o : Outcome P.Detail} (a b c d : ℕ) → Comes terms text o p es (gives (P.daily a b c d)) v → Still (more u) v
      → after ≡ sets before (width * u.records) (row (words (v.records - u.records - 1) 1 a b c d) []) → Did terms text u before (DetailAt text) o v after
  unfolding DetailRows detail_strings
  daily_did a b c d g s stored =
      let n : v.records ≡ u.records + 1 = s.records in
      let t : v.text ≡ u.text = s.text in
      leaf_did (P.daily a b c d) (words (v.records - u.records - 1) 1 a b c d) g.outcome g.tells
      (row_above 1 a b c d (omega (arith, n)) refl, omega (arith, t)) n stored

  pub pause_did : {o : Outcome P.SequenceObject} (du unit : ℕ) → Comes terms text o p es (gives (P.pause du unit)) v → Still (more u) v
      → after ≡ sets before (width * u.records) (row (words (v.records - u.records - 1) 16 du unit 0 0) []) → Did terms text u before (ObjectIn text) o v after
  unfolding DetailRows detail_strings
  pause_did du unit g s stored =
      let n : v.records ≡ u.records + 1 = s.records in
      let t : v.text ≡ u.text = s.text in
      leaf_did (P.pause du unit) (words (v.records - u.records - 1) 16 du unit 0 0) g.outcome g.tells
      (row_above 16 du unit 0 0 (omega (arith, n)) refl, omega (arith, t)) n stored

  pub free_text_did : {o : Outcome P.Detail} (cs : List ℕ) (q n : ℕ) {w : Used} → Comes terms text o p es (gives (P.free_text cs)) v → StringIs text q n (some cs)
      → w ≡ more u → Longer terms w n v → after ≡ sets before (width * u.records) (row (words (v.records - u.records - 1) 2 u.text n q 0) [])
      → Did terms text u before (DetailAt text) o v after
  unfolding DetailRows detail_strings
  free_text_did cs q n {w} g h e l stored =
      let k : v.records ≡ u.records + 1 = l.records ∙ ap (λ (x : Used). x.records) e in
      let t : v.text ≡ u.text + n = l.text ∙ ap (λ (x : Used). x.text + n) e in
      let size : length cs ≡ n = h.1 in
      leaf_did (P.free_text cs) (words (v.records - u.records - 1) 2 u.text n q 0) g.outcome g.tells (
        (q, ap (λ (m : ℕ). row (words (v.records - u.records - 1) 2 u.text m q 0) []) (sym size) ∙ row_above 2 u.text (length cs) q 0 (omega (arith, k)) refl, h.0),
        omega (arith, t, size, ap length (joined_append cs []), length-append cs []),
      ) k stored

-- A record above a timed dosage.
module _ {terms : Terms} (text : List ℕ) (u : Used) {w v v' : Used} {before mid : List ℕ} {ob : Outcome P.Timed}
    (d : Did terms text w before TimedRows ob v mid) (one : Still (more u) w) (same : Still v v') where
  timed_below : v'.records - u.records - 1 ≡ timed_records d.value
  timed_below = counted u v' d (timed_records d.value) d.row.0 (timed_length d.value) one.records same.records

  no_string : v'.text ≡ u.text
  no_string = same.text ∙ d.row.1 ∙ one.text

  pub single_did : {p : Place} {es : List (Entry Value)} {o : Outcome P.Detail} {after : List ℕ} → Comes terms text o p es (gives (P.single d.value)) v'
      → after ≡ sets mid (width * u.records) (row (words (v'.records - u.records - 1) 3 0 0 0 0) []) → Did terms text u before (DetailAt text) o v' after
  unfolding DetailRows detail_strings detail_rows
  single_did g stored =
      above_did d (P.single d.value) (words (v'.records - u.records - 1) 3 0 0 0 0) g.outcome g.tells
      (row_above 3 0 0 0 0 timed_below d.row.0, omega (arith, no_string)) one.records same.records stored

  pub cyclic_did : {p : Place} {es : List (Entry Value)} {o : Outcome P.Detail} {after : List ℕ} (unit du per : ℕ) {given : ℕ} → given ≡ per → Comes terms text o p es (gives (P.cyclic unit du d.value given)) v'
      → after ≡ sets mid (width * u.records) (row (words (v'.records - u.records - 1) 4 unit du per 0) []) → Did terms text u before (DetailAt text) o v' after
  unfolding DetailRows detail_strings detail_rows
  cyclic_did unit du per e g stored =
      above_did d (P.cyclic unit du d.value per) (words (v'.records - u.records - 1) 4 unit du per 0)
      (g.outcome ∙ ap (λ (n : ℕ). done (P.cyclic unit du d.value n) g.state) e) g.tells
      (row_above 4 unit du per 0 timed_below d.row.0, omega (arith, no_string)) one.records same.records stored

-- Under a Cyclic, by its unit.
pub timed_under : {ts ts' : List ℕ} (terms : Terms) (text : List ℕ) (brace : ℕ) (v : Option ℕ) (w : Used) (before : List ℕ) (r : Result Used Refusal) (after : List ℕ) → ts ≡ ts'
    → VisitsNeeded terms (a_timed ts) TimedRows text brace v w before r after → VisitsNeeded terms (a_timed ts') TimedRows text brace v w before r after
timed_under terms text brace v w before r after e h = subst (λ (x : List ℕ). VisitsNeeded terms (a_timed x) TimedRows text brace v w before r after) e h
