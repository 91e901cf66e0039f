-- A record with what is read below it: how its fields go on, and what is kept.
use Prim.Native.Nat.{ℕ, ◌+◌, ◌*◌, ◌<◌}
use Prim.Native.String.{String}
use mathlib.Core.Path.{◌≡◌, ap, sym, ◌∙◌}
use mathlib.Core.List.{List, []}
use lib.ListN.{length, drop}
use lib.Seq.{length-sets}
use Rattle.std.specs.Prelude.{Option, Ok, Err}
use Rattle.json_grammar.specs.Tree.{Place}
use Rattle.document.specs.Bytes.{bytes}
use Rattle.document.specs.Lookup.{Entry, find}
use Rattle.document.specs.Schema.{Family, OfFamily, Shape, an_object, Of, Rows, need}
use Rattle.document.specs.Visit.{Outcome, bind, needed, fields, Value}
use Rattle.document.specs.At.{Slot}
use Rattle.document.specs.Words.{width, Words, row}
use Rattle.document.specs.Told.{more, Still}
use Rattle.document.specs.Refusals.{number_of}
use Rattle.document.specs.declared.refusal.Refusal.{Refusal}
use Rattle.document.specs.declared.terms.Terms.{Terms}
use Rattle.document.specs.declared.terms.Used.{Used}
use Rattle.document.proofs.Taken.{still_same}
use Rattle.read_fields.specs.Fields.{Refuses}
use Rattle.table_rows.specs.Storing.{written}
use Rattle.read_records.proofs.Records.{stores}
use Rattle.read_dosages.specs.Visiting.{RowsIn, Did, VisitsNeeded}
use Rattle.read_dosages.specs.Kept.{Ready, Kept}
use Rattle.read_dosages.proofs.Bodies.{Comes, stopped}
use Rattle.read_dosages.proofs.Rowed.{kept_done, grown_above, one_ready}

-- A record was taken.
module _ (u : Used) {w : Used} (one : w ≡ more u) where
  pub more_records : w.records ≡ u.records + 1
  more_records = ap (λ (x : Used). x.records) one

  pub more_text : w.text ≡ u.text
  more_text = ap (λ (x : Used). x.text) one

  pub ready_more : {terms : Terms} {before : List ℕ} → Ready terms before u → u.records < 64 → Ready terms before w
  ready_more r few = one_ready r few (still_same (sym one))

  -- What is kept where the record is stored in front of those below it.
  pub kept_above : {terms : Terms} {least : ℕ} {before mid after : List ℕ} {v v' : Used} (ws : Words) → Ready terms before u → u.records < 64
      → Kept terms least before w (Ok v) mid → Still v v' → after ≡ written mid u.records ws → Kept terms 1 before u (Ok v') after
  kept_above {mid = mid} ws ready few kept still store =
      kept_done (ap length (stores mid u.records ws (kept.size ∙ ready.size) few store) ∙ length-sets mid (width * u.records) (row ws []) ∙ kept.size)
      (grown_above (still_same (sym one)) kept.grown still)

-- What was done below, and the object that stands there.
module _ {A : Type 0} {terms : Terms} {text : List ℕ} {o : Outcome A} {p : Place} {es : List (Entry Value)} {u : Used} where
  pub took_below : {n : String} {s : Shape} {k : Of s → Rows A} (g : Comes terms text o p es (need n s k) u) {before : List ℕ} {rows_in : RowsIn (Of s)} {v : Used} {mid : List ℕ}
      (d : Did terms text u before rows_in (needed s p (find (bytes n) es) g.state) v mid) → Comes terms text o p es (k d.value) v
  took_below {k = k} g d = record { state = d.state; outcome = g.outcome ∙ ap (λ q. bind q λ x m. fields (k x) p es m) d.outcome; tells = d.tells }

module _ {A : Type 0} {terms : Terms} {text : List ℕ} {o : Outcome A} (at : ℕ) {es : List (Entry Value)} {u : Used} {n : String} {fam : Family} {k : OfFamily fam → Rows A}
    (g : Comes terms text o (drop at text) es (need n (an_object fam) k) u) (rows_in : RowsIn (OfFamily fam)) {v : Option ℕ} (before mid : List ℕ) (slot : Slot text v (find (bytes n) es)) where
  pub object_did : {w : Used} → VisitsNeeded terms fam rows_in text at v u before (Ok w) mid → Did terms text u before rows_in (needed (an_object fam) (drop at text) (find (bytes n) es) g.state) w mid
  object_did visits = visits g.state g.tells _ slot

  pub object_stopped : (r : Refusal) → VisitsNeeded terms fam rows_in text at v u before (Err r) mid → Refuses text o (number_of r.0) r.1 × (length mid ≡ length before)
  object_stopped r visits = let h = visits g.state g.tells _ slot in (stopped g h.0, h.1)
