-- Sequences and their objects: the rows below a record, the strings one behind the other, and the objects of a list in turn.
use Prim.Native.Nat.{ℕ, suc, ◌+◌, ◌*◌, ◌-◌, ◌<◌, ◌≤◌}
use mathlib.Core.Path.{◌≡◌, refl, ap, sym, ◌∙◌, subst}
use mathlib.Core.List.{List, [], ◌∷◌, ◌++◌}
use mathlib.Core.Bool.{Bool, true, false, not}
use native.Mathlib.Omega.{arith}
use lib.ListN.{length, drop, length-append}
use lib.Seq.{sets}
use lib.Dec.{leb}
use borrow.Author.Tests.{ne_eqb, lt-ltb, leb-true, leb-false}
use Rattle.std.specs.Prelude.{Ok, Err}
use Rattle.json_grammar.specs.Tree.{Place, Moves, Tree}
use Rattle.json_move.specs.Moving.{first_in, at_end}
use Rattle.document.specs.Bytes.{bytes}
use Rattle.document.specs.Lookup.{Entry, find}
use Rattle.document.specs.Posology as P
use Rattle.document.specs.Schema.{Family, an_object, a_list, some_objects, ListShape, OfList, Rows, need, gives, a_detail, a_sequence_object, types_of, may_open}
use Rattle.document.specs.Table.{detail_rows}
use Rattle.document.specs.Valid.{detail_records, object_records, objects_records, detail_strings, object_strings, objects_strings}
use Rattle.document.specs.Visit.{State, Outcome, refuse, guard, is_empty, needed, each, members, body, Value, value_of, values_of}
use Rattle.document.specs.Words.{width, row, words}
use Rattle.document.specs.At.{At}
use Rattle.document.specs.Told.{Tells, more, Still, GoesOn}
use Rattle.document.specs.Refusals.{number_of}
use Rattle.document.specs.declared.refusal.Refusal.{Refusal}
use Rattle.document.specs.declared.terms.Terms.{Terms}
use Rattle.document.specs.declared.terms.Used.{Used}
use Rattle.document.proofs.Taken.{goes_as, goes_to}
use Rattle.document.proofs.Untables.{object_append}
use Rattle.read_fields.specs.Fields.{Refuses, Listing, ObjectAt}
use Rattle.read_fields.proofs.Refusals.{refuses_as}
use Rattle.read_fields.proofs.Elements.{standing_first, standing_here, standing_over}
use Rattle.read_names.specs.declared.slots.Object.{Object}
use Rattle.read_type.specs.Opens.{Typed, by_kind, type_slot, type_place}
use Rattle.read_type.specs.declared.opened.Opened.{Opened}
use Rattle.read_dosages.specs.Visiting.{Did, VisitsObject, VisitsEach}
use Rattle.read_dosages.proofs.Bodies.{Comes, stopped, list_at}
use Rattle.read_dosages.proofs.Rowed.{above_did, count_below, did_as}
use Rattle.read_dosages.proofs.Chunks.{timed_length, row_above}
use Rattle.read_details.specs.Rows.{DetailRows, ObjectRows, ObjectsRows, DetailAt, ObjectIn, ObjectsIn}

-- Six words to a record.
mutual
  unfolding DetailRows detail_records detail_rows

  pub detail_length : (d : P.Detail) (text : List ℕ) (at : ℕ) (chunk : List ℕ) → DetailRows d text at chunk → length chunk ≡ detail_records d * width
  detail_length (P.daily a b c d) text at chunk h = ap length h
  detail_length (P.free_text cs) text at chunk h = ap length h.1
  detail_length (P.single td) text at chunk h = omega (arith, ap length h, timed_length td)
  detail_length (P.cyclic unit du td per) text at chunk h = omega (arith, ap length h, timed_length td)
  detail_length (P.sequence os) text at chunk h = omega (arith, ap length h.1, objects_length os text at h.0 h.2)

  object_length : (o : P.SequenceObject) (text : List ℕ) (at : ℕ) (chunk : List ℕ) → ObjectRows o text at chunk → length chunk ≡ object_records o * width
  object_length (P.posology_sequence du unit po) text at chunk h = omega (arith, ap length h.1, detail_length po text at h.0 h.2)
  object_length (P.pause du unit) text at chunk h = ap length h

  objects_length : (os : P.SequenceObjects) (text : List ℕ) (at : ℕ) (chunk : List ℕ) → ObjectsRows os text at chunk → length chunk ≡ objects_records os * width
  objects_length P.no_object text at chunk h = ap length h
  objects_length (P.object_then o os) text at chunk h =
      omega (arith, ap length h.2, length-append h.0 h.1, object_length o text at h.0 h.3, objects_length os text (at + length (object_strings o [])) h.1 h.4)

-- A record above a detail, and one above a sequence's objects.
module _ {terms : Terms} (text : List ℕ) {p : Place} {es : List (Entry Value)} {u w v : Used} {before mid after : List ℕ} (one : Still (more u) w) where
  pub posology_sequence_did : {ob : Outcome P.Detail} {o : Outcome P.SequenceObject} (d : Did terms text w before (DetailAt text) ob v mid) (du unit : ℕ)
      → Comes terms text o p es (gives (P.posology_sequence du unit d.value)) v
      → after ≡ sets mid (width * u.records) (row (words (v.records - u.records - 1) 15 du unit 0 0) []) → Did terms text u before (ObjectIn text) o v after
  unfolding DetailRows detail_strings
  posology_sequence_did d du unit g stored =
      let k : w.records ≡ u.records + 1 = one.records in
      let t : w.text ≡ u.text = one.text in
      let n = count_below d (detail_records d.value) (detail_length d.value text w.text d.chunk d.row.0) in
      above_did d (P.posology_sequence du unit d.value) (words (v.records - u.records - 1) 15 du unit 0 0) g.outcome g.tells (
        (d.chunk, row_above 15 du unit 0 0 (omega (arith, n, k)) refl, subst (λ (m : ℕ). DetailRows d.value text m d.chunk) t d.row.0),
        omega (arith, t, d.row.1),
      ) k refl stored

  pub sequence_did : {ob : Outcome (List P.SequenceObject)} {o : Outcome P.Detail} (d : Did terms text w before (ObjectsIn text) ob v mid)
      → Comes terms text o p es (gives (P.sequence (P.ordered d.value))) v
      → after ≡ sets mid (width * u.records) (row (words (v.records - u.records - 1) 5 0 0 0 0) []) → Did terms text u before (DetailAt text) o v after
  unfolding DetailRows detail_strings
  sequence_did d g stored =
      let k : w.records ≡ u.records + 1 = one.records in
      let t : w.text ≡ u.text = one.text in
      let n = count_below d (objects_records (P.ordered d.value)) (objects_length (P.ordered d.value) text w.text d.chunk d.row.0) in
      above_did d (P.sequence (P.ordered d.value)) (words (v.records - u.records - 1) 5 0 0 0 0) g.outcome g.tells (
        (d.chunk, row_above 5 0 0 0 0 (omega (arith, n, k)) refl, subst (λ (m : ℕ). ObjectsRows (P.ordered d.value) text m d.chunk) t d.row.0),
        omega (arith, t, d.row.1),
      ) k refl stored

-- The objects of a sequence's list.
one_less : (k : ℕ) → suc k - 1 ≡ k
one_less k = omega arith

module _ {text : List ℕ} {at : ℕ} {reads : (s : ListShape) → State → Outcome (OfList s)} (x : Listing text at reads) {e : ℕ} (m : Moves first_in text at e) (k : ℕ) (l : State) where
  some_object_lem : at_end (drop e text) ≡ false → reads (some_objects (a_sequence_object (suc k - 1))) l ≡ each (an_object (a_sequence_object k)) (values_of x.inner) l
  unfolding values_of
  some_object_lem q =
      let h = standing_here (standing_first x.stands m) q in
      x.outcome (some_objects (a_sequence_object (suc k - 1))) l
      ∙ ap (λ b. guard (not b) 11 x.place (each (an_object (a_sequence_object (suc k - 1))) (values_of x.inner) l)) (ap (λ es. is_empty (values_of es)) h.split)
      ∙ ap (λ (n : ℕ). each (an_object (a_sequence_object n)) (values_of x.inner) l) (one_less k)

  no_object_lem : at_end (drop e text) ≡ true → Refuses text (reads (some_objects (a_sequence_object (suc k - 1))) l) 11 at
  unfolding values_of
  no_object_lem q =
      record {
        outcome =
            x.outcome (some_objects (a_sequence_object (suc k - 1))) l
            ∙ ap (λ b. guard (not b) 11 x.place (each (an_object (a_sequence_object (suc k - 1))) (values_of x.inner) l))
            (ap (λ es. is_empty (values_of es)) (standing_over (standing_first x.stands m) q))
            ∙ ap (λ p. refuse 11 p) (list_at x.stands);
        inside = omega (arith, x.stands.inside);
      }

module _ {terms : Terms} {text : List ℕ} {o : Outcome P.Detail} (brace : ℕ) {es : List (Entry Value)} {u : Used} (inside : ℕ) {k : List P.SequenceObject → Rows P.Detail}
    (g : Comes terms text o (drop brace text) es (need "sos" (a_list (some_objects (a_sequence_object (suc inside - 1)))) k) u) {at : ℕ}
    (x : Listing text at (λ s l. needed (a_list s) (drop brace text) (find (bytes "sos") es) l)) {e : ℕ} (m : Moves first_in text at e) where
  pub sequence_empty : at_end (drop e text) ≡ true → Refuses text o 11 at
  sequence_empty q = stopped g (no_object_lem x m inside g.state q)

  module _ (q : at_end (drop e text) ≡ false) (before after : List ℕ) where
    pub objects_did : {v : Used} → VisitsEach terms (a_sequence_object inside) (ObjectsIn text) text at u before (Ok v) after
        → Did terms text u before (ObjectsIn text) (needed (a_list (some_objects (a_sequence_object (suc inside - 1)))) (drop brace text) (find (bytes "sos") es) g.state) v after
    objects_did reads = did_as (some_object_lem x m inside g.state q) (reads g.state g.tells x.place x.inner x.stands)

    pub objects_stopped : (r : Refusal) → VisitsEach terms (a_sequence_object inside) (ObjectsIn text) text at u before (Err r) after → Refuses text o (number_of r.0) r.1 × (length after ≡ length before)
    objects_stopped r reads =
        let h = reads g.state g.tells x.place x.inner x.stands in
        (stopped g (refuses_as (some_object_lem x m inside g.state q) h.0), h.1)

-- An object opened, as far as its type.
pub opens_as : {types : ℕ} {text : List ℕ} {at : ℕ} {u : Used} {es : List (Entry Value)} {o : Opened} (x : Typed types text at u es o) (f : Family) (t : ℕ) {p : Place}
    {terms : Terms} {s : State} → Tells terms text u s → types_of f ≡ types → o.kind ≡ t → p ≡ drop at text → GoesOn terms text (members f p es s) o.used (by_kind f t text at o.object es)
opens_as {text = text} {at} {es = es} {o = o} x f t {s = s} tells of k e =
    goes_as (ap (λ q. members f q es s) e) (goes_to (λ l. ap (λ (n : ℕ). by_kind f n text at o.object es l) k) (x.opens f of _ s tells))

-- 14: whether a type may still open.
pub opens_plain : (n k : ℕ) → (k ≡ 5 → ⊥) → may_open (a_detail n) k ≡ true
opens_plain n k h = rw (ne_eqb k 5 h)

opens_some : (n : ℕ) → (n ≡ 0 → ⊥) → may_open (a_detail n) 5 ≡ true
opens_some n h = lt-ltb 0 n (omega arith)

opens_none : (n : ℕ) → n ≡ 0 → may_open (a_detail n) 5 ≡ false
opens_none n h = rw (h)

one_back : (n : ℕ) → (n ≡ 0 → ⊥) → n ≡ suc (n - 1)
one_back n h = omega arith

module _ (n : ℕ) (text : List ℕ) (at : ℕ) (o : Object) (es : List (Entry Value)) (s : State) where
  pub sequence_deep : n ≡ 0 → type_slot o ≤ length text → Refuses text (by_kind (a_detail n) 5 text at o es s) 14 (type_slot o)
  sequence_deep e h =
      record { outcome = ap (λ b. guard b 14 (type_place text o) (body (a_detail n) 5 (bytes "t" ∷ []) (drop at text) es s)) (opens_none n e); inside = h }

  pub sequence_body : (n ≡ 0 → ⊥) → {p : Place} → p ≡ drop at text → by_kind (a_detail n) 5 text at o es s ≡ body (a_detail (suc (n - 1))) 5 (bytes "t" ∷ []) p es s
  sequence_body h {p} e =
      ap (λ b. guard b 14 (type_place text o) (body (a_detail n) 5 (bytes "t" ∷ []) (drop at text) es s)) (opens_some n h)
      ∙ ap (λ q. body (a_detail n) 5 (bytes "t" ∷ []) q es s) (sym e)
      ∙ ap (λ (k : ℕ). body (a_detail k) 5 (bytes "t" ∷ []) p es s) (one_back n h)

-- Objects read one behind the other.
pub objects_join : (text : List ℕ) (at mid end : ℕ) (a : P.SequenceObject) (as' : List P.SequenceObject) (c c' : List ℕ) → ObjectIn text mid a at c → ObjectsIn text end as' mid c'
    → ObjectsIn text end (a ∷ as') at (c ++ c')
unfolding DetailRows detail_strings
objects_join text at mid end a as' c c' h k = (
  (c, c', refl, h.0, subst (λ (n : ℕ). ObjectsRows (P.ordered as') text n c') h.1 k.0),
  omega (arith, h.1, k.1, ap length (object_append a (objects_strings (P.ordered as') [])), length-append (object_strings a []) (objects_strings (P.ordered as') [])),
)

pub no_objects : (text : List ℕ) (at : ℕ) → ObjectsIn text at [] at []
unfolding DetailRows detail_strings
no_objects text at = (refl, omega arith)

-- An object of the list, as it is found and visited.
module _ (text : List ℕ) (left e : ℕ) where
  pub object_refused : (r : Refusal) → ObjectAt text e (Err r) → (k : State) (t : Tree) → At text e t → Refuses text ((value_of t).read (an_object (a_sequence_object left)) k) (number_of r.0) r.1
  object_refused r finds k t a = finds t a (a_sequence_object left) k

  module _ {at : ℕ} (finds : ObjectAt text e (Ok at)) (terms : Terms) (u : Used) (now after : List ℕ) {k : State} (tells : Tells terms text u k) where
    pub object_did : {v : Used} → VisitsObject terms (a_sequence_object left) (ObjectIn text) text at u now (Ok v) after
        → (t : Tree) → At text e t → Did terms text u now (ObjectIn text) ((value_of t).read (an_object (a_sequence_object left)) k) v after
    object_did visits t a = let x = finds t a in did_as (x.outcome (a_sequence_object left) k) (visits k tells x.place x.inner x.stands)

    pub object_stopped : (r : Refusal) → VisitsObject terms (a_sequence_object left) (ObjectIn text) text at u now (Err r) after
        → (t : Tree) → At text e t → Refuses text ((value_of t).read (an_object (a_sequence_object left)) k) (number_of r.0) r.1
    object_stopped r visits t a = let x = finds t a in refuses_as (x.outcome (a_sequence_object left) k) (visits k tells x.place x.inner x.stands).0

-- 15, where no record is left.
pub full : {n : ℕ} {b : Bool} → b ≡ leb 64 n → b ≡ true → 64 ≤ n
full {n} e h = leb-true 64 n (sym e ∙ h)

pub not_full : {n : ℕ} {b : Bool} → b ≡ leb 64 n → b ≡ false → n < 64
not_full {n} e h = leb-false 64 n (sym e ∙ h)
