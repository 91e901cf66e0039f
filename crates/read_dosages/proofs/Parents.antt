-- Timed dosages under their parents: how one is opened.
use Prim.Native.Nat.{ℕ, ◌≤◌}
use mathlib.Core.Path.{◌≡◌, refl, ap, ◌∙◌}
use mathlib.Core.List.{List, [], ◌∷◌}
use mathlib.Core.Bool.{true, false}
use lib.ListN.{length, drop}
use Rattle.std.specs.Prelude.{Option, Result, Ok, Err}
use Rattle.document.specs.Bytes.{bytes}
use Rattle.document.specs.Date.{among}
use Rattle.document.specs.Lookup.{Entry, Found}
use Rattle.document.specs.Schema.{a_timed, an_object}
use Rattle.document.specs.Visit.{State, needed, members, entries_of, Value as Waits}
use Rattle.document.specs.At.{Slot}
use Rattle.document.specs.Told.{Tells, Still}
use Rattle.document.specs.Refusals.{number_of}
use Rattle.document.specs.declared.refusal.Refusal.{Refusal}
use Rattle.document.specs.declared.terms.Terms.{Terms}
use Rattle.document.specs.declared.terms.Used.{Used}
use Rattle.read_fields.specs.Fields.{Refuses, ObjectNeeded}
use Rattle.read_fields.proofs.Refusals.{refuses_as}
use Rattle.read_records.specs.Under.{types_under}
use Rattle.read_type.specs.Opens.{Typed, type_slot}
use Rattle.read_type.specs.declared.opened.Opened.{Opened}
use Rattle.read_dosages.specs.Visiting.{Under, OpensTimed, TimedRows, VisitsTyped, VisitsNeeded}
use Rattle.read_dosages.specs.Kept.{Stands}
use Rattle.read_dosages.proofs.Bodies.{guard_fails, body_full, typed_as, under_as, object_at}
use Rattle.read_dosages.proofs.Rowed.{visited_as, visited_still}

pub stands_still : {parent : ℕ} {u : Used} {kind : ℕ} {v : Used} → Stands parent u kind v → Still u v
stands_still s = record { records = s.records; text = s.text }

module _ {text : List ℕ} {at : ℕ} {u : Used} {es : List (Entry Waits)} {o : Opened} (parent : ℕ) (x : Typed 6 text at u es o) where
  -- What is left to be read is its body.
  pub under_opened : among o.kind (types_under parent) ≡ true → Under parent text at u es o
  under_opened stand = record { settled = x.settled; opens = λ terms s tells. typed_as x (a_timed (types_under parent)) o.kind tells refl refl stand refl refl }

  module _ {terms : Terms} {s : State} (tells : Tells terms text u s) where
    -- 10
    pub stands_nowhere : among o.kind (types_under parent) ≡ false → {q : ℕ} → q ≡ type_slot o.object → Refuses text (members (a_timed (types_under parent)) (drop at text) es s) 10 q
    stands_nowhere h e =
        let g = x.opens (a_timed (types_under parent)) refl terms s tells in
        rw e (record { outcome = g.outcome ∙ guard_fails 10 (drop (type_slot o.object) text) _ h; inside = x.inside })

    -- 15
    pub stands_full : among o.kind (types_under parent) ≡ true → 64 ≤ o.used.records → at ≤ length text → Refuses text (members (a_timed (types_under parent)) (drop at text) es s) 15 at
    stands_full stand full inside =
        let g = typed_as x (a_timed (types_under parent)) o.kind tells refl refl stand refl refl in
        let r = body_full (a_timed (types_under parent)) o.kind (bytes "t" ∷ []) (drop at text) es g.tells refl full at refl inside in
        record { outcome = g.outcome ∙ r.outcome; inside = r.inside }

-- The timed dosage that must stand in a slot: found, opened, and visited as its body.
module _ (terms : Terms) (parent : ℕ) (text : List ℕ) (brace : ℕ) {slot : Option ℕ} {at : ℕ} (u : Used) (finds : ObjectNeeded text brace slot (Ok at)) where
  pub timed_refused : (r : Refusal) → OpensTimed parent text at u (Err r) → (s : State) → Tells terms text u s → (x : Found Waits) → Slot text slot x
      → Refuses text (needed (an_object (a_timed (types_under parent))) (drop brace text) x s) (number_of r.0) r.1
  timed_refused r opens s tells x sl =
      let child = finds x sl in
      refuses_as
      (child.outcome (a_timed (types_under parent)) s ∙ ap (λ q. members (a_timed (types_under parent)) q (entries_of child.inner) s) (object_at child.stands))
      (opens child.place child.inner child.stands terms s tells)

  pub timed_visited : {o : Opened} → OpensTimed parent text at u (Ok o) → Stands parent u o.kind o.used → {t : ℕ} → o.kind ≡ t → (before : List ℕ) (y : Result Used Refusal) (after : List ℕ)
      → VisitsTyped terms (a_timed (types_under parent)) t TimedRows text at o.object o.used before y after → VisitsNeeded terms (a_timed (types_under parent)) TimedRows text brace slot u before y after
  timed_visited {o} opens there {t} same before y after visits s tells x sl =
      let child = finds x sl in
      let h = opens child.place child.inner child.stands in
      let g = under_as h t tells same (object_at child.stands) in
      visited_still terms text before TimedRows (needed (an_object (a_timed (types_under parent))) (drop brace text) x s) y after (stands_still there)
      (visited_as terms text o.used before TimedRows y after (child.outcome (a_timed (types_under parent)) s ∙ g.outcome) (visits g.state g.tells child.place child.inner child.stands h.settled))
