-- An object opened: no name stands twice, and its type is read.
use Prim.Native.Nat.{ℕ, ◌<◌, ◌≤◌}
use mathlib.Core.Path.{◌≡◌, ap, subst, ◌∙◌}
use mathlib.Core.List.{List, [], ◌∷◌}
use mathlib.Core.Bool.{Bool, true, false}
use mathlib.Core.Option.{some}
use lib.ListN.{length, drop}
use lib.Dec.{eqb}
use native.Mathlib.Omega.{arith}
use borrow.Author.Tests.{eq-eqb, ne_eqb}
use Rattle.std.specs.Prelude.{Option, Ok, Err}
use Rattle.json_grammar.specs.Tree.{Place}
use Rattle.document.specs.Bytes.{bytes}
use Rattle.document.specs.Lookup.{Entry, find, repeated}
use Rattle.document.specs.Schema.{Family, OfFamily, types_of, may_stand, may_open, a_number, integer}
use Rattle.document.specs.Visit.{State, Outcome, guard, unless, Value, body, by_type, typed, members, place_of}
use Rattle.document.specs.At.{Slot}
use Rattle.document.specs.declared.refusal.Refusal.{Refusal}
use Rattle.document.specs.declared.terms.Used.{Used}
use Rattle.document.proofs.Taken.{hands_bind, goes_as, goes_to}
use Rattle.read_names.specs.Names.{Once, name_at, names}
use Rattle.read_names.specs.Names as N
use Rattle.read_names.specs.declared.names.Name.TheVariants.{T}
use Rattle.read_names.specs.declared.slots.Object.{Object}
use Rattle.read_fields.specs.Fields.{Refuses, CountsNeeded}
use Rattle.read_fields.specs.declared.field.Counted.{Counted}
use Rattle.read_fields.proofs.Refusals.{refuses_as, refuses_bind}
use Rattle.read_type.specs.Opens.{Opens, Typed, Plain}
use Rattle.read_type.proofs.Typed.{slot_of, slot_place, slot_inside}

-- A name stands twice.
pub twice_refused : {text : List ℕ} (es : List (Entry Value)) (at : ℕ) {q : ℕ} → (repeated [] es ≡ some (drop q text)) × (q ≤ length text) → (f : Family) (l : State) → Refuses text (members f (drop at text) es l) 6 q
twice_refused {text} es at again f l =
    record { outcome = ap (λ x. unless x 6 (by_type (eqb (types_of f) 0) f (drop at text) es l)) again.0; inside = again.1 }

-- Behind a type that was read from a slot.
abbrev behind : (f : Family) → Place → List (Entry Value) → Place → ℕ → State → Outcome (OfFamily f)
behind f p es q t l = guard (may_stand f t) 10 q (guard (may_open f t) 14 q (body f t (bytes "t" ∷ []) p es l))

-- None does.
module _ {text : List ℕ} {es : List (Entry Value)} (at : ℕ) {o : Object} (once : Once text es o) where
  opened_as : (f : Family) (l : State) (b : Bool) → eqb (types_of f) 0 ≡ b → members f (drop at text) es l ≡ by_type b f (drop at text) es l
  opened_as f l b e =
      ap (λ x. unless x 6 (by_type (eqb (types_of f) 0) f (drop at text) es l)) once.once
      ∙ ap (λ x. by_type x f (drop at text) es l) e

  pub plain_opened : Plain text at es o
  plain_opened = record { settled = once; opens = λ f t l. opened_as f l true (eq-eqb (types_of f) 0 t) }

  module _ (types : ℕ) (some : 0 < types) (u : Used) {v : Option ℕ} (asked : v ≡ N.place_of o.slots T) where
    as_typed : (f : Family) → types_of f ≡ types → (l : State) → members f (drop at text) es l ≡ typed types f (drop at text) es l
    as_typed f t l = opened_as f l false (ne_eqb (types_of f) 0 (λ z. omega arith)) ∙ ap (λ n. typed n f (drop at text) es l) t

    t_slot : Slot text v (find (bytes "t") es)
    unfolding name_at names
    t_slot = slot_of T once asked

    pub typed_refused : (r : Refusal) → CountsNeeded text at v (integer 1 types) u (Err r) → Opens types text at u es (Err r)
    typed_refused r reads f t terms l told =
        refuses_as (as_typed f t l)
        (refuses_bind (λ n l'. behind f (drop at text) es (place_of (drop at text) (find (bytes "t") es)) n l') (reads _ t_slot terms l told))

    pub typed_opened : (c : Counted) → CountsNeeded text at v (integer 1 types) u (Ok c) → (1 ≤ c.value) × (c.value ≤ types) → Typed types text at u es (record { kind = c.value; used = c.used; object = o })
    typed_opened c reads within =
        let same : Slot text (N.place_of o.slots T) (find (bytes "t") es) = subst (λ (w : Option ℕ). Slot text w (find (bytes "t") es)) asked t_slot in
        record {
          settled = once;
          least = within.0;
          most = within.1;
          inside = slot_inside same;
          opens = λ f e terms l told.
              let read = reads _ t_slot terms l told in
              let here = place_of (drop at text) (find (bytes "t") es) in
              goes_as (as_typed f e l)
              (goes_to
              (λ l'.
              ap (λ n. behind f (drop at text) es here n l') read.holds
              ∙ ap (λ q. behind f (drop at text) es q c.value l') (slot_place (a_number (integer 1 types)) (drop at text) l same read.outcome))
              (hands_bind read (behind f (drop at text) es here)));
        }
