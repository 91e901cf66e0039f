-- An object as far as its type: what is left of reading it, or its refusal.
use Rattle.std.specs.Prelude.{ℕ, ◌≤◌, ◌≡◌, List, [], ◌∷◌, length, drop, Option, Some, None, Result, Ok, Err, IfOk}
use Rattle.std.proofs.Math.Option.{Option as Maybe, none, some}
use Rattle.json_grammar.specs.Tree.{Place, object, Members}
use Rattle.document.specs.Bytes.{bytes}
use Rattle.document.specs.Lookup.{Entry}
use Rattle.document.specs.Schema.{Family, types_of, may_stand, may_open}
use Rattle.document.specs.Visit.{State, Outcome, guard, Value, entries_of, members, body}
use Rattle.document.specs.At.{At}
use Rattle.document.specs.Told.{Tells, Still, GoesOn}
use Rattle.document.specs.declared.terms.Terms.{Terms}
use Rattle.document.specs.declared.terms.Used.{Used}
use Rattle.read_names.specs.Names.{Once, place_of}
use Rattle.document.specs.declared.refusal.Reason.TheVariants.{UnknownName}
use Rattle.read_fields.specs.Fields.{Refuses}
use Rattle.read_names.specs.declared.names.Name.TheVariants.{T}
use Rattle.read_names.specs.declared.slots.Object.{Object}
use Rattle.document.specs.Refusals.{number_of}
use Rattle.document.specs.declared.refusal.Refusal.{Refusal}
use Rattle.read_type.specs.declared.opened.Opened.{Opened}

-- The place of t's value, 0 where there is none.
abbrev pub slot_number : Option ℕ → ℕ
slot_number None = 0
slot_number (Some v) = v

abbrev pub type_slot : Object → ℕ
type_slot o = slot_number (place_of o.slots T)

abbrev pub type_place : List ℕ → Object → Place
type_place text o = drop (type_slot o) text

-- Behind the type: 10, 14, then the body.
abbrev pub by_kind : (f : Family) → ℕ → List ℕ → ℕ → Object → List (Entry Value) → State → Outcome (Rattle.document.specs.Schema.OfFamily f)
by_kind f kind text at o es s =
    guard (may_stand f kind) 10 (type_place text o)
    (guard (may_open f kind) 14 (type_place text o)
    (body f kind (bytes "t" ∷ []) (drop at text) es s))

-- Of a family with so many types.
pub record Typed (types : ℕ) (text : List ℕ) (at : ℕ) (u : Used) (es : List (Entry Value)) (o : Opened) : Type 0 where
  pub settled : Once text es o.object
  pub least : 1 ≤ o.kind
  pub most : o.kind ≤ types
  pub inside : type_slot o.object ≤ length text
  pub opens : (f : Family) → types_of f ≡ types → (terms : Terms) (s : State) → Tells terms text u s
      → GoesOn terms text (members f (drop at text) es s) o.used (by_kind f o.kind text at o.object es)

abbrev pub Opens : ℕ → List ℕ → ℕ → Used → List (Entry Value) → Result Opened Refusal → Type 0
Opens types text at u es (Ok o) = Typed types text at u es o
Opens types text at u es (Err r) =
    (f : Family) → types_of f ≡ types → (terms : Terms) (s : State) → Tells terms text u s → Refuses text (members f (drop at text) es s) (number_of r.0) r.1

abbrev pub OpensTyped : ℕ → List ℕ → ℕ → Used → Result Opened Refusal → Type 0
OpensTyped types text at u r = (p : Place) (ms : Members) → At text at (object p ms) → Opens types text at u (entries_of ms) r

-- The type takes no record and no text byte.
abbrev pub OpensStill : Used → Result Opened Refusal → Type 0
OpensStill u r = IfOk r λ o. Still u o.used

-- The same without a type. A name that stands twice is refused in every family.
pub record Plain (text : List ℕ) (at : ℕ) (es : List (Entry Value)) (o : Object) : Type 0 where
  pub settled : Once text es o
  pub opens : (f : Family) → types_of f ≡ 0 → (s : State) → members f (drop at text) es s ≡ body f 0 [] (drop at text) es s

abbrev pub OpensAs : List ℕ → ℕ → List (Entry Value) → Result Object Refusal → Type 0
OpensAs text at es (Ok o) = Plain text at es o
OpensAs text at es (Err r) = (f : Family) (s : State) → Refuses text (members f (drop at text) es s) (number_of r.0) r.1

abbrev pub OpensPlain : List ℕ → ℕ → Result Object Refusal → Type 0
OpensPlain text at r = (p : Place) (ms : Members) → At text at (object p ms) → OpensAs text at (entries_of ms) r

-- Whether a name is found that is none of the object's: 5.
abbrev pub KnowsAll : List ℕ → Maybe Place → Result (Unit {0}) Refusal → Type 0
KnowsAll text found (Ok u) = found ≡ none
KnowsAll text found (Err r) = (r.0 ≡ UnknownName) × (found ≡ some (drop r.1 text)) × (r.1 ≤ length text)
