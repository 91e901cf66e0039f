-- The head's rows from its detail on: the detail, then the meal code.
use Prim.Native.Nat.{ℕ, ◌+◌, ◌*◌, ◌≤◌, ◌<◌, ◌%◌}
use mathlib.Core.Path.{◌≡◌, refl, sym, ap, subst, ◌∙◌}
use mathlib.Core.List.{List, ◌++◌, append_assoc}
use mathlib.Core.Bool.{Bool, false}
use mathlib.Core.Option
use mathlib.Core.Option.{Option}
use native.Mathlib.Nat.{mod-eq_of_lt}
use native.Mathlib.Omega.{arith}
use lib.Dec.{eqb}
use lib.ListN.{length, drop, take}
use lib.Seq.{sets, length-sets, sets-eq, length-take-le, take_at, drop_at, take-append_seam}
use Rattle.std.specs.Prelude.{Option as Maybe, Result, Ok, Err}
use Rattle.document.specs.Bytes.{bytes}
use Rattle.document.specs.Posology as P
use Rattle.document.specs.Lookup.{Entry, find}
use Rattle.document.specs.Schema.{a_number, integer, a_detail, an_object, may}
use Rattle.document.specs.Table.{date_cell}
use Rattle.document.specs.Visit.{State, Outcome, Value, needed, optional, fields}
use Rattle.document.specs.At.{Slot}
use Rattle.document.specs.Told.{Tells, Still, Hands}
use Rattle.document.specs.Refusals.{number_of}
use Rattle.document.specs.declared.refusal.Refusal.{Refusal}
use Rattle.document.specs.declared.table.Date.{Date}
use Rattle.document.specs.declared.terms.Terms.{Terms}
use Rattle.document.specs.declared.terms.Used.{Used}
use Rattle.document.proofs.Taken.{tells_few}
use Rattle.document.specs.Words.{width, words_at_most}
use Rattle.read_names.specs.Names.{Once, name_at, names, place_of}
use Rattle.read_names.specs.declared.names.Name.TheVariants as N
use Rattle.read_names.specs.declared.slots.Object.{Object}
use Rattle.read_fields.specs.Fields.{Refuses, CountsOptional}
use Rattle.read_fields.specs.declared.field.Counted.{Counted}
use Rattle.read_type.proofs.Typed.{slot_of}
use Rattle.read_records.specs.declared.read.Piece.{Piece}
use Rattle.read_records.specs.declared.read.HeadRead.{HeadRead}
use Rattle.read_dosages.specs.Visiting.{Did, VisitsNeeded}
use Rattle.read_dosages.proofs.Bodies.{Comes, took, stopped, took_given, given_hands, given_stopped}
use Rattle.read_details.specs.Rows.{DetailAt}
use Rattle.read_details.proofs.Sequences.{detail_length}
use Rattle.read_head.specs.Heads.{HeadReads}
use Rattle.read_head.specs.HeadRows.{string_rows, po_rows, Begun, ReadsStrings}
use Rattle.read_head.proofs.Meals.{given_most}

pub head_as : {terms : Terms} {text : List ℕ} {u : Used} {before : List ℕ} {o q : Outcome P.Posology} {h : Result HeadRead Refusal} {after : List ℕ}
    → o ≡ q → HeadReads terms text u before q h after → HeadReads terms text u before o h after
head_as {terms} {text} {u} {before} {h = h} {after = after} e r = subst (λ (x : Outcome P.Posology). HeadReads terms text u before x h after) (sym e) r

-- Words stored behind others: these are as they were, and those stand there.
module _ (before : List ℕ) {after : List ℕ} (at : ℕ) (chunk : List ℕ) (fits : at + length chunk ≤ length before) (e : after ≡ sets before at chunk) where
  in_front_lem : length (take at before) ≡ at
  in_front_lem = length-take-le at before (omega (arith, fits))

  after_is : after ≡ take at before ++ (chunk ++ drop (at + length chunk) before)
  after_is = e ∙ sets-eq chunk before at fits ∙ append_assoc (take at before) chunk (drop (at + length chunk) before)

  pub kept_front : take at after ≡ take at before
  kept_front = ap (λ (l : List ℕ). take at l) after_is ∙ take_at (take at before) (chunk ++ drop (at + length chunk) before) at in_front_lem

  pub stands_behind : take (length chunk) (drop at after) ≡ chunk
  stands_behind =
      ap (λ (l : List ℕ). take (length chunk) (drop at l)) after_is
      ∙ ap (λ (l : List ℕ). take (length chunk) l) (drop_at (take at before) (chunk ++ drop (at + length chunk) before) at in_front_lem)
      ∙ take-append_seam chunk (drop (at + length chunk) before)

-- By the results of what the code reads in turn.
module _ {terms : Terms} {text : List ℕ} (at : ℕ) {u : Used} (before after : List ℕ) {es : List (Entry Value)} {o : Object} (once : Once text es o)
    (x y : Option P.Date) (z : Option Bool) {s : State} (tells : Tells terms text u s) {v : Maybe ℕ} (asked : v ≡ place_of o.slots N.Po) where
  abbrev b : Bool
  b = eqb terms.purpose 3

  abbrev all : Outcome P.Posology
  all = fields (po_rows b x y z) (drop at text) es s

  abbrev po : Outcome P.Detail
  po = needed (an_object (a_detail 3)) (drop at text) (find (bytes "po") es) s

  abbrev begins : Comes terms text all (drop at text) es (po_rows b x y z) u
  begins = record { state = s; outcome = refl; tells = tells }

  po_slot : Slot text v (find (bytes "po") es)
  unfolding name_at names
  po_slot = slot_of N.Po once asked

  pub po_stops : (r : Refusal) → VisitsNeeded terms (a_detail 3) (DetailAt text) text at v u before (Err r) after → Refuses text all (number_of r.0) r.1 × (length after ≡ length before)
  po_stops r visits = let h = visits s tells (find (bytes "po") es) po_slot in (stopped begins h.0, h.1)

  module _ {w : Used} (visits : VisitsNeeded terms (a_detail 3) (DetailAt text) text at v u before (Ok w) after) {v' : Maybe ℕ} (asked' : v' ≡ place_of o.slots N.RelMeal) where
    did : Did terms text u before (DetailAt text) po w after
    did = visits s tells (find (bytes "po") es) po_slot

    abbrev hands : Hands terms text po w λ d. DetailAt text w.text d u.text did.chunk
    hands = record { value = did.value; state = did.state; outcome = did.outcome; tells = did.tells; holds = did.row }

    behind_po : Comes terms text all (drop at text) es (may "relMeal" (a_number (integer 1 6)) λ m. string_rows x y z did.value m b) w
    behind_po = took begins hands

    meal_slot : Slot text v' (find (bytes "relMeal") es)
    unfolding name_at names
    meal_slot = slot_of N.RelMeal once asked'

    pub meal_stops : (r : Refusal) → CountsOptional text v' (integer 1 6) 0 w (Err r) → Refuses text all (number_of r.0) r.1
    meal_stops r reads = given_stopped behind_po (λ m. Option.get_or m 0) r (reads (find (bytes "relMeal") es) meal_slot (drop at text))

    module _ (c : Counted) (reads : CountsOptional text v' (integer 1 6) 0 w (Ok c)) (still : Still w c.used) where
      meal : Hands terms text (optional (a_number (integer 1 6)) (drop at text) (find (bytes "relMeal") es) behind_po.state) c.used λ m. Option.get_or m 0 ≡ c.value
      meal = given_hands behind_po (λ m. Option.get_or m 0) c (reads (find (bytes "relMeal") es) meal_slot (drop at text))

      behind_meal : Comes terms text all (drop at text) es (string_rows x y z did.value meal.value b) c.used
      behind_meal = took_given behind_po meal

      small : c.value < 256
      small = omega (arith, meal.holds, given_most 1 6 text v' (find (bytes "relMeal") es) meal_slot (drop at text) behind_po.state meal.state meal.value meal.outcome)

      -- What the code hands on.
      module _ {from to : Date} {reserve : Bool} (ex : date_cell x ≡ from) (ey : date_cell y ≡ to) (ez : Option.get_or z false ≡ reserve) (whole : length before ≡ words_at_most) (piece : Piece) where
        abbrev handed : HeadRead
        handed = record { from = from; to = to; reserve = reserve; meal = c.value % 256; unit = piece; instructions = piece; roa = piece; moa = piece; used = c.used }

        begun : Begun u text x y z did.value meal.value handed before after
        begun =
            let few : w.records ≤ 64 = tells_few did.tells in
            let fits : width * u.records + length did.chunk ≤ length before = omega (arith, did.size, few, whole) in
            record {
              chunk = did.chunk;
              rows = did.row.0;
              written = stands_behind before (width * u.records) did.chunk fits did.words;
              kept = kept_front before (width * u.records) did.chunk fits did.words;
              count = omega (arith, did.size, detail_length did.value text u.text did.chunk did.row.0, still.records);
              size = omega (arith, did.size, still.records);
              few = omega (arith, few, still.records);
              from = ex;
              to = ey;
              reserve = ez;
              meal = meal.holds ∙ sym (mod-eq_of_lt small);
              taken = still.text ∙ did.row.1;
              whole = ap length did.words ∙ length-sets before (width * u.records) did.chunk ∙ whole;
            }

        pub detail_read : (h : Result HeadRead Refusal) → ReadsStrings terms text at o handed h → HeadReads terms text u before all h after
        detail_read h strings =
            head_as behind_meal.outcome (strings es once u x y z did.value meal.value before after begun behind_meal.state behind_meal.tells)
