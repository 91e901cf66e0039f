-- The head's rows from its strings on, as the code reads them one after another.
use Prim.Native.Nat.{ℕ, ◌+◌, ◌≤◌}
use Prim.Native.String.{String}
use mathlib.Core.Path.{◌≡◌, ap, subst, ◌∙◌}
use mathlib.Core.List.{List, []}
use mathlib.Core.Bool.{Bool, true, false}
use mathlib.Core.Option
use mathlib.Core.Option.{Option}
use native.Mathlib.Omega.{arith}
use lib.Dec.{eqb}
use lib.ListN.{length, drop}
use Rattle.std.specs.Prelude.{Option as Maybe, Ok, Err}
use Rattle.json_grammar.specs.Tree.{Place}
use Rattle.document.specs.Bytes.{bytes}
use Rattle.document.specs.Moments.{in_order}
use Rattle.document.specs.Posology as P
use Rattle.document.specs.Lookup.{Entry, find}
use Rattle.document.specs.Schema.{Rows, may, gives_if, a_text}
use Rattle.document.specs.Table.{length_of}
use Rattle.document.specs.Valid.{detail_strings}
use Rattle.document.specs.Visit.{State, Outcome, Value, bind, optional, fields}
use Rattle.document.specs.At.{Slot}
use Rattle.document.specs.Told.{Tells, Hands}
use Rattle.document.specs.Refusals.{number_of}
use Rattle.document.specs.declared.refusal.Refusal.{Refusal}
use Rattle.document.specs.declared.terms.Terms.{Terms}
use Rattle.document.specs.declared.terms.Used.{Used}
use Rattle.document.proofs.Strings.{strings_size}
use Rattle.read_names.specs.Names.{Once, name_at, names, place_of}
use Rattle.read_names.specs.declared.names.Name.TheVariants as N
use Rattle.read_names.specs.declared.slots.Object.{Object}
use Rattle.read_fields.specs.Fields.{Refuses, StringIs, ReadsOptionalText, TakesText}
use Rattle.read_fields.specs.declared.field.Worded.{Worded}
use Rattle.read_fields.proofs.Refusals.{refuses_as, refuses_bind}
use Rattle.read_type.proofs.Typed.{slot_of}
use Rattle.read_records.specs.declared.read.Piece.{Piece}
use Rattle.read_records.specs.declared.read.HeadRead.{HeadRead}
use Rattle.read_dosages.proofs.Bodies.{Comes, took_given, stopped_given, guard_holds, guard_fails}
use Rattle.read_details.specs.Holding.{PieceOf}
use Rattle.read_head.specs.Heads.{HeadReads}
use Rattle.read_head.specs.HeadRows.{moa_rows, roa_rows, instr_rows, string_rows, unit_read, ReadsUnit, piece_at, Begun}
use Rattle.read_head.proofs.Pieces.{piece_of, length_of_lem, unit_row}

-- A string by its slot.
module _ {terms : Terms} {text : List ℕ} {es : List (Entry Value)} {p : Place} {name : String} {o : Outcome P.Posology} {k : Option (List ℕ) → Rows P.Posology} {u : Used}
    (g : Comes terms text o p es (may name a_text k) u) {v : Maybe ℕ} (slot : Slot text v (find (bytes name) es)) where
  text_hands : (w : Worded) → ReadsOptionalText terms text v u (Ok w) → Hands terms text (optional a_text p (find (bytes name) es) g.state) w.used λ x. StringIs text w.quote w.len x
  text_hands w reads = reads (find (bytes name) es) slot p g.state g.tells

  text_stops : (r : Refusal) → ReadsOptionalText terms text v u (Err r) → Refuses text o (number_of r.0) r.1
  text_stops r reads = stopped_given g (reads (find (bytes name) es) slot p g.state g.tells)

-- One string after another, the unit first.
module _ {terms : Terms} {text : List ℕ} (at : ℕ) {h : HeadRead} {es : List (Entry Value)} {o : Object} (once : Once text es o)
    {u : Used} {from to : Option P.Date} {reserve : Option Bool} {po : P.Detail} {meal : Option ℕ} {before words : List ℕ} (begun : Begun u text from to reserve po meal h before words)
    {s : State} (tells : Tells terms text h.used s) {v₁ : Maybe ℕ} (asked₁ : v₁ ≡ place_of o.slots N.Unit) where
  abbrev b : Bool
  b = eqb terms.purpose 3

  abbrev all : Outcome P.Posology
  all = fields (string_rows from to reserve po meal b) (drop at text) es s

  unit_slot : Slot text v₁ (find (bytes "unit") es)
  unfolding name_at names
  unit_slot = slot_of N.Unit once asked₁

  all_is : all ≡ bind (unit_read b (drop at text) (find (bytes "unit") es) s) (λ x s'. fields (instr_rows from to reserve po meal x) (drop at text) es s')
  all_is = unit_row b (λ x. instr_rows from to reserve po meal x) (drop at text) es s

  pub unit_stops : (r : Refusal) → ReadsUnit terms text at v₁ h.used (Err r) → Refuses text all (number_of r.0) r.1
  unit_stops r reads =
      refuses_as all_is (refuses_bind (λ x s'. fields (instr_rows from to reserve po meal x) (drop at text) es s') (reads (find (bytes "unit") es) unit_slot s tells))

  module _ (w₁ : Worded) (reads₁ : ReadsUnit terms text at v₁ h.used (Ok w₁)) {v₂ : Maybe ℕ} (asked₂ : v₂ ≡ place_of o.slots N.ApplInstr) where
    unit : Hands terms text (unit_read b (drop at text) (find (bytes "unit") es) s) w₁.used λ x. StringIs text w₁.quote w₁.len x
    unit = reads₁ (find (bytes "unit") es) unit_slot s tells

    behind_unit : Comes terms text all (drop at text) es (instr_rows from to reserve po meal unit.value) w₁.used
    behind_unit =
        record {
          state = unit.state;
          outcome = all_is ∙ ap (λ q. bind q λ x s'. fields (instr_rows from to reserve po meal x) (drop at text) es s') unit.outcome;
          tells = unit.tells;
        }

    instr_slot : Slot text v₂ (find (bytes "applInstr") es)
    unfolding name_at names
    instr_slot = slot_of N.ApplInstr once asked₂

    pub instr_stops : (r : Refusal) → ReadsOptionalText terms text v₂ w₁.used (Err r) → Refuses text all (number_of r.0) r.1
    instr_stops r reads = text_stops behind_unit instr_slot r reads

    module _ (w₂ : Worded) (reads₂ : ReadsOptionalText terms text v₂ w₁.used (Ok w₂)) {v₃ : Maybe ℕ} (asked₃ : v₃ ≡ place_of o.slots N.Roa) where
      instr : Hands terms text (optional a_text (drop at text) (find (bytes "applInstr") es) behind_unit.state) w₂.used λ x. StringIs text w₂.quote w₂.len x
      instr = text_hands behind_unit instr_slot w₂ reads₂

      behind_instr : Comes terms text all (drop at text) es (roa_rows from to reserve po meal unit.value instr.value) w₂.used
      behind_instr = took_given behind_unit instr

      roa_slot : Slot text v₃ (find (bytes "roa") es)
      unfolding name_at names
      roa_slot = slot_of N.Roa once asked₃

      pub roa_stops : (r : Refusal) → ReadsOptionalText terms text v₃ w₂.used (Err r) → Refuses text all (number_of r.0) r.1
      roa_stops r reads = text_stops behind_instr roa_slot r reads

      module _ (w₃ : Worded) (reads₃ : ReadsOptionalText terms text v₃ w₂.used (Ok w₃)) {v₄ : Maybe ℕ} (asked₄ : v₄ ≡ place_of o.slots N.Moa) where
        roa : Hands terms text (optional a_text (drop at text) (find (bytes "roa") es) behind_instr.state) w₃.used λ x. StringIs text w₃.quote w₃.len x
        roa = text_hands behind_instr roa_slot w₃ reads₃

        behind_roa : Comes terms text all (drop at text) es (moa_rows from to reserve po meal unit.value instr.value roa.value) w₃.used
        behind_roa = took_given behind_instr roa

        moa_slot : Slot text v₄ (find (bytes "moa") es)
        unfolding name_at names
        moa_slot = slot_of N.Moa once asked₄

        pub moa_stops : (r : Refusal) → ReadsOptionalText terms text v₄ w₃.used (Err r) → Refuses text all (number_of r.0) r.1
        moa_stops r reads = text_stops behind_roa moa_slot r reads

        module _ (w₄ : Worded) (reads₄ : ReadsOptionalText terms text v₄ w₃.used (Ok w₄)) where
          moa : Hands terms text (optional a_text (drop at text) (find (bytes "moa") es) behind_roa.state) w₄.used λ x. StringIs text w₄.quote w₄.len x
          moa = text_hands behind_roa moa_slot w₄ reads₄

          abbrev posology : P.Posology
          posology =
              record {
                dt_from = from;
                dt_to = to;
                in_res = Option.get_or reserve false;
                po = po;
                rel_meal = meal;
                unit = unit.value;
                appl_instr = instr.value;
                roa = roa.value;
                moa = moa.value;
              }

          behind_moa : Comes terms text all (drop at text) es (gives_if (in_order from to) posology) w₄.used
          behind_moa = took_given behind_roa moa

          pub out_of_order : in_order from to ≡ false → at ≤ length text → Refuses text all 12 at
          out_of_order e i = record { outcome = behind_moa.outcome ∙ guard_fails 12 (drop at text) _ e; inside = i }

          abbrev read : Piece → Piece → Piece → Piece → HeadRead
          read x i r m =
              record { from = h.from; to = h.to; reserve = h.reserve; meal = h.meal; unit = x; instructions = i; roa = r; moa = m; used = w₄.used }

          pub strings_read : {x i r m : Piece} → x ≡ piece_at w₁.quote h.used.text w₁.len → i ≡ piece_at w₂.quote w₁.used.text w₂.len → r ≡ piece_at w₃.quote w₂.used.text w₃.len → m ≡ piece_at w₄.quote w₃.used.text w₄.len
              → TakesText terms h.used (Ok w₁) → TakesText terms w₁.used (Ok w₂) → TakesText terms w₂.used (Ok w₃) → TakesText terms w₃.used (Ok w₄)
              → h.used.text ≤ terms.room → in_order from to ≡ true → HeadReads terms text u before all (Ok (read x i r m)) words
          strings_read {x} {i} {r} {m} ex ei er em takes₁ takes₂ takes₃ takes₄ fits ordered =
              let l₁ = takes₁ fits in
              let l₂ = takes₂ l₁.fits in
              let l₃ = takes₃ l₂.fits in
              let l₄ = takes₄ l₃.fits in
              let s₁ = length_of_lem text w₁.quote w₁.len unit.value unit.holds in
              let s₂ = length_of_lem text w₂.quote w₂.len instr.value instr.holds in
              let s₃ = length_of_lem text w₃.quote w₃.len roa.value roa.holds in
              let s₄ = length_of_lem text w₄.quote w₄.len moa.value moa.holds in
              let D = u.text + length (detail_strings po []) in
              let a₁ : w₁.used.text ≡ D + length_of unit.value = omega (arith, l₁.text, s₁, begun.taken) in
              let a₂ : w₂.used.text ≡ D + length_of unit.value + length_of instr.value = omega (arith, a₁, l₂.text, s₂) in
              let a₃ : w₃.used.text ≡ D + length_of unit.value + length_of instr.value + length_of roa.value = omega (arith, a₂, l₃.text, s₃) in
              let same : w₄.used.records ≡ h.used.records = l₄.records ∙ l₃.records ∙ l₂.records ∙ l₁.records in
              record {
                answers =
                    record {
                      value = posology;
                      state = behind_moa.state;
                      outcome = behind_moa.outcome ∙ guard_holds 12 (drop at text) ordered;
                      tells = behind_moa.tells;
                      holds =
                          record {
                            chunk = begun.chunk;
                            rows = begun.rows;
                            written = begun.written;
                            count = same ∙ begun.count;
                            size = omega (arith, begun.size, same);
                            few = omega (arith, begun.few, same);
                            from = begun.from;
                            to = begun.to;
                            reserve = begun.reserve;
                            meal = begun.meal;
                            unit = subst (λ (k : ℕ). PieceOf text k unit.value x) begun.taken (piece_of text h.used.text w₁.quote w₁.len unit.value ex unit.holds);
                            instructions = subst (λ (k : ℕ). PieceOf text k instr.value i) a₁ (piece_of text w₁.used.text w₂.quote w₂.len instr.value ei instr.holds);
                            roa = subst (λ (k : ℕ). PieceOf text k roa.value r) a₂ (piece_of text w₂.used.text w₃.quote w₃.len roa.value er roa.holds);
                            moa = subst (λ (k : ℕ). PieceOf text k moa.value m) a₃ (piece_of text w₃.used.text w₄.quote w₄.len moa.value em moa.holds);
                            taken = omega (arith, a₃, l₄.text, s₄, strings_size posology);
                          };
                      kept = begun.kept;
                    };
                size = begun.whole;
              }
