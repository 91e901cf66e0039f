-- What a call of writing tells of the length.
use Prim.Native.Nat.{ℕ, ◌≤◌}
use mathlib.Core.Path.{◌≡◌, refl, sym, ap, subst, ◌∙◌}
use mathlib.Core.List.{List}
use mathlib.Core.Bool.{Bool, true, false, false≢true}
use native.Mathlib.Omega.{arith}
use lib.Dec.{eqb}
use lib.ListN.{length}
use Rattle.std.specs.Prelude.{Result}
use borrow.Author.Tests.{eq-eqb, ne_eqb, eqb-true, eqb-false}
use Rattle.json_grammar.specs.Rows.{choose}
use Rattle.document.specs.Valid.{is_use}
use Rattle.document.specs.Values.{Values, accepted, ends, blanks_only, number, length_values}
use Rattle.document.specs.declared.refusal.Refusal.{Refusal}
use Rattle.document.specs.Write.{Write, readable, refuses, write, write_values}
use Rattle.document.specs.Length.{bound, greatest_length, length_of, needed}
use Rattle.document.specs.declared.table.Table.{Table}
use Rattle.document_meaning.proofs.TableLengths.{told_by, plain_length, length_by, written_needed, length_bounded}
use Rattle.c_answers.specs.Telling.{tells, told, told_writing}
use Rattle.c_answers.specs.declared.Told.{Told}
use Rattle.c_area.specs.Area.{area_bytes, table_in, is_area}
use Rattle.hospital.specs.Calls.{called_write, called_length, MeasuresFrom}

told_refused : (v : Values) → ((told (needed v)).number ≡ 0 → ⊥) → told (needed v) ≡ told v
told_refused accepted h = refl
told_refused (ends n) h = refl
told_refused (blanks_only n) h = refl
told_refused (number m place) h = go (eqb m 19) h
  where
    as_told : Bool → Told
    as_told b = told (choose b (λ _. ends place) λ _. number m place)

    go : (b : Bool) → ((as_told b).number ≡ 0 → ⊥) → as_told b ≡ tells m place
    go true k = absurd (k refl)
    go false k = refl

-- 0 is told of a length alone.
told_length : (purpose : ℕ) (t : Table) (text : List ℕ) → (told (length_of purpose t text)).number ≡ 0
    → length_of purpose t text ≡ ends (told (length_of purpose t text)).place
told_length purpose t text = subst OfLength (length_by purpose t text) (go (is_use purpose) (readable purpose t text))
  where
    OfLength : Values → Type 0
    OfLength v = (told v).number ≡ 0 → v ≡ ends (told v).place

    go : (u r : Bool) → OfLength (told_by (plain_length t text) u r)
    go true true e = refl
    go true false e = absurd (omega arith)
    go false r e = absurd (omega arith)

-- A call of writing and of the length, by whether the area has its size, the use is one and the bytes lay out a table.
abbrev written_by : Write → Bool → Bool → Bool → Write
written_by w a u b = choose a (λ _. choose u (λ _. choose b (λ _. w) λ _. refuses 18 0) λ _. refuses 17 0) λ _. refuses 19 area_bytes

abbrev measured_by : Values → Bool → Bool → Bool → Values
measured_by v a u b = choose a (λ _. choose u (λ _. choose b (λ _. v) λ _. number 18 0) λ _. number 17 0) λ _. number 19 area_bytes

module _ (purpose : ℕ) (area strings : List ℕ) where
  -- An area of another size is refused alike.
  other_size_alike : (length area ≡ area_bytes → ⊥) → (room : ℕ)
      → write_values (called_write purpose area strings room) ≡ called_length purpose area strings
  unfolding called_write called_length
  other_size_alike h room = rw (ne_eqb _ _ h)

  -- Of one of that size, whatever the buffer, writing tells the length.
  called_needed : length area ≡ area_bytes → (room : ℕ)
      → needed (write_values (called_write purpose area strings room)) ≡ called_length purpose area strings
  unfolding called_write called_length
  called_needed h room = go (eqb (length area) area_bytes) (is_use purpose) (is_area area) (eq-eqb _ _ h)
    where
      go : (a u b : Bool) → a ≡ true
          → needed (write_values (written_by (write purpose (table_in area) strings room) a u b))
          ≡ measured_by (length_of purpose (table_in area) strings) a u b
      go true true true e = written_needed purpose (table_in area) strings room
      go true true false e = refl
      go true false b e = refl
      go false u b e = absurd (false≢true e)

  pub length_other_size : (length area ≡ area_bytes → ⊥) → called_length purpose area strings ≡ number 19 area_bytes
  unfolding called_length
  length_other_size h = rw (ne_eqb _ _ h)

  -- What writing tells, whatever the buffer.
  pub length_needed : length area ≡ area_bytes → (room : ℕ) {w r : Values} → w ≡ write_values (called_write purpose area strings room)
      → r ≡ needed w → r ≡ called_length purpose area strings
  length_needed h room e f = f ∙ ap needed e ∙ called_needed h room

  pub length_told : (r : Result ℕ Refusal) → length_values r ≡ called_length purpose area strings
      → MeasuresFrom purpose area strings (told_writing r).number (told_writing r).place
  length_told r e = record { number = ap (λ (v : Values). (told v).number) e; place = ap (λ (v : Values). (told v).place) e }

  -- What is refused is refused alike.
  module _ (h : (told (called_length purpose area strings)).number ≡ 0 → ⊥) (room : ℕ) where
    abbrev called : Values
    called = write_values (called_write purpose area strings room)

    pub refused_told : told called ≡ told (called_length purpose area strings)
    refused_told = go (eqb (length area) area_bytes) refl
      where
        go : (b : Bool) → eqb (length area) area_bytes ≡ b → told called ≡ told (called_length purpose area strings)
        go true s =
            let e = called_needed (eqb-true _ _ s) room in
            sym (told_refused called (λ i. h (sym (ap (λ (v : Values). (told v).number) e) ∙ i))) ∙ ap told e
        go false s = ap told (other_size_alike (eqb-false _ _ s) room)

  -- A length was told of an area's table.
  pub record Measured (l : ℕ) : Type 0 where
    pub size : length area ≡ area_bytes
    pub used : is_use purpose ≡ true
    pub is_area : is_area area ≡ true
    pub is : length_of purpose (table_in area) strings ≡ ends l

  pub measured_area : {l : ℕ} → MeasuresFrom purpose area strings 0 l → Measured l
  unfolding called_length
  measured_area {l} m = go (eqb (length area) area_bytes) (is_use purpose) (is_area area) refl refl refl m.number m.place
    where
      by : Bool → Bool → Bool → Told
      by a u b = told (measured_by (length_of purpose (table_in area) strings) a u b)

      go : (a u b : Bool) → eqb (length area) area_bytes ≡ a → is_use purpose ≡ u → is_area area ≡ b
          → 0 ≡ (by a u b).number → l ≡ (by a u b).place → Measured l
      go true true true s t v e f =
          record { size = eqb-true _ _ s; used = t; is_area = v; is = told_length purpose (table_in area) strings (sym e) ∙ ap ends (sym f) }
      go true true false s t v e f = absurd (omega arith)
      go true false b s t v e f = absurd (omega arith)
      go false u b s t v e f = absurd (omega arith)

  pub measured_bounded : {n l : ℕ} → MeasuresFrom purpose area strings n l → n ≡ 0
      → (l ≤ bound (table_in area).count (table_in area).text) × (l ≤ greatest_length)
  measured_bounded {l = l} m e =
      length_bounded purpose (table_in area) strings l (measured_area (subst (λ i. MeasuresFrom purpose area strings i l) e m)).is
