-- Document 02, Wish 10, from the hospital side: a buffer of the length that posology_length tells suffices for posology_write, and a
-- shorter one gives 19.
use Prim.Native.Nat.{ℕ, ◌≤◌, ◌<◌}
use mathlib.Core.Path.{◌≡◌, refl, sym, ap, ◌∙◌}
use mathlib.Core.List.{List}
use lib.ListN.{length}
use Rattle.document.specs.Values.{Values, ends}
use Rattle.document.specs.Write.{Write, write, write_values, buffer_after}
use Rattle.document.specs.Length.{bound, greatest_length}
use Rattle.document_meaning.proofs.TableLengths.{length_fits, length_exceeds}
use Rattle.c_answers.specs.Telling.{told}
use Rattle.c_answers.specs.declared.Told.{Told}
use Rattle.c_area.specs.Area.{table_in}
use Rattle.hospital.specs.Calls.{called_write, WritesFrom, MeasuresFrom}
use Rattle.hospital.proofs.WriteCalls.{sized, write_refused_leaves}
use Rattle.hospital.proofs.LengthCalls.{measured_area, measured_bounded, refused_told}

-- "any two answers allowed by it are equal"
pub determined_posology_length : {purpose n n' at at' : ℕ} {area strings : List ℕ}
    → MeasuresFrom purpose area strings n at → MeasuresFrom purpose area strings n' at' → (n ≡ n') × (at ≡ at')
determined_posology_length a b = (a.number ∙ sym b.number, a.place ∙ sym b.place)

module _ {purpose l : ℕ} {area strings : List ℕ} (a : MeasuresFrom purpose area strings 0 l) where
  -- "never longer than 6 times its text bytes, 128 times its records, and 256, added up, and so never over 20,736"
  pub told_length_within : (l ≤ bound (table_in area).count (table_in area).text) × (l ≤ greatest_length)
  told_length_within = measured_bounded purpose area strings a refl

  module _ {n at : ℕ} {out out' : List ℕ} (b : WritesFrom purpose area strings out n at out') where
    called : write purpose (table_in area) strings (length out) ≡ called_write purpose area strings (length out)
    called = let m = measured_area purpose area strings a in sized purpose area strings out m.size m.used m.is_area

    -- "a buffer of that length suffices"
    pub told_length_suffices : l ≤ length out → (n ≡ 0) × (at ≡ l)
    told_length_suffices f =
        let w = length_fits purpose (table_in area) strings l (measured_area purpose area strings a).is (length out) f in
        let e = ap write_values (sym called ∙ w.1) ∙ ap ends w.2 in
        (b.number ∙ ap (λ (v : Values). (told v).number) e, b.place ∙ ap (λ (v : Values). (told v).place) e)

    -- "one byte less gives 19", with that length as the place
    pub told_length_short : length out < l → (n ≡ 19) × (at ≡ l) × (out' ≡ out)
    told_length_short f =
        let e = sym called ∙ length_exceeds purpose (table_in area) strings l (measured_area purpose area strings a).is (length out) f in (
          b.number ∙ ap (λ (x : Write). (told (write_values x)).number) e,
          b.place ∙ ap (λ (x : Write). (told (write_values x)).place) e,
          b.out_left ∙ ap (λ (x : Write). buffer_after x out) e,
        )

-- What has no length is refused as posology_write refuses it, with any buffer.
pub length_refused_alike : {purpose m l n at : ℕ} {area strings out out' : List ℕ} → MeasuresFrom purpose area strings m l → (m ≡ 0 → ⊥)
    → WritesFrom purpose area strings out n at out' → (n ≡ m) × (at ≡ l) × (out' ≡ out)
length_refused_alike {purpose} {area = area} {strings = strings} {out = out} a h b =
    let t = refused_told purpose area strings (λ e. h (a.number ∙ e)) (length out) in
    let e = b.number ∙ ap (λ (x : Told). x.number) t ∙ sym a.number in
    let call = called_write purpose area strings (length out) in
    let left = write_refused_leaves call out b.number b.out_left (λ z. h (sym e ∙ z)) in
    (e, b.place ∙ ap (λ (x : Told). x.place) t ∙ sym a.place, left)
