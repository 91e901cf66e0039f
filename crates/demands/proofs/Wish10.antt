-- Document 02, Wish 10: a buffer of the length that is told suffices, one byte less gives 19, and how great the length can be.
use Rattle.std.specs.Prelude.{Result, Ok, Err}
use Rattle.document.specs.declared.refusal.Refusal.{Refusal}
use Rattle.document.specs.declared.refusal.Reason.TheVariants.{BufferTooShort}
use Rattle.document.specs.Refusals.{number_of}
use mathlib.Core.Path.{◌≡◌, ap, sym, ◌∙◌}
use mathlib.Core.List.{List, ◌++◌}
use Prim.Native.Nat.{ℕ, ◌≤◌, ◌<◌}
use lib.ListN.{length}
use Rattle.json_grammar.proofs.Truth.{choose_true}
use Rattle.document.specs.Posology.{Posology}
use Rattle.document.specs.Valid.{Valid, Fits, is_use, strings}
use Rattle.document.specs.Table.{table_of}
use Rattle.document.specs.Plain.{plain}
use Rattle.document.specs.Values.{ends, number, length_values}
use Rattle.document.specs.Write.{greatest_room, readable, Write, writes, refuses, write, write_values, buffer_after, Writes}
use Rattle.document.specs.Length.{bound, greatest_length, length_of, Measures}
use Rattle.document.specs.declared.table.Table.{Table}
use Rattle.document_meaning.proofs.Numbered.{length_one, length_one}
use Rattle.document.proofs.Untabled.{untabled}
use Rattle.document.proofs.Tables.{own_readable}
use Rattle.document_meaning.proofs.TableLengths.{length_fits, length_exceeds, length_refused, length_bounded}

-- A valid posology's table has its plain text's length.
pub length_of_plain : (purpose : ℕ) (p : Posology) (behind : List ℕ) → Valid purpose p → Fits greatest_room p
    → length_of purpose (table_of p) (strings p ++ behind) ≡ ends (length (plain p))
unfolding length_of
length_of_plain purpose p behind v f =
    choose_true (is_use purpose) _ _ v.0
    ∙ choose_true (readable purpose (table_of p) (strings p ++ behind)) _ _ (own_readable purpose p behind v.1 f)
    ∙ ap (λ (q : Posology). ends (length (plain q))) (untabled purpose p behind v.1)

module _ (purpose : ℕ) (t : Table) (text : List ℕ) where
  -- "a buffer of that length suffices", and any that is longer; "one byte less gives 19", and any that is shorter
  pub length_suffices : (n room : ℕ) → length_of purpose t text ≡ ends n → n ≤ room
      → (w : List ℕ) × (write purpose t text room ≡ writes w) × (length w ≡ n)
  length_suffices n room h f = length_fits purpose t text n h room f

  pub one_less_is_19 : (n room : ℕ) → length_of purpose t text ≡ ends n → room < n → write purpose t text room ≡ refuses 19 n
  one_less_is_19 n room h f = length_exceeds purpose t text n h room f

  -- What has no length is refused as the writer refuses it, whatever its buffer, and by 17 or 18.
  pub refused_as_written : (m place room : ℕ) → length_of purpose t text ≡ number m place
      → (write purpose t text room ≡ refuses m place) × (17 ≤ m) × (m ≤ 18)
  refused_as_written m place room h = length_refused purpose t text m place room h

  -- "never longer than 6 times its text bytes, 128 times its records, and 256, added up, and so never over 20,736"
  pub length_within : (n : ℕ) → length_of purpose t text ≡ ends n → (n ≤ bound t.count t.text) × (n ≤ greatest_length)
  length_within n h = length_bounded purpose t text n h

-- The same of what the functions promise.
pub determined_length : {purpose : ℕ} {t : Table} {text : List ℕ} {r r' : Result ℕ Refusal}
    → Measures purpose t text r → Measures purpose t text r' → r ≡ r'
determined_length a b = length_one _ _ (a.answer ∙ sym b.answer)

module _ {purpose : ℕ} {t : Table} {text before after : List ℕ} {r : Result ℕ Refusal} {w : Result ℕ Refusal}
    (a : Measures purpose t text r) (b : Writes purpose t text before w after) where
  pub measured_then_written : {n : ℕ} → r ≡ Ok n → n ≤ length before → w ≡ Ok n
  measured_then_written {n} e f =
      let k = length_fits purpose t text n (sym a.answer ∙ ap length_values e) (length before) f in
      length_one w (Ok n) (b.answer ∙ ap write_values k.1 ∙ ap ends k.2)

  refused : (why : Refusal) → write purpose t text (length before) ≡ refuses (number_of why.0) why.1 → (w ≡ Err why) × (after ≡ before)
  refused why k = (length_one w (Err why) (b.answer ∙ ap write_values k), b.left ∙ ap (λ (x : Write). buffer_after x before) k)

  pub measured_then_short : {n : ℕ} → r ≡ Ok n → length before < n → (w ≡ Err (record { 0 = BufferTooShort; 1 = n })) × (after ≡ before)
  measured_then_short {n} e f =
      refused (record { 0 = BufferTooShort; 1 = n }) (length_exceeds purpose t text n (sym a.answer ∙ ap length_values e) (length before) f)

  pub measured_refused : {why : Refusal} → r ≡ Err why → (w ≡ Err why) × (after ≡ before)
  measured_refused {why} e =
      refused why (length_refused purpose t text (number_of why.0) why.1 (length before) (sym a.answer ∙ ap length_values e)).0
