-- What writing's answer tells of the length, and the bound of a table that is to be written.
use Rattle.std.specs.Prelude.{Result}
use Rattle.document.specs.declared.refusal.Refusal.{Refusal}
use mathlib.Core.Path.{◌≡◌, refl, ap, sym, ◌∙◌}
use mathlib.Core.List.{List}
use mathlib.Core.Bool.{Bool, true, false, cond, ◌&&◌}
use Prim.Native.Nat.{ℕ, ◌≤◌, ◌<◌}
use lib.Dec.{leb}
use lib.ListN.{length}
use borrow.Author.Tests.{le-leb, lt-leb, ne_eqb}
use Rattle.json_grammar.proofs.Truth.{and_both, cond_true}
use Rattle.document.specs.Refusals.{number_of}
use Rattle.document.specs.Values.{ends, length_values, refusal_values}
use Rattle.document.specs.declared.refusal.Reason.TheVariants.{BufferTooShort}
use Rattle.document_meaning.proofs.Numbered.{reason_one}
use Rattle.document.specs.Write.{Writes}
use Rattle.document.specs.Length.{bound, greatest_length, longest, needed, Measures}
use Rattle.document.specs.declared.table.Table.{Table}
use Rattle.document_meaning.proofs.TableLengths.{written_needed, length_bounded}

module _ {purpose : ℕ} {t : Table} {text : List ℕ} (r : Result ℕ Refusal) where
  pub measures : {before after : List ℕ} {w : Result ℕ Refusal} → Writes purpose t text before w after → length_values r ≡ needed (length_values w)
      → Measures purpose t text r
  measures {before} p e = record { answer = e ∙ ap needed p.answer ∙ written_needed purpose t text (length before) }

  pub bounded : Measures purpose t text r → (n : ℕ) → length_values r ≡ ends n → (n ≤ bound t.count t.text) × (n ≤ greatest_length)
  bounded m n f = length_bounded purpose t text n (sym m.answer ∙ f)

pub longest_bound : (count text : ℕ) → count ≤ 64 → text ≤ 2048 → longest count text ≡ bound count text
longest_bound count text f g = cond_true _ _ _ (and_both (le-leb count 64 f) (le-leb text 2048 g))

pub many_longest : (count text : ℕ) → 64 < count → longest count text ≡ greatest_length
many_longest count text f = go (leb text 2048)
  where
    go : (b : Bool) → cond (leb count 64 && b) (bound count text) greatest_length ≡ greatest_length
    go b = rw (lt-leb count 64 f)

pub wordy_longest : (count text : ℕ) → 2048 < text → longest count text ≡ greatest_length
wordy_longest count text f = go (leb count 64)
  where
    go : (b : Bool) → cond (b && leb text 2048) (bound count text) greatest_length ≡ greatest_length
    go true = rw (lt-leb text 2048 f)
    go false = refl

-- Only 19 tells a length.
pub no_length : (why : Refusal) → (why.0 ≡ BufferTooShort → ⊥) → refusal_values why ≡ needed (refusal_values why)
no_length why h = rw (ne_eqb (number_of why.0) 19 (λ e. h (reason_one why.0 BufferTooShort e)))
