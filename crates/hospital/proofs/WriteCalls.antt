-- What writing's answer says of a call.
use Prim.Native.Nat.{ℕ, suc, ◌<◌}
use mathlib.Core.Path.{◌≡◌, refl, sym, ap, ◌∙◌}
use mathlib.Core.List.{List, [], ◌∷◌}
use mathlib.Core.Bool.{Bool, true, false, false≢true}
use lib.ListN.{length, get_or}
use Rattle.std.specs.Prelude.{Result, Ok, Err}
use borrow.Author.Tests.{eq-eqb, ne_eqb}
use Rattle.json_grammar.proofs.Truth.{never_true}
use Rattle.document.specs.Valid.{is_use}
use Rattle.document.specs.Values.{Values, length_values}
use Rattle.document.specs.Write.{Write, writes, refuses, readable, write, write_values, buffer_after}
use Rattle.document.specs.declared.table.Table.{Table}
use Rattle.document.specs.declared.refusal.Refusal.{Refusal}
use Rattle.table_words.specs.ByWords.{ByWords}
use Rattle.c_answers.specs.Telling.{told, told_writing}
use Rattle.c_area.specs.Area.{area_bytes, table_in, is_area}
use Rattle.c_area_back.specs.declared.HeadPart.{HeadPart}
use Rattle.c_area_back.specs.Fits.{AllBytes}
use Rattle.c_area_back.specs.Parts.{HeadIs, words_in}
use Rattle.c_area_back.proofs.ByParts.{area_laid, area_by_words, laid_is_area}
use Rattle.writer.specs.ByWords.{WritesWords}
use Rattle.hospital.specs.Calls.{called_write, WritesFrom}
use Rattle.hospital.proofs.ReadFits.{readable_fits}

-- A number above 0 leaves the buffer as lent.
pub write_refused_leaves : (x : Write) (out : List ℕ) {n : ℕ} {out' : List ℕ} → n ≡ (told (write_values x)).number → out' ≡ buffer_after x out → (n ≡ 0 → ⊥) → out' ≡ out
write_refused_leaves (writes w) out e s h = absurd (h e)
write_refused_leaves (refuses n at) out e s h = s

-- What a lent slice of bytes holds.
all_bytes_lem : (s : List ℕ) → ((i : ℕ) → get_or s i 0 < 256) → AllBytes s
all_bytes_lem [] h = tt
all_bytes_lem (b ∷ s) h = (h 0, all_bytes_lem s (λ i. h (suc i)))

module _ (purpose : ℕ) (area strings out : List ℕ) where
  abbrev called : Write
  called = called_write purpose area strings (length out)

  pub other_size : (length area ≡ area_bytes → ⊥) → called ≡ refuses 19 area_bytes
  unfolding called_write
  other_size h = rw (ne_eqb _ _ h)

  module _ (h : length area ≡ area_bytes) where
    pub no_use : is_use purpose ≡ false → called ≡ refuses 17 0
    unfolding called_write
    no_use u = rw (eq-eqb _ _ h, u)

    module _ (u : is_use purpose ≡ true) where
      unwritten_call : is_area area ≡ false → called ≡ refuses 18 0
      unfolding called_write
      unwritten_call a = rw (eq-eqb _ _ h, u, a)

      pub sized : is_area area ≡ true → write purpose (table_in area) strings (length out) ≡ called
      unfolding called_write
      sized a = rw (eq-eqb _ _ h, u, a)

      pub no_table : ((i : ℕ) → get_or area i 0 < 256) → (part : HeadPart) → HeadIs area (Err part) → called ≡ refuses 18 0
      no_table known part p = unwritten_call (sym (never_true (is_area area) (λ a. area_laid area (all_bytes_lem area known) a part p)))

-- The head's part of the area decides, and then the words of its records.
module _ (purpose : ℕ) (area strings out : List ℕ) (h : length area ≡ area_bytes) (u : is_use purpose ≡ true) (known : (i : ℕ) → get_or area i 0 < 256)
    (part : HeadPart) (p : HeadIs area (Ok part)) {ws out' : List ℕ} {r : Result ℕ Refusal} (e : ws ≡ words_in area)
    (f : WritesWords purpose part.head part.count part.text ws strings out r out') where
  bytes : AllBytes area
  bytes = all_bytes_lem area known

  abbrev Answers : Write → Type 0
  Answers x = (length_values r ≡ write_values x) × (out' ≡ buffer_after x out)

  -- A readable table with these words would make the bytes an area.
  no_readable : is_area area ≡ false → (t : Table) → ByWords t part.head part.count part.text ws → readable purpose t strings ≡ true → ⊥
  no_readable a t k g = false≢true (sym a ∙ laid_is_area area bytes part p t (readable_fits purpose t strings g) h (rw e at k))

  answers : (a : Bool) → is_area area ≡ a → Answers (called_write purpose area strings (length out))
  answers true a =
      let k = f.writes (table_in area) (rw e (area_by_words area bytes a part p)) in
      rw (← sized purpose area strings out h u a) (k.answer, k.left)
  answers false a =
      rw (unwritten_call purpose area strings out h u a) (rw u at (f.answer (no_readable a)), f.left (no_readable a))

  pub answered : Answers (called_write purpose area strings (length out))
  answered = answers (is_area area) refl

-- What is told of it.
pub write_told : {purpose : ℕ} {area strings out out' : List ℕ} (r : Result ℕ Refusal) → length_values r ≡ write_values (called_write purpose area strings (length out))
    → out' ≡ buffer_after (called_write purpose area strings (length out)) out → WritesFrom purpose area strings out (told_writing r).number (told_writing r).place out'
write_told r e l = record { number = ap (λ (v : Values). (told v).number) e; place = ap (λ (v : Values). (told v).place) e; out_left = l }
