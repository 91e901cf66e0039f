-- The length of a table's plain text, what writing says of it, and its bound (document 02, Wish 10).
use mathlib.Core.Path.{◌≡◌, refl, ap, sym, ◌∙◌}
use mathlib.Core.List.{List}
use mathlib.Core.Bool.{Bool, true, false, cond}
use Prim.Native.Nat.{ℕ, ◌≤◌, ◌<◌}
use native.Mathlib.Omega.{arith}
use lib.Dec.{leb}
use lib.ListN.{length}
use borrow.Author.Tests.{le-leb, lt-leb}
use Rattle.json_grammar.specs.Rows.{choose}
use Rattle.json_grammar.proofs.Truth.{never, cond_true, cond_false}
use Rattle.document.specs.Valid.{is_use, detail_records, strings}
use Rattle.document.specs.Table.{table_of}
use Rattle.document.specs.Untable.{posology_of}
use Rattle.document.specs.Plain.{plain}
use Rattle.document.specs.Values.{Values, ends, number}
use Rattle.document.specs.Write.{Write, writes, refuses, readable, fitting, write, write_values}
use Rattle.document.specs.Length.{bound, greatest_length, length_of, needed}
use Rattle.document.specs.declared.table.Table.{Table}
use Rattle.document_meaning.proofs.Lengths.{plain_length_lem, plain_within}
use Rattle.document.proofs.Tables.{stood_written, stands_for}

-- What is written and what is told, by whether the use is one and whether the table can be read.
abbrev written_by : Write → Bool → Bool → Write
written_by w u r = choose u (λ _. choose r (λ _. w) λ _. refuses 18 0) λ _. refuses 17 0

abbrev pub told_by : ℕ → Bool → Bool → Values
told_by n u r = choose u (λ _. choose r (λ _. ends n) λ _. number 18 0) λ _. number 17 0

abbrev pub plain_length : Table → List ℕ → ℕ
plain_length t text = length (plain (posology_of t text))

module _ (purpose : ℕ) (t : Table) (text : List ℕ) where
  pub length_by : told_by (plain_length t text) (is_use purpose) (readable purpose t text) ≡ length_of purpose t text
  unfolding length_of
  length_by = refl

  -- Whatever the buffer, writing tells the length.
  pub written_needed : (room : ℕ) → needed (write_values (write purpose t text room)) ≡ length_of purpose t text
  unfolding write length_of
  written_needed room = go (is_use purpose) (readable purpose t text) (leb (plain_length t text) room)
    where
      bytes : List ℕ
      bytes = plain (posology_of t text)

      go : (u r b : Bool)
          → needed (write_values (written_by (cond b (writes bytes) (refuses 19 (length bytes))) u r)) ≡ told_by (length bytes) u r
      go true true true = refl
      go true true false = refl
      go true false b = refl
      go false r b = refl

  -- A table's counts are its posology's.
  pub readable_length : readable purpose t text ≡ true
      → (plain_length t text ≤ bound t.count t.text) × (plain_length t text ≤ greatest_length)
  unfolding table_of
  readable_length h =
      let s = stands_for purpose t text h in
      let most = plain_length_lem purpose s.is s.valid in
      let never-over = plain_within purpose s.is s.valid s.fits in
      let e = ap (λ p. length (plain p)) s.read in
      let bytes : t.text ≡ length (strings s.is) = sym (ap (λ (u : Table). u.text) s.table) in
      let count : t.count ≡ detail_records s.is.po = sym (ap (λ (u : Table). u.count) s.table) in
      (omega arith, omega arith)

  -- The length is told of a readable table alone.
  module _ (n : ℕ) (h : length_of purpose t text ≡ ends n) where
    told_readable : (is_use purpose ≡ true) × (readable purpose t text ≡ true) × (n ≡ plain_length t text)
    told_readable = go (is_use purpose) (readable purpose t text) (length_by ∙ h)
      where
        go : (u r : Bool) → told_by (plain_length t text) u r ≡ ends n → (u ≡ true) × (r ≡ true) × (n ≡ plain_length t text)
        go true true e = (refl, refl, sym (cc e))
        go true false e = never (cc e)
        go false r e = never (cc e)

    pub length_bounded : (n ≤ bound t.count t.text) × (n ≤ greatest_length)
    length_bounded =
        let e = told_readable.2 in
        let b = readable_length told_readable.1 in
        let x = b.0 in
        let y = b.1 in
        (omega arith, omega arith)

    fits_or_not : (room : ℕ) → write purpose t text room ≡ fitting room (plain (posology_of t text))
    fits_or_not room = stood_written purpose t text room told_readable.0 told_readable.1

    pub length_fits : (room : ℕ) → n ≤ room → (w : List ℕ) × (write purpose t text room ≡ writes w) × (length w ≡ n)
    length_fits room f =
        let e = told_readable.2 in
        let l = plain_length t text in
        (plain (posology_of t text), fits_or_not room ∙ cond_true (leb l room) _ _ (le-leb l room (omega arith)), sym e)

    pub length_exceeds : (room : ℕ) → room < n → write purpose t text room ≡ refuses 19 n
    length_exceeds room f =
        let e = told_readable.2 in
        let l = plain_length t text in
        fits_or_not room ∙ cond_false (leb l room) _ _ (lt-leb l room (omega arith)) ∙ ap (refuses 19) (sym e)

  -- 17 and 18 do not hang on the buffer.
  pub length_refused : (m place room : ℕ) → length_of purpose t text ≡ number m place
      → (write purpose t text room ≡ refuses m place) × (17 ≤ m) × (m ≤ 18)
  unfolding write
  length_refused m place room h = go (is_use purpose) (readable purpose t text) (length_by ∙ h)
    where
      alike : (k : ℕ) → number k 0 ≡ number m place → refuses k 0 ≡ refuses m place
      alike k e = let x : k ≡ m = cc e in let y : 0 ≡ place = cc e in ap (λ i. refuses i 0) x ∙ ap (refuses m) y

      go : (u r : Bool) → told_by (plain_length t text) u r ≡ number m place
          → (written_by (fitting room (plain (posology_of t text))) u r ≡ refuses m place) × (17 ≤ m) × (m ≤ 18)
      go true true e = never (cc e)
      go true false e = let x : 18 ≡ m = cc e in (alike 18 e, omega arith, omega arith)
      go false r e = let x : 17 ≡ m = cc e in (alike 17 e, omega arith, omega arith)
