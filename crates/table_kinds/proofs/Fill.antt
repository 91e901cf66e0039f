-- An array filled with what is made of one group after another.
use Prim.Native.Nat.{ℕ, zero, suc, ◌+◌, ◌*◌, ◌-◌, ◌≤◌, ◌<◌}
use mathlib.Core.Path.{◌≡◌, refl, sym, ap, ◌∙◌}
use mathlib.Core.List.{List, [], ◌∷◌, ◌++◌, append-nil}
use mathlib.Core.Bool.{Bool, true, false, cond}
use native.Mathlib.Numerals.{add-one}
use native.Mathlib.Omega.{arith}
use native.Mathlib.Nat.{zero-mul, suc-mul, add_comm}
use lib.Dec.{leb}
use lib.ListN.{length, drop, set, get_or, replicate, length-append, length-replicate, get_or-replicate, get_or-append}
use lib.Seq.{drop-drop, set_at, append_snoc, get_or-append-add}
use borrow.Author.Tests.{leb-true}
use Rattle.document.specs.Table.{no_record}
use Rattle.document.specs.Words.{width}
use Rattle.document.specs.declared.table.Record.{Record}
use Rattle.table_kinds.specs.Kinds.{groups, record_in, at_most, records_in}

module _ {A : Type 0} (size : ℕ) (f : List ℕ → A) where
  pub groups_length : (n : ℕ) (s : List ℕ) → length (groups size f n s) ≡ n
  unfolding groups
  groups_length zero s = refl
  groups_length (suc n) s = ap suc (groups_length n (drop size s))

  next_group : (i : ℕ) (s : List ℕ) → drop (i * size) (drop size s) ≡ drop (suc i * size) s
  next_group i s = drop-drop (i * size) size s ∙ ap (λ (k : ℕ). drop k s) (sym (suc-mul i size ∙ add_comm (i * size) size))

  -- One more, behind the others.
  groups_snoc : (i : ℕ) (s : List ℕ) → groups size f (suc i) s ≡ groups size f i s ++ (f (drop (i * size) s) ∷ [])
  unfolding groups
  groups_snoc zero s = ap (λ (n : ℕ). f (drop n s) ∷ []) (sym (zero-mul size))
  groups_snoc (suc i) s = ap (λ (l : List A). f s ∷ l) (groups_snoc i (drop size s) ∙ ap (λ (v : List ℕ). groups size f i (drop size s) ++ (f v ∷ [])) (next_group i s))

  pub groups_at : (n i : ℕ) (s : List ℕ) (d : A) → i < n → get_or (groups size f n s) i d ≡ f (drop (i * size) s)
  unfolding groups
  groups_at zero i s d h = absurd (omega arith)
  groups_at (suc n) zero s d h = ap (λ (k : ℕ). f (drop k s)) (sym (zero-mul size))
  groups_at (suc n) (suc i) s d h = groups_at n i (drop size s) d (omega arith) ∙ ap f (next_group i s)

  -- The array's next element is set.
  pub groups_set : (n i : ℕ) (s : List ℕ) (d r : A) → i < n → r ≡ f (drop (i * size) s)
      → set (groups size f i s ++ replicate (n - i) d) i r ≡ groups size f (i + 1) s ++ replicate (n - (i + 1)) d
  groups_set n i s d r h e =
      let left : n - i ≡ suc (n - (i + 1)) = omega arith in
      ap (λ (k : ℕ). set (groups size f i s ++ replicate k d) i r) left
      ∙ set_at (groups size f i s) d (replicate (n - (i + 1)) d) r i (groups_length i s)
      ∙ sym (append_snoc (groups size f i s) r (replicate (n - (i + 1)) d))
      ∙ ap (λ (x : A). groups size f i s ++ (x ∷ []) ++ replicate (n - (i + 1)) d) e
      ∙ ap (λ (l : List A). l ++ replicate (n - (i + 1)) d) (sym (groups_snoc i s) ∙ ap (λ (k : ℕ). groups size f k s) (sym (add-one i)))

  -- All are set.
  pub groups_full : (n i : ℕ) (s : List ℕ) (d : A) → i ≡ n → groups size f i s ++ replicate (n - i) d ≡ groups size f n s
  groups_full n i s d e =
      let none : n - i ≡ 0 = omega arith in
      ap (λ (k : ℕ). groups size f i s ++ replicate k d) none ∙ append-nil (groups size f i s) ∙ ap (λ (k : ℕ). groups size f k s) e

-- The records that words make: those of the groups in front, and unused ones.
module _ (n : ℕ) (ws : List ℕ) where
  pub at_most_lem : at_most n ≤ 64
  at_most_lem = few (leb n 64) refl
    where
      few : (b : Bool) → leb n 64 ≡ b → cond b n 64 ≤ 64
      few true e = leb-true n 64 e
      few false e = omega arith

  abbrev made : List Record
  made = groups width record_in (at_most n) ws

  pub in_length : length (records_in n ws) ≡ 64
  unfolding records_in
  in_length = length-append made (replicate (64 - at_most n) no_record) ∙ ap (λ (k : ℕ). k + length (replicate (64 - at_most n) no_record)) (groups_length width record_in (at_most n) ws) ∙ ap (λ (k : ℕ). at_most n + k) (length-replicate (64 - at_most n) no_record) ∙ omega (arith, at_most_lem)

  pub in_front_lem : (i : ℕ) → i < at_most n → record_in (drop (i * width) ws) ≡ get_or (records_in n ws) i no_record
  unfolding records_in
  in_front_lem i h =
      sym (groups_at width record_in (at_most n) i ws no_record h) ∙ sym (get_or-append made (replicate (64 - at_most n) no_record) no_record i (omega (arith, groups_length width record_in (at_most n) ws)))

  pub in_rest : (i : ℕ) → at_most n ≤ i → i < 64 → get_or (records_in n ws) i no_record ≡ no_record
  unfolding records_in
  in_rest i h k =
      let size = groups_length width record_in (at_most n) ws in
      let behind : i ≡ length made + (i - at_most n) = omega arith in
      ap (λ (j : ℕ). get_or (made ++ replicate (64 - at_most n) no_record) j no_record) behind ∙ get_or-append-add made (replicate (64 - at_most n) no_record) (i - at_most n) no_record ∙ get_or-replicate (64 - at_most n) (i - at_most n) no_record no_record (omega arith)
