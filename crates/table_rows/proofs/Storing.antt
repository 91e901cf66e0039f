-- A record stored among the words of a table.
use Prim.Native.Nat.{ℕ, suc, ◌+◌, ◌*◌, ◌<◌, ◌≤◌}
use mathlib.Core.Path.{◌≡◌, sym, ap, ◌∙◌}
use mathlib.Core.List.{List, [], ◌++◌}
use Rattle.std.proofs.Math.Logic.{◌⊎◌, inl, inr}
use native.Mathlib.Omega.{arith}
use borrow.Author.Tests.{eq-eqb, ne_eqb, le-leb, lt-leb}
use lib.ListN.{length, set, take, drop, length-append}
use lib.Seq.{sets, sets-eq, length-sets, length-take-le, take_at, drop_at}
use Rattle.document.specs.Words.{Words, width, words_at_most, row}
use Rattle.table_rows.specs.Storing.{written}
use Rattle.document.proofs.WordRows.{next_row}

-- Six stores, one behind the other.
pub six_stored : (l : List ℕ) (k at n₁ n₂ n₃ n₄ n₅ : ℕ) (w : Words) → at ≡ k → n₁ ≡ suc k → n₂ ≡ suc (suc k) → n₃ ≡ suc (suc (suc k)) → n₄ ≡ suc (suc (suc (suc k))) → n₅ ≡ suc (suc (suc (suc (suc k))))
    → set (set (set (set (set (set l at w.tag) n₁ w.below) n₂ w.a) n₃ w.b) n₄ w.c) n₅ w.d ≡ sets l k (row w [])
six_stored l k at n₁ n₂ n₃ n₄ n₅ w e e₁ e₂ e₃ e₄ e₅ = cc

module _ (before : List ℕ) (i : ℕ) (w : Words) where
  -- Where there is no place for it, nothing is stored.
  pub not_stored : (length before ≡ words_at_most → ⊥) ⊎ (length before ≡ words_at_most × (64 ≤ i)) → before ≡ written before i w
  unfolding written
  not_stored (inl other) = rw (ne_eqb (length before) words_at_most other)
  not_stored (inr (size, full)) = rw (eq-eqb (length before) words_at_most size, le-leb 64 i full)

  pub stored : length before ≡ words_at_most → i < 64 → sets before (i * width) (row w []) ≡ written before i w
  unfolding written
  stored size few = rw (eq-eqb (length before) words_at_most size, lt-leb 64 i few)

  module _ (size : length before ≡ words_at_most) (few : i < 64) where
    pub stored_length : length (written before i w) ≡ words_at_most
    stored_length = ap length (sym (stored size few)) ∙ length-sets before (i * width) (row w []) ∙ size

    -- The words in front, the record's, and those behind.
    abbrev front : List ℕ
    front = take (i * width) before ++ row w []

    front_length : length front ≡ i * width + width
    front_length = length-append (take (i * width) before) (row w []) ∙ ap (λ n. n + width) (length-take-le (i * width) before (omega arith))

    split : written before i w ≡ front ++ drop (i * width + width) before
    split = sym (stored size few) ∙ sets-eq (row w []) before (i * width) (omega arith)

    pub front_stored : take ((i + 1) * width) (written before i w) ≡ take (i * width) before ++ row w []
    front_stored =
        ap (λ n. take n (written before i w)) (next_row i) ∙ ap (take (i * width + width)) split
        ∙ take_at front (drop (i * width + width) before) (i * width + width) front_length

    pub rest_kept : drop ((i + 1) * width) (written before i w) ≡ drop ((i + 1) * width) before
    rest_kept =
        ap (λ n. drop n (written before i w)) (next_row i) ∙ ap (drop (i * width + width)) split
        ∙ drop_at front (drop (i * width + width) before) (i * width + width) front_length
        ∙ ap (λ n. drop n before) (sym (next_row i))
