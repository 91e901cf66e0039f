-- The marks are those of the entries passed: what going over an area keeps.
use mathlib.Core.Path.{◌≡◌, refl, ap, sym, ◌∙◌}
use mathlib.Core.List.{List, [], ◌∷◌, ◌++◌}
use mathlib.Core.Bool.{Bool, true, false, ◌||◌}
use Prim.Native.Nat.{ℕ, ◌/◌, ◌%◌, ◌^◌, ◌≤◌}
use native.Mathlib.Omega.{arith}
use lib.Dec.{eqb}
use lib.ListN.{length, replicate, get_or-replicate, length-set}
use borrow.Author.Tests.{eqb-true, eqb-false}
use Rattle.shelf_list.specs.Shelf.{Entry, stands}
use Rattle.std.specs.Int.{bit_at}
use Rattle.std.specs.Int.RustNames.{bit_or}
use Rattle.std.proofs.lemmas.Nat.Bits.{bit_at-zero}
use Rattle.shelf_bytes.specs.Marks.{word_of, marked, mark}
use Rattle.shelf_bytes.proofs.MarkLaws.{mark_here, mark_elsewhere}
use Rattle.shelf_list.proofs.Lists.{stands_last}

pub record Noted (s : List ℕ) (es : List Entry) : Type 0 where
  pub words : length s ≡ 1024
  pub each : (n : ℕ) → n ≤ 65535 → marked s n ≡ stands n es

pub noted_starts : Noted (replicate 1024 0) []
unfolding marked
noted_starts =
    record {
      words = refl;
      each = λ n h.
          ap (λ (x : ℕ). eqb (bit_at x (n % 64)) 1) (get_or-replicate 1024 (n / 64) 0 0 (omega arith))
          ∙ ap (λ (x : ℕ). eqb x 1) (bit_at-zero (n % 64));
    }

pub noted_goes_on : (s : List ℕ) (es : List Entry) (e : Entry) → Noted s es → e.number ≤ 65535
    → Noted (mark s e.number) (es ++ (e ∷ []))
unfolding mark
noted_goes_on s es e k l =
    let n = e.number in
    record {
      words = length-set s (n / 64) (bit_or (word_of s n) (2 ^ (n % 64))) ∙ k.words;
      each = λ m small. step m small (eqb m n) refl;
    }
  where
    step : (m : ℕ) → m ≤ 65535 → (b : Bool) → eqb m e.number ≡ b → marked (mark s e.number) m ≡ stands m (es ++ (e ∷ []))
    step m small true i =
        ap (marked (mark s e.number)) (eqb-true m e.number i)
        ∙ mark_here s e.number (let w = k.words in omega arith)
        ∙ sym (stands_last m es e ∙ ap (λ (b : Bool). b || stands m es) i)
    step m small false i =
        mark_elsewhere s e.number m (let w = k.words in omega arith) (eqb-false m e.number i)
        ∙ k.each m small
        ∙ sym (stands_last m es e ∙ ap (λ (b : Bool). b || stands m es) i)
