-- The words of records, used and unused, as one list.
use mathlib.Core.Path.{◌≡◌, refl, ap, sym, ◌∙◌}
use mathlib.Core.List.{List, ◌++◌}
use mathlib.Core.Bool.{Bool}
use Prim.Native.Nat.{ℕ, zero, suc, ◌+◌, ◌*◌, ◌-◌, ◌≤◌, ◌<◌}
use native.Mathlib.Omega.{arith}
use lib.ListN.{length, take, drop, get_or, replicate, length-drop}
use lib.Seq.{get_or-append-add, take_all}
use Rattle.std.proofs.lemmas.List.{get_or-drop}
use Rattle.document.specs.Table.{no_record}
use Rattle.document.specs.Words.{width, words_at_most, all_words, rows}
use Rattle.document.specs.declared.table.Record.{Record}
use Rattle.check_doses.specs.Shapes.{Decides}
use Rattle.check_doses.proofs.Decided.{as_last}
use Rattle.table_rows.specs.Standing.{Lies}
use Rattle.document.proofs.WordRows.{records_append, records_length}
use Rattle.check_table.specs.Checks.{Zeros}

-- Unused records are zero words.
none_at : (m j : ℕ) → get_or (rows (all_words (replicate m no_record))) j 0 ≡ 0
none_at zero j = refl
none_at (suc m) zero = refl
none_at (suc m) (suc zero) = refl
none_at (suc m) (suc (suc zero)) = refl
none_at (suc m) (suc (suc (suc zero))) = refl
none_at (suc m) (suc (suc (suc (suc zero)))) = refl
none_at (suc m) (suc (suc (suc (suc (suc zero))))) = refl
none_at (suc m) (suc (suc (suc (suc (suc (suc j)))))) = none_at m j

pub unused_zero : (rs : List Record) (m : ℕ) → Zeros (rows (all_words (rs ++ replicate m no_record))) (length rs * width)
unused_zero rs m j h f =
    let xs = rows (all_words rs) in
    let n = records_length rs in
    let e : j ≡ length xs + (j - length rs * width) = omega arith in
    ap (λ s. get_or s j 0) (records_append rs (replicate m no_record))
    ∙ ap (λ i. get_or (xs ++ rows (all_words (replicate m no_record))) i 0) e
    ∙ get_or-append-add xs (rows (all_words (replicate m no_record))) (j - length rs * width) 0
    ∙ none_at m (j - length rs * width)

pub zeros_lie : (ws : List ℕ) (k m i : ℕ) → length ws ≡ words_at_most → Zeros ws (k * width) → k ≤ i → i + m ≤ 64 → Lies ws i (all_words (replicate m no_record))
zeros_lie ws k zero i n z h f = tt
zeros_lie ws k (suc m) i n z h f =
    let at : (j : ℕ) → j < width → get_or ws (i * width + j) 0 ≡ 0 = λ j g. z (i * width + j) (omega arith) (omega arith) in (
      record { inside = omega arith; tag = z (i * width) (omega arith) (omega arith); below = at 1 (omega arith); a = at 2 (omega arith); b = at 3 (omega arith); c = at 4 (omega arith); d = at 5 (omega arith) },
      zeros_lie ws k m (i + 1) n z (omega arith) (omega arith),
    )

-- The words up to a place are zero.
abbrev pub ZerosTo : List ℕ → ℕ → Type 0
ZerosTo ws at = (j : ℕ) → j < at → get_or ws j 0 ≡ 0

pub behind_zeros : (ws : List ℕ) (k at : ℕ) (b : Bool) → at ≤ length (take (length ws - k) (drop k ws)) → length (take (length ws - k) (drop k ws)) ≤ at
    → Decides (ZerosTo (take (length ws - k) (drop k ws)) at) b → Decides (Zeros ws k) b
behind_zeros ws k at b g h d =
    let e : take (length ws - k) (drop k ws) ≡ drop k ws = take_all (length ws - k) (drop k ws) (omega (arith, length-drop k ws)) in
    let n : length ws - k ≡ at = omega (arith, ap length e, length-drop k ws) in
    let word : (j : ℕ) → get_or (take (length ws - k) (drop k ws)) j 0 ≡ get_or ws (k + j) 0 = λ j. ap (λ l. get_or l j 0) e ∙ get_or-drop k ws j 0 in
    as_last
    (λ z j f l. let m : k + (j - k) ≡ j = omega arith in ap (λ i. get_or ws i 0) (sym m) ∙ sym (word (j - k)) ∙ z (j - k) (omega arith))
    (λ z j f. word j ∙ z (k + j) (omega arith) (omega arith))
    d
