-- The numbers of a table, from the bytes that they lie in.
use Prim.Native.Nat.{ℕ, zero, suc, ◌+◌, ◌*◌, ◌/◌, ◌%◌, ◌≤◌}
use mathlib.Core.Path.{◌≡◌, refl, sym, ap, ◌∙◌}
use mathlib.Core.List.{List, [], ◌∷◌, ◌++◌}
use native.Mathlib.Omega.{arith}
use lib.ListN.{length, take, drop, length-drop, take-append-drop}
use Rattle.document.specs.Words.{table_words}
use Rattle.document.specs.declared.table.Table.{Table}
use Rattle.table_kinds.specs.Kinds.{groups}
use Rattle.c_numbers.specs.Eights.{bytes_of, all_bytes, number_in}
use Rattle.c_area.specs.Area.{area_bytes, area_of, numbers_in, table_of_numbers, table_in}
use Rattle.c_area_back.specs.Fits.{Fitting, AllBytes}
use Rattle.c_numbers.proofs.Bytes.{number_back, bytes_behind}
use Rattle.c_area_back.proofs.InFits.{behind}
use Rattle.c_area_back.proofs.Parts.{AllBelow, numbers_one, table_below, table_length}

numbers_back : (ws : List ℕ) → AllBelow ws → groups 8 (number_in 8) (length ws) (all_bytes ws) ≡ ws
unfolding groups all_bytes
numbers_back [] h = refl
numbers_back (w ∷ ws) h =
    ap (λ (x : ℕ). x ∷ groups 8 (number_in 8) (length ws) (drop 8 (bytes_of 8 w (all_bytes ws)))) (number_back 8 w (all_bytes ws) h.0)
    ∙ ap (λ (s : List ℕ). w ∷ groups 8 (number_in 8) (length ws) s) (bytes_behind 8 w (all_bytes ws))
    ∙ ap (λ (l : List ℕ). w ∷ l) (numbers_back ws h.1)

pub numbers_laid : (t : Table) → Fitting t → numbers_in (area_of t) ≡ table_words t
unfolding area_of numbers_in
numbers_laid t f =
    ap (λ (n : ℕ). groups 8 (number_in 8) n (all_bytes (table_words t))) (sym (table_length t f.all))
    ∙ numbers_back (table_words t) (table_below t f)

pub back : (t : Table) → Fitting t → table_in (area_of t) ≡ t
unfolding table_in
back t f = ap table_of_numbers (numbers_laid t f) ∙ numbers_one t f

-- Bytes make the numbers that they are read as.
bytes_again : (n : ℕ) (bytes k : List ℕ) → AllBytes bytes → n ≤ length bytes → bytes_of n (number_in n bytes) k ≡ take n bytes ++ k
unfolding bytes_of number_in
bytes_again zero bytes k b h = refl
bytes_again (suc n) [] k b h = absurd (omega arith)
bytes_again (suc n) (x ∷ bytes) k b h =
    let low : (x + 256 * number_in n bytes) % 256 ≡ x = omega (arith, b.0) in
    let high : (x + 256 * number_in n bytes) / 256 ≡ number_in n bytes = omega (arith, b.0) in
    rw (low, high) (ap (λ (l : List ℕ). x ∷ l) (bytes_again n bytes k b.1 (omega arith)))

lies_again : (n : ℕ) (bytes : List ℕ) → AllBytes bytes → length bytes ≡ n * 8 → all_bytes (groups 8 (number_in 8) n bytes) ≡ bytes
unfolding groups all_bytes
lies_again zero [] b e = refl
lies_again zero (x ∷ bytes) b e = absurd (omega arith)
lies_again (suc n) bytes b e =
    let rest : length (drop 8 bytes) ≡ n * 8 = simp length-drop (omega arith) in
    ap (bytes_of 8 (number_in 8 bytes)) (lies_again n (drop 8 bytes) (behind 8 bytes b) rest)
    ∙ bytes_again 8 bytes (drop 8 bytes) b (omega arith) ∙ take-append-drop 8 bytes

pub bytes_lie : (area : List ℕ) → AllBytes area → length area ≡ area_bytes → all_bytes (numbers_in area) ≡ area
unfolding numbers_in
bytes_lie area b e = lies_again 410 area b e
