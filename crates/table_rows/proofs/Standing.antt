-- Words laid one after the other stand at their records, and the other way round.
use mathlib.Core.Path.{◌≡◌, ap, sym, subst, ◌∙◌}
use mathlib.Core.List.{List, [], ◌∷◌, ◌++◌, append_assoc}
use Prim.Native.Nat.{ℕ, suc, ◌+◌, ◌*◌, ◌≤◌, ◌<◌, min}
use native.Mathlib.Omega.{arith}
use lib.ListN.{length, drop, get_or, length-append, drop_of_length-le}
use lib.Seq.{drop-cons, get_or-append-add}
use Rattle.document.specs.Words.{Words, width, row, rows}
use Rattle.table_rows.specs.Standing.{Lies}

pub moved : (ws : List ℕ) (l : List Words) {i j : ℕ} → i ≡ j → Lies ws i l → Lies ws j l
moved ws l e p = subst (λ n. Lies ws n l) e p

-- The record behind, where it is one of the table's or the table ends there.
pub behind_told : {r n : ℕ} → r ≡ min n 64 → n ≤ 64 → r ≡ n
behind_told e h = omega arith

pub front_lies : (ws : List ℕ) (i : ℕ) (l m : List Words) → Lies ws i (l ++ m) → Lies ws i l
front_lies ws i [] m p = tt
front_lies ws i (w ∷ l) m p = (p.0, front_lies ws (i + 1) l m p.1)

word_at : (ws pre s : List ℕ) (n j : ℕ) → length pre ≡ n → ws ≡ pre ++ s → get_or ws (n + j) 0 ≡ get_or s j 0
word_at ws pre s n j h e = ap (λ t. get_or t (n + j) 0) e ∙ ap (λ m. get_or (pre ++ s) (m + j) 0) (sym h) ∙ get_or-append-add pre s j 0

first_at : (ws pre s : List ℕ) (n : ℕ) → length pre ≡ n → ws ≡ pre ++ s → get_or ws n 0 ≡ get_or s 0 0
first_at ws pre s n h e = let z : n ≡ n + 0 = omega arith in ap (λ m. get_or ws m 0) z ∙ word_at ws pre s n 0 h e

pub rows_lie : (ws : List ℕ) (l : List Words) (pre : List ℕ) (i : ℕ) → length pre ≡ i * width → ws ≡ pre ++ rows l → i + length l ≤ 64 → Lies ws i l
rows_lie ws [] pre i h e f = tt
rows_lie ws (w ∷ l) pre i h e f =
    let s = row w (rows l) in
    let own = row w [] in
    let n : length (pre ++ own) ≡ (i + 1) * width = length-append pre own ∙ omega arith in
    let at : (j : ℕ) → get_or ws (i * width + j) 0 ≡ get_or s j 0 = λ j. word_at ws pre s (i * width) j h e in (
      record { inside = omega arith; tag = first_at ws pre s (i * width) h e; below = at 1; a = at 2; b = at 3; c = at 4; d = at 5 },
      rows_lie ws l (pre ++ own) (i + 1) n (e ∙ sym (append_assoc pre own (rows l))) (omega arith),
    )

-- Words that stand at every record are all the words.
one_word : (ws : List ℕ) (i j v : ℕ) (s : List ℕ) → j ≡ suc i → i < length ws → get_or ws i 0 ≡ v → drop j ws ≡ s → drop i ws ≡ v ∷ s
one_word ws i j v s e h f g = drop-cons ws i 0 h ∙ ap (λ x. x ∷ drop (suc i) ws) f ∙ ap (λ n. v ∷ drop n ws) (sym e) ∙ ap (λ x. v ∷ x) g

pub lies_rows : (ws : List ℕ) (l : List Words) (i : ℕ) → length ws ≡ (i + length l) * width → Lies ws i l → drop (i * width) ws ≡ rows l
lies_rows ws [] i n l = drop_of_length-le ws {i = i * width} (omega arith)
lies_rows ws (w ∷ l) i n (p, q) =
    one_word ws (i * width) (i * width + 1) w.tag _ (omega arith) (omega arith) p.tag
    (one_word ws (i * width + 1) (i * width + 2) w.below _ (omega arith) (omega arith) p.below
    (one_word ws (i * width + 2) (i * width + 3) w.a _ (omega arith) (omega arith) p.a
    (one_word ws (i * width + 3) (i * width + 4) w.b _ (omega arith) (omega arith) p.b
    (one_word ws (i * width + 4) (i * width + 5) w.c _ (omega arith) (omega arith) p.c
    (one_word ws (i * width + 5) ((i + 1) * width) w.d _ (omega arith) (omega arith) p.d (lies_rows ws l (i + 1) (omega arith) q))))))
