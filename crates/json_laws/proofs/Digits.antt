-- What hexadecimal digits count, and the code points of escapes.
use Prim.Native.Nat.{ℕ, ◌+◌, ◌*◌, ◌-◌, ◌/◌, ◌%◌, ◌≤◌, ◌<◌}
use mathlib.Core.Path.{◌≡◌, refl, ◌∙◌}
use mathlib.Core.List.{[], ◌∷◌}
use mathlib.Core.Logic.{◌≢◌}
use mathlib.Core.Bool.{Bool, true, false}
use borrow.Author.Tests.{lt-ltb, le-ltb}
use native.Mathlib.Omega.{arith}
use Rattle.json_grammar.specs.Rows.{Rows, else, below}
use Rattle.json_grammar.specs.Byte.{digit, is_d, is_to_7, is_8_to_b, is_c_to_f}
use Rattle.json_grammar.specs.String.{one_more, point}
use Rattle.json_grammar.specs.Grammar.{four, paired}
use Rattle.json_laws.proofs.Tables.{Each, each, by_rows}

abbrev digit_rows : ℕ → Rows ℕ
digit_rows b = below 48 0 (below 58 (b - 48) (below 65 0 (below 71 (b - 55) (below 97 0 (below 103 (b - 87) (else 0))))))

digit_by : (P : ℕ → Type 0) (b : ℕ) → Each 0 b (digit_rows b) P → P (digit b)
unfolding digit
digit_by P b h = each P 0 b (digit_rows b) (omega arith) h

pub digit_small : (b : ℕ) → digit b < 16
digit_small b = digit_by (λ d. d < 16) b (omega arith)

-- The digits of a surrogate's first byte: D; 8 to B in the first half, C to F in the second.
abbrev CountsD : ℕ → Bool → Type 0
CountsD b true = digit b ≡ 13
CountsD b false = digit b ≡ 13 → ⊥

counts_d : (b : ℕ) → CountsD b (is_d b)
unfolding is_d
counts_d b = by_rows (CountsD b) is_d (68 ∷ 69 ∷ 100 ∷ 101 ∷ []) b refl (
  λ l h. digit_by (λ d. d ≡ 13 → ⊥) b (omega arith),
  (
    λ l h. digit_by (λ d. d ≡ 13) b (omega arith),
    (
      λ l h. digit_by (λ d. d ≡ 13 → ⊥) b (omega arith),
      (λ l h. digit_by (λ d. d ≡ 13) b (omega arith), λ l. digit_by (λ d. d ≡ 13 → ⊥) b (omega arith)),
    ),
  ),
)

abbrev Counts8ToB : ℕ → Bool → Type 0
Counts8ToB b true = (8 ≤ digit b) × (digit b < 12)
Counts8ToB b false = Unit {0}

counts_8_to_b : (b : ℕ) → Counts8ToB b (is_8_to_b b)
unfolding is_8_to_b
counts_8_to_b b = by_rows (Counts8ToB b) is_8_to_b (56 ∷ 58 ∷ 65 ∷ 67 ∷ 97 ∷ 99 ∷ []) b refl (
  λ _ _. tt,
  (
    λ l h. digit_by (λ d. (8 ≤ d) × (d < 12)) b (omega arith),
    (
      λ _ _. tt,
      (
        λ l h. digit_by (λ d. (8 ≤ d) × (d < 12)) b (omega arith),
        (λ _ _. tt, (λ l h. digit_by (λ d. (8 ≤ d) × (d < 12)) b (omega arith), λ _. tt)),
      ),
    ),
  ),
)

abbrev CountsCToF : ℕ → Bool → Type 0
CountsCToF b true = 12 ≤ digit b
CountsCToF b false = Unit {0}

counts_c_to_f : (b : ℕ) → CountsCToF b (is_c_to_f b)
unfolding is_c_to_f
counts_c_to_f b = by_rows (CountsCToF b) is_c_to_f (67 ∷ 71 ∷ 99 ∷ 103 ∷ []) b refl
    (λ _ _. tt, (λ l h. digit_by (λ d. 12 ≤ d) b (omega arith), (λ _ _. tt, (λ l h. digit_by (λ d. 12 ≤ d) b (omega arith), λ _. tt))))

pub digit_d : (b : ℕ) → is_d b ≡ true → digit b ≡ 13
digit_d b e = rw e at (counts_d b)

pub digit_not_d : (b : ℕ) → is_d b ≡ false → digit b ≡ 13 → ⊥
digit_not_d b e = rw e at (counts_d b)

abbrev CountsTo7 : ℕ → Bool → Type 0
CountsTo7 b true = digit b < 8
CountsTo7 b false = Unit {0}

counts_to_7 : (b : ℕ) → CountsTo7 b (is_to_7 b)
unfolding is_to_7
counts_to_7 b = by_rows (CountsTo7 b) is_to_7 (48 ∷ 56 ∷ []) b refl (λ _ _. tt, (λ l h. digit_by (λ d. d < 8) b (omega arith), λ _. tt))

pub digit_to_7 : (b : ℕ) → is_to_7 b ≡ true → digit b < 8
digit_to_7 b e = rw e at (counts_to_7 b)

pub digit_8_to_b : (b : ℕ) → is_8_to_b b ≡ true → (8 ≤ digit b) × (digit b < 12)
digit_8_to_b b e = rw e at (counts_8_to_b b)

pub digit_c_to_f : (b : ℕ) → is_c_to_f b ≡ true → 12 ≤ digit b
digit_c_to_f b e = rw e at (counts_c_to_f b)

-- One digit more, while there is room for it.
pub one_more_lem : (v b : ℕ) → v < 0x10000000 → one_more v b ≡ v * 16 + digit b
unfolding one_more
one_more_lem v b h = omega (arith, digit_small b)

pub four_small : (h i j k : ℕ) → four h i j k < 0x10000
unfolding four
four_small h i j k = omega (arith, digit_small h, digit_small i, digit_small j, digit_small k)

pub four_gathered : (h i j k : ℕ) → one_more (one_more (one_more (digit h) i) j) k ≡ four h i j k
unfolding four
four_gathered h i j k =
    let a = digit_small h in let b = digit_small i in let c = digit_small j in
    rw (one_more_lem (digit h) i (omega arith), one_more_lem (digit h * 16 + digit i) j (omega arith), one_more_lem ((digit h * 16 + digit i) * 16 + digit j) k (omega arith))

-- Four more behind four.
pub eight_gathered : (v l m n o : ℕ) → v < 0x10000 → one_more (one_more (one_more (one_more v l) m) n) o ≡ v * 0x10000 + four l m n o
unfolding four
eight_gathered v l m n o h =
    let a = digit_small l in let b = digit_small m in let c = digit_small n in
    rw (one_more_lem v l (omega arith), one_more_lem (v * 16 + digit l) m (omega arith), one_more_lem ((v * 16 + digit l) * 16 + digit m) n (omega arith), one_more_lem (((v * 16 + digit l) * 16 + digit m) * 16 + digit n) o (omega arith)) (omega arith)

pub point_small : (v : ℕ) → v < 0x10000 → point v ≡ v
unfolding point
point_small v h = rw (lt-ltb v 0x10000 h)

point_large : (v : ℕ) → 0x10000 ≤ v → point v ≡ 0x10000 + v / 0x10000 % 0x400 * 0x400 + v % 0x400
unfolding point
point_large v h = rw (le-ltb v 0x10000 h)

pub point_pair : (h l : ℕ) → 0xD800 ≤ h → h < 0xDC00 → 0xDC00 ≤ l → l < 0xE000 → point (h * 0x10000 + l) ≡ paired h l
point_pair h l a b c d =
    let x : (h * 0x10000 + l) / 0x10000 ≡ h = omega arith in
    let y : h % 0x400 ≡ h - 0xD800 = omega arith in
    let z : (h * 0x10000 + l) % 0x400 ≡ l - 0xDC00 = omega arith in
    point_large (h * 0x10000 + l) (omega arith) ∙ rw (x, y, z)

pub high_half : (h i j k : ℕ) → is_d h ≡ true → is_8_to_b i ≡ true → (0xD800 ≤ four h i j k) × (four h i j k < 0xDC00)
unfolding four
high_half h i j k d e = let a = digit_d h d in let b = digit_8_to_b i e in let x = digit_small j in let y = digit_small k in omega arith

pub low_half : (h i j k : ℕ) → is_d h ≡ true → is_c_to_f i ≡ true → (0xDC00 ≤ four h i j k) × (four h i j k < 0xE000)
unfolding four
low_half h i j k d e = let a = digit_d h d in let b = digit_c_to_f i e in let w = digit_small i in let x = digit_small j in let y = digit_small k in omega arith

-- Four digits that are no surrogate.
pub four_no_d : (h i j k : ℕ) → is_d h ≡ false → 0xD800 ≤ four h i j k → 0xE000 ≤ four h i j k
unfolding four
four_no_d h i j k e l =
    let a = digit_small h in let b = digit_small i in let c = digit_small j in let d = digit_small k in let f : digit h ≢ 13 = digit_not_d h e in omega arith

pub four_d : (h i j k : ℕ) → is_d h ≡ true → is_to_7 i ≡ true → four h i j k < 0xD800
unfolding four
four_d h i j k d e = let a = digit_d h d in let b = digit_to_7 i e in let x = digit_small j in let y = digit_small k in omega arith
