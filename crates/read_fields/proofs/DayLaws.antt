-- Days that were marked as they were read: repeats, and the set as bits.
use Prim.Native.Nat.{ℕ, zero, suc, ◌+◌, ◌*◌, ◌-◌, ◌^◌, ◌<◌, ◌≤◌}
use mathlib.Core.Path.{◌≡◌, refl, sym, ap, ◌∙◌}
use mathlib.Core.List.{List, [], ◌∷◌, ◌++◌}
use mathlib.Core.Bool.{Bool, true, false, cond, not, ◌&&◌, ◌||◌, or-true, or-false, or_assoc}
use lib.ListN.{length, get_or, set, replicate}
use lib.Seq.{get_or-set_same, get_or-set_other}
use lib.Dec.{eqb, leb}
use borrow.Author.Tests.{ne_eqb, eqb-true, eqb-false, not-true}
use native.Mathlib.Nat.{pow-suc, pow-le-pow_right}
use native.Mathlib.Numerals.{add-one}
use native.Mathlib.Omega.{arith}
use Rattle.json_grammar.specs.Rows.{choose}
use Rattle.document.specs.Date.{among}
use Rattle.document.specs.Table.{day_set}
use Rattle.document.specs.Visit.{distinct, inserted, ascending}
use Rattle.json_grammar.proofs.Truth.{and_left, and_right}
use Rattle.document.proofs.Same.{eqb_sym}
use Rattle.read_fields.specs.DaySets.{bits}

-- A set is below the next power.
pub bits_below : (n : ℕ) (marks : List Bool) → bits n marks < 2 ^ n
unfolding bits
bits_below zero marks = omega arith
bits_below (suc n) marks = rw (pow-suc 2 n) (go (get_or marks (suc n) false) (bits_below n marks))
  where
    go : (t : Bool) → bits n marks < 2 ^ n → bits n marks + cond t (2 ^ n) 0 < 2 ^ n * 2
    go true h = omega arith
    go false h = omega arith

-- The order of the days does not change their set.
set_inserted : (d : ℕ) (es : List ℕ) → day_set (inserted d es) ≡ 2 ^ (d - 1) + day_set es
set_inserted d [] = refl
set_inserted d (e ∷ es) = go (leb d e) (set_inserted d es)
  where
    go : (t : Bool) → day_set (inserted d es) ≡ 2 ^ (d - 1) + day_set es → day_set (choose t (λ _. d ∷ e ∷ es) λ _. e ∷ inserted d es) ≡ 2 ^ (d - 1) + (2 ^ (e - 1) + day_set es)
    go true h = refl
    go false h = omega arith

pub set_ascending : (ds : List ℕ) → day_set (ascending ds) ≡ day_set ds
set_ascending [] = refl
set_ascending (d ∷ ds) = set_inserted d (ascending ds) ∙ ap (λ n. 2 ^ (d - 1) + n) (set_ascending ds)

-- Days between 1 and 28.
abbrev pub Between : List ℕ → Type 0
Between [] = Unit {0}
Between (d ∷ ds) = (1 ≤ d) × (d ≤ 28) × Between ds

-- The bits of a list of days.
unfoldable pub list_bits : ℕ → List ℕ → ℕ
list_bits zero ds = 0
list_bits (suc n) ds = list_bits n ds + cond (among (suc n) ds) (2 ^ n) 0

marked_bits : (n : ℕ) (marks : List Bool) (ds : List ℕ) → n ≤ 28 → ((d : ℕ) → d < 29 → get_or marks d false ≡ among d ds) → bits n marks ≡ list_bits n ds
unfolding bits list_bits
marked_bits zero marks ds h f = refl
marked_bits (suc n) marks ds h f = rw (f (suc n) (omega arith), marked_bits n marks ds (omega arith) f)

-- A day more: below it nothing changes, and from it on its power comes in.
below_day : (n d : ℕ) (ds : List ℕ) → n < d → list_bits n (d ∷ ds) ≡ list_bits n ds
unfolding list_bits
below_day zero d ds h = refl
below_day (suc n) d ds h = rw (ne_eqb (suc n) d (λ e. omega arith), below_day n d ds (omega arith))

day_in : (n d : ℕ) (ds : List ℕ) → 1 ≤ d → d ≤ n → among d ds ≡ false → list_bits n (d ∷ ds) ≡ 2 ^ (d - 1) + list_bits n ds
unfolding list_bits
day_in zero d ds a b e = absurd (omega arith)
day_in (suc n) d ds a b e = go (eqb (suc n) d) refl (λ k. day_in n d ds a k e)
  where
    go : (t : Bool) → eqb (suc n) d ≡ t → (d ≤ n → list_bits n (d ∷ ds) ≡ 2 ^ (d - 1) + list_bits n ds) → list_bits n (d ∷ ds) + cond (t || among (suc n) ds) (2 ^ n) 0 ≡ 2 ^ (d - 1) + (list_bits n ds + cond (among (suc n) ds) (2 ^ n) 0)
    go true h i =
        let k : suc n ≡ d = eqb-true (suc n) d h in
        let j : among (suc n) ds ≡ false = ap (λ x. among x ds) k ∙ e in
        let m : d - 1 ≡ n = omega arith in
        rw (j, m, below_day n d ds (omega arith)) (omega arith)
    go false h i =
        let k : d ≤ n = omega (arith, eqb-false (suc n) d h) in
        rw (i k) (omega arith)

no_bits : (n : ℕ) → list_bits n [] ≡ 0
unfolding list_bits
no_bits zero = refl
no_bits (suc n) = rw (no_bits n)

distinct_bits : (ds : List ℕ) → Between ds → distinct ds ≡ true → list_bits 28 ds ≡ day_set ds
distinct_bits [] b e = no_bits 28
distinct_bits (d ∷ ds) (x, y, b) e =
    day_in 28 d ds x y (not-true (among d ds) (and_left (not (among d ds)) (distinct ds) e))
    ∙ ap (λ n. 2 ^ (d - 1) + n) (distinct_bits ds b (and_right (not (among d ds)) (distinct ds) e))

pub marked_set : (marks : List Bool) (ds : List ℕ) → Between ds → ((d : ℕ) → d < 29 → get_or marks d false ≡ among d ds) → distinct ds ≡ true → day_set (ascending ds) ≡ bits 28 marks
marked_set marks ds b f e = set_ascending ds ∙ sym (distinct_bits ds b e) ∙ sym (marked_bits 28 marks ds (omega arith) f)

-- One day more behind those that were read.
pub between_more : (ds : List ℕ) (d : ℕ) → Between ds → 1 ≤ d → d ≤ 28 → Between (ds ++ (d ∷ []))
between_more [] d b x y = (x, y, tt)
between_more (c ∷ ds) d (p, q, b) x y = (p, q, between_more ds d b x y)

among_more : (k : ℕ) (ds : List ℕ) (d : ℕ) → among k (ds ++ (d ∷ [])) ≡ (among k ds || eqb k d)
among_more k [] d = or-false (eqb k d)
among_more k (c ∷ ds) d = rw (among_more k ds d) (sym (or_assoc (eqb k c) (among k ds) (eqb k d)))

pub distinct_more : (ds : List ℕ) (d : ℕ) → not (distinct (ds ++ (d ∷ []))) ≡ (not (distinct ds) || among d ds)
distinct_more [] d = refl
distinct_more (c ∷ ds) d = rw (among_more c ds d, eqb_sym c d) (go (among c ds) (eqb d c) (distinct (ds ++ (d ∷ []))) (distinct ds) (among d ds) (distinct_more ds d))
  where
    go : (a b p q r : Bool) → not p ≡ (not q || r) → not (not (a || b) && p) ≡ (not (not a && q) || (b || r))
    go true b p q r e = refl
    go false true p q r e = sym (or-true (not q))
    go false false p q r e = e

pub marks_more : (marks : List Bool) (ds : List ℕ) (d : ℕ) → length marks ≡ 29 → d < 29 → ((k : ℕ) → k < 29 → get_or marks k false ≡ among k ds) → (k : ℕ) → k < 29 → get_or (set marks d true) k false ≡ among k (ds ++ (d ∷ []))
marks_more marks ds d h b f k j = go (eqb k d) refl ∙ sym (among_more k ds d)
  where
    go : (t : Bool) → eqb k d ≡ t → get_or (set marks d true) k false ≡ (among k ds || eqb k d)
    go true e = rw (e, eqb-true k d e, get_or-set_same marks d true false (omega arith)) (sym (or-true (among d ds)))
    go false e = rw (e, get_or-set_other marks d k true false (eqb-false k d e)) (f k j ∙ sym (or-false (among k ds)))

-- The marks gathered up to a day.
pub record Gathered (marks : List Bool) (sum power k : ℕ) : Type 0 where
  pub is : sum ≡ bits k marks
  pub next : power ≡ 2 ^ k
  pub few : k ≤ 28

pub gather_start : (marks : List Bool) → Gathered marks 0 1 0
unfolding bits
gather_start marks = record { is = refl; next = refl; few = omega arith }

pub gather_more : (marks : List Bool) (sum power k : ℕ) → Gathered marks sum power k → k < 28 → (marked : Bool) → get_or marks (k + 1) false ≡ marked → Gathered marks (sum + cond marked power 0) (power * 2) (k + 1)
unfolding bits
gather_more marks sum power k g h marked e =
    rw (add-one k)
    (record {
      is = rw (← g.is, ← g.next) (ap (λ t. sum + cond t power 0) (rw (← add-one k) (sym e)));
      next = rw (pow-suc 2 k, ← g.next);
      few = omega arith;
    })

pub gathered_small : (marks : List Bool) (sum power k : ℕ) → Gathered marks sum power k → (sum < 268435456) × (power ≤ 268435456)
gathered_small marks sum power k g =
    let p : 2 ^ k ≤ 2 ^ 28 = pow-le-pow_right {n = 2} (omega arith) g.few in
    let q : 2 ^ 28 ≡ 268435456 = refl in
    (omega (arith, bits_below k marks, g.is), omega (arith, g.next))

pub no_marks : (n d : ℕ) → get_or (replicate n false) d false ≡ false
no_marks zero d = refl
no_marks (suc n) zero = refl
no_marks (suc n) (suc d) = no_marks n d
