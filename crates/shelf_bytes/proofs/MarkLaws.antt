-- Numbers that have stood, kept as bits.
use mathlib.Core.Path.{◌≡◌, refl, ap, sym, ◌∙◌}
use mathlib.Core.List.{List}
use mathlib.Core.Bool.{Bool, true, false, not, ◌&&◌}
use Prim.Native.Nat.{ℕ, zero, suc, ◌+◌, ◌*◌, ◌/◌, ◌%◌, ◌^◌, ◌≤◌, ◌<◌}
use native.Mathlib.Omega.{arith}
use lib.Bits.{bit_and}
use lib.Dec.{eqb, ltb}
use lib.ListN.{length, get_or, set}
use lib.Seq.{get_or-set_same, get_or-set_other}
use borrow.Author.Tests.{eq-eqb, ne_eqb, eqb-true, eqb-false, lt-ltb, le-ltb}
use Rattle.std.specs.Int.{bit_at}
use Rattle.std.specs.Int.RustNames.{bit_or}
use Rattle.std.proofs.lemmas.Nat.{pow_pos, or_disjoint, or_lt}
use Rattle.std.proofs.Math.Pow.{pow-lt}
use Rattle.std.proofs.lemmas.Nat.Bits.{bit_at-lt, bit_at_or, bit_at-pow_same, bit_at-pow_other, and_pow}
use Rattle.json_grammar.proofs.Truth.{and_both, cond_true, cond_false}
use Rattle.shelf_list.proofs.Lists.{and_false}
use Rattle.shelf_bytes.specs.Marks.{word_of, marked, mark, is_new, Notes}

-- The number marked, and no other.
pub mark_here : (s : List ℕ) (n : ℕ) → n / 64 < length s → marked (mark s n) n ≡ true
unfolding marked mark
mark_here s n l =
    let k = n % 64 in
    let w = word_of s n in
    eq-eqb (bit_at (get_or (set s (n / 64) (bit_or w (2 ^ k))) (n / 64) 0) k) 1
    (ap (λ (x : ℕ). bit_at x k) (get_or-set_same s (n / 64) (bit_or w (2 ^ k)) 0 l)
    ∙ omega (arith, bit_at_or w (2 ^ k) k, bit_at-pow_same k, bit_at-lt w k))

pub mark_elsewhere : (s : List ℕ) (n m : ℕ) → n / 64 < length s → (m ≡ n → ⊥) → marked (mark s n) m ≡ marked s m
unfolding marked mark
mark_elsewhere s n m l d = go (eqb (m / 64) (n / 64)) refl
  where
    v : ℕ
    v = bit_or (word_of s n) (2 ^ (n % 64))

    go : (b : Bool) → eqb (m / 64) (n / 64) ≡ b
        → eqb (bit_at (get_or (set s (n / 64) (bit_or (word_of s n) (2 ^ (n % 64)))) (m / 64) 0) (m % 64)) 1 ≡ eqb (bit_at (word_of s m) (m % 64)) 1
    go true e =
        let i = eqb-true (m / 64) (n / 64) e in
        let w : word_of s m ≡ word_of s n = ap (λ (x : ℕ). get_or s x 0) i in
        let same : bit_at v (m % 64) ≡ bit_at (word_of s n) (m % 64) =
        omega (arith, bit_at_or (word_of s n) (2 ^ (n % 64)) (m % 64), bit_at-pow_other (n % 64) (m % 64) (λ j. d (omega arith))) in
        ap (λ (x : ℕ). eqb (bit_at x (m % 64)) 1)
        (ap (λ (x : ℕ). get_or (set s (n / 64) v) x 0) i ∙ get_or-set_same s (n / 64) v 0 l)
        ∙ ap (λ (x : ℕ). eqb x 1) same
        ∙ ap (λ (x : ℕ). eqb (bit_at x (m % 64)) 1) (sym w)
    go false e =
        ap (λ (x : ℕ). eqb (bit_at x (m % 64)) 1) (get_or-set_other s (n / 64) (m / 64) v 0 (eqb-false (m / 64) (n / 64) e))

-- As the code tests it: 1 shifted left is one bit of a word.
one_shifted : (k : ℕ) → k < 64 → (1 * 2 ^ k) % 18446744073709551616 ≡ 2 ^ k
one_shifted k h = let l = pow-lt h in omega arith

pub not_new : (s : List ℕ) (n : ℕ) → is_new s n ≡ false → Notes s n false s
not_new s n h = record { new = sym h; left = sym (cond_false (is_new s n) (mark s n) s h) }

pub beyond_all : (s : List ℕ) (n : ℕ) → length s ≤ n / 64 → is_new s n ≡ false
beyond_all s n h = ap (λ (b : Bool). b && not (marked s n)) (le-ltb (n / 64) (length s) h)

-- The bit as the code tests it.
tested : (s : List ℕ) (n : ℕ) → bit_and (word_of s n) (1 * 2 ^ (n % 64) % 18446744073709551616) ≡ bit_at (word_of s n) (n % 64) * 2 ^ (n % 64)
tested s n = rw (one_shifted (n % 64) (omega arith)) (and_pow (word_of s n) (n % 64))

pub marked_before : (s : List ℕ) (n : ℕ) → (bit_and (word_of s n) (1 * 2 ^ (n % 64) % 18446744073709551616) ≡ 0 → ⊥) → is_new s n ≡ false
unfolding marked
marked_before s n h =
    let set : bit_at (word_of s n) (n % 64) ≡ 1 = go (bit_at (word_of s n) (n % 64)) refl (bit_at-lt (word_of s n) (n % 64)) in
    and_false (ltb (n / 64) (length s)) (not (marked s n)) (ap not (eq-eqb (bit_at (word_of s n) (n % 64)) 1 set))
  where
    go : (b : ℕ) → bit_at (word_of s n) (n % 64) ≡ b → b < 2 → b ≡ 1
    go zero e l = absurd (h (tested s n ∙ ap (λ (x : ℕ). x * 2 ^ (n % 64)) e ∙ omega arith))
    go (suc b) e l = omega arith

-- Two words without a bit in common add up to one.
pub sum_fits : (w b : ℕ) → w < 2 ^ 64 → b < 2 ^ 64 → bit_and w b ≡ 0 → w + b < 2 ^ 64
sum_fits w b l k h = rw (← or_disjoint w b h) (or_lt 64 w b l k)

pub new_noted : (s : List ℕ) (n : ℕ) → n / 64 < length s → bit_and (word_of s n) (1 * 2 ^ (n % 64) % 18446744073709551616) ≡ 0
    → Notes s n true (set s (n / 64) (word_of s n + 1 * 2 ^ (n % 64) % 18446744073709551616))
unfolding marked mark
new_noted s n l h =
    let power : 0 < 2 ^ (n % 64) = pow_pos (n % 64) in
    let clear : bit_at (word_of s n) (n % 64) ≡ 1 → ⊥ = λ b. let k : 1 * 2 ^ (n % 64) ≡ 0 = ap (λ (x : ℕ). x * 2 ^ (n % 64)) (sym b) ∙ sym (tested s n) ∙ h in omega arith in
    let e : is_new s n ≡ true = and_both (lt-ltb (n / 64) (length s) l) (ap not (ne_eqb (bit_at (word_of s n) (n % 64)) 1 clear)) in
    record {
      new = sym e;
      left =
          ap (set s (n / 64)) (sym (or_disjoint (word_of s n) (1 * 2 ^ (n % 64) % 18446744073709551616) h))
          ∙ ap (λ (x : ℕ). set s (n / 64) (bit_or (word_of s n) x)) (one_shifted (n % 64) (omega arith))
          ∙ sym (cond_true (is_new s n) (mark s n) s e);
    }
