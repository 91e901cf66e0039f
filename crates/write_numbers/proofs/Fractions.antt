-- Digits behind the point, as far as they are laid.
use mathlib.Core.Path.{◌≡◌, refl}
use mathlib.Core.List.{List, [], ◌∷◌, ◌++◌}
use Prim.Native.Nat.{ℕ, zero, suc, ◌+◌, ◌/◌, ◌%◌, ◌<◌, ◌≤◌}
use native.Mathlib.Omega.{arith}
use borrow.Author.Tests.{ne_eqb}
use Rattle.document.specs.Plain.{fraction_digits}
use Rattle.write_bytes.specs.Puts.{Lays}
use Rattle.write_bytes.specs.declared.Output.{Output}
use Rattle.write_bytes.proofs.Laid.{lays_none, lays_then}

-- So many scales are left, each a tenth of the one before.
abbrev Scales : ℕ → ℕ → Type 0
Scales zero scale = scale ≡ 0
Scales (suc f) scale = (0 < scale) × Scales f (scale / 10)

-- Nothing is left behind the last of them.
abbrev Ends : ℕ → ℕ → ℕ → Type 0
Ends zero scale n = n ≡ 0
Ends (suc f) scale n = (n / scale ≤ 9) × Ends f (scale / 10) (n % scale)

pub record Behind (before out : Output) (n left scale : ℕ) : Type 0 where
  pub places : ℕ
  pub scales : Scales places scale
  pub ends : Ends places scale left
  pub laid : (k : List ℕ) → Lays before (fraction_digits 6 100000 n ++ k) (fraction_digits places scale left ++ k) out

pub behind_first : (out : Output) (n : ℕ) → n < 1000000 → Behind out out n n 100000
behind_first out n h = record {
  places = 6;
  scales = (omega arith, (omega arith, (omega arith, (omega arith, (omega arith, (omega arith, refl))))));
  ends = (omega arith, (omega arith, (omega arith, (omega arith, (omega arith, (omega arith, omega arith))))));
  laid = λ k. lays_none out (fraction_digits 6 100000 n ++ k);
}

none_left : (f scale : ℕ) → fraction_digits f scale 0 ≡ []
unfolding fraction_digits
none_left zero scale = refl
none_left (suc f) scale = refl

one_left : (f scale n : ℕ) → 0 < n → fraction_digits (suc f) scale n ≡ (48 + n / scale) ∷ fraction_digits f (scale / 10) (n % scale)
unfolding fraction_digits
one_left f scale n h = rw (ne_eqb n 0 (λ e. omega (arith, e)))

module _ {before out : Output} {n left scale : ℕ} where
  pub behind_end : Behind before out n left scale → left ≤ 0 → (k : List ℕ) → Lays before (fraction_digits 6 100000 n ++ k) k out
  behind_end b h k = let e : left ≡ 0 = omega arith in rw (e, none_left b.places scale) at (b.laid k)

  pub behind_on : {d : ℕ} {after : Output} → Behind before out n left scale → 0 < left → d ≡ 48 + left / scale % 10
      → ((k : List ℕ) → Lays out (d ∷ k) k after) → Behind before after n (left % scale) (scale / 10)
  behind_on {d} {after} b h e q = go b.places b.scales b.ends b.laid
    where
      go : (f : ℕ) → Scales f scale → Ends f scale left → ((k : List ℕ) → Lays before (fraction_digits 6 100000 n ++ k) (fraction_digits f scale left ++ k) out) → Behind before after n (left % scale) (scale / 10)
      go zero s g p = let no : ⊥ = omega arith in absurd no
      go (suc f) s g p =
          let one : d ≡ 48 + left / scale = omega (arith, g.0) in
          record {
            places = f;
            scales = s.1;
            ends = g.1;
            laid = λ k. lays_then (rw (one_left f scale left h) at (p k)) (rw (← one) (q (fraction_digits f (scale / 10) (left % scale) ++ k)));
          }
