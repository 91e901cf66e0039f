-- The bytes of a code point are UTF-8, if it is no surrogate.
use Prim.Native.Nat.{ℕ, ◌+◌, ◌/◌, ◌%◌, ◌≤◌, ◌<◌}
use mathlib.Core.Path.{◌≡◌, refl}
use mathlib.Core.List.{List, [], ◌∷◌, ◌++◌}
use mathlib.Core.Bool.{Bool, true, false}
use lib.Dec.{ltb}
use borrow.Author.Tests.{ltb-true, ltb-false}
use native.Mathlib.Omega.{arith}
use Rattle.json_grammar.specs.Rows.{else, below}
use Rattle.json_grammar.specs.Byte.{utf8}
use Rattle.json_laws.specs.Utf8 as U
use Rattle.json_laws.specs.Utf8.{Utf8}
use Rattle.json_laws.proofs.Tables.{each}

-- Below a number, or from it on.
pub split : {P : Type 0} (c n : ℕ) → (c < n → P) → (n ≤ c → P) → P
split {P} c n f g = which (ltb c n) refl
  where
    which : (x : Bool) → ltb c n ≡ x → P
    which true e = f (ltb-true c n e)
    which false e = g (ltb-false c n e)

-- The bytes behind the first carry six bits each.
abbrev low : ℕ → ℕ
low c = 0x80 + c % 64

abbrev mid : ℕ → ℕ
mid c = 0x80 + c / 64 % 64

abbrev high : ℕ → ℕ
high c = 0x80 + c / 4096 % 64

module _ (c : ℕ) (s : List ℕ) (u : Utf8 s) where
  point_two : 0x80 ≤ c → c < 0x800 → Utf8 ((0xC0 + c / 64) ∷ low c ∷ s)
  point_two l h = U.two {b = 0xC0 + c / 64} {c = low c} (omega arith) (omega arith) u

  point_three : 0x800 ≤ c → c < 0x10000 → (0xD800 ≤ c → 0xE000 ≤ c) → Utf8 ((0xE0 + c / 4096) ∷ mid c ∷ low c ∷ s)
  point_three l h g =
      split c 0x1000 (λ a. U.three_e0 {b = 0xE0 + c / 4096} {c = mid c} {d = low c} (omega arith) (omega arith) (omega arith) u) λ a.
      split c 0xD000 (λ b. U.three_e1 {b = 0xE0 + c / 4096} {c = mid c} {d = low c} (omega arith) (omega arith) (omega arith) u) λ b.
      split c 0xD800 (λ d. U.three_e_d {b = 0xE0 + c / 4096} {c = mid c} {d = low c} (omega arith) (omega arith) (omega arith) u) λ d.
      let e = g d in U.three_e_e {b = 0xE0 + c / 4096} {c = mid c} {d = low c} (omega arith) (omega arith) (omega arith) u

  point_four : 0x10000 ≤ c → c ≤ 0x10FFFF → Utf8 ((0xF0 + c / 262144 % 8) ∷ high c ∷ mid c ∷ low c ∷ s)
  point_four l h =
      split c 0x40000 (λ a. U.four_f0 {b = 0xF0 + c / 262144 % 8} {c = high c} {d = mid c} {e = low c} (omega arith) (omega arith) (omega arith) (omega arith) u) λ a.
      split c 0x100000 (λ b. U.four_f1 {b = 0xF0 + c / 262144 % 8} {c = high c} {d = mid c} {e = low c} (omega arith) (omega arith) (omega arith) (omega arith) u) λ b.
      U.four_f4 {b = 0xF0 + c / 262144 % 8} {c = high c} {d = mid c} {e = low c} (omega arith) (omega arith) (omega arith) (omega arith) u

  pub point_utf8 : c ≤ 0x10FFFF → (0xD800 ≤ c → 0xE000 ≤ c) → Utf8 (utf8 c ++ s)
  unfolding utf8
  point_utf8 m g = each (λ x. Utf8 (x ++ s)) 0 c
      (below 0x80 (c ∷ []) (below 0x800 ((0xC0 + c / 64) ∷ (0x80 + c % 64) ∷ [])
      (below 0x10000 ((0xE0 + c / 4096) ∷ (0x80 + c / 64 % 64) ∷ (0x80 + c % 64) ∷ [])
      (else ((0xF0 + c / 262144 % 8) ∷ (0x80 + c / 4096 % 64) ∷ (0x80 + c / 64 % 64) ∷ (0x80 + c % 64) ∷ [])))))
      (omega arith) (λ l h. U.one {b = c} (omega arith) u, (λ l h. point_two l h, (λ l h. point_three l h g, λ l. point_four l m)))
