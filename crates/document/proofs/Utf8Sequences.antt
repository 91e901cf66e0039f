-- What passes the test is UTF-8 by RFC 3629's syntax.
use Prim.Native.Nat.{ℕ, zero, suc, ◌≤◌, ◌<◌}
use mathlib.Core.Path.{◌≡◌}
use mathlib.Core.List.{List, [], ◌∷◌}
use mathlib.Core.Bool.{true, false≢true}
use mathlib.Core.Option.{Option}
use native.Mathlib.Omega.{arith}
use lib.ListN.{length}
use Rattle.json_grammar.specs.Byte.{within}
use Rattle.json_laws.specs.Utf8.{Utf8}
use Rattle.json_laws.specs.Utf8 as U
use Rattle.json_laws.proofs.Tables.{each}
use Rattle.json_laws.proofs.Bytes.{within_is}
use Rattle.document.specs.Utf8.{Within, from, tail, follow_rows, go_on, well_formed, is_utf8}
use Rattle.json_grammar.proofs.Truth.{and_left, and_right}

-- One byte that must follow.
module _ (P : List ℕ → Type 0) (n : ℕ) where
  following : (w : Within) (ws : List Within) (s : List ℕ) → length s ≤ n → well_formed s (w ∷ ws) ≡ true
      → ((c : ℕ) (r : List ℕ) → w.lo ≤ c → c < w.hi → length r < n → well_formed r ws ≡ true → P (c ∷ r)) → P s
  unfolding well_formed
  following w ws [] l h f = absurd (false≢true h)
  following w ws (c ∷ r) l h f =
      let i = within_is w.lo w.hi c (and_left (within w.lo w.hi c) (well_formed r ws) h) in
      f c r i.0 i.1 (omega arith) (and_right (within w.lo w.hi c) (well_formed r ws) h)

abbrev Sequence : ℕ → List ℕ → Option (List Within) → Type 0
Sequence b s o = go_on o (λ ws. well_formed s ws) ≡ true → Utf8 (b ∷ s)

-- Strings of at most n bytes.
well_formed_lem : (n : ℕ) (s : List ℕ) → length s ≤ n → well_formed s [] ≡ true → Utf8 s
unfolding well_formed
well_formed_lem zero [] l h = U.none
well_formed_lem zero (b ∷ s) l h = absurd (omega arith)
well_formed_lem (suc n) [] l h = U.none
well_formed_lem (suc n) (b ∷ s) l h =
    let on : (r : List ℕ) → length r ≤ n → well_formed r [] ≡ true → Utf8 r = λ r i g. well_formed_lem n r i g in
    let short : length s ≤ n = omega arith in
    each (Sequence b s) 0 b follow_rows (omega arith) (
      λ lo hi g. U.one {b = b} (omega arith) (on s short g),
      (
        λ lo hi g. absurd (false≢true g),
        (
          λ lo hi g. following (λ r. Utf8 (b ∷ r)) n tail [] s short g (λ c r c₀ c₁ i g'. U.two {b = b} {c = c} (omega arith) (omega arith) (on r (omega arith) g')),
          (
            λ lo hi g. following (λ r. Utf8 (b ∷ r)) n (from 0xA0 0xC0) (tail ∷ []) s short g (λ c r c₀ c₁ i g'.
                following (λ q. Utf8 (b ∷ c ∷ q)) n tail [] r (omega arith) g' (λ d q d₀ d₁ j g''. U.three_e0 {b = b} {c = c} {d = d} (omega arith) (omega arith) (omega arith) (on q (omega arith) g''))),
            (
              λ lo hi g. following (λ r. Utf8 (b ∷ r)) n tail (tail ∷ []) s short g (λ c r c₀ c₁ i g'.
                  following (λ q. Utf8 (b ∷ c ∷ q)) n tail [] r (omega arith) g' (λ d q d₀ d₁ j g''. U.three_e1 {b = b} {c = c} {d = d} (omega arith) (omega arith) (omega arith) (on q (omega arith) g''))),
              (
                λ lo hi g. following (λ r. Utf8 (b ∷ r)) n (from 0x80 0xA0) (tail ∷ []) s short g (λ c r c₀ c₁ i g'.
                    following (λ q. Utf8 (b ∷ c ∷ q)) n tail [] r (omega arith) g' (λ d q d₀ d₁ j g''. U.three_e_d {b = b} {c = c} {d = d} (omega arith) (omega arith) (omega arith) (on q (omega arith) g''))),
                (
                  λ lo hi g. following (λ r. Utf8 (b ∷ r)) n tail (tail ∷ []) s short g (λ c r c₀ c₁ i g'.
                      following (λ q. Utf8 (b ∷ c ∷ q)) n tail [] r (omega arith) g' (λ d q d₀ d₁ j g''. U.three_e_e {b = b} {c = c} {d = d} (omega arith) (omega arith) (omega arith) (on q (omega arith) g''))),
                  (
                    λ lo hi g. following (λ r. Utf8 (b ∷ r)) n (from 0x90 0xC0) (tail ∷ tail ∷ []) s short g (λ c r c₀ c₁ i g'.
                        following (λ q. Utf8 (b ∷ c ∷ q)) n tail (tail ∷ []) r (omega arith) g' (λ d q d₀ d₁ j g''.
                        following (λ o. Utf8 (b ∷ c ∷ d ∷ o)) n tail [] q (omega arith) g'' (λ e o e₀ e₁ m g'''.
                        U.four_f0 {b = b} {c = c} {d = d} {e = e} (omega arith) (omega arith) (omega arith) (omega arith) (on o (omega arith) g''')))),
                    (
                      λ lo hi g. following (λ r. Utf8 (b ∷ r)) n tail (tail ∷ tail ∷ []) s short g (λ c r c₀ c₁ i g'.
                          following (λ q. Utf8 (b ∷ c ∷ q)) n tail (tail ∷ []) r (omega arith) g' (λ d q d₀ d₁ j g''.
                          following (λ o. Utf8 (b ∷ c ∷ d ∷ o)) n tail [] q (omega arith) g'' (λ e o e₀ e₁ m g'''.
                          U.four_f1 {b = b} {c = c} {d = d} {e = e} (omega arith) (omega arith) (omega arith) (omega arith) (on o (omega arith) g''')))),
                      (
                        λ lo hi g. following (λ r. Utf8 (b ∷ r)) n (from 0x80 0x90) (tail ∷ tail ∷ []) s short g (λ c r c₀ c₁ i g'.
                            following (λ q. Utf8 (b ∷ c ∷ q)) n tail (tail ∷ []) r (omega arith) g' (λ d q d₀ d₁ j g''.
                            following (λ o. Utf8 (b ∷ c ∷ d ∷ o)) n tail [] q (omega arith) g'' (λ e o e₀ e₁ m g'''.
                            U.four_f4 {b = b} {c = c} {d = d} {e = e} (omega arith) (omega arith) (omega arith) (omega arith) (on o (omega arith) g''')))),
                        λ lo g. absurd (false≢true g),
                      ),
                    ),
                  ),
                ),
              ),
            ),
          ),
        ),
      ),
    )
    h

pub tested_utf8 : (s : List ℕ) → is_utf8 s ≡ true → Utf8 s
unfolding is_utf8
tested_utf8 s h = well_formed_lem (length s) s (omega arith) h
