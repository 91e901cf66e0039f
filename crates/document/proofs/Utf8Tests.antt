-- What is UTF-8 by RFC 3629's syntax passes the test.
use Prim.Native.Nat.{ℕ, ◌<◌, ◌≤◌}
use mathlib.Core.Path.{◌≡◌, refl, subst}
use mathlib.Core.List.{List, [], ◌∷◌}
use mathlib.Core.Bool.{true}
use mathlib.Core.Option.{Option, some}
use native.Mathlib.Omega.{arith}
use borrow.Author.Tests.{lt-ltb, le-ltb}
use Rattle.json_grammar.specs.Rows.{look}
use Rattle.json_grammar.specs.Byte.{within}
use Rattle.json_laws.specs.Utf8.{Utf8, Tail}
use Rattle.json_laws.specs.Utf8 as U
use Rattle.json_grammar.proofs.Rows.{under, between}
use Rattle.document.specs.Utf8.{Within, from, tail, follow_rows, go_on, well_formed, is_utf8}
use Rattle.json_grammar.proofs.Truth.{and_both}

pub is_within : (lo hi b : ℕ) → lo ≤ b → b < hi → within lo hi b ≡ true
unfolding within look
is_within lo hi b p q = rw (le-ltb b lo p, lt-ltb b hi q)

tail_within : (b : ℕ) → Tail b → within 0x80 0xC0 b ≡ true
tail_within b h = is_within 0x80 0xC0 b h.0 (omega arith)

-- What a first byte asks of the bytes behind it.
abbrev Asked : Type 0
Asked = Option (List Within)

asked : (b : ℕ) (s : List ℕ) {o : Asked} → o ≡ look b follow_rows → go_on o (λ ws. well_formed s ws) ≡ true → is_utf8 (b ∷ s) ≡ true
unfolding is_utf8 well_formed
asked b s e h = subst (λ (o : Asked). go_on o (λ ws. well_formed s ws) ≡ true) e h

pub utf8_test : {s : List ℕ} → Utf8 s → is_utf8 s ≡ true
unfolding is_utf8 well_formed
utf8_test U.none = refl
utf8_test (U.one {b = b} {s = s} h u) = asked b s (under 0x80 Asked b (some []) follow_rows (omega arith) refl) (utf8_test u)
utf8_test (U.two {b = b} {c = c} {s = s} h i u) =
    asked b (c ∷ s) (between 0xC2 0xE0 Asked b (some (tail ∷ [])) follow_rows h.0 (omega arith) refl) (and_both (tail_within c i) (utf8_test u))
utf8_test (U.three_e0 {b = b} {c = c} {d = d} {s = s} h i j u) =
    asked b (c ∷ d ∷ s) (between 0xE0 0xE1 Asked b (some (from 0xA0 0xC0 ∷ tail ∷ [])) follow_rows h.0 (omega arith) refl) (and_both (is_within 0xA0 0xC0 c i.0 (omega arith)) (and_both (tail_within d j) (utf8_test u)))
utf8_test (U.three_e1 {b = b} {c = c} {d = d} {s = s} h i j u) =
    asked b (c ∷ d ∷ s) (between 0xE1 0xED Asked b (some (tail ∷ tail ∷ [])) follow_rows h.0 (omega arith) refl) (and_both (tail_within c i) (and_both (tail_within d j) (utf8_test u)))
utf8_test (U.three_e_d {b = b} {c = c} {d = d} {s = s} h i j u) =
    asked b (c ∷ d ∷ s) (between 0xED 0xEE Asked b (some (from 0x80 0xA0 ∷ tail ∷ [])) follow_rows h.0 (omega arith) refl) (and_both (is_within 0x80 0xA0 c i.0 (omega arith)) (and_both (tail_within d j) (utf8_test u)))
utf8_test (U.three_e_e {b = b} {c = c} {d = d} {s = s} h i j u) =
    asked b (c ∷ d ∷ s) (between 0xEE 0xF0 Asked b (some (tail ∷ tail ∷ [])) follow_rows h.0 (omega arith) refl) (and_both (tail_within c i) (and_both (tail_within d j) (utf8_test u)))
utf8_test (U.four_f0 {b = b} {c = c} {d = d} {e = e} {s = s} h i j l u) =
    asked b (c ∷ d ∷ e ∷ s) (between 0xF0 0xF1 Asked b (some (from 0x90 0xC0 ∷ tail ∷ tail ∷ [])) follow_rows h.0 (omega arith) refl) (and_both (is_within 0x90 0xC0 c i.0 (omega arith)) (and_both (tail_within d j) (and_both (tail_within e l) (utf8_test u))))
utf8_test (U.four_f1 {b = b} {c = c} {d = d} {e = e} {s = s} h i j l u) =
    asked b (c ∷ d ∷ e ∷ s) (between 0xF1 0xF4 Asked b (some (tail ∷ tail ∷ tail ∷ [])) follow_rows h.0 (omega arith) refl) (and_both (tail_within c i) (and_both (tail_within d j) (and_both (tail_within e l) (utf8_test u))))
utf8_test (U.four_f4 {b = b} {c = c} {d = d} {e = e} {s = s} h i j l u) =
    asked b (c ∷ d ∷ e ∷ s) (between 0xF4 0xF5 Asked b (some (from 0x80 0x90 ∷ tail ∷ tail ∷ [])) follow_rows h.0 (omega arith) refl) (and_both (is_within 0x80 0x90 c i.0 (omega arith)) (and_both (tail_within d j) (and_both (tail_within e l) (utf8_test u))))
