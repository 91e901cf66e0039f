-- The bytes of some characters are those that the document's test passes.
use mathlib.Core.Path.{◌≡◌, refl, sym, ap, subst}
use mathlib.Core.List.{List, [], ◌∷◌, ◌++◌}
use mathlib.Core.Bool.{Bool, true, false, cond}
use Rattle.std.proofs.Math.Logic.{◌⊎◌, inl, inr}
use Prim.Native.Nat.{ℕ, ◌+◌, ◌-◌, ◌*◌, ◌/◌, ◌%◌, ◌≤◌, ◌<◌}
use native.Mathlib.Omega.{arith}
use lib.Utf8.{scalar, scalars, encode, encodes, next, scalar_cases, low_scalar}
use lib.Dec.{ltb}
use Rattle.std.specs.Prelude.{Result, Ok, Err, MatchResult}
use Rattle.std.specs.Result.{is_ok}
use Rattle.std.proofs.Common.{IsUtf8}
use Rattle.std.proofs.lemmas.Str.{IsUtf8-append, IsUtf8-nil, IsUtf8-encode, encode_ascii}
use borrow.Author.Tests.{lt-ltb, le-ltb, le-leb}
use Rattle.json_grammar.specs.Rows.{look}
use Rattle.json_grammar.specs.Byte.{utf8}
use Rattle.json_grammar.proofs.Truth.{and_left, and_right}
use Rattle.json_laws.specs.Utf8.{Utf8}
use Rattle.json_laws.specs.Utf8 as U
use Rattle.json_laws.proofs.Points.{point_utf8}
use Rattle.document.specs.Utf8.{is_utf8}
use Rattle.document.proofs.Utf8Tests.{utf8_test}
use Rattle.document.proofs.Utf8Sequences.{tested_utf8}

same_bytes : (c : ℕ) → c ≤ 0x10FFFF → encode c ≡ utf8 c
unfolding encode utf8 look
same_bytes c h =
    let e : 240 + c / 262144 ≡ 240 + c / 262144 % 8 = omega arith in
    ap (λ (f : ℕ). cond (ltb c 128) (c ∷ []) (cond (ltb c 2048) ((192 + c / 64) ∷ next c ∷ []) (cond (ltb c 65536) ((224 + c / 4096) ∷ next (c / 64) ∷ next c ∷ []) (f ∷ next (c / 4096) ∷ next (c / 64) ∷ next c ∷ [])))) e

one_scalar : (c : ℕ) (s : List ℕ) → (c < 55296) ⊎ ((57344 ≤ c) × (c < 1114112)) → Utf8 s → Utf8 (encode c ++ s)
one_scalar c s (inl low) u = subst (λ x. Utf8 (x ++ s)) (sym (same_bytes c (omega arith))) (point_utf8 c s u (omega arith) (λ h. omega arith))
one_scalar c s (inr high) u = subst (λ x. Utf8 (x ++ s)) (sym (same_bytes c (omega arith))) (point_utf8 c s u (omega arith) (λ h. omega arith))

all_scalars : (cs : List ℕ) → scalars cs ≡ true → Utf8 (encodes cs)
all_scalars [] e = U.none
all_scalars (c ∷ cs) e = one_scalar c (encodes cs) (scalar_cases c (and_left (scalar c) (scalars cs) e)) (all_scalars cs (and_right (scalar c) (scalars cs) e))

pub chars_pass : (s : List ℕ) → IsUtf8 s → is_utf8 s ≡ true
chars_pass s u = utf8_test (subst Utf8 u.1.1 (all_scalars u.0 u.1.0))

-- And the other way round, by the rows of RFC 3629.
abbrev Follows : ℕ → Type 0
Follows b = (128 ≤ b) × (b < 192)

is_scalar : (n : ℕ) → (n < 55296) ⊎ ((57344 ≤ n) × (n < 1114112)) → scalar n ≡ true
is_scalar n (inl h) = low_scalar n h
is_scalar n (inr h) = let o : 55296 ≤ n = omega arith in simp (le-ltb n 55296 o, le-leb 57344 n h.0, lt-ltb n 1114112 h.1)

char : (n : ℕ) (bytes s : List ℕ) → (n < 55296) ⊎ ((57344 ≤ n) × (n < 1114112)) → encode n ≡ bytes → IsUtf8 s → IsUtf8 (bytes ++ s)
char n bytes s h e u = IsUtf8-append bytes s (subst IsUtf8 e (IsUtf8-encode n (is_scalar n h))) u

two_bytes : (n b c : ℕ) → 128 ≤ n → n < 2048 → 192 + n / 64 ≡ b → next n ≡ c → encode n ≡ b ∷ c ∷ []
unfolding encode
two_bytes n b c h g p q = simp (le-ltb n 128 h, lt-ltb n 2048 g) (λ k. p k ∷ q k ∷ [])

three_bytes : (n b c d : ℕ) → 2048 ≤ n → n < 65536 → 224 + n / 4096 ≡ b → next (n / 64) ≡ c → next n ≡ d → encode n ≡ b ∷ c ∷ d ∷ []
unfolding encode
three_bytes n b c d h g p q r = let o : 128 ≤ n = omega arith in simp (le-ltb n 128 o, le-ltb n 2048 h, lt-ltb n 65536 g) (λ k. p k ∷ q k ∷ r k ∷ [])

four_bytes : (n b c d e : ℕ) → 65536 ≤ n → 240 + n / 262144 ≡ b → next (n / 4096) ≡ c → next (n / 64) ≡ d → next n ≡ e → encode n ≡ b ∷ c ∷ d ∷ e ∷ []
unfolding encode
four_bytes n b c d e h p q r t =
    let o : 128 ≤ n = omega arith in
    let w : 2048 ≤ n = omega arith in
    simp (le-ltb n 128 o, le-ltb n 2048 w, le-ltb n 65536 h) (λ k. p k ∷ q k ∷ r k ∷ t k ∷ [])

three : (b c d : ℕ) (s : List ℕ) → (224 ≤ b) × (b < 240) → Follows c → Follows d
    → let n = (b - 224) * 4096 + (c - 128) * 64 + (d - 128) in 2048 ≤ n → (n < 55296) ⊎ (57344 ≤ n) → IsUtf8 s → IsUtf8 (b ∷ c ∷ d ∷ s)
three b c d s f g h l m u =
    let n = (b - 224) * 4096 + (c - 128) * 64 + (d - 128) in
    let e : encode n ≡ b ∷ c ∷ d ∷ [] = three_bytes n b c d l (omega arith) (omega arith) (omega arith) (omega arith) in
    char n (b ∷ c ∷ d ∷ []) s (elim m [ inl x ↦ inl x | inr x ↦ inr (x, omega arith) ]) e u

four : (b c d e : ℕ) (s : List ℕ) → 240 ≤ b → Follows c → Follows d → Follows e
    → let n = (b - 240) * 64 + (c - 128) in (16 ≤ n) × (n < 272) → IsUtf8 s → IsUtf8 (b ∷ c ∷ d ∷ e ∷ s)
four b c d e s f g h i l u =
    let n = (b - 240) * 262144 + (c - 128) * 4096 + (d - 128) * 64 + (e - 128) in
    let z : n / 64 ≡ (b - 240) * 4096 + (c - 128) * 64 + (d - 128) = omega arith in
    let r : next (n / 64) ≡ d = subst (λ (m : ℕ). next m ≡ d) (sym z) (omega arith) in
    let o : encode n ≡ b ∷ c ∷ d ∷ e ∷ [] = four_bytes n b c d e (omega arith) (omega arith) (omega arith) r (omega arith) in
    char n (b ∷ c ∷ d ∷ e ∷ []) s (inr (omega arith, omega arith)) o u

rows_chars : {s : List ℕ} → Utf8 s → IsUtf8 s
rows_chars U.none = IsUtf8-nil
rows_chars (U.one {b = b} {s = s} h u) = char b (b ∷ []) s (inl (omega arith)) (encode_ascii b (omega arith)) (rows_chars u)
rows_chars (U.two {b = b} {c = c} {s = s} h i u) =
    let n = (b - 192) * 64 + (c - 128) in
    char n (b ∷ c ∷ []) s (inl (omega arith)) (two_bytes n b c (omega arith) (omega arith) (omega arith) (omega arith)) (rows_chars u)
rows_chars (U.three_e0 {b = b} {c = c} {d = d} {s = s} h i j u) = three b c d s (omega arith, omega arith) (omega arith, omega arith) (omega arith, omega arith) (omega arith) (inl (omega arith)) (rows_chars u)
rows_chars (U.three_e1 {b = b} {c = c} {d = d} {s = s} h i j u) = three b c d s (omega arith, omega arith) (omega arith, omega arith) (omega arith, omega arith) (omega arith) (inl (omega arith)) (rows_chars u)
rows_chars (U.three_e_d {b = b} {c = c} {d = d} {s = s} h i j u) = three b c d s (omega arith, omega arith) (omega arith, omega arith) (omega arith, omega arith) (omega arith) (inl (omega arith)) (rows_chars u)
rows_chars (U.three_e_e {b = b} {c = c} {d = d} {s = s} h i j u) = three b c d s (omega arith, omega arith) (omega arith, omega arith) (omega arith, omega arith) (omega arith) (inr (omega arith)) (rows_chars u)
rows_chars (U.four_f0 {b = b} {c = c} {d = d} {e = e} {s = s} h i j l u) = four b c d e s (omega arith) (omega arith, omega arith) (omega arith, omega arith) (omega arith, omega arith) (omega arith, omega arith) (rows_chars u)
rows_chars (U.four_f1 {b = b} {c = c} {d = d} {e = e} {s = s} h i j l u) = four b c d e s (omega arith) (omega arith, omega arith) (omega arith, omega arith) (omega arith, omega arith) (omega arith, omega arith) (rows_chars u)
rows_chars (U.four_f4 {b = b} {c = c} {d = d} {e = e} {s = s} h i j l u) = four b c d e s (omega arith) (omega arith, omega arith) (omega arith, omega arith) (omega arith, omega arith) (omega arith, omega arith) (rows_chars u)

pub pass_chars : (s : List ℕ) → is_utf8 s ≡ true → IsUtf8 s
pass_chars s h = rows_chars (tested_utf8 s h)

-- What from_utf8 tells is what the test tells.
pub same_test : {A E : Type 0} (r : Result A E) (P : A → Type 0) (Q : E → Type 0) (s : List ℕ) → MatchResult r (λ a. P a × IsUtf8 s) (λ e. (IsUtf8 s → ⊥) × Q e) → is_ok r ≡ is_utf8 s
same_test (Ok a) P Q s m = sym (chars_pass s m.1)
same_test (Err e) P Q s m = go (is_utf8 s) refl
  where
    go : (b : Bool) → is_utf8 s ≡ b → false ≡ b
    go true t = absurd (m.0 (pass_chars s t))
    go false t = refl
