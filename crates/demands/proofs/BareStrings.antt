-- Strings are kept as they are in the bare bytes.
use Prim.Native.Nat.{ℕ}
use mathlib.Core.Path.{◌≡◌, refl, sym, ap, subst, ◌∙◌}
use mathlib.Core.List.{List, [], ◌∷◌, ◌++◌, append_assoc, append_cancel_right}
use mathlib.Core.Bool.{Bool, true, false, cond}
use native.Mathlib.Omega.{arith}
use lib.Dec.{eqb}
use Rattle.json_grammar.specs.declared.string.InString.{InString}
use Rattle.json_grammar.specs.declared.string.CharStep.TheVariants.{Goes, Closes}
use Rattle.json_grammar.specs.Grammar.{Char, ascii, two, three, three_e0, three_ed, fourth, four_f0, four_f4, short, unit, unit_d, pair, Chars, close, char}
use Rattle.json_laws.proofs.Strings.{From, shuts, goes, chars_from, escaping, Seen, quiet, slash, skipped, quote, seen, seen_on}
use Rattle.demands.specs.Blanks.{bare, bare_quoted, bare_escaped, whole_after, whole_quoted, whole_escaped}
use Rattle.demands.proofs.BareBytes.{quoted_step}

-- A string's bytes may stand before anything.
char_on : {u s m : List ℕ} → Char u s m → (w : List ℕ) × (s ≡ w ++ m) × ((c : List ℕ) → Char u (w ++ c) c)
char_on (ascii {b = b} e) = (b ∷ [], refl, λ _. ascii e)
char_on (two {b = b} {c = c} e t) = (b ∷ c ∷ [], refl, λ _. two e t)
char_on (three {b = b} {c = c} {d = d} e t v) = (b ∷ c ∷ d ∷ [], refl, λ _. three e t v)
char_on (three_e0 {b = b} {c = c} {d = d} e t v) = (b ∷ c ∷ d ∷ [], refl, λ _. three_e0 e t v)
char_on (three_ed {b = b} {c = c} {d = d} e t v) = (b ∷ c ∷ d ∷ [], refl, λ _. three_ed e t v)
char_on (fourth {b = b} {c = c} {d = d} {e = f} e t v w) = (b ∷ c ∷ d ∷ f ∷ [], refl, λ _. fourth e t v w)
char_on (four_f0 {b = b} {c = c} {d = d} {e = f} e t v w) = (b ∷ c ∷ d ∷ f ∷ [], refl, λ _. four_f0 e t v w)
char_on (four_f4 {b = b} {c = c} {d = d} {e = f} e t v w) = (b ∷ c ∷ d ∷ f ∷ [], refl, λ _. four_f4 e t v w)
char_on (short {e = f} e) = (92 ∷ f ∷ [], refl, λ _. short e)
char_on (unit {h = h} {i = i} {j = j} {k = k} a b c d e) = (92 ∷ 117 ∷ h ∷ i ∷ j ∷ k ∷ [], refl, λ _. unit a b c d e)
char_on (unit_d {h = h} {i = i} {j = j} {k = k} a b c d) = (92 ∷ 117 ∷ h ∷ i ∷ j ∷ k ∷ [], refl, λ _. unit_d a b c d)
char_on (pair {h = h} {i = i} {j = j} {k = k} {l = l} {m = m} {n = n} {o = o} a b c d e f g v) =
    (92 ∷ 117 ∷ h ∷ i ∷ j ∷ k ∷ 92 ∷ 117 ∷ l ∷ m ∷ n ∷ o ∷ [], refl, λ _. pair a b c d e f g v)

chars_on : {cs s r : List ℕ} → Chars cs s r → (w : List ℕ) × (s ≡ w ++ r) × ((c : List ℕ) → Chars cs (w ++ c) c)
chars_on close = (34 ∷ [], refl, λ _. close)
chars_on {r = r} (char c cs e) =
    let a = char_on c in
    let b = chars_on cs in
    (a.0 ++ b.0, a.1 ∙ ap (λ x. a.0 ++ x) b.1 ∙ sym (append_assoc a.0 b.0 r), λ x. rw append_assoc (char (a.2 (b.0 ++ x)) (b.2 x) e))

-- Byte by byte, from a state inside a string.
abbrev kept : InString → List ℕ → List ℕ
kept c s = cond (escaping c) bare_escaped bare_quoted s

abbrev unparted : InString → List ℕ → Bool
unparted c s = cond (escaping c) whole_escaped whole_quoted s

kept_on : {c n : InString} {b : ℕ} (s : List ℕ) → Seen c b (Goes n) → kept c (b ∷ s) ≡ b ∷ kept n s
unfolding bare
kept_on s (quiet e q r f) = rw (e, f, q, r)
kept_on s (slash e q f) = rw (e, f, q)
kept_on s (skipped e f) = rw (e, f)

kept_end : {c : InString} {b : ℕ} (s : List ℕ) → Seen c b Closes → (b ≡ 34) × (kept c (b ∷ s) ≡ 34 ∷ bare s)
unfolding bare
kept_end s (quote e q) = (q, rw (e, q))

whole_on : {c n : InString} {b : ℕ} (s : List ℕ) → Seen c b (Goes n) → unparted c (b ∷ s) ≡ unparted n s
unfolding whole_after
whole_on s x = seen_on whole_quoted whole_escaped (λ b s e h. rw (e, h)) (λ s. refl) (λ b s. refl) s x

whole_end : {c : InString} {b : ℕ} (s : List ℕ) → Seen c b Closes → unparted c (b ∷ s) ≡ whole_after 34 s
unfolding whole_after
whole_end s (quote e q) = rw (e, q)

-- The first byte is kept.
kept_none : (x : Bool) → cond x bare_escaped bare_quoted [] ≡ []
unfolding bare
kept_none true = refl
kept_none false = refl

kept_first : (x : Bool) (d : ℕ) (s : List ℕ) → (y : List ℕ) × (cond x bare_escaped bare_quoted (d ∷ s) ≡ d ∷ y)
unfolding bare
kept_first true d s = (bare_quoted s, refl)
kept_first false d s = which (eqb d 34) (eqb d 92)
  where
    which : (q r : Bool) → (y : List ℕ) × (quoted_step q r d s ≡ d ∷ y)
    which true r = (bare s, refl)
    which false true = (bare_escaped s, refl)
    which false false = (bare_quoted s, refl)

-- Two strings that are kept as the same are the same, up to what is behind them.
record SameString (x r s : List ℕ) : Type 0 where
  front : List ℕ
  rest : List ℕ
  was : x ≡ front ++ r
  is : s ≡ front ++ rest
  same : bare r ≡ bare rest
  after_quote : whole_after 34 rest ≡ true

one_more : {b d : ℕ} {x r s : List ℕ} → d ≡ b → SameString x r s → SameString (b ∷ x) r (d ∷ s)
one_more {b} {s = s} q i =
    record { front = b ∷ i.front; rest = i.rest; was = ap (λ y. b ∷ y) i.was; is = ap (λ m. m ∷ s) q ∙ ap (λ y. b ∷ y) i.is; same = i.same; after_quote = i.after_quote }

from_same : {c : InString} {x r : List ℕ} → From c x r → (s : List ℕ) → kept c x ≡ kept c s → unparted c s ≡ true → SameString x r s
from_same (shuts {c = c} {b = b} {r = r} e) [] h w =
    let k = kept_end r (rw e at (seen c b)) in
    let n = kept_none (escaping c) in
    let z : ◌≡◌ {A = ℕ} 0 1 = cc k.1 in
    absurd (omega arith)
from_same (shuts {c = c} {b = b} {r = r} e) (d ∷ s) h w =
    let x = rw e at (seen c b) in
    let k = kept_end r x in
    let f = kept_first (escaping c) d s in
    let q : d ≡ b = cc (k.0, k.1, f.1) in
    let l = kept_end s x in
    let g : bare r ≡ bare s = cc (k.1, l.1) in
    record { front = b ∷ []; rest = s; was = refl; is = ap (λ n. n ∷ s) q; same = g; after_quote = sym (whole_end s x) ∙ rw q at w }
from_same (goes {c = c} {n = n} {b = b} {s = t} e g) [] h w =
    let k = kept_on t (rw e at (seen c b)) in
    let m = kept_none (escaping c) in
    let z : ◌≡◌ {A = ℕ} 0 1 = cc in
    absurd (omega arith)
from_same (goes {c = c} {n = n} {b = b} {s = t} e g) (d ∷ s) h w =
    let x = rw e at (seen c b) in
    let k = kept_on t x in
    let f = kept_first (escaping c) d s in
    let q : d ≡ b = cc (k, f.1) in
    let l = kept_on s x in
    one_more q (from_same g s (cc (k, l)) (sym (whole_on s x) ∙ rw q at w))

again : {cs x r s : List ℕ} → SameString x r s → (w : List ℕ) × (x ≡ w ++ r) × ((c : List ℕ) → Chars cs (w ++ c) c)
    → (q : List ℕ) × Chars cs s q × (bare r ≡ bare q) × (whole_after 34 q ≡ true)
again {cs} {r = r} k o =
    let e : o.0 ≡ k.front = append_cancel_right o.0 k.front r (sym o.1 ∙ k.was) in
    (k.rest, subst (λ (y : List ℕ). Chars cs y k.rest) (ap (λ y. y ++ k.rest) e ∙ sym k.is) (o.2 k.rest), k.same, k.after_quote)

pub chars_same : {cs x r : List ℕ} → Chars cs x r → (s : List ℕ) → bare_quoted x ≡ bare_quoted s → whole_quoted s ≡ true
    → (q : List ℕ) × Chars cs s q × (bare r ≡ bare q) × (whole_after 34 q ≡ true)
chars_same c s h w = again (from_same (chars_from c) s h w) (chars_on c)
