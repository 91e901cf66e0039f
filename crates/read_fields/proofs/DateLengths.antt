-- Nothing longer than 25 bytes is a date or a time.
use Prim.Native.Nat.{ℕ, ◌+◌, ◌*◌, ◌<◌}
use mathlib.Core.Path.{◌≡◌, refl, ap}
use mathlib.Core.List.{List, [], ◌∷◌}
use mathlib.Core.Bool.{Bool, true, false, cond, ◌&&◌}
use mathlib.Core.Option.{Option, none, some}
use lib.ListN.{length}
use lib.Dec.{eqb, leb}
use native.Mathlib.Omega.{arith}
use Rattle.json_grammar.specs.Rows.{choose}
use Rattle.document.specs.Posology as P
use Rattle.document.specs.Date.{is_day, is_digit, pair, two, then, mark, only, clock, seconds, at_minute, alone, time_of, day_of, moment_of, bare_or, date_of, zone, signed, is_zone, Behind}
use Rattle.read_fields.proofs.DateLaws.{more_behind}

-- What was read took so many bytes.
abbrev By : {A : Type 0} → ℕ → List ℕ → Option (Behind A) → Type 0
By k s none = Unit {0}
By k s (some r) = length s ≡ k + length r.rest

by_more : {A : Type 0} (k j n : ℕ) (s t : List ℕ) (o : Option (Behind A)) → length s ≡ k + length t → n ≡ k + j → By j t o → By n s o
by_more k j n s t none e f q = tt
by_more k j n s t (some x) e f q = omega (arith, q)

two_by : (s : List ℕ) → By 2 s (two s)
two_by [] = tt
two_by (a ∷ []) = tt
two_by (a ∷ b ∷ s) = go (is_digit a && is_digit b)
  where
    go : (t : Bool) → By 2 (a ∷ b ∷ s) (cond t (some (record { value = pair a b; rest = s })) none)
    go true = omega arith
    go false = tt

only_by : {A : Type 0} (t : Bool) (s : List ℕ) (a : A) → By 0 s (only t (record { value = a; rest = s }))
only_by true s a = omega arith
only_by false s a = tt

then_by : {A B : Type 0} (k j n : ℕ) (s : List ℕ) (o : Option (Behind A)) (f : Behind A → Option (Behind B)) → n ≡ k + j → By k s o → ((r : Behind A) → By j r.rest (f r)) → By n s (then o f)
then_by k j n s none f e h g = tt
then_by k j n s (some r) f e h g = by_more k j n s r.rest (f r) h e (g r)

mark_by : {A : Type 0} (k n m : ℕ) (s : List ℕ) (f : List ℕ → Option (Behind A)) → n ≡ 1 + k → ((r : List ℕ) → By k r (f r)) → By n s (mark m s f)
mark_by k n m [] f e g = tt
mark_by {A} k n m (b ∷ s) f e g = go (eqb b m)
  where
    go : (t : Bool) → By n (b ∷ s) (choose t (λ _. f s) λ _. none)
    go true = by_more 1 k n (b ∷ s) s (f s) (omega arith) e (g s)
    go false = tt

clock_by : (s : List ℕ) → By 5 s (clock s)
clock_by s =
    then_by 2 3 5 s (two s) (λ h. mark 58 h.rest λ s₁. then (two s₁) λ m. only (leb h.value 23 && leb m.value 59) (record { value = h.value * 60 + m.value; rest = m.rest })) refl (two_by s) λ h.
    mark_by 2 3 58 h.rest (λ s₁. then (two s₁) λ m. only (leb h.value 23 && leb m.value 59) (record { value = h.value * 60 + m.value; rest = m.rest })) refl λ s₁.
    then_by 2 0 2 s₁ (two s₁) (λ m. only (leb h.value 23 && leb m.value 59) (record { value = h.value * 60 + m.value; rest = m.rest })) refl (two_by s₁) λ m.
    only_by (leb h.value 23 && leb m.value 59) m.rest (h.value * 60 + m.value)

seconds_by : (m : Behind ℕ) → By 3 m.rest (seconds m)
seconds_by m =
    mark_by 2 3 58 m.rest (λ s. then (two s) λ n. only (leb n.value 59) (record { value = m.value * 60 + n.value; rest = n.rest })) refl λ s.
    then_by 2 0 2 s (two s) (λ n. only (leb n.value 59) (record { value = m.value * 60 + n.value; rest = n.rest })) refl (two_by s) λ n.
    only_by (leb n.value 59) n.rest (m.value * 60 + n.value)

day_by : (s : List ℕ) → By 10 s (day_of s)
day_by s =
    then_by 2 8 10 s (two s) _ refl (two_by s) λ c.
    then_by 2 6 8 c.rest (two c.rest) _ refl (two_by c.rest) λ y.
    mark_by 5 6 45 y.rest _ refl λ s₁.
    then_by 2 3 5 s₁ (two s₁) _ refl (two_by s₁) λ m.
    mark_by 2 3 45 m.rest _ refl λ s₂.
    then_by 2 0 2 s₂ (two s₂) _ refl (two_by s₂) λ d.
    only_by (is_day (record { year = c.value * 100 + y.value; month = m.value; day = d.value })) d.rest (record { year = c.value * 100 + y.value; month = m.value; day = d.value })

-- So what is left is too long, and at the end nothing may be left.
behind_long : {A B : Type 0} (k n : ℕ) (s : List ℕ) (o : Option (Behind A)) (f : Behind A → Option B) → By k s o → k + n < length s → ((r : Behind A) → n < length r.rest → f r ≡ none) → then o f ≡ none
behind_long k n s none f h l g = refl
behind_long k n s (some r) f h l g = g r (omega arith)

mark_long : {A : Type 0} (m n : ℕ) (s : List ℕ) (f : List ℕ → Option A) → 1 + n < length s → ((r : List ℕ) → n < length r → f r ≡ none) → mark m s f ≡ none
mark_long m n [] f h g = refl
mark_long {A} m n (b ∷ s) f h g = go (eqb b m)
  where
    go : (t : Bool) → choose t (λ _. f s) (λ _. none) ≡ none
    go true = g s (omega arith)
    go false = refl

minute_long : (m : Behind ℕ) (s : List ℕ) → m.rest ≡ s → 20 < length s → at_minute m s ≡ none
minute_long m [] e h = absurd (omega arith)
minute_long m (b ∷ s) e h = behind_long 3 17 m.rest (seconds m) (λ n. alone n.rest n.value) (seconds_by m) (rw e h) λ n l. more_behind n.rest n.value (omega arith)

pub long_time : (s : List ℕ) → 25 < length s → time_of s ≡ none
unfolding time_of
long_time s h = behind_long 5 20 s (clock s) (λ m. at_minute m m.rest) (clock_by s) h λ m l. minute_long m m.rest refl l

zone_long : (s : List ℕ) → 6 < length s → zone s ≡ none
zone_long [] h = refl
zone_long (b ∷ s) h =
    behind_long 5 0 s (clock s) (λ m. then (alone m.rest m.value) λ n. then (signed b n) λ z. only (is_zone z) z) (clock_by s) (omega arith) λ m l.
    ap (λ o. then o λ n. then (signed b n) λ z. only (is_zone z) z) (more_behind m.rest m.value l)

moment_long : (d : P.Day) (s : List ℕ) → 15 < length s → moment_of d s ≡ none
moment_long d s h =
    mark_long 84 14 s (λ s₁. then (clock s₁) λ m. then (seconds m) λ n. then (zone n.rest) λ z. some (P.moment d n.value z)) h λ s₁ l₁.
    behind_long 5 9 s₁ (clock s₁) (λ m. then (seconds m) λ n. then (zone n.rest) λ z. some (P.moment d n.value z)) (clock_by s₁) l₁ λ m l₂.
    behind_long 3 6 m.rest (seconds m) (λ n. then (zone n.rest) λ z. some (P.moment d n.value z)) (seconds_by m) l₂ λ n l₃.
    rw (zone_long n.rest l₃)

bare_long : (d : P.Day) (s : List ℕ) → 15 < length s → bare_or d s ≡ none
bare_long d [] h = absurd (omega arith)
bare_long d (b ∷ s) h = moment_long d (b ∷ s) h

pub long_date : (s : List ℕ) → 25 < length s → date_of s ≡ none
unfolding date_of
long_date s h = behind_long 10 15 s (day_of s) (λ d. bare_or d.value d.rest) (day_by s) h λ d l. bare_long d.value d.rest l
