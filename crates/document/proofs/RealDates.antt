-- What is read of a date or a time is one.
use mathlib.Core.Path.{◌≡◌, refl}
use mathlib.Core.List.{List, [], ◌∷◌}
use mathlib.Core.Bool.{Bool, true, false, ◌&&◌}
use mathlib.Core.Option.{Option, none, some}
use Prim.Native.Nat.{ℕ, ◌*◌, ◌≤◌, ◌<◌}
use native.Mathlib.Omega.{arith}
use lib.Dec.{eqb, leb}
use borrow.Author.Tests.{leb-true, le-leb}
use Rattle.json_grammar.specs.Rows.{choose}
use Rattle.document.specs.Posology.{Day}
use Rattle.document.specs.Date.{is_day, is_zone, is_second, is_date, Behind, two, then, mark, only, clock, alone, seconds, at_minute, time_of, day_of, signed, zone, moment_of, bare_or, date_of}
use Rattle.json_grammar.proofs.Truth.{and_both, and_left, and_right}

-- What holds of what is read, if something is.
abbrev pub Holds : {A : Type 0} → (A → Type 0) → Option A → Type 0
Holds P none = Unit {0}
Holds P (some a) = P a

then_holds : {A B : Type 0} (P : A → Type 0) (Q : B → Type 0) (o : Option A) (f : A → Option B) → Holds P o → ((a : A) → P a → Holds Q (f a)) → Holds Q (then o f)
then_holds P Q none f h k = tt
then_holds P Q (some a) f h k = k a h

any_holds : {A : Type 0} (o : Option A) → Holds (λ a. Unit {0}) o
any_holds none = tt
any_holds (some a) = tt

only_holds : {A : Type 0} (P : A → Type 0) (b : Bool) (a : A) → (b ≡ true → P a) → Holds P (only b a)
only_holds P true a h = h refl
only_holds P false a h = tt

mark_holds : {A : Type 0} (P : A → Type 0) (m : ℕ) (s : List ℕ) (f : List ℕ → Option A) → ((r : List ℕ) → Holds P (f r)) → Holds P (mark m s f)
mark_holds P m [] f h = tt
mark_holds {A} P m (b ∷ s) f h = go (eqb b m)
  where
    go : (c : Bool) → Holds P (choose c (λ _. f s) λ _. none)
    go true = h s
    go false = tt

alone_holds : {A : Type 0} (P : A → Type 0) (s : List ℕ) (a : A) → P a → Holds P (alone s a)
alone_holds P [] a h = h
alone_holds P (b ∷ s) a h = tt

abbrev Minute : Behind ℕ → Type 0
Minute b = b.value < 1440

abbrev Second : Behind ℕ → Type 0
Second b = b.value < 86400

clock_holds : (s : List ℕ) → Holds Minute (clock s)
clock_holds s =
    then_holds (λ b. Unit {0}) Minute (two s) _ (any_holds (two s)) λ h _.
    mark_holds Minute 58 h.rest _ λ r.
    then_holds (λ b. Unit {0}) Minute (two r) _ (any_holds (two r)) λ m _.
    only_holds Minute (leb h.value 23 && leb m.value 59) _ λ e.
    let a : h.value ≤ 23 = leb-true _ _ (and_left (leb h.value 23) (leb m.value 59) e) in
    let b : m.value ≤ 59 = leb-true _ _ (and_right (leb h.value 23) (leb m.value 59) e) in
    omega arith

seconds_holds : (m : Behind ℕ) → Minute m → Holds Second (seconds m)
seconds_holds m h =
    mark_holds Second 58 m.rest _ λ r.
    then_holds (λ b. Unit {0}) Second (two r) _ (any_holds (two r)) λ n _.
    only_holds Second (leb n.value 59) _ λ e.
    let b : n.value ≤ 59 = leb-true _ _ e in
    omega arith

is_second_lem : (n : ℕ) → n < 86400 → is_second n ≡ true
is_second_lem n h = le-leb n 86399 (omega arith)

at_minute_holds : (m : Behind ℕ) (s : List ℕ) → Minute m → Holds (λ n. is_second n ≡ true) (at_minute m s)
at_minute_holds m [] h = is_second_lem (m.value * 60) (omega arith)
at_minute_holds m (b ∷ s) h = then_holds Second (λ n. is_second n ≡ true) (seconds m) _ (seconds_holds m h) λ n g. alone_holds (λ n. is_second n ≡ true) n.rest n.value (is_second_lem n.value g)

pub time_holds : (s : List ℕ) → Holds (λ n. is_second n ≡ true) (time_of s)
unfolding time_of
time_holds s = then_holds Minute (λ n. is_second n ≡ true) (clock s) _ (clock_holds s) λ m h. at_minute_holds m m.rest h

day_holds : (s : List ℕ) → Holds (λ b. is_day b.value ≡ true) (day_of s)
day_holds s =
    then_holds (λ b. Unit {0}) Real (two s) _ (any_holds (two s)) λ c _.
    then_holds (λ b. Unit {0}) Real (two c.rest) _ (any_holds (two c.rest)) λ y _.
    mark_holds Real 45 y.rest _ λ r.
    then_holds (λ b. Unit {0}) Real (two r) _ (any_holds (two r)) λ m _.
    mark_holds Real 45 m.rest _ λ q.
    then_holds (λ b. Unit {0}) Real (two q) _ (any_holds (two q)) λ d _.
    only_holds Real _ _ λ e. e
  where
    Real : Behind Day → Type 0
    Real b = is_day b.value ≡ true

zone_holds : (s : List ℕ) → Holds (λ z. is_zone z ≡ true) (zone s)
zone_holds [] = tt
zone_holds (b ∷ s) =
    then_holds (λ m. Unit {0}) (λ z. is_zone z ≡ true) (clock s) _ (any_holds (clock s)) λ m _.
    then_holds (λ n. Unit {0}) (λ z. is_zone z ≡ true) (alone m.rest m.value) _ (any_holds (alone m.rest m.value)) λ n _.
    then_holds (λ z. Unit {0}) (λ z. is_zone z ≡ true) (signed b n) _ (any_holds (signed b n)) λ z _.
    only_holds (λ z. is_zone z ≡ true) (is_zone z) z λ e. e

moment_holds : (d : Day) (s : List ℕ) → is_day d ≡ true → Holds (λ x. is_date x ≡ true) (moment_of d s)
moment_holds d s h =
    mark_holds (λ x. is_date x ≡ true) 84 s _ λ r.
    then_holds Minute (λ x. is_date x ≡ true) (clock r) _ (clock_holds r) λ m g.
    then_holds Second (λ x. is_date x ≡ true) (seconds m) _ (seconds_holds m g) λ n k.
    then_holds (λ z. is_zone z ≡ true) (λ x. is_date x ≡ true) (zone n.rest) _ (zone_holds n.rest) λ z w.
    and_both (and_both h (is_second_lem n.value k)) w

bare_or_holds : (d : Day) (s : List ℕ) → is_day d ≡ true → Holds (λ x. is_date x ≡ true) (bare_or d s)
bare_or_holds d [] h = h
bare_or_holds d (b ∷ s) h = moment_holds d (b ∷ s) h

pub date_holds : (s : List ℕ) → Holds (λ x. is_date x ≡ true) (date_of s)
unfolding date_of
date_holds s = then_holds (λ b. is_day b.value ≡ true) (λ x. is_date x ≡ true) (day_of s) _ (day_holds s) λ d h. bare_or_holds d.value d.rest h
