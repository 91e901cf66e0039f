-- What holds of a table row by row, and of two tables side by side.
use Prim.Native.Nat.{ℕ, ◌<◌, ◌≤◌}
use mathlib.Core.Path.{◌≡◌, refl}
use mathlib.Core.List.{List, [], ◌∷◌}
use mathlib.Core.Bool.{Bool, true, false, cond, ◌&&◌}
use lib.Dec.{ltb}
use borrow.Author.Tests.{ltb-true, ltb-false, lt-ltb, le-ltb}
use native.Mathlib.Omega.{arith}
use Rattle.json_grammar.specs.Rows.{Rows, else, below, look, choose}
use Rattle.json_grammar.proofs.Truth.{and_left, and_right}

-- A choice has what its branches have, each where the test sends to it.
pub choose_by : {A : Type 0} (P : A → Type 0) (x : Bool) (f g : Unit {0} → A) → (x ≡ true → P (f tt)) → (x ≡ false → P (g tt)) → P (choose x f g)
choose_by P true f g p q = p refl
choose_by P false f g p q = q refl

-- P of each row, from its bounds.
abbrev pub Each : {A : Type 0} → ℕ → ℕ → Rows A → (A → Type 0) → Type 0
Each lo b (else a) P = lo ≤ b → P a
Each lo b (below n a rows) P = (lo ≤ b → b < n → P a) × Each n b rows P

row : {A : Type 0} (P : A → Type 0) (b n : ℕ) (a c : A) (x : Bool) → ltb b n ≡ x → (b < n → P a) → (n ≤ b → P c) → P (cond x a c)
row P b n a c true e p q = p (ltb-true b n e)
row P b n a c false e p q = q (ltb-false b n e)

pub each : {A : Type 0} (P : A → Type 0) (lo b : ℕ) (rows : Rows A) → lo ≤ b → Each lo b rows P → P (look b rows)
unfolding look
each P lo b (else a) l h = h l
each P lo b (below n a rows) l h = row P b n a (look b rows) (ltb b n) refl (h.0 l) (λ m. each P n b rows m h.1)

-- The table of a function that changes at these bounds alone.
abbrev pub rows_from : {A : Type 0} → ℕ → (ℕ → A) → List ℕ → Rows A
rows_from n f [] = else (f n)
rows_from n f (m ∷ bounds) = below m (f n) (rows_from m f bounds)

pub by_rows : {A : Type 0} (P : A → Type 0) (f : ℕ → A) (bounds : List ℕ) (b : ℕ) → f b ≡ look b (rows_from 0 f bounds) → Each 0 b (rows_from 0 f bounds) P → P (f b)
by_rows P f bounds b e h = rw e (each P 0 b (rows_from 0 f bounds) (omega arith) h)

-- Whether R holds of two tables at every number: the rows are met in the order of their bounds.
abbrev rows_else : {A B : Type 0} → (A → B → Bool) → A → Rows B → Bool
rows_else R a (else c) = R a c
rows_else R a (below n c rows) = R a c && rows_else R a rows

-- the first table's row of bound n, and `later` for what it has behind it
abbrev merge : {A B : Type 0} → (A → B → Bool) → ℕ → A → (Rows B → Bool) → Rows B → Bool
merge R n a later (else c) = R a c && later (else c)
merge R n a later (below m c rows) = R a c && choose (ltb n m) (λ _. later (below m c rows)) λ _. choose (ltb m n) (λ _. merge R n a later rows) λ _. later rows

unfoldable pub always : {A B : Type 0} → (A → B → Bool) → Rows A → Rows B → Bool
always R (else a) rows = rows_else R a rows
always R (below n a more) rows = merge R n a (λ others. always R more others) rows

module _ {A B : Type 0} (R : A → B → Bool) where
  else_sound : (b : ℕ) (a : A) (rows : Rows B) → rows_else R a rows ≡ true → R a (look b rows) ≡ true
  unfolding look
  else_sound b a (else c) e = e
  else_sound b a (below n c rows) e =
      row (λ x. R a x ≡ true) b n c (look b rows) (ltb b n) refl (λ _. and_left _ _ e) (λ _. else_sound b a rows (and_right (R a c) _ e))

  -- the number is below the first table's bound n, or the rest of that table is asked
  merge_sound : (b n : ℕ) (a x : A) (later : Rows B → Bool) (rows : Rows B) → ((others : Rows B) → later others ≡ true → R x (look b others) ≡ true)
      → merge R n a later rows ≡ true → R (cond (ltb b n) a x) (look b rows) ≡ true
  unfolding look
  merge_sound b n a x later (else c) f e = row (λ y. R y c ≡ true) b n a x (ltb b n) refl (λ _. and_left _ _ e) (λ _. f (else c) (and_right (R a c) _ e))
  merge_sound b n a x later (below m c rows) f e = split (ltb n m) refl (and_right (R a c) _ e) (λ v. merge_sound b n a x later rows f v)
    where
      split : (t : Bool) → ltb n m ≡ t → choose t (λ _. later (below m c rows)) (λ _. choose (ltb m n) (λ _. merge R n a later rows) λ _. later rows) ≡ true
          → (merge R n a later rows ≡ true → R (cond (ltb b n) a x) (look b rows) ≡ true) → R (cond (ltb b n) a x) (cond (ltb b m) c (look b rows)) ≡ true
      split true u v g =
          let l = ltb-true n m u in
          row (λ y. R y (cond (ltb b m) c (look b rows)) ≡ true) b n a x (ltb b n) refl (λ h. rw (lt-ltb b m (omega arith)) (and_left _ _ e)) (λ _. f (below m c rows) v)
      split false u v g =
          let l = ltb-false n m u in
          row (λ y. R (cond (ltb b n) a x) y ≡ true) b m c (look b rows) (ltb b m) refl (λ h. rw (lt-ltb b n (omega arith)) (and_left _ _ e)) (λ h. same h (ltb m n) refl v)
        where
          same : m ≤ b → (t : Bool) → ltb m n ≡ t → choose t (λ _. merge R n a later rows) (λ _. later rows) ≡ true → R (cond (ltb b n) a x) (look b rows) ≡ true
          same h true w z = g z
          same h false w z = let k = ltb-false m n w in rw (le-ltb b n (omega arith)) (f rows z)

  sound : (b : ℕ) (first : Rows A) (second : Rows B) → always R first second ≡ true → R (look b first) (look b second) ≡ true
  unfolding look always
  sound b (else a) second e = else_sound b a second e
  sound b (below n a more) second e = merge_sound b n a (look b more) (λ others. always R more others) second (λ others h. sound b more others h) e

-- Two functions are in a relation at every number if they are at every row of their tables.
pub tables : {A B : Type 0} (R : A → B → Bool) (f : ℕ → A) (fs : List ℕ) (g : ℕ → B) (gs : List ℕ) (b : ℕ)
    → f b ≡ look b (rows_from 0 f fs) → g b ≡ look b (rows_from 0 g gs) → always R (rows_from 0 f fs) (rows_from 0 g gs) ≡ true → R (f b) (g b) ≡ true
tables R f fs g gs b d e h = rw (d, e) (sound R b (rows_from 0 f fs) (rows_from 0 g gs) h)
