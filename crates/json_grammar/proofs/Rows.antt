-- What a table says of a byte, row by row.
use Prim.Native.Nat.{ℕ, zero, suc, ◌+◌, ◌-◌, ◌<◌, ◌≤◌}
use mathlib.Core.Path.{◌≡◌, refl, sym, ap, ◌∙◌}
use mathlib.Core.Logic.{inl, inr}
use mathlib.Core.List.{List, [], ◌∷◌}
use mathlib.Core.Bool.{Bool, true, false, cond, ◌&&◌, ◌||◌, false≢true}
use lib.Dec.{leb, ltb}
use mir.Val.{has_key}
use types.Run.{OneOf, hit as key-hit}
use borrow.Author.Tests.{lt-ltb, le-ltb, lt-leb, le-leb, leb-true}
use native.Mathlib.Omega.{arith}
use native.Mathlib.Decide.{dec_lt}
use Rattle.json_grammar.proofs.Truth.{and_left, and_right}
use Rattle.json_grammar.specs.Rows.{Rows, else, below, look, choose}

module _ (A : Type 0) where
  -- the row's bound is above the byte
  pub hit : (b n : ℕ) (a : A) (rows : Rows A) → b < n → a ≡ look b (below n a rows)
  unfolding look
  hit b n a rows h = rw (lt-ltb b n h)

  -- it is not: the answer is the next rows'
  pub miss : (b n : ℕ) (r a : A) (rows : Rows A) → n ≤ b → r ≡ look b rows → r ≡ look b (below n a rows)
  unfolding look
  miss b n r a rows h e = rw (le-ltb b n h) e

  pub last : (b : ℕ) (a : A) → a ≡ look b (else a)
  unfolding look
  last b a = refl

-- rows that a single test tells apart
pub whether_below : (n b : ℕ) → ltb b n ≡ look b (below n true (else false))
unfolding look
whether_below n b = by (ltb b n)
  where
    by : (t : Bool) → t ≡ cond t true false
    by true = refl
    by false = refl

pub whether_from : (n b : ℕ) → leb n b ≡ look b (below n false (else true))
unfolding look
whether_from n b = elim (dec_lt b n) [
  | yes l ↦ rw (lt-leb n b l, lt-ltb b n l)
  | no g ↦ let l : n ≤ b = omega arith in rw (le-leb n b l, le-ltb b n l)
]

pub ruleset rows = (hit, miss, last, arith)

-- Where the code's tests are in another order than the rows, all the bytes from lo on and below hi stand in one row, which is computed.
module _ {A : Type 0} where
  abbrev from : ℕ → Rows A → Rows A
  from lo (else a) = else a
  from lo (below n a rows) = choose (leb n lo) (λ _. from lo rows) λ _. below n a rows

  abbrev up_to : ℕ → Rows A → Rows A
  up_to hi (else a) = else a
  up_to hi (below n a rows) = choose (leb hi n) (λ _. else a) λ _. below n a (up_to hi rows)

  look_from : (lo b : ℕ) (rows : Rows A) → lo ≤ b → look b (from lo rows) ≡ look b rows
  unfolding look
  look_from lo b (else a) l = refl
  look_from lo b (below n a rows) l = by (leb n lo) refl (look_from lo b rows l)
    where
      by : (t : Bool) → leb n lo ≡ t → look b (from lo rows) ≡ look b rows
          → look b (choose t (λ _. from lo rows) λ _. below n a rows) ≡ look b (below n a rows)
      by true e more = let g : n ≤ lo = leb-true n lo e in miss A b n (look b (from lo rows)) a rows (omega arith) more
      by false e more = refl

  look_up_to : (hi b : ℕ) (rows : Rows A) → b < hi → look b (up_to hi rows) ≡ look b rows
  unfolding look
  look_up_to hi b (else a) h = refl
  look_up_to hi b (below n a rows) h = by (leb hi n) refl (look_up_to hi b rows h)
    where
      by : (t : Bool) → leb hi n ≡ t → look b (up_to hi rows) ≡ look b rows
          → look b (choose t (λ _. else a) λ _. below n a (up_to hi rows)) ≡ look b (below n a rows)
      by true e more = let g : hi ≤ n = leb-true hi n e in hit A b n a rows (omega arith)
      by false e more = rw more

-- the rows from lo on
pub onwards : (lo : ℕ) (A : Type 0) (b : ℕ) (a : A) (rows : Rows A) → lo ≤ b → a ≡ look b (from lo rows) → a ≡ look b rows
onwards lo A b a rows l e = e ∙ look_from lo b rows l

pub beyond : (lo : ℕ) (A : Type 0) (b : ℕ) (a : A) (rows : Rows A) → lo ≤ b → from lo rows ≡ else a → a ≡ look b rows
unfolding look
beyond lo A b a rows l e = onwards lo A b a rows l (sym (ap (look b) e))

-- the rows below hi
pub before : (hi : ℕ) (A : Type 0) (b : ℕ) (a : A) (rows : Rows A) → b < hi → a ≡ look b (up_to hi rows) → a ≡ look b rows
before hi A b a rows h e = e ∙ look_up_to hi b rows h

pub under : (hi : ℕ) (A : Type 0) (b : ℕ) (a : A) (rows : Rows A) → b < hi → up_to hi rows ≡ else a → a ≡ look b rows
unfolding look
under hi A b a rows h e = before hi A b a rows h (sym (ap (look b) e))

pub between : (lo hi : ℕ) (A : Type 0) (b : ℕ) (a : A) (rows : Rows A) → lo ≤ b → b < hi → up_to hi (from lo rows) ≡ else a → a ≡ look b rows
between lo hi A b a rows l h e = onwards lo A b a rows l (under hi A b a (from lo rows) h e)

-- Where the code goes by single bytes: the keys of its arms. The byte is a key of an arm, and the table says a at each.
abbrev pub answers : {A : Type 0} → List ℕ → Rows A → List A
unfolding look
answers [] rows = []
answers (k ∷ keys) rows = look k rows ∷ answers keys rows

abbrev pub alike : {A : Type 0} → List ℕ → A → List A
alike [] a = []
alike (k ∷ keys) a = a ∷ alike keys a

pub among : (keys : List ℕ) (A : Type 0) (b : ℕ) (a : A) (rows : Rows A) → OneOf keys b → answers keys rows ≡ alike keys a → a ≡ look b rows
unfolding look
among [] A b a rows h e = absurd h
among (k ∷ []) A b a rows h e = rw h (cc)
among (k ∷ k' ∷ keys) A b a rows (inl h) e = rw h (cc)
among (k ∷ k' ∷ keys) A b a rows (inr h) e = among (k' ∷ keys) A b a rows h (cc)

-- The byte is a key of no arm.
abbrev pub Off : List (List ℕ) → ℕ → Type 0
Off [] b = Unit {0}
Off (keys ∷ arms) b = Off arms b × (OneOf keys b → ⊥)

-- arms of a single key
abbrev pub single : List ℕ → List (List ℕ)
single [] = []
single (k ∷ keys) = (k ∷ []) ∷ single keys

abbrev has : List (List ℕ) → ℕ → Bool
has [] b = false
has (keys ∷ arms) b = has_key keys b || has arms b

off_has : (arms : List (List ℕ)) (b : ℕ) → Off arms b → has arms b ≡ false
off_has [] b o = refl
off_has (keys ∷ arms) b o = by (has_key keys b) refl (off_has arms b o.0)
  where
    by : (t : Bool) → has_key keys b ≡ t → has arms b ≡ false → (t || has arms b) ≡ false
    by true e more = absurd (o.1 (key-hit keys b (rw e tt)))
    by false e more = more

-- each of the m bytes from lo on
abbrev filled : List (List ℕ) → ℕ → ℕ → Bool
filled arms lo zero = true
filled arms lo (suc m) = has arms lo && filled arms (suc lo) m

filled_has : (arms : List (List ℕ)) (lo m b : ℕ) → filled arms lo m ≡ true → lo ≤ b → b < lo + m → has arms b ≡ true
filled_has arms lo zero b e l h = absurd (omega arith)
filled_has arms lo (suc m) b e l h = elim (dec_lt lo b) [
  | yes g ↦ filled_has arms (suc lo) m b (and_right (has arms lo) (filled arms (suc lo) m) e) g (omega arith)
  | no g ↦ let p : b ≡ lo = omega arith in rw p (and_left (has arms lo) (filled arms (suc lo) m) e)
]

module _ {A : Type 0} where
  -- The rows from lo on with a for what they say, but for those whose bytes are all keys.
  abbrev levelled : List (List ℕ) → ℕ → A → Rows A → Rows A
  levelled arms lo a (else x) = else a
  levelled arms lo a (below n x rows) = below n (choose (filled arms lo (n - lo)) (λ _. x) λ _. a) (levelled arms n a rows)

  look_levelled : (arms : List (List ℕ)) (lo b : ℕ) (a : A) (rows : Rows A) → Off arms b → lo ≤ b → look b (levelled arms lo a rows) ≡ a
  unfolding look
  look_levelled arms lo b a (else x) o l = refl
  look_levelled arms lo b a (below n x rows) o l = elim (dec_lt b n) [
    | yes h ↦ rw (lt-ltb b n h) (by h (filled arms lo (n - lo)) refl)
    | no g ↦ rw (le-ltb b n (omega arith)) (look_levelled arms n b a rows o (omega arith))
  ]
    where
      by : b < n → (t : Bool) → filled arms lo (n - lo) ≡ t → choose t (λ _. x) (λ _. a) ≡ a
      by h true e = absurd (false≢true (sym (off_has arms b o) ∙ filled_has arms lo (n - lo) b e l (omega arith)))
      by h false e = refl

pub others : (arms : List (List ℕ)) (A : Type 0) (b : ℕ) (a : A) (rows : Rows A) → Off arms b → levelled arms 0 a rows ≡ rows → a ≡ look b rows
unfolding look
others arms A b a rows o e = sym (look_levelled arms 0 b a rows o (omega arith)) ∙ ap (look b) e
