-- What is taken behind a record and behind a string, and how reading goes on.
use mathlib.Core.Path.{◌≡◌, refl, sym, ap, ◌∙◌}
use mathlib.Core.List.{List}
use mathlib.Core.Bool.{true, false}
use Prim.Native.Nat.{ℕ, ◌-◌, ◌<◌, ◌≤◌}
use native.Mathlib.Omega.{arith}
use borrow.Author.Tests.{le-leb, lt-leb, lt-ltb, le-ltb}
use lib.Dec.{leb, ltb}
use Rattle.document.specs.Visit.{State, start, opened, laid, Outcome, bind}
use Rattle.document.specs.Told.{Tells, none_used, more, one_more, longer, Still, Hands, GoesOn}
use Rattle.document.specs.declared.terms.Terms.{Terms}
use Rattle.document.specs.declared.terms.Used.{Used}

-- Counting records.
module _ (u : Used) where
  pub all_counted : 64 ≤ u.records → u ≡ one_more u
  unfolding one_more
  all_counted full = rw (le-leb 64 u.records full)

  pub counted : u.records < 64 → more u ≡ one_more u
  unfolding one_more
  counted few = rw (lt-leb 64 u.records few)

-- What a caller knows who has seen that there is room.
pub one_more_lem : {u w : Used} → u.records < 64 → w ≡ one_more u → w ≡ more u
one_more_lem few e = e ∙ sym (counted _ few)

-- The state at the start, behind a record and behind a string.
pub tells_start : (terms : Terms) (text : List ℕ) → Tells terms text none_used (start terms)
tells_start terms text = record { records = omega arith; room = omega arith }

module _ {terms : Terms} {text : List ℕ} {u : Used} {s : State} (t : Tells terms text u s) where
  pub tells_fits : u.text ≤ terms.room
  tells_fits = omega (arith, t.room)

  pub tells_few : u.records ≤ 64
  tells_few = omega (arith, t.records)

  -- 15: whether a record is left.
  pub one_left : u.records < 64 → ltb 0 s.left.records ≡ true
  one_left few = lt-ltb 0 s.left.records (omega (arith, t.records))

  pub none_left : 64 ≤ u.records → ltb 0 s.left.records ≡ false
  none_left full = le-ltb 0 s.left.records (omega (arith, t.records))

  pub tells_opened : u.records < 64 → Tells terms text (more u) (opened s)
  tells_opened few = record { records = omega (arith, t.records); room = t.room }

  -- 16: whether a string has room.
  pub has_room : (n : ℕ) → n ≤ terms.room - u.text → leb n s.left.room ≡ true
  has_room n fits = le-leb n s.left.room (omega (arith, t.room))

  pub no_room : (n : ℕ) → terms.room - u.text < n → leb n s.left.room ≡ false
  no_room n over = lt-leb n s.left.room (omega (arith, t.room))

  pub tells_laid : (n : ℕ) → n ≤ terms.room - u.text → Tells terms text (longer n u) (laid n s)
  tells_laid n fits = record { records = t.records; room = omega (arith, t.room) }

-- Nothing was taken.
pub still_same : {u v : Used} → u ≡ v → Still u v
still_same e = record { records = ap (λ (w : Used). w.records) (sym e); text = ap (λ (w : Used). w.text) (sym e) }

pub still_then : {u v w : Used} → Still u v → Still v w → Still u w
still_then a b = record { records = b.records ∙ a.records; text = b.text ∙ a.text }

-- Going on.
module _ {A B : Type 0} {terms : Terms} {text : List ℕ} {o : Outcome A} {v : Used} {Holds : A → Type 0} where
  pub hands_bind : (h : Hands terms text o v Holds) (k : A → State → Outcome B) → GoesOn terms text (bind o k) v (k h.value)
  hands_bind h k = record { state = h.state; outcome = ap (λ o. bind o k) h.outcome; tells = h.tells }

pub goes_as : {A : Type 0} {terms : Terms} {text : List ℕ} {o o' : Outcome A} {v : Used} {rest : State → Outcome A}
    → o ≡ o' → GoesOn terms text o' v rest → GoesOn terms text o v rest
goes_as e g = record { state = g.state; outcome = e ∙ g.outcome; tells = g.tells }

pub goes_then : {A : Type 0} {terms : Terms} {text : List ℕ} {o : Outcome A} {u v : Used} {rest rest' : State → Outcome A}
    → GoesOn terms text o u rest → ((s : State) → Tells terms text u s → GoesOn terms text (rest s) v rest') → GoesOn terms text o v rest'
goes_then g next = goes_as g.outcome (next g.state g.tells)

pub goes_start : {A : Type 0} {terms : Terms} {text : List ℕ} {v : Used} {s : State} (rest : State → Outcome A) → Tells terms text v s → GoesOn terms text (rest s) v rest
goes_start {s = s} rest t = record { state = s; outcome = refl; tells = t }

pub goes_to : {A : Type 0} {terms : Terms} {text : List ℕ} {o : Outcome A} {v : Used} {rest rest' : State → Outcome A}
    → ((s : State) → rest s ≡ rest' s) → GoesOn terms text o v rest → GoesOn terms text o v rest'
goes_to e g = record { state = g.state; outcome = g.outcome ∙ e g.state; tells = g.tells }
