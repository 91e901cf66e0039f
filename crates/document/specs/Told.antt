-- What the code has taken of the records and of the room so far, held against the state of the definitions.
use Rattle.std.specs.Prelude.{◌≡◌, List, cond, ℕ, ◌+◌, leb}
use Rattle.document.specs.Visit.{State, Outcome, done, records_at_most}
use Rattle.document.specs.declared.terms.Terms.{Terms}
use Rattle.document.specs.declared.terms.Used.{Used}

-- The state behind what is taken: nothing of it is looked into elsewhere, but by laws.
pub record Tells (terms : Terms) (text : List ℕ) (u : Used) (s : State) : Type 0 where
  pub records : u.records + s.left.records ≡ records_at_most
  pub room : u.text + s.left.room ≡ terms.room

abbrev pub none_used : Used
none_used = record { records = 0; text = 0 }

-- One record more; the same where one is left.
abbrev pub more : Used → Used
more u = record { records = u.records + 1; text = u.text }

unfoldable pub one_more : Used → Used
one_more u = cond (leb records_at_most u.records) u (more u)

-- A string more.
abbrev pub longer : ℕ → Used → Used
longer n u = record { records = u.records; text = u.text + n }

-- As many records and text bytes, whatever else was noted.
pub record Still (u v : Used) : Type 0 where
  pub records : v.records ≡ u.records
  pub text : v.text ≡ u.text

-- A value was read, and v is taken behind it.
pub record Hands {A : Type 0} (terms : Terms) (text : List ℕ) (o : Outcome A) (v : Used) (Holds : A → Type 0) : Type 0 where
  pub value : A
  pub state : State
  pub outcome : o ≡ done value state
  pub tells : Tells terms text v state
  pub holds : Holds value

-- Reading goes on so, with v taken.
pub record GoesOn {A : Type 0} (terms : Terms) (text : List ℕ) (o : Outcome A) (v : Used) (rest : State → Outcome A) : Type 0 where
  pub state : State
  pub outcome : o ≡ rest state
  pub tells : Tells terms text v state
