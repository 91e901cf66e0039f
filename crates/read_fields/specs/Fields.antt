-- What the code's fields tell of what Visit.antt reads there.
use Rattle.std.specs.Prelude.{ℕ, ◌+◌, ◌<◌, ◌≤◌, ◌≡◌, List, Bool, false, length, drop, Result, Ok, Err, IfOk, Option as Maybe}
use Rattle.std.proofs.Math.Option.{Option, none, some, get_or}
use Rattle.json_grammar.specs.Tree.{Place, Tree, object, list, Members, Elements}
use Rattle.json_move.specs.Read.{decoded}
use Rattle.document.specs.Posology as P
use Rattle.document.specs.Lookup.{Found}
use Rattle.document.specs.Table.{date_cell}
use Rattle.document.specs.Schema.{Family, NumberShape, a_number, a_string, an_object, a_list, a_flag, text as as_text, date as as_date, time as as_time, ListShape, four_decimals, Four, OfFamily}
use Rattle.document.specs.Visit.{State, Outcome, done, refuse, Value, value_of, entries_of, values_of, needed, optional, members, decimals, elements}
use Rattle.document.specs.declared.table.Date.{Date}
use Rattle.document.specs.At.{At, Slot}
use Rattle.document.specs.Told.{Tells, Still, Hands}
use Rattle.document.specs.declared.terms.Terms.{Terms}
use Rattle.document.specs.declared.terms.Used.{Used}
use Rattle.document.specs.Refusals.{number_of}
use Rattle.document.specs.declared.refusal.Refusal.{Refusal}
use Rattle.read_fields.specs.declared.field.Counted.{Counted}
use Rattle.read_fields.specs.declared.field.Worded.{Worded}
use Rattle.read_fields.specs.declared.four.Four.{Four as FourRead}

-- A refusal at a place of the text.
pub record Refuses {A : Type 0} (text : List ℕ) (o : Outcome A) (n p : ℕ) : Type 0 where
  pub outcome : o ≡ refuse n (drop p text)
  pub inside : p ≤ length text

-- What is read is so, or it is refused.
abbrev pub Answers : {A B : Type 0} → List ℕ → Outcome A → (B → Type 0) → Result B Refusal → Type 0
Answers text o Holds (Ok b) = Holds b
Answers text o Holds (Err r) = Refuses text o (number_of r.0) r.1

-- A number is read, or refused.
abbrev pub Reads : List ℕ → Outcome ℕ → State → Result ℕ Refusal → Type 0
Reads text o l r = Answers text o (λ n. o ≡ done n l) r

-- A value at a place, read as a number.
abbrev pub ReadsAt : List ℕ → ℕ → NumberShape → Result ℕ Refusal → Type 0
ReadsAt text v s r = (t : Tree) → At text v t → (l : State) → Reads text ((value_of t).read (a_number s) l) l r

-- A needed number, in the slot v of an object whose brace is at `brace`.
abbrev pub ReadsNeeded : List ℕ → ℕ → Maybe ℕ → NumberShape → Result ℕ Refusal → Type 0
ReadsNeeded text brace v s r = (f : Found Value) → Slot text v f → (l : State) → Reads text (needed (a_number s) (drop brace text) f l) l r

-- An integer is read, with what is taken behind it, or refused. `counts` is the number that a value comes to.
abbrev pub Counts : {A : Type 0} → Terms → List ℕ → Outcome A → (A → ℕ) → Result Counted Refusal → Type 0
Counts terms text o counts r = Answers text o (λ c. Hands terms text o c.used λ x. counts x ≡ c.value) r

-- From what u tells on.
abbrev pub CountsFrom : {A : Type 0} → List ℕ → Used → (State → Outcome A) → (A → ℕ) → Result Counted Refusal → Type 0
CountsFrom text u reads counts r = (terms : Terms) (s : State) → Tells terms text u s → Counts terms text (reads s) counts r

abbrev pub itself : ℕ → ℕ
itself n = n

abbrev pub CountsAt : List ℕ → ℕ → NumberShape → Used → Result Counted Refusal → Type 0
CountsAt text v s u r = (t : Tree) → At text v t → CountsFrom text u ((value_of t).read (a_number s)) itself r

abbrev pub CountsNeeded : List ℕ → ℕ → Maybe ℕ → NumberShape → Used → Result Counted Refusal → Type 0
CountsNeeded text brace v s u r = (f : Found Value) → Slot text v f → CountsFrom text u (needed (a_number s) (drop brace text) f) itself r

-- Absent counts `absent`.
abbrev pub CountsOptional : List ℕ → Maybe ℕ → NumberShape → ℕ → Used → Result Counted Refusal → Type 0
CountsOptional text v s absent u r =
    (f : Found Value) → Slot text v f → (p : Place) → CountsFrom text u (optional (a_number s) p f) (λ x. get_or x absent) r

-- No record and no text byte is taken by an integer.
abbrev pub CountsStill : Used → Result Counted Refusal → Type 0
CountsStill u r = IfOk r λ c. Still u c.used

-- An integer that is read lies in its range.
abbrev pub CountsWithin : ℕ → ℕ → Result Counted Refusal → Type 0
CountsWithin least most r = IfOk r λ c. (least ≤ c.value) × (c.value ≤ most)

-- A mark that may be absent.
pub record Given (o : Outcome (Option Bool)) (l : State) (marked : Bool) : Type 0 where
  pub value : Option Bool
  pub outcome : o ≡ done value l
  pub marks : get_or value false ≡ marked

abbrev pub ReadsFlag : List ℕ → Maybe ℕ → Result Bool Refusal → Type 0
ReadsFlag text v r = (f : Found Value) → Slot text v f → (p : Place) (l : State) → Answers text (optional a_flag p f l) (Given (optional a_flag p f l) l) r

-- A time of day.
abbrev pub ReadsTime : List ℕ → ℕ → Maybe ℕ → Result ℕ Refusal → Type 0
ReadsTime text brace v r = (f : Found Value) → Slot text v f → (l : State) → Reads text (needed (a_string as_time) (drop brace text) f l) l r

-- An object to be visited.
pub record Child (text : List ℕ) (at : ℕ) (reads : (f : Family) → State → Outcome (OfFamily f)) : Type 0 where
  pub place : Place
  pub inner : Members
  pub stands : At text at (object place inner)
  pub outcome : (f : Family) (l : State) → reads f l ≡ members f place (entries_of inner) l

abbrev pub FindsObject : List ℕ → ((f : Family) → State → Outcome (OfFamily f)) → Result ℕ Refusal → Type 0
FindsObject text reads (Ok at) = Child text at reads
FindsObject text reads (Err r) = (f : Family) (l : State) → Refuses text (reads f l) (number_of r.0) r.1

abbrev pub ObjectAt : List ℕ → ℕ → Result ℕ Refusal → Type 0
ObjectAt text v r = (t : Tree) → At text v t → FindsObject text (λ f l. (value_of t).read (an_object f) l) r

abbrev pub ObjectNeeded : List ℕ → ℕ → Maybe ℕ → Result ℕ Refusal → Type 0
ObjectNeeded text brace v r = (f : Found Value) → Slot text v f → FindsObject text (λ fam l. needed (an_object fam) (drop brace text) f l) r

-- A list to be gone through.
pub record Listing (text : List ℕ) (at : ℕ) (reads : (s : ListShape) → State → Outcome (Rattle.document.specs.Schema.OfList s)) : Type 0 where
  pub place : Place
  pub inner : Elements
  pub stands : At text at (list place inner)
  pub outcome : (s : ListShape) (l : State) → reads s l ≡ elements s place (values_of inner) l

abbrev pub FindsList : List ℕ → ((s : ListShape) → State → Outcome (Rattle.document.specs.Schema.OfList s)) → Result ℕ Refusal → Type 0
FindsList text reads (Ok at) = Listing text at reads
FindsList text reads (Err r) = (s : ListShape) (l : State) → Refuses text (reads s l) (number_of r.0) r.1

abbrev pub ListNeeded : List ℕ → ℕ → Maybe ℕ → Result ℕ Refusal → Type 0
ListNeeded text brace v r = (f : Found Value) → Slot text v f → FindsList text (λ s l. needed (a_list s) (drop brace text) f l) r

-- A string, by its quote and its length in decoded bytes; both are 0 where it is absent.
abbrev pub StringIs : List ℕ → ℕ → ℕ → Option (List ℕ) → Type 0
StringIs text q n none = (q ≡ 0) × (n ≡ 0)
StringIs text q n (some cs) = (decoded (drop q text) ≡ cs) × (length cs ≡ n) × (0 < n)

abbrev pub Words : {A : Type 0} → Terms → List ℕ → Outcome A → (A → Option (List ℕ)) → Result Worded Refusal → Type 0
Words terms text o string r = Answers text o (λ w. Hands terms text o w.used λ x. StringIs text w.quote w.len (string x)) r

abbrev pub WordsFrom : {A : Type 0} → Terms → List ℕ → Used → (State → Outcome A) → (A → Option (List ℕ)) → Result Worded Refusal → Type 0
WordsFrom terms text u reads string r = (s : State) → Tells terms text u s → Words terms text (reads s) string r

abbrev pub ReadsText : Terms → List ℕ → ℕ → Maybe ℕ → Used → Result Worded Refusal → Type 0
ReadsText terms text brace v u r = (f : Found Value) → Slot text v f → WordsFrom terms text u (needed (a_string as_text) (drop brace text) f) (λ cs. some cs) r

abbrev pub ReadsOptionalText : Terms → List ℕ → Maybe ℕ → Used → Result Worded Refusal → Type 0
ReadsOptionalText terms text v u r = (f : Found Value) → Slot text v f → (p : Place) → WordsFrom terms text u (optional (a_string as_text) p f) (λ x. x) r

-- A string takes its bytes of the room, and no record.
pub record Longer (terms : Terms) (u : Used) (n : ℕ) (v : Used) : Type 0 where
  pub records : v.records ≡ u.records
  pub text : v.text ≡ u.text + n
  pub fits : v.text ≤ terms.room

abbrev pub TakesText : Terms → Used → Result Worded Refusal → Type 0
TakesText terms u r = IfOk r λ w. u.text ≤ terms.room → Longer terms u w.len w.used

-- The four decimals of a list.
abbrev pub ReadsFour : List ℕ → Outcome Four → State → Result FourRead Refusal → Type 0
ReadsFour text o l r = Answers text o (λ x. o ≡ done (record { morning = x.morning; noon = x.noon; evening = x.evening; night = x.night }) l) r

abbrev pub FourIn : List ℕ → ℕ → Result FourRead Refusal → Type 0
FourIn text at r = (p : Place) (es : Elements) → At text at (list p es) → length (values_of es) ≡ 4 → (l : State) → ReadsFour text (decimals p (values_of es) l) l r

abbrev pub FourNeeded : List ℕ → ℕ → Maybe ℕ → Result FourRead Refusal → Type 0
FourNeeded text brace v r = (f : Found Value) → Slot text v f → (l : State) → ReadsFour text (needed (a_list four_decimals) (drop brace text) f l) l r

-- A date, as the table has it.
pub record Dated (o : Outcome (Option P.Date)) (l : State) (d : Date) : Type 0 where
  pub value : Option P.Date
  pub outcome : o ≡ done value l
  pub cell : date_cell value ≡ d

abbrev pub ReadsDate : List ℕ → Maybe ℕ → Result Date Refusal → Type 0
ReadsDate text v r = (f : Found Value) → Slot text v f → (p : Place) (l : State) → Answers text (optional (a_string as_date) p f l) (Dated (optional (a_string as_date) p f l) l) r

-- A value that was found stands in the text.
abbrev pub Inside : List ℕ → Result ℕ Refusal → Type 0
Inside text r = IfOk r λ at. at < length text
