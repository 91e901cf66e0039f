-- When a value is within its shape, and what reading it takes of the records and the text room.
use mathlib.Core.Path.{◌≡◌}
use mathlib.Core.List.{List, [], ◌∷◌}
use mathlib.Core.Bool.{Bool, true, false, not, ◌&&◌}
use mathlib.Core.Option.{Option, none, some}
use Prim.Native.Nat.{ℕ, ◌+◌}
use lib.Dec.{leb}
use lib.ListN.{length}
use Rattle.document.specs.Utf8.{is_utf8}
use Rattle.document.specs.Posology.{Posology, Detail, daily, free_text, single, cyclic, sequence, SequenceObject, posology_sequence, pause, SequenceObjects, no_object, object_then}
use Rattle.document.specs.Date.{is_date, is_second}
use Rattle.document.specs.Schema.{greatest_decimal, Family, a_posology, a_detail, a_timed, a_dosage, a_sequence_object, an_at_time, an_in_segment, NumberShape, integer, decimal, StringShape, text, date, time, OfString, ListShape, four_decimals, days, some_objects, any_objects, OfList, Shape, a_number, a_string, a_flag, an_object, a_list, Of, OfFamily, Rows, need, may, gives, gives_if}
use Rattle.document.specs.Visit.{Left, is_empty}
use Rattle.document.specs.Valid.{is_amount, is_days, every, valid_dosage, valid_at_time, valid_in_segment, valid_timed, valid_detail, valid_object, valid_fields, timed_records, detail_records, object_records}

abbrev pub sum : {A : Type 0} → (A → ℕ) → List A → ℕ
sum f [] = 0
sum f (a ∷ as') = f a + sum f as'

-- The text bytes of a detail, of a head.
unfoldable mutual
  pub detail_text : Detail → ℕ
  detail_text (daily a b c d) = 0
  detail_text (free_text cs) = length cs
  detail_text (single td) = 0
  detail_text (cyclic unit du td per) = 0
  detail_text (sequence os) = objects_text os

  pub object_text : SequenceObject → ℕ
  object_text (posology_sequence du unit po) = detail_text po
  object_text (pause du unit) = 0

  pub objects_text : SequenceObjects → ℕ
  objects_text no_object = 0
  objects_text (object_then o os) = object_text o + objects_text os

abbrev pub given_text : Option (List ℕ) → ℕ
given_text none = 0
given_text (some cs) = length cs

abbrev pub posology_text : Posology → ℕ
posology_text p = detail_text p.po + (given_text p.unit + (given_text p.appl_instr + (given_text p.roa + given_text p.moa)))

-- What a family's value is measured by: whether it is valid, its records, its text bytes.
pub record Measures (A : Type 0) : Type 0 where
  pub valid : A → Bool
  pub records : A → ℕ
  pub text : A → ℕ

abbrev pub measures : (f : Family) → Measures (OfFamily f)
measures (a_posology purpose) = record { valid = valid_fields purpose; records = λ x. detail_records x.po; text = posology_text }
measures (a_detail n) = record { valid = λ x. valid_detail x n; records = detail_records; text = detail_text }
measures (a_timed ts) = record { valid = λ x. valid_timed x ts; records = timed_records; text = λ _. 0 }
measures a_dosage = record { valid = valid_dosage; records = λ _. 1; text = λ _. 0 }
measures (a_sequence_object n) = record { valid = λ x. valid_object x n; records = object_records; text = object_text }
measures an_at_time = record { valid = valid_at_time; records = λ _. 2; text = λ _. 0 }
measures an_in_segment = record { valid = valid_in_segment; records = λ _. 2; text = λ _. 0 }

abbrev pub family_valid : (f : Family) → OfFamily f → Bool
family_valid f = (measures f).valid

abbrev pub family_records : (f : Family) → OfFamily f → ℕ
family_records f = (measures f).records

abbrev pub family_text : (f : Family) → OfFamily f → ℕ
family_text f = (measures f).text

abbrev pub number_valid : NumberShape → ℕ → Bool
number_valid (integer lo hi) x = leb lo x && leb x hi
number_valid (decimal lo) x = leb lo x && leb x greatest_decimal

abbrev pub string_valid : (s : StringShape) → OfString s → Bool
string_valid text x = is_utf8 x
string_valid date x = is_date x
string_valid time x = is_second x

abbrev pub string_text : (s : StringShape) → OfString s → ℕ
string_text text x = length x
string_text date x = 0
string_text time x = 0

abbrev pub list_valid : (s : ListShape) → OfList s → Bool
list_valid four_decimals x = is_amount x.morning && is_amount x.noon && is_amount x.evening && is_amount x.night
list_valid (days hi) x = is_days hi x
list_valid (some_objects f) x = not (is_empty x) && every (family_valid f) x
list_valid (any_objects f) x = every (family_valid f) x

abbrev pub list_records : (s : ListShape) → OfList s → ℕ
list_records four_decimals x = 0
list_records (days hi) x = 0
list_records (some_objects f) x = sum (family_records f) x
list_records (any_objects f) x = sum (family_records f) x

abbrev pub list_text : (s : ListShape) → OfList s → ℕ
list_text four_decimals x = 0
list_text (days hi) x = 0
list_text (some_objects f) x = sum (family_text f) x
list_text (any_objects f) x = sum (family_text f) x

abbrev pub valid_of : (s : Shape) → Of s → Bool
valid_of (a_number n) x = number_valid n x
valid_of (a_string s) x = string_valid s x
valid_of a_flag x = true
valid_of (an_object f) x = family_valid f x
valid_of (a_list s) x = list_valid s x

abbrev pub records_of : (s : Shape) → Of s → ℕ
records_of (a_number n) x = 0
records_of (a_string s) x = 0
records_of a_flag x = 0
records_of (an_object f) x = family_records f x
records_of (a_list s) x = list_records s x

abbrev pub text_of : (s : Shape) → Of s → ℕ
text_of (a_number n) x = 0
text_of (a_string s) x = string_text s x
text_of a_flag x = 0
text_of (an_object f) x = family_text f x
text_of (a_list s) x = list_text s x

-- So many records and text bytes lie between two states.
pub record Takes (records room : ℕ) (l l' : Left) : Type 0 where
  pub taken : l.records ≡ records + l'.records
  pub used : l.room ≡ room + l'.room

pub record Good (s : Shape) (x : Of s) (l l' : Left) : Type 0 where
  pub valid : valid_of s x ≡ true
  pub takes : Takes (records_of s x) (text_of s x) l l'

-- A text that is given is not empty.
abbrev pub Filled : (s : Shape) → Of s → Type 0
Filled (a_number n) x = Unit {0}
Filled (a_string text) x = is_empty x ≡ false
Filled (a_string date) x = Unit {0}
Filled (a_string time) x = Unit {0}
Filled a_flag x = Unit {0}
Filled (an_object f) x = Unit {0}
Filled (a_list s) x = Unit {0}

abbrev pub GoodOption : (s : Shape) → Option (Of s) → Left → Left → Type 0
GoodOption s none l l' = l ≡ l'
GoodOption s (some x) l l' = Good s x l l' × Filled s x

-- An object that is a record takes one.
abbrev pub Opened : Bool → Left → Left → Type 0
Opened true l l₁ = Takes 1 0 l l₁
Opened false l l₁ = l ≡ l₁

-- Values that are good one behind the other, and what the rows make of them.
abbrev pub Made : {A : Type 0} → Rows A → Left → A → Left → Type 0
Made (need n s k) l a l'' = (x : Of s) × (l' : Left) × Good s x l l' × Filled s x × Made (k x) l' a l''
Made (may n s k) l a l'' = (x : Option (Of s)) × (l' : Left) × GoodOption s x l l' × Made (k x) l' a l''
Made (gives b) l a l'' = (b ≡ a) × (l ≡ l'')
Made (gives_if test b) l a l'' = (test ≡ true) × (b ≡ a) × (l ≡ l'')
