-- Document 01, "Objects, with fields in visiting and writing order", as data: what may stand in a field, and the fields of each object.
use Rattle.std.specs.Prelude.{List, [], ◌∷◌, Bool, true, false, cond, not, ◌||◌, ℕ, ◌-◌, eqb, ltb, get_or}
use Rattle.std.proofs.Math.Option
use Rattle.std.proofs.Math.Option.{Option, none, some}
use Prim.Native.String.{String}
use Rattle.document.specs.Bytes.{bytes}
use Rattle.document.specs.Posology.{Date, bare, Dosage, simple, from_to, range, AtTime, at_time, InSegment, in_segment, Timed, dosage_only, times, day_segments, week_days, days_of_month, interval, Detail, daily, free_text, single, cyclic, sequence, SequenceObject, posology_sequence, pause, ordered, Posology}
use Rattle.document.specs.Date.{among}
use Rattle.document.specs.Moments.{in_order}

-- Numbers that document 01 names.
abbrev pub greatest_integer : ℕ
greatest_integer = 99999

abbrev pub greatest_decimal : ℕ
greatest_decimal = 999999999999

abbrev pub meal_codes : ℕ
meal_codes = 6

abbrev pub sequences_inside : ℕ
sequences_inside = 3

-- The objects by families: the object of one family has its fields by its type t.
-- `detail n`: n sequences may still open there. `timed ts`: the types ts may stand there.
pub data Family : Type 0 where
  a_posology : ℕ → Family  -- for a use
  a_detail : ℕ → Family
  a_timed : List ℕ → Family
  a_dosage : Family
  a_sequence_object : ℕ → Family
  an_at_time : Family
  an_in_segment : Family

pub data NumberShape : Type 0 where
  integer : ℕ → ℕ → NumberShape  -- from, to
  decimal : ℕ → NumberShape  -- from so many millionths on

pub data StringShape : Type 0 where
  text date time : StringShape

pub data ListShape : Type 0 where
  four_decimals : ListShape
  days : ℕ → ListShape  -- a set of days from 1 on
  some_objects any_objects : Family → ListShape  -- at least one; also none

-- What may stand in a field.
pub data Shape : Type 0 where
  a_number : NumberShape → Shape
  a_string : StringShape → Shape
  a_flag : Shape
  an_object : Family → Shape
  a_list : ListShape → Shape

-- What is read there.
abbrev pub OfFamily : Family → Type 0
OfFamily (a_posology purpose) = Posology
OfFamily (a_detail n) = Detail
OfFamily (a_timed ts) = Timed
OfFamily a_dosage = Dosage
OfFamily (a_sequence_object n) = SequenceObject
OfFamily an_at_time = AtTime
OfFamily an_in_segment = InSegment

abbrev pub OfString : StringShape → Type 0
OfString text = List ℕ
OfString date = Date
OfString time = ℕ

pub record Four : Type 0 where
  pub morning : ℕ
  pub noon : ℕ
  pub evening : ℕ
  pub night : ℕ

abbrev pub OfList : ListShape → Type 0
OfList four_decimals = Four
OfList (days hi) = List ℕ
OfList (some_objects f) = List (OfFamily f)
OfList (any_objects f) = List (OfFamily f)

abbrev pub Of : Shape → Type 0
Of (a_number n) = ℕ
Of (a_string s) = OfString s
Of a_flag = Bool
Of (an_object f) = OfFamily f
Of (a_list l) = OfList l

-- The fields of an object in visiting order, and what they make. A field's shape may hang on the fields before it.
pub data Rows (A : Type 0) : Type 0 where
  need : String → (s : Shape) → (Of s → Rows A) → Rows A
  may : String → (s : Shape) → (Option (Of s) → Rows A) → Rows A
  gives : A → Rows A
  gives_if : Bool → A → Rows A  -- 12 where the test fails

-- Shapes that stand in several rows.
abbrev pub a_duration : Shape
a_duration = a_number (integer 1 greatest_integer)

abbrev pub a_time_unit : Shape
a_time_unit = a_number (integer 1 7)

abbrev pub an_amount : Shape
an_amount = a_number (decimal 0)

abbrev pub some_amount : Shape
some_amount = a_number (decimal 1)

abbrev pub a_text : Shape
a_text = a_string text

-- "Which kind may stand under which is one fixed table": the types of a timed dosage under its parent.
abbrev pub under_single : List ℕ
under_single = 1 ∷ 2 ∷ 3 ∷ []

abbrev pub under_days : List ℕ
under_days = 1 ∷ 2 ∷ 3 ∷ []

abbrev pub under_cyclic : ℕ → List ℕ
under_cyclic unit =
    cond (eqb unit 5) (1 ∷ 2 ∷ 3 ∷ 4 ∷ 6 ∷ [])
    (cond (eqb unit 6) (1 ∷ 2 ∷ 3 ∷ 5 ∷ 6 ∷ [])
    (1 ∷ 2 ∷ 3 ∷ 6 ∷ []))

-- Posology. "unit (optional for use 3)"
abbrev pub unit_if : Bool → (Option (List ℕ) → Rows Posology) → Rows Posology
unit_if optional k = cond optional (may "unit" a_text k) (need "unit" a_text λ u. k (some u))

unfoldable pub posology_rows : Bool → Rows Posology
posology_rows optional =
    may "dtFrom" (a_string date) λ from.
    may "dtTo" (a_string date) λ to.
    may "inRes" a_flag λ reserve.
    need "po" (an_object (a_detail sequences_inside)) λ po.
    may "relMeal" (a_number (integer 1 meal_codes)) λ meal.
    unit_if optional λ unit.
    may "applInstr" a_text λ instr.
    may "roa" a_text λ roa.
    may "moa" a_text λ moa.
    gives_if (in_order from to) (record { dt_from = from; dt_to = to; in_res = Option.get_or reserve false; po = po; rel_meal = meal; unit = unit; appl_instr = instr; roa = roa; moa = moa })

-- PosologyDetail, by its type.
unfoldable pub daily_rows : Rows Detail
daily_rows = need "ds" (a_list four_decimals) λ ds. gives (daily ds.morning ds.noon ds.evening ds.night)

unfoldable pub free_text_rows : Rows Detail
free_text_rows = need "text" a_text λ t. gives (free_text t)

unfoldable pub single_rows : Rows Detail
single_rows = need "tdo" (an_object (a_timed under_single)) λ td. gives (single td)

unfoldable pub cyclic_rows : Rows Detail
cyclic_rows =
    need "cyDuU" a_time_unit λ unit.
    need "cyDu" a_duration λ du.
    need "tdo" (an_object (a_timed (under_cyclic unit))) λ td.
    may "tdpc" a_duration λ per.
    gives (cyclic unit du td (Option.get_or per 1))

unfoldable pub sequence_rows : ℕ → Rows Detail
sequence_rows n = need "sos" (a_list (some_objects (a_sequence_object (n - 1)))) λ os. gives (sequence (ordered os))

-- TimedDosage
unfoldable pub dosage_only_rows : Rows Timed
dosage_only_rows = need "do" (an_object a_dosage) λ d. gives (dosage_only d)

unfoldable pub times_rows : Rows Timed
times_rows = need "ts" (a_list (any_objects an_at_time)) λ ts. gives (times ts)

unfoldable pub day_segments_rows : Rows Timed
day_segments_rows = need "ss" (a_list (any_objects an_in_segment)) λ ss. gives (day_segments ss)

unfoldable pub week_days_rows : Rows Timed
week_days_rows = need "wds" (a_list (days 7)) λ ds. need "tdo" (an_object (a_timed under_days)) λ td. gives (week_days ds td)

unfoldable pub days_of_month_rows : Rows Timed
days_of_month_rows = need "doms" (a_list (days 28)) λ ds. need "tdo" (an_object (a_timed under_days)) λ td. gives (days_of_month ds td)

unfoldable pub interval_rows : Rows Timed
interval_rows = need "do" (an_object a_dosage) λ d. need "miDu" a_duration λ du. need "miDuU" a_time_unit λ unit. gives (interval d du unit)

-- Dosage
unfoldable pub simple_rows : Rows Dosage
simple_rows = need "a" some_amount λ a. gives (simple a)

unfoldable pub from_to_rows : Rows Dosage
from_to_rows = need "aFrom" an_amount λ a. need "aTo" an_amount λ b. need "duU" a_time_unit λ unit. need "du" a_duration λ du. gives_if (ltb a b) (from_to a b unit du)

unfoldable pub range_rows : Rows Dosage
range_rows = need "aMin" some_amount λ a. need "aMax" an_amount λ b. gives_if (ltb a b) (range a b)

-- Sequence objects
unfoldable pub posology_sequence_rows : ℕ → Rows SequenceObject
posology_sequence_rows n = need "du" a_duration λ du. need "duU" a_time_unit λ unit. need "po" (an_object (a_detail n)) λ po. gives (posology_sequence du unit po)

unfoldable pub pause_rows : Rows SequenceObject
pause_rows = need "du" a_duration λ du. need "duU" a_time_unit λ unit. gives (pause du unit)

-- Applications
unfoldable pub at_time_rows : Rows AtTime
at_time_rows = need "do" (an_object a_dosage) λ d. need "dt" (a_string time) λ dt. gives (at_time d dt)

unfoldable pub in_segment_rows : Rows InSegment
in_segment_rows = need "do" (an_object a_dosage) λ d. need "s" (a_number (integer 1 4)) λ s. gives (in_segment d s)

-- The facts of a family, in one row.
pub record Facts (A : Type 0) : Type 0 where
  pub sample : A  -- any value
  pub is_record : Bool  -- "Each PosologyDetail, TimedDosage, Application, Dosage and Sequence object is one record."
  pub types : ℕ  -- how many types it has: 0 where it has no t
  pub stands : ℕ → Bool  -- 10: whether a type may stand under its parent
  pub opens : ℕ → Bool  -- 14: whether a type may still open
  pub rows : ℕ → Rows A  -- the fields of a type

abbrev always : ℕ → Bool
always t = true

-- An object with no t.
abbrev plainly : {A : Type 0} → A → Bool → Rows A → Facts A
plainly a record? rows = record { sample = a; is_record = record?; types = 0; stands = always; opens = always; rows = λ t. rows }

abbrev some_head : Posology
some_head = record { dt_from = none; dt_to = none; in_res = false; po = free_text []; rel_meal = none; unit = none; appl_instr = none; roa = none; moa = none }

abbrev pub facts : (f : Family) → Facts (OfFamily f)
facts (a_posology purpose) = plainly some_head false (posology_rows (eqb purpose 3))
facts (a_detail n) = record {
  sample = free_text [];
  is_record = true;
  types = 5;
  stands = always;
  opens = λ t. not (eqb t 5) || ltb 0 n;
  rows = λ t. get_or (daily_rows ∷ free_text_rows ∷ single_rows ∷ cyclic_rows ∷ sequence_rows n ∷ []) (t - 1) daily_rows;
}
facts (a_timed ts) = record {
  sample = times [];
  is_record = true;
  types = 6;
  stands = λ t. among t ts;
  opens = always;
  rows = λ t. get_or (dosage_only_rows ∷ times_rows ∷ day_segments_rows ∷ week_days_rows ∷ days_of_month_rows ∷ interval_rows ∷ []) (t - 1) dosage_only_rows;
}
facts a_dosage = record {
  sample = simple 0;
  is_record = true;
  types = 3;
  stands = always;
  opens = always;
  rows = λ t. get_or (simple_rows ∷ from_to_rows ∷ range_rows ∷ []) (t - 1) simple_rows;
}
facts (a_sequence_object n) = record {
  sample = pause 0 0;
  is_record = true;
  types = 2;
  stands = always;
  opens = always;
  rows = λ t. get_or (posology_sequence_rows n ∷ pause_rows ∷ []) (t - 1) pause_rows;
}
facts an_at_time = plainly (at_time (simple 0) 0) true at_time_rows
facts an_in_segment = plainly (in_segment (simple 0) 0) true in_segment_rows

unfoldable pub rows_of : (f : Family) → ℕ → Rows (OfFamily f)
unfolding posology_rows daily_rows free_text_rows single_rows cyclic_rows sequence_rows dosage_only_rows times_rows day_segments_rows week_days_rows days_of_month_rows interval_rows simple_rows from_to_rows range_rows posology_sequence_rows pause_rows at_time_rows in_segment_rows
rows_of f t = (facts f).rows t

abbrev pub types_of : Family → ℕ
types_of f = (facts f).types

abbrev pub is_record : Family → Bool
is_record f = (facts f).is_record

abbrev pub may_stand : Family → ℕ → Bool
may_stand f t = (facts f).stands t

abbrev pub may_open : Family → ℕ → Bool
may_open f t = (facts f).opens t

-- The names of some rows. No row's name hangs on a value, so any value shows the rows behind it.
abbrev pub any_string : (s : StringShape) → OfString s
any_string text = []
any_string date = bare (record { year = 0; month = 0; day = 0 })
any_string time = 0

abbrev pub any_list : (l : ListShape) → OfList l
any_list four_decimals = record { morning = 0; noon = 0; evening = 0; night = 0 }
any_list (days hi) = []
any_list (some_objects f) = []
any_list (any_objects f) = []

abbrev pub any : (s : Shape) → Of s
any (a_number n) = 0
any (a_string s) = any_string s
any a_flag = false
any (an_object f) = (facts f).sample
any (a_list l) = any_list l

abbrev pub names : {A : Type 0} → Rows A → List (List ℕ)
names (need n s k) = bytes n ∷ names (k (any s))
names (may n s k) = bytes n ∷ names (k none)
names (gives a) = []
names (gives_if test a) = []
