-- Which records of a detail without strings stand where (document 01, "The table" and "Objects").
use Rattle.std.specs.Prelude.{◌≡◌, List, ℕ, ◌+◌, ◌<◌, Option, Some, None, IsSome}
use Rattle.table_rows.specs.Standing.{below_at, a_at, b_at}
use Rattle.check_doses.specs.Shapes.{Row, daily_shape, single_shape, cyclic_shape, dosage_only_shape, times_shape, segments_shape, week_shape, month_shape, interval_shape, simple_shape, from_to_shape, range_shape, time_shape, segment_shape}
use Rattle.check_doses.specs.declared.records.Shape.{Shape}

-- A dosage from a least to a greatest amount.
pub record Rising (ws : List ℕ) (i : ℕ) (s : Shape) : Type 0 where
  pub row : Row ws i s
  pub rises : a_at ws i < b_at ws i

pub data DosageAt (ws : List ℕ) (i : ℕ) : Type 0 where
  simple : Row ws i simple_shape → DosageAt ws i
  from_to : Rising ws i from_to_shape → DosageAt ws i
  range : Rising ws i range_shape → DosageAt ws i

-- A record and the dosage behind it.
pub record ApplicationAt (ws : List ℕ) (i : ℕ) (s : Shape) : Type 0 where
  pub row : Row ws i s
  pub dosage : DosageAt ws (i + 1)

pub data ApplicationsAt (ws : List ℕ) (end : ℕ) (each : Shape) : ℕ → Type 0 where
  none : {i : ℕ} → i ≡ end → ApplicationsAt ws end each i
  more : {i : ℕ} → ApplicationAt ws i each → ApplicationsAt ws end each (i + 2) → ApplicationsAt ws end each i

pub record ListedAt (ws : List ℕ) (i : ℕ) (own each : Shape) : Type 0 where
  pub row : Row ws i own
  pub items : ApplicationsAt ws (i + 1 + below_at ws i) each (i + 1)

pub data PlainAt (ws : List ℕ) (i : ℕ) : Type 0 where
  dosage_only : ApplicationAt ws i dosage_only_shape → PlainAt ws i
  times : ListedAt ws i times_shape time_shape → PlainAt ws i
  segments : ListedAt ws i segments_shape segment_shape → PlainAt ws i

-- The records below record i are those of the one behind it.
abbrev pub Nested : List ℕ → ℕ → Type 0
Nested ws i = below_at ws i ≡ below_at ws (i + 1) + 1

pub record DaysAt (ws : List ℕ) (i : ℕ) (s : Shape) : Type 0 where
  pub row : Row ws i s
  pub inner : PlainAt ws (i + 1)
  pub nested : Nested ws i

pub record IntervalAt (ws : List ℕ) (i : ℕ) : Type 0 where
  pub row : Row ws i interval_shape
  pub dosage : DosageAt ws (i + 1)

-- A timed dosage under a Cyclic of this unit, or under a Single.
pub data TimedAt (ws : List ℕ) (i : ℕ) (unit : Option ℕ) : Type 0 where
  plain : PlainAt ws i → TimedAt ws i unit
  interval : IsSome unit → IntervalAt ws i → TimedAt ws i unit
  week_days : unit ≡ Some 5 → DaysAt ws i week_shape → TimedAt ws i unit
  days_of_month : unit ≡ Some 6 → DaysAt ws i month_shape → TimedAt ws i unit

pub record SingleAt (ws : List ℕ) (i : ℕ) : Type 0 where
  pub row : Row ws i single_shape
  pub inner : TimedAt ws (i + 1) None
  pub nested : Nested ws i

pub record CyclicAt (ws : List ℕ) (i : ℕ) : Type 0 where
  pub row : Row ws i cyclic_shape
  pub inner : TimedAt ws (i + 1) (Some (a_at ws i))
  pub nested : Nested ws i

-- A detail without strings.
pub data StillAt (ws : List ℕ) (i : ℕ) : Type 0 where
  daily : Row ws i daily_shape → StillAt ws i
  single : SingleAt ws i → StillAt ws i
  cyclic : CyclicAt ws i → StillAt ws i
