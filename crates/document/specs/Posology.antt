-- What a posology text means (document 001; document 01, "Objects" and "The table").
-- Amounts are whole millionths, a time of day is a second, days ascend. What holds of a valid one is said in Valid.
use Rattle.std.specs.Prelude.{List, [], ◌∷◌, Bool, ℕ}
use Rattle.std.proofs.Math.Option.{Option}

pub record Day : Type 0 where
  pub year : ℕ
  pub month : ℕ
  pub day : ℕ

-- A zone's minutes, east or west of Greenwich.
pub data Zone : Type 0 where
  east west : ℕ → Zone

-- A bare date, and the same date with a time and a zone: the two stay distinct.
pub data Date : Type 0 where
  bare : Day → Date
  moment : Day → ℕ → Zone → Date

pub data Dosage : Type 0 where
  simple : ℕ → Dosage  -- a
  from_to : ℕ → ℕ → ℕ → ℕ → Dosage  -- aFrom, aTo, duU, du
  range : ℕ → ℕ → Dosage  -- aMin, aMax

pub data AtTime : Type 0 where
  at_time : Dosage → ℕ → AtTime  -- do, dt

pub data InSegment : Type 0 where
  in_segment : Dosage → ℕ → InSegment  -- do, s

pub data Timed : Type 0 where
  dosage_only : Dosage → Timed  -- do
  times : List AtTime → Timed  -- ts
  day_segments : List InSegment → Timed  -- ss
  week_days : List ℕ → Timed → Timed  -- wds, tdo
  days_of_month : List ℕ → Timed → Timed  -- doms, tdo
  interval : Dosage → ℕ → ℕ → Timed  -- do, miDu, miDuU

mutual
  pub data Detail : Type 0 where
    daily : ℕ → ℕ → ℕ → ℕ → Detail  -- ds: morning, noon, evening, night
    free_text : List ℕ → Detail  -- text
    single : Timed → Detail  -- tdo
    cyclic : ℕ → ℕ → Timed → ℕ → Detail  -- cyDuU, cyDu, tdo, tdpc
    sequence : SequenceObjects → Detail  -- sos

  pub data SequenceObject : Type 0 where
    posology_sequence : ℕ → ℕ → Detail → SequenceObject  -- du, duU, po
    pause : ℕ → ℕ → SequenceObject  -- du, duU

  pub data SequenceObjects : Type 0 where
    no_object : SequenceObjects
    object_then : SequenceObject → SequenceObjects → SequenceObjects

pub record Posology : Type 0 where
  pub dt_from : Option Date
  pub dt_to : Option Date
  pub in_res : Bool
  pub po : Detail
  pub rel_meal : Option ℕ
  pub unit : Option (List ℕ)
  pub appl_instr : Option (List ℕ)
  pub roa : Option (List ℕ)
  pub moa : Option (List ℕ)

-- The objects of a sequence as a list, and back.
abbrev pub ordered : List SequenceObject → SequenceObjects
ordered [] = no_object
ordered (o ∷ os) = object_then o (ordered os)

abbrev pub listed : SequenceObjects → List SequenceObject
listed no_object = []
listed (object_then o os) = o ∷ listed os
