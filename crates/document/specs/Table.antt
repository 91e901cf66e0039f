-- Document 01, "The table": the table of a posology.
use Rattle.std.specs.Prelude.{List, [], ◌∷◌, true, false, ℕ, zero, suc, ◌+◌, ◌-◌, ◌^◌, length, replicate}
use Rattle.std.proofs.Math.Option.{Option, none, some, get_or}
use Rattle.document.specs.Posology as P
use Rattle.document.specs.Posology.{Posology, Timed, Detail, SequenceObject, SequenceObjects, AtTime, InSegment}
use Rattle.document.specs.Valid.{timed_records, detail_records, objects_records, object_strings, detail_strings, strings}
use Rattle.document.specs.declared.table.Text.{Text}
use Rattle.document.specs.declared.table.Date.{Date}
use Rattle.document.specs.declared.table.Date.TheVariants as D
use Rattle.document.specs.declared.table.Dosage.{Dosage}
use Rattle.document.specs.declared.table.Dosage.TheVariants as S
use Rattle.document.specs.declared.table.Kind.{Kind}
use Rattle.document.specs.declared.table.Kind.TheVariants as K
use Rattle.document.specs.declared.table.Record.{Record}
use Rattle.document.specs.declared.table.Head.{Head}
use Rattle.document.specs.declared.table.Table.{Table}

abbrev pub records_in_table : ℕ
records_in_table = 64

-- "Unused records have a kind "none" and only zeros; an empty table has only such records and a head of zeros and absent values."
abbrev pub no_record : Record
no_record = record { kind = K.None; below = 0 }

abbrev pub no_text : Text
no_text = record { start = 0; len = 0 }

abbrev pub empty_head : Head
empty_head = record { from = D.Absent; to = D.Absent; reserve = false; meal = 0; unit = no_text; instructions = no_text; roa = no_text; moa = no_text }

abbrev pub empty_table : Table
empty_table = record { head = empty_head; count = 0; text = 0; records = replicate records_in_table no_record }

abbrev pub with_zone : P.Day → ℕ → P.Zone → Date
with_zone d s (P.east n) = D.Moment d.year d.month d.day s false n
with_zone d s (P.west n) = D.Moment d.year d.month d.day s true n

abbrev pub date_cell : Option P.Date → Date
date_cell none = D.Absent
date_cell (some (P.bare d)) = D.Bare d.year d.month d.day
date_cell (some (P.moment d s z)) = with_zone d s z

-- "a table names start and length, both 0 for an absent string"
abbrev pub text_cell : ℕ → Option (List ℕ) → Text
text_cell at none = no_text
text_cell at (some cs) = record { start = at; len = length cs }

abbrev pub length_of : Option (List ℕ) → ℕ
length_of none = 0
length_of (some cs) = length cs

abbrev pub dosage_cell : P.Dosage → Dosage
dosage_cell (P.simple a) = S.Simple a
dosage_cell (P.from_to a b unit du) = S.FromTo a b unit du
dosage_cell (P.range a b) = S.Range a b

-- A set of days: day 1 is the lowest bit.
abbrev pub day_set : List ℕ → ℕ
day_set [] = 0
day_set (d ∷ ds) = 2 ^ (d - 1) + day_set ds

abbrev pub row : Kind → ℕ → Record
row k n = record { kind = k; below = n }

abbrev pub dosage_row : P.Dosage → Record
dosage_row d = row (K.Dosage (dosage_cell d)) 0

-- The records of each object in visiting order, in front of those that follow. The strings of a detail start at `at`.
abbrev pub times_rows : List AtTime → List Record → List Record
times_rows [] k = k
times_rows (P.at_time d dt ∷ ts) k = row (K.AtTime dt) 1 ∷ dosage_row d ∷ times_rows ts k

abbrev pub segments_rows : List InSegment → List Record → List Record
segments_rows [] k = k
segments_rows (P.in_segment d s ∷ ss) k = row (K.InSegment s) 1 ∷ dosage_row d ∷ segments_rows ss k

unfoldable pub timed_rows : Timed → List Record → List Record
timed_rows (P.dosage_only d) k = row K.DosageOnly 1 ∷ dosage_row d ∷ k
timed_rows (P.times ts) k = row K.Times (length ts + length ts) ∷ times_rows ts k
timed_rows (P.day_segments ss) k = row K.DaySegments (length ss + length ss) ∷ segments_rows ss k
timed_rows (P.week_days ds td) k = row (K.WeekDays (day_set ds)) (timed_records td) ∷ timed_rows td k
timed_rows (P.days_of_month ds td) k = row (K.DaysOfMonth (day_set ds)) (timed_records td) ∷ timed_rows td k
timed_rows (P.interval d du unit) k = row (K.Interval du unit) 1 ∷ dosage_row d ∷ k

unfoldable mutual
  unfolding timed_rows detail_records object_strings

  pub detail_rows : Detail → ℕ → List Record → List Record
  detail_rows (P.daily a b c d) at k = row (K.Daily a b c d) 0 ∷ k
  detail_rows (P.free_text cs) at k = row (K.FreeText (record { start = at; len = length cs })) 0 ∷ k
  detail_rows (P.single td) at k = row K.Single (timed_records td) ∷ timed_rows td k
  detail_rows (P.cyclic unit du td per) at k = row (K.Cyclic unit du per) (timed_records td) ∷ timed_rows td k
  detail_rows (P.sequence os) at k = row K.Sequence (objects_records os) ∷ objects_rows os at k

  pub object_rows : SequenceObject → ℕ → List Record → List Record
  object_rows (P.posology_sequence du unit po) at k = row (K.PosologySequence du unit) (detail_records po) ∷ detail_rows po at k
  object_rows (P.pause du unit) at k = row (K.Pause du unit) 0 ∷ k

  pub objects_rows : SequenceObjects → ℕ → List Record → List Record
  objects_rows P.no_object at k = k
  objects_rows (P.object_then o os) at k = object_rows o at (objects_rows os (at + length (object_strings o [])) k)

-- The records of a table: those used, and behind them unused ones up to n.
abbrev pub filled : ℕ → List Record → List Record
filled n [] = replicate n no_record
filled zero (r ∷ rs) = []
filled (suc n) (r ∷ rs) = r ∷ filled n rs

unfoldable pub head_of : Posology → Head
unfolding detail_strings
head_of p =
    let unit_at = length (detail_strings p.po []) in
    let instr_at = unit_at + length_of p.unit in
    let roa_at = instr_at + length_of p.appl_instr in
    let moa_at = roa_at + length_of p.roa in
    record {
      from = date_cell p.dt_from;
      to = date_cell p.dt_to;
      reserve = p.in_res;
      meal = get_or p.rel_meal 0;
      unit = text_cell unit_at p.unit;
      instructions = text_cell instr_at p.appl_instr;
      roa = text_cell roa_at p.roa;
      moa = text_cell moa_at p.moa;
    }

unfoldable pub table_of : Posology → Table
unfolding head_of detail_rows detail_records strings
table_of p = record { head = head_of p; count = detail_records p.po; text = length (strings p); records = filled records_in_table (detail_rows p.po 0 []) }
