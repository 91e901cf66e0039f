-- What a table of the code can hold: each value fits its type, and there are 64 records.
use Rattle.std.specs.Prelude.{ℕ, ◌<◌, ◌≡◌, List, [], ◌∷◌, length}
use Rattle.document.specs.declared.table.Text.{Text}
use Rattle.document.specs.declared.table.Date.{Date}
use Rattle.document.specs.declared.table.Date.TheVariants as D
use Rattle.document.specs.declared.table.Dosage.{Dosage}
use Rattle.document.specs.declared.table.Dosage.TheVariants as S
use Rattle.document.specs.declared.table.Kind.{Kind}
use Rattle.document.specs.declared.table.Kind.TheVariants as K
use Rattle.document.specs.declared.table.Record.{Record}
use Rattle.document.specs.declared.table.Head.{Head}
use Rattle.document.specs.declared.table.Table.{Table}

abbrev pub U8 : ℕ → Type 0
U8 x = x < 256

abbrev pub U16 : ℕ → Type 0
U16 x = x < 65536

abbrev pub U32 : ℕ → Type 0
U32 x = x < 0x100000000

abbrev pub U64 : ℕ → Type 0
U64 x = x < 0x10000000000000000

pub record TextFits (t : Text) : Type 0 where
  pub start : U64 t.start
  pub len : U64 t.len

pub record DayFits (y m d : ℕ) : Type 0 where
  pub year : U16 y
  pub month : U8 m
  pub day : U8 d

abbrev pub DateFits : Date → Type 0
DateFits D.Absent = Unit {0}
DateFits (D.Bare y m d) = DayFits y m d
DateFits (D.Moment y m d s west zone) = DayFits y m d × U32 s × U16 zone

abbrev pub DosageFits : Dosage → Type 0
DosageFits (S.Simple a) = U64 a
DosageFits (S.FromTo a b unit du) = U64 a × U64 b × U8 unit × U32 du
DosageFits (S.Range a b) = U64 a × U64 b

abbrev pub KindFits : Kind → Type 0
KindFits K.None = Unit {0}
KindFits (K.Daily a b c d) = U64 a × U64 b × U64 c × U64 d
KindFits (K.FreeText t) = TextFits t
KindFits K.Single = Unit {0}
KindFits (K.Cyclic unit du per) = U8 unit × U32 du × U32 per
KindFits K.Sequence = Unit {0}
KindFits K.DosageOnly = Unit {0}
KindFits K.Times = Unit {0}
KindFits K.DaySegments = Unit {0}
KindFits (K.WeekDays days) = U32 days
KindFits (K.DaysOfMonth days) = U32 days
KindFits (K.Interval du unit) = U32 du × U8 unit
KindFits (K.Dosage d) = DosageFits d
KindFits (K.PosologySequence du unit) = U32 du × U8 unit
KindFits (K.Pause du unit) = U32 du × U8 unit
KindFits (K.AtTime second) = U32 second
KindFits (K.InSegment s) = U8 s

abbrev pub RecordFits : Record → Type 0
RecordFits r = KindFits r.kind × U64 r.below

abbrev pub AllFit : List Record → Type 0
AllFit [] = Unit {0}
AllFit (r ∷ rs) = RecordFits r × AllFit rs

pub record HeadFits (h : Head) : Type 0 where
  pub from : DateFits h.from
  pub to : DateFits h.to
  pub meal : U8 h.meal
  pub unit : TextFits h.unit
  pub instructions : TextFits h.instructions
  pub roa : TextFits h.roa
  pub moa : TextFits h.moa

pub record Fitting (t : Table) : Type 0 where
  pub head : HeadFits t.head
  pub count : U64 t.count
  pub text : U64 t.text
  pub all : length t.records ≡ 64
  pub records : AllFit t.records

-- Bytes.
abbrev pub AllBytes : List ℕ → Type 0
AllBytes [] = Unit {0}
AllBytes (b ∷ bs) = U8 b × AllBytes bs
