-- A table as numbers: six to a record, its tag, the records below it and four values; and the head's.
-- Two tables are told apart by them, and the hospital side lays them into the lent area.
use Rattle.std.specs.Prelude.{List, [], ◌∷◌, Bool, true, false, ℕ}
use Rattle.document.specs.declared.table.Text.{Text}
use Rattle.document.specs.declared.table.Date.{Date}
use Rattle.document.specs.declared.table.Date.TheVariants as D
use Rattle.document.specs.declared.table.Dosage.{Dosage}
use Rattle.document.specs.declared.table.Dosage.TheVariants as S
use Rattle.document.specs.declared.table.Kind.{Kind}
use Rattle.document.specs.declared.table.Kind.TheVariants as K
use Rattle.document.specs.declared.table.Record.{Record}
use Rattle.document.specs.declared.table.Head.{Head}
use Rattle.document.specs.declared.table.Table.{Table}

-- A record is six words wide, and a table's 64 records are 384 words.
abbrev pub width : ℕ
width = 6

abbrev pub words_at_most : ℕ
words_at_most = 384

-- A record's numbers.
pub record Words : Type 0 where
  pub tag : ℕ
  pub below : ℕ
  pub a : ℕ
  pub b : ℕ
  pub c : ℕ
  pub d : ℕ

-- A tag and four values.
abbrev pub words : ℕ → ℕ → ℕ → ℕ → ℕ → ℕ → Words
words n t a b c d = record { tag = t; below = n; a = a; b = b; c = c; d = d }

-- The tags: a detail's type, a timed dosage's and 5, a dosage's and 11, a sequence object's and 14; then the applications; 0 is none.
abbrev pub dosage_words : ℕ → Dosage → Words
dosage_words n (S.Simple a) = words n 12 a 0 0 0
dosage_words n (S.FromTo a b unit du) = words n 13 a b unit du
dosage_words n (S.Range a b) = words n 14 a b 0 0

abbrev pub kind_words : ℕ → Kind → Words
kind_words n K.None = words n 0 0 0 0 0
kind_words n (K.Daily a b c d) = words n 1 a b c d
kind_words n (K.FreeText t) = words n 2 t.start t.len 0 0
kind_words n K.Single = words n 3 0 0 0 0
kind_words n (K.Cyclic unit du per) = words n 4 unit du per 0
kind_words n K.Sequence = words n 5 0 0 0 0
kind_words n K.DosageOnly = words n 6 0 0 0 0
kind_words n K.Times = words n 7 0 0 0 0
kind_words n K.DaySegments = words n 8 0 0 0 0
kind_words n (K.WeekDays days) = words n 9 days 0 0 0
kind_words n (K.DaysOfMonth days) = words n 10 days 0 0 0
kind_words n (K.Interval du unit) = words n 11 du unit 0 0
kind_words n (K.Dosage d) = dosage_words n d
kind_words n (K.PosologySequence du unit) = words n 15 du unit 0 0
kind_words n (K.Pause du unit) = words n 16 du unit 0 0
kind_words n (K.AtTime second) = words n 17 second 0 0 0
kind_words n (K.InSegment s) = words n 18 s 0 0 0

abbrev pub record_words : Record → Words
record_words r = kind_words r.below r.kind

abbrev pub all_words : List Record → List Words
all_words [] = []
all_words (r ∷ rs) = record_words r ∷ all_words rs

-- In front of what follows, as one list of numbers.
abbrev pub row : Words → List ℕ → List ℕ
row w k = w.tag ∷ w.below ∷ w.a ∷ w.b ∷ w.c ∷ w.d ∷ k

abbrev pub rows : List Words → List ℕ
rows [] = []
rows (w ∷ ws) = row w (rows ws)

abbrev pub flag : Bool → ℕ
flag false = 0
flag true = 1

abbrev pub date_words : Date → List ℕ → List ℕ
date_words D.Absent k = 0 ∷ 0 ∷ 0 ∷ 0 ∷ 0 ∷ 0 ∷ 0 ∷ k
date_words (D.Bare y m d) k = 1 ∷ y ∷ m ∷ d ∷ 0 ∷ 0 ∷ 0 ∷ k
date_words (D.Moment y m d s west zone) k = 2 ∷ y ∷ m ∷ d ∷ s ∷ flag west ∷ zone ∷ k

abbrev pub text_words : Text → List ℕ → List ℕ
text_words t k = t.start ∷ t.len ∷ k

abbrev pub head_words : Head → List ℕ → List ℕ
head_words h k = date_words h.from (date_words h.to (flag h.reserve ∷ h.meal ∷ text_words h.unit (text_words h.instructions (text_words h.roa (text_words h.moa k)))))

unfoldable pub table_words : Table → List ℕ
table_words t = head_words t.head (t.count ∷ t.text ∷ rows (all_words t.records))
