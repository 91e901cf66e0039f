-- The numbers of a table that fits its types, part by part, and back.
use Prim.Native.Nat.{ℕ, ◌+◌}
use mathlib.Core.Path.{◌≡◌, refl, sym, ap, ◌∙◌}
use mathlib.Core.List.{List, [], ◌∷◌, ◌++◌}
use mathlib.Core.Bool.{Bool, true, false}
use native.Mathlib.Nat.{mod-eq_of_lt}
use native.Mathlib.Omega.{arith}
use lib.Dec.{eqb}
use lib.ListN.{length, take, drop, get_or}
use lib.Seq.{get_or-drop, take_at, drop_at}
use Rattle.document.specs.Words.{Words, width, kind_words, all_words, row, rows, flag, date_words, text_words, head_words, table_words}
use Rattle.document.specs.declared.table.Text.{Text}
use Rattle.document.specs.declared.table.Date.{Date}
use Rattle.document.specs.declared.table.Date.TheVariants as D
use Rattle.document.specs.declared.table.Dosage.TheVariants as S
use Rattle.document.specs.declared.table.Kind.{Kind}
use Rattle.document.specs.declared.table.Kind.TheVariants as K
use Rattle.document.specs.declared.table.Record.{Record}
use Rattle.document.specs.declared.table.Table.{Table}
use Rattle.table_kinds.specs.Kinds.{kind_of, record_in, groups}
use Rattle.c_area.specs.Area.{date_of, date_in, head_in, table_of_numbers}
use Rattle.document.proofs.WordRows.{records_length}
use Rattle.c_area.proofs.Laid.{date_length, head_front, head_length}
use Rattle.c_area_back.specs.Fits.{U64, TextFits, DateFits, KindFits, AllFit, Fitting}

abbrev made : Kind → ℕ → Record
made k n = record { kind = k; below = n }

module _ (n : ℕ) (rest : List ℕ) where
  kind_back : (k : Kind) → KindFits k → record_in (row (kind_words n k) rest) ≡ made k n
  unfolding record_in kind_of
  kind_back K.None h = refl
  kind_back (K.Daily a b c d) h = refl
  kind_back (K.FreeText t) h = refl
  kind_back K.Single h = refl
  kind_back (K.Cyclic a b c) h = rw (mod-eq_of_lt h.0, mod-eq_of_lt h.1, mod-eq_of_lt h.2)
  kind_back K.Sequence h = refl
  kind_back K.DosageOnly h = refl
  kind_back K.Times h = refl
  kind_back K.DaySegments h = refl
  kind_back (K.WeekDays a) h = rw (mod-eq_of_lt h)
  kind_back (K.DaysOfMonth a) h = rw (mod-eq_of_lt h)
  kind_back (K.Interval a b) h = rw (mod-eq_of_lt h.0, mod-eq_of_lt h.1)
  kind_back (K.Dosage (S.Simple a)) h = refl
  kind_back (K.Dosage (S.FromTo a b c d)) h = rw (mod-eq_of_lt h.2, mod-eq_of_lt h.3)
  kind_back (K.Dosage (S.Range a b)) h = refl
  kind_back (K.PosologySequence a b) h = rw (mod-eq_of_lt h.0, mod-eq_of_lt h.1)
  kind_back (K.Pause a b) h = rw (mod-eq_of_lt h.0, mod-eq_of_lt h.1)
  kind_back (K.AtTime a) h = rw (mod-eq_of_lt h)
  kind_back (K.InSegment a) h = rw (mod-eq_of_lt h)

records_back : (rs : List Record) → AllFit rs → groups width record_in (length rs) (rows (all_words rs)) ≡ rs
unfolding groups
records_back [] h = refl
records_back (r ∷ rs) h =
    ap (λ (x : Record). x ∷ groups width record_in (length rs) (rows (all_words rs))) (kind_back r.below (rows (all_words rs)) r.kind h.0.0)
    ∙ ap (λ (l : List Record). r ∷ l) (records_back rs h.1)

date_back : (d : Date) (k : List ℕ) → DateFits d → date_in (date_words d k) ≡ d
unfolding date_in date_of
date_back D.Absent k h = refl
date_back (D.Bare y m d) k h = rw (mod-eq_of_lt h.year, mod-eq_of_lt h.month, mod-eq_of_lt h.day)
date_back (D.Moment y m d s true z) k h = rw (mod-eq_of_lt h.0.year, mod-eq_of_lt h.0.month, mod-eq_of_lt h.0.day, mod-eq_of_lt h.1, mod-eq_of_lt h.2)
date_back (D.Moment y m d s false z) k h = rw (mod-eq_of_lt h.0.year, mod-eq_of_lt h.0.month, mod-eq_of_lt h.0.day, mod-eq_of_lt h.1, mod-eq_of_lt h.2)

date_behind : (d : Date) (k : List ℕ) → drop 7 (date_words d k) ≡ k
date_behind D.Absent k = refl
date_behind (D.Bare y m d) k = refl
date_behind (D.Moment y m d s west z) k = refl

dates_behind : (d e : Date) (k : List ℕ) → drop 14 (date_words d (date_words e k)) ≡ k
dates_behind D.Absent e k = date_behind e k
dates_behind (D.Bare y m d) e k = date_behind e k
dates_behind (D.Moment y m d s west z) e k = date_behind e k

flag_back : (b : Bool) → eqb (flag b) 1 ≡ b
flag_back true = refl
flag_back false = refl

-- What stands behind the two dates.
module _ (d e : Date) (k : List ℕ) where
  behind : (i : ℕ) → get_or (date_words d (date_words e k)) (14 + i) 0 ≡ get_or k i 0
  behind i = sym (get_or-drop 14 (date_words d (date_words e k)) i 0) ∙ ap (λ (l : List ℕ). get_or l i 0) (dates_behind d e k)

-- A table's numbers: those of its head in front, and the words of its records behind them.
module _ (t : Table) where
  abbrev pub head_numbers : List ℕ
  head_numbers = head_words t.head (t.count ∷ t.text ∷ [])

  abbrev record_numbers : List ℕ
  record_numbers = rows (all_words t.records)

  pub in_parts : table_words t ≡ head_numbers ++ record_numbers
  unfolding table_words
  in_parts = sym (head_front t.head (t.count ∷ t.text ∷ []) record_numbers)

  pub words_front : take 26 (table_words t) ≡ head_numbers
  words_front = ap (take 26) in_parts ∙ take_at head_numbers record_numbers 26 (head_length t.head t.count t.text)

  pub words_behind : drop 26 (table_words t) ≡ record_numbers
  words_behind = ap (drop 26) in_parts ∙ drop_at head_numbers record_numbers 26 (head_length t.head t.count t.text)

-- The table that a table's numbers stand for is that table.
pub numbers_one : (t : Table) → Fitting t → table_of_numbers (table_words t) ≡ t
unfolding table_words head_in
numbers_one t f =
    let h = t.head in
    let g = f.head in
    let rest : List ℕ = t.count ∷ t.text ∷ rows (all_words t.records) in
    let texts : List ℕ = flag h.reserve ∷ h.meal ∷ text_words h.unit (text_words h.instructions (text_words h.roa (text_words h.moa rest))) in
    let at : (i : ℕ) → get_or (table_words t) (14 + i) 0 ≡ get_or texts i 0 = behind h.from h.to texts in
    let all = words_behind t in
    let records : groups width record_in 64 (drop 26 (table_words t)) ≡ t.records =
    ap (groups width record_in 64) all ∙ ap (λ (n : ℕ). groups width record_in n (rows (all_words t.records))) (sym f.all) ∙ records_back t.records f.records in
    let to : date_in (drop 7 (table_words t)) ≡ h.to = ap date_in (date_behind h.from (date_words h.to texts)) ∙ date_back h.to texts g.to in
    rw (date_back h.from (date_words h.to texts) g.from, at 0, at 1, at 2, at 3, at 4, at 5, at 6, at 7, at 8, at 9, at 10, at 11, records, to, flag_back h.reserve, mod-eq_of_lt g.meal)

-- Each number fits eight bytes.
abbrev pub AllBelow : List ℕ → Type 0
AllBelow [] = Unit {0}
AllBelow (w ∷ ws) = U64 w × AllBelow ws

abbrev Six : Words → Type 0
Six w = U64 w.tag × U64 w.below × U64 w.a × U64 w.b × U64 w.c × U64 w.d

kind_below : (n : ℕ) → U64 n → (k : Kind) → KindFits k → Six (kind_words n k)
kind_below n b K.None h = (omega arith, b, omega arith, omega arith, omega arith, omega arith)
kind_below n b (K.Daily x y z u) h = (omega arith, b, h.0, h.1, h.2, h.3)
kind_below n b (K.FreeText t) h = (omega arith, b, h.start, h.len, omega arith, omega arith)
kind_below n b K.Single h = (omega arith, b, omega arith, omega arith, omega arith, omega arith)
kind_below n b (K.Cyclic x y z) h = (omega arith, b, omega (arith, h.0), omega (arith, h.1), omega (arith, h.2), omega arith)
kind_below n b K.Sequence h = (omega arith, b, omega arith, omega arith, omega arith, omega arith)
kind_below n b K.DosageOnly h = (omega arith, b, omega arith, omega arith, omega arith, omega arith)
kind_below n b K.Times h = (omega arith, b, omega arith, omega arith, omega arith, omega arith)
kind_below n b K.DaySegments h = (omega arith, b, omega arith, omega arith, omega arith, omega arith)
kind_below n b (K.WeekDays x) h = (omega arith, b, omega arith, omega arith, omega arith, omega arith)
kind_below n b (K.DaysOfMonth x) h = (omega arith, b, omega arith, omega arith, omega arith, omega arith)
kind_below n b (K.Interval x y) h = (omega arith, b, omega (arith, h.0), omega (arith, h.1), omega arith, omega arith)
kind_below n b (K.Dosage (S.Simple x)) h = (omega arith, b, h, omega arith, omega arith, omega arith)
kind_below n b (K.Dosage (S.FromTo x y z u)) h = (omega arith, b, h.0, h.1, omega (arith, h.2), omega (arith, h.3))
kind_below n b (K.Dosage (S.Range x y)) h = (omega arith, b, h.0, h.1, omega arith, omega arith)
kind_below n b (K.PosologySequence x y) h = (omega arith, b, omega (arith, h.0), omega (arith, h.1), omega arith, omega arith)
kind_below n b (K.Pause x y) h = (omega arith, b, omega (arith, h.0), omega (arith, h.1), omega arith, omega arith)
kind_below n b (K.AtTime x) h = (omega arith, b, omega arith, omega arith, omega arith, omega arith)
kind_below n b (K.InSegment x) h = (omega arith, b, omega arith, omega arith, omega arith, omega arith)

records_below : (rs : List Record) → AllFit rs → AllBelow (rows (all_words rs))
records_below [] h = tt
records_below (r ∷ rs) h =
    let s = kind_below r.below h.0.1 r.kind h.0.0 in
    (s.0, (s.1, (s.2, (s.3, (s.4, (s.5, records_below rs h.1))))))

flag_below : (b : Bool) → U64 (flag b)
flag_below true = omega arith
flag_below false = omega arith

date_below : (d : Date) (k : List ℕ) → DateFits d → AllBelow k → AllBelow (date_words d k)
date_below D.Absent k h r = (omega arith, (omega arith, (omega arith, (omega arith, (omega arith, (omega arith, (omega arith, r)))))))
date_below (D.Bare y m d) k h r = (omega arith, (omega (arith, h.year), (omega (arith, h.month), (omega (arith, h.day), (omega arith, (omega arith, (omega arith, r)))))))
date_below (D.Moment y m d s west z) k h r =
    (omega arith, (omega (arith, h.0.year), (omega (arith, h.0.month), (omega (arith, h.0.day), (omega (arith, h.1), (flag_below west, (omega (arith, h.2), r)))))))

text_below : (t : Text) (k : List ℕ) → TextFits t → AllBelow k → AllBelow (text_words t k)
text_below t k h r = (h.start, (h.len, r))

pub table_below : (t : Table) → Fitting t → AllBelow (table_words t)
unfolding table_words
table_below t f =
    let h = t.head in
    let g = f.head in
    let rest : List ℕ = t.count ∷ t.text ∷ rows (all_words t.records) in
    let moa : List ℕ = text_words h.moa rest in
    let roa : List ℕ = text_words h.roa moa in
    let instructions : List ℕ = text_words h.instructions roa in
    let unit : List ℕ = text_words h.unit instructions in
    let b : AllBelow rest = (f.count, (f.text, records_below t.records f.records)) in
    let s : AllBelow unit =
    text_below h.unit instructions g.unit
    (text_below h.instructions roa g.instructions (text_below h.roa moa g.roa (text_below h.moa rest g.moa b))) in
    let m : AllBelow (flag h.reserve ∷ h.meal ∷ unit) = (flag_below h.reserve, (omega (arith, g.meal), s)) in
    date_below h.from (date_words h.to (flag h.reserve ∷ h.meal ∷ unit)) g.from (date_below h.to (flag h.reserve ∷ h.meal ∷ unit) g.to m)

-- A table has 410 numbers.
pub table_length : (t : Table) → length t.records ≡ 64 → length (table_words t) ≡ 410
unfolding table_words
table_length t e =
    let h = t.head in
    let r = records_length t.records in
    date_length h.from _ ∙ ap (λ (n : ℕ). n + 7) (date_length h.to _) ∙ omega arith
