-- A table's numbers tell it apart from every other.
use mathlib.Core.Path.{◌≡◌, refl, ap, sym, ◌∙◌}
use mathlib.Core.List.{List, [], ◌∷◌}
use mathlib.Core.Bool.{Bool, true, false}
use Prim.Native.Nat.{ℕ}
use lib.Dec.{eqb}
use lib.ListN.{get_or, drop}
use Rattle.json_grammar.specs.Rows.{choose}
use Rattle.document.specs.Words.{Words, words, dosage_words, kind_words, record_words, all_words, rows, table_words}
use Rattle.document.specs.declared.table.Text.{Text}
use Rattle.document.specs.declared.table.Date.{Date}
use Rattle.document.specs.declared.table.Date.TheVariants as D
use Rattle.document.specs.declared.table.Dosage.{Dosage}
use Rattle.document.specs.declared.table.Dosage.TheVariants as S
use Rattle.document.specs.declared.table.Kind.{Kind}
use Rattle.document.specs.declared.table.Kind.TheVariants as K
use Rattle.document.specs.declared.table.Record.{Record}
use Rattle.document.specs.declared.table.Head.{Head}
use Rattle.document.specs.declared.table.Table.{Table}

abbrev text : ℕ → ℕ → Text
text start len = record { start = start; len = len }

kind_of : Words → Kind
kind_of w =
    choose (eqb w.tag 0) (λ _. K.None) λ _.
    choose (eqb w.tag 1) (λ _. K.Daily w.a w.b w.c w.d) λ _.
    choose (eqb w.tag 2) (λ _. K.FreeText (text w.a w.b)) λ _.
    choose (eqb w.tag 3) (λ _. K.Single) λ _.
    choose (eqb w.tag 4) (λ _. K.Cyclic w.a w.b w.c) λ _.
    choose (eqb w.tag 5) (λ _. K.Sequence) λ _.
    choose (eqb w.tag 6) (λ _. K.DosageOnly) λ _.
    choose (eqb w.tag 7) (λ _. K.Times) λ _.
    choose (eqb w.tag 8) (λ _. K.DaySegments) λ _.
    choose (eqb w.tag 9) (λ _. K.WeekDays w.a) λ _.
    choose (eqb w.tag 10) (λ _. K.DaysOfMonth w.a) λ _.
    choose (eqb w.tag 11) (λ _. K.Interval w.a w.b) λ _.
    choose (eqb w.tag 12) (λ _. K.Dosage (S.Simple w.a)) λ _.
    choose (eqb w.tag 13) (λ _. K.Dosage (S.FromTo w.a w.b w.c w.d)) λ _.
    choose (eqb w.tag 14) (λ _. K.Dosage (S.Range w.a w.b)) λ _.
    choose (eqb w.tag 15) (λ _. K.PosologySequence w.a w.b) λ _.
    choose (eqb w.tag 16) (λ _. K.Pause w.a w.b) λ _.
    choose (eqb w.tag 17) (λ _. K.AtTime w.a) λ _.
    K.InSegment w.a

dosage_back : (n : ℕ) (d : Dosage) → kind_of (dosage_words n d) ≡ K.Dosage d
unfolding kind_of
dosage_back n (S.Simple a) = refl
dosage_back n (S.FromTo a b c d) = refl
dosage_back n (S.Range a b) = refl

kind_back : (n : ℕ) (k : Kind) → kind_of (kind_words n k) ≡ k
unfolding kind_of
kind_back n K.None = refl
kind_back n (K.Daily a b c d) = refl
kind_back n (K.FreeText t) = refl
kind_back n K.Single = refl
kind_back n (K.Cyclic a b c) = refl
kind_back n K.Sequence = refl
kind_back n K.DosageOnly = refl
kind_back n K.Times = refl
kind_back n K.DaySegments = refl
kind_back n (K.WeekDays a) = refl
kind_back n (K.DaysOfMonth a) = refl
kind_back n (K.Interval a b) = refl
kind_back n (K.Dosage d) = dosage_back n d
kind_back n (K.PosologySequence a b) = refl
kind_back n (K.Pause a b) = refl
kind_back n (K.AtTime a) = refl
kind_back n (K.InSegment a) = refl

below_kept : (n : ℕ) (k : Kind) → (kind_words n k).below ≡ n
below_kept n K.None = refl
below_kept n (K.Daily a b c d) = refl
below_kept n (K.FreeText t) = refl
below_kept n K.Single = refl
below_kept n (K.Cyclic a b c) = refl
below_kept n K.Sequence = refl
below_kept n K.DosageOnly = refl
below_kept n K.Times = refl
below_kept n K.DaySegments = refl
below_kept n (K.WeekDays a) = refl
below_kept n (K.DaysOfMonth a) = refl
below_kept n (K.Interval a b) = refl
below_kept n (K.Dosage (S.Simple a)) = refl
below_kept n (K.Dosage (S.FromTo a b c d)) = refl
below_kept n (K.Dosage (S.Range a b)) = refl
below_kept n (K.PosologySequence a b) = refl
below_kept n (K.Pause a b) = refl
below_kept n (K.AtTime a) = refl
below_kept n (K.InSegment a) = refl

abbrev made : Kind → ℕ → Record
made k n = record { kind = k; below = n }

record_of : Words → Record
record_of w = made (kind_of w) w.below

record_back : (r : Record) → record_of (record_words r) ≡ r
unfolding record_of
record_back r = ap (λ (k : Kind). made k (record_words r).below) (kind_back r.below r.kind) ∙ ap (made r.kind) (below_kept r.below r.kind)

records_of : List ℕ → List Record
records_of [] = []
records_of (t ∷ []) = []
records_of (t ∷ n ∷ []) = []
records_of (t ∷ n ∷ a ∷ []) = []
records_of (t ∷ n ∷ a ∷ b ∷ []) = []
records_of (t ∷ n ∷ a ∷ b ∷ c ∷ []) = []
records_of (t ∷ n ∷ a ∷ b ∷ c ∷ d ∷ s) = record_of (words n t a b c d) ∷ records_of s

records_back : (rs : List Record) → records_of (rows (all_words rs)) ≡ rs
unfolding records_of
records_back [] = refl
records_back (r ∷ rs) = ap (λ (x : Record). x ∷ records_of (rows (all_words rs))) (record_back r) ∙ ap (λ (x : List Record). r ∷ x) (records_back rs)

-- The numbers of a date, from the i-th on.
abbrev date_at : ℕ → ℕ → ℕ → ℕ → ℕ → ℕ → ℕ → Date
date_at f y m d s w z = choose (eqb f 0) (λ _. D.Absent) λ _. choose (eqb f 1) (λ _. D.Bare y m d) λ _. D.Moment y m d s (eqb w 1) z

abbrev head_of : Date → Date → Bool → ℕ → Text → Text → Text → Text → Head
head_of from to reserve meal unit instructions roa moa = record { from = from; to = to; reserve = reserve; meal = meal; unit = unit; instructions = instructions; roa = roa; moa = moa }

abbrev table_with : Head → ℕ → ℕ → List Record → Table
table_with h count text rs = record { head = h; count = count; text = text; records = rs }

table_at : List ℕ → Table
table_at s =
    table_with (head_of (date_at (at 0) (at 1) (at 2) (at 3) (at 4) (at 5) (at 6)) (date_at (at 7) (at 8) (at 9) (at 10) (at 11) (at 12) (at 13)) (eqb (at 14) 1) (at 15)
    (text (at 16) (at 17)) (text (at 18) (at 19)) (text (at 20) (at 21)) (text (at 22) (at 23))) (at 24) (at 25) (records_of (drop 26 s))
  where
    at : ℕ → ℕ
    at i = get_or s i 0

module _ (meal : ℕ) (u i r m : Text) (count bytes : ℕ) (rs : List Record) where
  back : (from to : Date) (reserve : Bool) → table_at (table_words (table_with (head_of from to reserve meal u i r m) count bytes rs)) ≡ table_with (head_of from to reserve meal u i r m) count bytes rs
  unfolding table_at table_words
  back D.Absent D.Absent true = ap (table_with (head_of D.Absent D.Absent true meal u i r m) count bytes) (records_back rs)
  back D.Absent D.Absent false = ap (table_with (head_of D.Absent D.Absent false meal u i r m) count bytes) (records_back rs)
  back D.Absent (D.Bare y₂ n₂ d₂) true = ap (table_with (head_of D.Absent (D.Bare y₂ n₂ d₂) true meal u i r m) count bytes) (records_back rs)
  back D.Absent (D.Bare y₂ n₂ d₂) false = ap (table_with (head_of D.Absent (D.Bare y₂ n₂ d₂) false meal u i r m) count bytes) (records_back rs)
  back D.Absent (D.Moment y₂ n₂ d₂ s₂ true z₂) true = ap (table_with (head_of D.Absent (D.Moment y₂ n₂ d₂ s₂ true z₂) true meal u i r m) count bytes) (records_back rs)
  back D.Absent (D.Moment y₂ n₂ d₂ s₂ true z₂) false = ap (table_with (head_of D.Absent (D.Moment y₂ n₂ d₂ s₂ true z₂) false meal u i r m) count bytes) (records_back rs)
  back D.Absent (D.Moment y₂ n₂ d₂ s₂ false z₂) true = ap (table_with (head_of D.Absent (D.Moment y₂ n₂ d₂ s₂ false z₂) true meal u i r m) count bytes) (records_back rs)
  back D.Absent (D.Moment y₂ n₂ d₂ s₂ false z₂) false = ap (table_with (head_of D.Absent (D.Moment y₂ n₂ d₂ s₂ false z₂) false meal u i r m) count bytes) (records_back rs)
  back (D.Bare y₁ n₁ d₁) D.Absent true = ap (table_with (head_of (D.Bare y₁ n₁ d₁) D.Absent true meal u i r m) count bytes) (records_back rs)
  back (D.Bare y₁ n₁ d₁) D.Absent false = ap (table_with (head_of (D.Bare y₁ n₁ d₁) D.Absent false meal u i r m) count bytes) (records_back rs)
  back (D.Bare y₁ n₁ d₁) (D.Bare y₂ n₂ d₂) true = ap (table_with (head_of (D.Bare y₁ n₁ d₁) (D.Bare y₂ n₂ d₂) true meal u i r m) count bytes) (records_back rs)
  back (D.Bare y₁ n₁ d₁) (D.Bare y₂ n₂ d₂) false = ap (table_with (head_of (D.Bare y₁ n₁ d₁) (D.Bare y₂ n₂ d₂) false meal u i r m) count bytes) (records_back rs)
  back (D.Bare y₁ n₁ d₁) (D.Moment y₂ n₂ d₂ s₂ true z₂) true = ap (table_with (head_of (D.Bare y₁ n₁ d₁) (D.Moment y₂ n₂ d₂ s₂ true z₂) true meal u i r m) count bytes) (records_back rs)
  back (D.Bare y₁ n₁ d₁) (D.Moment y₂ n₂ d₂ s₂ true z₂) false = ap (table_with (head_of (D.Bare y₁ n₁ d₁) (D.Moment y₂ n₂ d₂ s₂ true z₂) false meal u i r m) count bytes) (records_back rs)
  back (D.Bare y₁ n₁ d₁) (D.Moment y₂ n₂ d₂ s₂ false z₂) true = ap (table_with (head_of (D.Bare y₁ n₁ d₁) (D.Moment y₂ n₂ d₂ s₂ false z₂) true meal u i r m) count bytes) (records_back rs)
  back (D.Bare y₁ n₁ d₁) (D.Moment y₂ n₂ d₂ s₂ false z₂) false = ap (table_with (head_of (D.Bare y₁ n₁ d₁) (D.Moment y₂ n₂ d₂ s₂ false z₂) false meal u i r m) count bytes) (records_back rs)
  back (D.Moment y₁ n₁ d₁ s₁ true z₁) D.Absent true = ap (table_with (head_of (D.Moment y₁ n₁ d₁ s₁ true z₁) D.Absent true meal u i r m) count bytes) (records_back rs)
  back (D.Moment y₁ n₁ d₁ s₁ true z₁) D.Absent false = ap (table_with (head_of (D.Moment y₁ n₁ d₁ s₁ true z₁) D.Absent false meal u i r m) count bytes) (records_back rs)
  back (D.Moment y₁ n₁ d₁ s₁ true z₁) (D.Bare y₂ n₂ d₂) true = ap (table_with (head_of (D.Moment y₁ n₁ d₁ s₁ true z₁) (D.Bare y₂ n₂ d₂) true meal u i r m) count bytes) (records_back rs)
  back (D.Moment y₁ n₁ d₁ s₁ true z₁) (D.Bare y₂ n₂ d₂) false = ap (table_with (head_of (D.Moment y₁ n₁ d₁ s₁ true z₁) (D.Bare y₂ n₂ d₂) false meal u i r m) count bytes) (records_back rs)
  back (D.Moment y₁ n₁ d₁ s₁ true z₁) (D.Moment y₂ n₂ d₂ s₂ true z₂) true = ap (table_with (head_of (D.Moment y₁ n₁ d₁ s₁ true z₁) (D.Moment y₂ n₂ d₂ s₂ true z₂) true meal u i r m) count bytes) (records_back rs)
  back (D.Moment y₁ n₁ d₁ s₁ true z₁) (D.Moment y₂ n₂ d₂ s₂ true z₂) false = ap (table_with (head_of (D.Moment y₁ n₁ d₁ s₁ true z₁) (D.Moment y₂ n₂ d₂ s₂ true z₂) false meal u i r m) count bytes) (records_back rs)
  back (D.Moment y₁ n₁ d₁ s₁ true z₁) (D.Moment y₂ n₂ d₂ s₂ false z₂) true = ap (table_with (head_of (D.Moment y₁ n₁ d₁ s₁ true z₁) (D.Moment y₂ n₂ d₂ s₂ false z₂) true meal u i r m) count bytes) (records_back rs)
  back (D.Moment y₁ n₁ d₁ s₁ true z₁) (D.Moment y₂ n₂ d₂ s₂ false z₂) false = ap (table_with (head_of (D.Moment y₁ n₁ d₁ s₁ true z₁) (D.Moment y₂ n₂ d₂ s₂ false z₂) false meal u i r m) count bytes) (records_back rs)
  back (D.Moment y₁ n₁ d₁ s₁ false z₁) D.Absent true = ap (table_with (head_of (D.Moment y₁ n₁ d₁ s₁ false z₁) D.Absent true meal u i r m) count bytes) (records_back rs)
  back (D.Moment y₁ n₁ d₁ s₁ false z₁) D.Absent false = ap (table_with (head_of (D.Moment y₁ n₁ d₁ s₁ false z₁) D.Absent false meal u i r m) count bytes) (records_back rs)
  back (D.Moment y₁ n₁ d₁ s₁ false z₁) (D.Bare y₂ n₂ d₂) true = ap (table_with (head_of (D.Moment y₁ n₁ d₁ s₁ false z₁) (D.Bare y₂ n₂ d₂) true meal u i r m) count bytes) (records_back rs)
  back (D.Moment y₁ n₁ d₁ s₁ false z₁) (D.Bare y₂ n₂ d₂) false = ap (table_with (head_of (D.Moment y₁ n₁ d₁ s₁ false z₁) (D.Bare y₂ n₂ d₂) false meal u i r m) count bytes) (records_back rs)
  back (D.Moment y₁ n₁ d₁ s₁ false z₁) (D.Moment y₂ n₂ d₂ s₂ true z₂) true = ap (table_with (head_of (D.Moment y₁ n₁ d₁ s₁ false z₁) (D.Moment y₂ n₂ d₂ s₂ true z₂) true meal u i r m) count bytes) (records_back rs)
  back (D.Moment y₁ n₁ d₁ s₁ false z₁) (D.Moment y₂ n₂ d₂ s₂ true z₂) false = ap (table_with (head_of (D.Moment y₁ n₁ d₁ s₁ false z₁) (D.Moment y₂ n₂ d₂ s₂ true z₂) false meal u i r m) count bytes) (records_back rs)
  back (D.Moment y₁ n₁ d₁ s₁ false z₁) (D.Moment y₂ n₂ d₂ s₂ false z₂) true = ap (table_with (head_of (D.Moment y₁ n₁ d₁ s₁ false z₁) (D.Moment y₂ n₂ d₂ s₂ false z₂) true meal u i r m) count bytes) (records_back rs)
  back (D.Moment y₁ n₁ d₁ s₁ false z₁) (D.Moment y₂ n₂ d₂ s₂ false z₂) false = ap (table_with (head_of (D.Moment y₁ n₁ d₁ s₁ false z₁) (D.Moment y₂ n₂ d₂ s₂ false z₂) false meal u i r m) count bytes) (records_back rs)

table_back : (t : Table) → table_at (table_words t) ≡ t
table_back t =
    let h = t.head in
    back h.meal h.unit h.instructions h.roa h.moa t.count t.text t.records h.from h.to h.reserve

pub words_one : (t u : Table) → table_words t ≡ table_words u → t ≡ u
words_one t u e = sym (table_back t) ∙ ap table_at e ∙ table_back u
