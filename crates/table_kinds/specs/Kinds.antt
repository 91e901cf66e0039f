-- A record by its six words: a value is held as its type holds it, and what the type cannot hold is cut, so that it lies otherwise than it was read.
use Rattle.std.specs.Prelude.{ℕ, zero, suc, ◌+◌, ◌-◌, ◌%◌, List, [], ◌∷◌, ◌++◌, cond, leb, length, drop, get_or, replicate}
use Rattle.document.specs.Table.{no_record}
use Rattle.document.specs.Words.{width}
use Rattle.document.specs.declared.table.Dosage.TheVariants as S
use Rattle.document.specs.declared.table.Kind.{Kind}
use Rattle.document.specs.declared.table.Kind.TheVariants as K
use Rattle.document.specs.declared.table.Record.{Record}

abbrev pub u8 : ℕ → ℕ
u8 x = x % 256

abbrev pub u16 : ℕ → ℕ
u16 x = x % 65536

abbrev pub u32 : ℕ → ℕ
u32 x = x % 0x100000000

-- The kinds by their tags, in front of the last.
abbrev pub kinds : ℕ → ℕ → ℕ → ℕ → List Kind
kinds a b c d =
    K.None
    ∷ K.Daily a b c d
    ∷ K.FreeText (record { start = a; len = b })
    ∷ K.Single
    ∷ K.Cyclic (u8 a) (u32 b) (u32 c)
    ∷ K.Sequence
    ∷ K.DosageOnly
    ∷ K.Times
    ∷ K.DaySegments
    ∷ K.WeekDays (u32 a)
    ∷ K.DaysOfMonth (u32 a)
    ∷ K.Interval (u32 a) (u8 b)
    ∷ K.Dosage (S.Simple a)
    ∷ K.Dosage (S.FromTo a b (u8 c) (u32 d))
    ∷ K.Dosage (S.Range a b)
    ∷ K.PosologySequence (u32 a) (u8 b)
    ∷ K.Pause (u32 a) (u8 b)
    ∷ K.AtTime (u32 a)
    ∷ []

-- A tag that no kind has is read as the last, which lies otherwise.
unfoldable pub kind_of : ℕ → ℕ → ℕ → ℕ → ℕ → Kind
kind_of tag a b c d = get_or (kinds a b c d) tag (K.InSegment (u8 a))

-- The record of the six numbers in front.
unfoldable pub record_in : List ℕ → Record
unfolding kind_of
record_in ws = record { kind = kind_of (get_or ws 0 0) (get_or ws 2 0) (get_or ws 3 0) (get_or ws 4 0) (get_or ws 5 0); below = get_or ws 1 0 }

-- The record of the six numbers at a place; an unused one where there are fewer.
unfoldable pub record_at : List ℕ → ℕ → Record
unfolding record_in
record_at ws at = cond (leb (at + width) (length ws)) (record_in (drop at ws)) no_record

-- What is made of each of n groups of so many numbers, one behind the other.
unfoldable pub groups : {A : Type 0} → ℕ → (List ℕ → A) → ℕ → List ℕ → List A
groups size f zero s = []
groups size f (suc n) s = f s ∷ groups size f n (drop size s)

-- A table holds 64 records.
abbrev pub at_most : ℕ → ℕ
at_most n = cond (leb n 64) n 64

-- The records that so many groups of six words make, and unused ones behind them.
unfoldable pub records_in : ℕ → List ℕ → List Record
unfolding record_in groups
records_in n ws = groups width record_in (at_most n) ws ++ replicate (64 - at_most n) no_record
