-- The table that is read from bytes fits its types.
use Prim.Native.Nat.{ℕ, zero, suc, ◌+◌, ◌<◌}
use mathlib.Core.List.{List, [], ◌∷◌}
use native.Mathlib.Omega.{arith}
use lib.ListN.{drop, get_or}
use Rattle.document.specs.Words.{width}
use Rattle.document.specs.declared.table.Dosage.TheVariants as S
use Rattle.document.specs.declared.table.Kind.{Kind}
use Rattle.document.specs.declared.table.Kind.TheVariants as K
use Rattle.table_kinds.specs.Kinds.{u8, u16, u32, kinds, kind_of, record_in, groups}
use Rattle.c_numbers.specs.Eights.{number_in}
use Rattle.c_area.specs.Area.{numbers_in, date_of, date_in, text_in, head_in, table_of_numbers, table_in}
use Rattle.c_area_back.specs.Fits.{U8, U16, U32, U64, TextFits, DayFits, DateFits, KindFits, AllFit, Fitting, AllBytes}
use Rattle.c_numbers.proofs.Bytes.{room}
use Rattle.table_kinds.proofs.Fill.{groups_length}
use Rattle.c_area_back.proofs.Parts.{AllBelow}

pub behind : (n : ℕ) (bytes : List ℕ) → AllBytes bytes → AllBytes (drop n bytes)
behind zero bytes h = h
behind (suc n) [] h = tt
behind (suc n) (b ∷ bytes) h = behind n bytes h.1

first_below : (bytes : List ℕ) → AllBytes bytes → get_or bytes 0 0 < 256
first_below [] h = omega arith
first_below (b ∷ bytes) h = h.0

number_below : (n : ℕ) (bytes : List ℕ) → AllBytes bytes → number_in n bytes < room n
unfolding number_in
number_below zero bytes h = omega arith
number_below (suc n) bytes h =
    let a = first_below bytes h in
    let b = number_below n (drop 1 bytes) (behind 1 bytes h) in
    omega arith

numbers_below : (n : ℕ) (bytes : List ℕ) → AllBytes bytes → AllBelow (groups 8 (number_in 8) n bytes)
unfolding groups
numbers_below zero bytes h = tt
numbers_below (suc n) bytes h = (number_below 8 bytes h, numbers_below n (drop 8 bytes) (behind 8 bytes h))

-- Each number of a list.
at_below : (ws : List ℕ) (i : ℕ) → AllBelow ws → U64 (get_or ws i 0)
at_below [] i h = omega arith
at_below (w ∷ ws) zero h = h.0
at_below (w ∷ ws) (suc i) h = at_below ws i h.1

dropped_below : (n : ℕ) (ws : List ℕ) → AllBelow ws → AllBelow (drop n ws)
dropped_below zero ws h = h
dropped_below (suc n) [] h = tt
dropped_below (suc n) (w ∷ ws) h = dropped_below n ws h.1

cut8 : (x : ℕ) → U8 (u8 x)
cut8 x = omega arith

cut16 : (x : ℕ) → U16 (u16 x)
cut16 x = omega arith

cut32 : (x : ℕ) → U32 (u32 x)
cut32 x = omega arith

day_fits : (y m d : ℕ) → DayFits (u16 y) (u8 m) (u8 d)
day_fits y m d = record { year = cut16 y; month = cut8 m; day = cut8 d }

date_fits : (form y m d s west zone : ℕ) → DateFits (date_of form y m d s west zone)
unfolding date_of
date_fits zero y m d s west zone = tt
date_fits (suc zero) y m d s west zone = day_fits y m d
date_fits (suc (suc n)) y m d s west zone = (day_fits y m d, cut32 s, cut16 zone)

date_in_fits : (ws : List ℕ) → DateFits (date_in ws)
unfolding date_in
date_in_fits ws = date_fits (get_or ws 0 0) (get_or ws 1 0) (get_or ws 2 0) (get_or ws 3 0) (get_or ws 4 0) (get_or ws 5 0) (get_or ws 6 0)

abbrev AllKinds : List Kind → Type 0
AllKinds [] = Unit {0}
AllKinds (k ∷ ks) = KindFits k × AllKinds ks

kind_at_fits : (ks : List Kind) (n : ℕ) (d : Kind) → AllKinds ks → KindFits d → KindFits (get_or ks n d)
kind_at_fits [] n d h f = f
kind_at_fits (k ∷ ks) zero d h f = h.0
kind_at_fits (k ∷ ks) (suc n) d h f = kind_at_fits ks n d h.1 f

kind_fits : (tag a b c d : ℕ) → U64 a → U64 b → U64 c → U64 d → KindFits (kind_of tag a b c d)
unfolding kind_of
kind_fits tag a b c d p q r s = kind_at_fits (kinds a b c d) tag (K.InSegment (u8 a)) all (cut8 a)
  where
    later : AllKinds (K.Dosage (S.Simple a) ∷ K.Dosage (S.FromTo a b (u8 c) (u32 d)) ∷ K.Dosage (S.Range a b) ∷ K.PosologySequence (u32 a) (u8 b) ∷ K.Pause (u32 a) (u8 b) ∷ K.AtTime (u32 a) ∷ [])
    later = (p, ((p, q, cut8 c, cut32 d), ((p, q), ((cut32 a, cut8 b), ((cut32 a, cut8 b), (cut32 a, tt))))))

    all : AllKinds (kinds a b c d)
    all = (tt, ((p, q, r, s), (record { start = p; len = q }, (tt, ((cut8 a, cut32 b, cut32 c), (tt, (tt, (tt, (tt, (cut32 a, (cut32 a, ((cut32 a, cut8 b), later))))))))))))

records_fit : (n : ℕ) (ws : List ℕ) → AllBelow ws → AllFit (groups width record_in n ws)
unfolding groups record_in
records_fit zero ws h = tt
records_fit (suc n) ws h =
    ((kind_fits (get_or ws 0 0) _ _ _ _ (at_below ws 2 h) (at_below ws 3 h) (at_below ws 4 h) (at_below ws 5 h), at_below ws 1 h), records_fit n (drop width ws) (dropped_below width ws h))

text_fits : (at : ℕ) (ws : List ℕ) → AllBelow ws → TextFits (text_in at ws)
text_fits at ws h = record { start = at_below ws at h; len = at_below ws (at + 1) h }

numbers_fit : (ws : List ℕ) → AllBelow ws → Fitting (table_of_numbers ws)
unfolding head_in
numbers_fit ws h =
    record {
      head =
          record {
            from = date_in_fits ws;
            to = date_in_fits (drop 7 ws);
            meal = cut8 (get_or ws 15 0);
            unit = text_fits 16 ws h;
            instructions = text_fits 18 ws h;
            roa = text_fits 20 ws h;
            moa = text_fits 22 ws h;
          };
      count = at_below ws 24 h;
      text = at_below ws 25 h;
      all = groups_length width record_in 64 (drop 26 ws);
      records = records_fit 64 (drop 26 ws) (dropped_below 26 ws h);
    }

pub in_fits : (bytes : List ℕ) → AllBytes bytes → Fitting (table_in bytes)
unfolding table_in numbers_in
in_fits bytes h = numbers_fit (groups 8 (number_in 8) 410 bytes) (numbers_below 410 bytes h)
