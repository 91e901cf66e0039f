-- The longest plain texts that we know of (document 02, Wish 10), by computation.
use mathlib.Core.Path.{◌≡◌, refl}
use mathlib.Core.List.{List, [], ◌∷◌}
use mathlib.Core.Bool.{true}
use mathlib.Core.Option.{some}
use Prim.Native.Nat.{ℕ, zero, suc}
use lib.ListN.{length, replicate}
use Rattle.document.specs.Posology.{moment, west, from_to, dosage_only, days_of_month, Detail, daily, cyclic, sequence, Posology}
use Rattle.document.specs.Posology.{SequenceObject, posology_sequence, ordered}
use Rattle.document.specs.Moments.{instant}
use Rattle.document.specs.Valid.{valid}
use Rattle.document.specs.Table.{table_of}
use Rattle.document.specs.Plain.{plain, plain_then}

-- The greatest amount and the one below it.
abbrev most : ℕ
most = 999999999999

abbrev nearly : ℕ
nearly = 999999999998

abbrev each_day : Detail
each_day = daily most most most most

abbrev each_month : Detail
each_month =
    let all : List ℕ =
    1 ∷ 2 ∷ 3 ∷ 4 ∷ 5 ∷ 6 ∷ 7 ∷ 8 ∷ 9 ∷ 10 ∷ 11 ∷ 12 ∷ 13 ∷ 14
    ∷ 15 ∷ 16 ∷ 17 ∷ 18 ∷ 19 ∷ 20 ∷ 21 ∷ 22 ∷ 23 ∷ 24 ∷ 25 ∷ 26 ∷ 27 ∷ 28 ∷ [] in
    cyclic 6 99999 (days_of_month all (dosage_only (from_to nearly most 7 99999))) 99999

abbrev times : ℕ → Detail → List SequenceObject → List SequenceObject
times zero d os = os
times (suc n) d os = posology_sequence 99999 7 d ∷ times n d os

-- Each member is there, and each text byte is a control character.
abbrev around : Detail → Posology
around d = record {
  dt_from = some (moment (record { year = 2199; month = 12; day = 31 }) 86398 (west 840));
  dt_to = some (moment (record { year = 2199; month = 12; day = 31 }) 86399 (west 840));
  in_res = true;
  po = d;
  rel_meal = some 6;
  unit = some (replicate 2045 1);
  appl_instr = some (1 ∷ []);
  roa = some (1 ∷ []);
  moa = some (1 ∷ []);
}

-- A posology that is valid for either use, the records and the text bytes of its table, and how long its plain text is.
pub record Long (p : Posology) (records text bytes : ℕ) : Type 0 where
  pub as_plan : valid 1 p ≡ true
  pub as_prescription : valid 3 p ≡ true
  pub its_records : (table_of p).count ≡ records
  pub its_text : (table_of p).text ≡ text
  pub its_length : length (plain p) ≡ bytes

-- The bound is 12,672.
pub one_record : Long (around each_day) 1 2048 12505
unfolding instant valid table_of plain_then
one_record = record { as_plan = refl; as_prescription = refl; its_records = refl; its_text = refl; its_length = refl }

-- The bound is 20,736.
pub all_records : Long (around (sequence (ordered (times 4 each_day (times 11 each_month []))))) 64 2048 15744
unfolding instant valid table_of plain_then
all_records = record { as_plan = refl; as_prescription = refl; its_records = refl; its_text = refl; its_length = refl }
