-- An area of 40 bytes, by computation: one plan of 25 bytes put on it, and what the calls answer.
use mathlib.Core.Path.{◌≡◌, refl}
use mathlib.Core.List.{List, [], ◌∷◌, ◌++◌}
use mathlib.Core.Bool.{false}
use mathlib.Core.Option.{none, some}
use Prim.Native.Nat.{ℕ}
use Prim.Native.String.{String}
use lib.ListN.{replicate}
use Rattle.document.specs.Bytes.{bytes}
use Rattle.document.specs.Moments.{instant}
use Rattle.document.specs.Posology.{Posology, free_text}
use Rattle.document.specs.Plain.{plain_then}
use Rattle.document.specs.Answer.{read}
use Rattle.document_meaning.proofs.Wish3.{backward, forward}
use Rattle.shelf_list.specs.Shelf.{entry, record_then, plain_of, begins, records, laid_out, entries_in}
use Rattle.shelf_list.specs.Calls.{Call, put, fetch, at, stored, fetched, standing, refused, on_list, on_area, run_on_area}

abbrev text : List ℕ
text = bytes "{\"po\":{\"t\":2,\"text\":\"x\"}}"

abbrev x : Posology
x =
    record {
      dt_from = none;
      dt_to = none;
      in_res = false;
      po = free_text (bytes "x");
      rel_meal = none;
      unit = none;
      appl_instr = none;
      roa = none;
      moa = none;
    }

-- 31 bytes: the mark, number 258, L of 25, the text; and nine zeros.
abbrev area : List ℕ
area = (0x50 ∷ 0x6F ∷ 1 ∷ 2 ∷ 0 ∷ 25 ∷ []) ++ text ++ replicate 9 0

pub laid : laid_out (entry 258 x ∷ []) 40 ≡ area
unfolding record_then plain_then
laid = refl

pub held : entries_in area ≡ some (entry 258 x ∷ [])
unfolding entries_in records begins plain_of read plain_then
held = refl

abbrev calls : List Call
calls =
    put 0 3 text
    ∷ put 258 2 text
    ∷ put 258 3 (bytes "{ \"po\" : {\"text\":\"x\",\"t\":2}}")
    ∷ put 258 3 text
    ∷ put 7 3 text
    ∷ at 0
    ∷ at 1
    ∷ fetch 258 1
    ∷ fetch 258 0
    ∷ fetch 7 1
    ∷ []

pub told : run_on_area calls (replicate 40 0) ≡ record {
  told =
      refused 21 0
      ∷ refused 17 0
      ∷ stored 25
      ∷ refused 22 0
      ∷ refused 24 0
      ∷ standing 258
      ∷ standing 0
      ∷ fetched x
      ∷ refused 16 20
      ∷ refused 23 0
      ∷ [];
  left = area;
}
unfolding on_area on_list entries_in records begins plain_of record_then read plain_then
told = refl

-- Document 02, Wish 3: a record with the wish's pair of dates, and one with the reverse pair.
abbrev holding : String → List ℕ
holding dated = (0x50 ∷ 0x6F ∷ 1 ∷ 2 ∷ 0 ∷ 97 ∷ []) ++ bytes dated

pub dates_told : ((on_area (at 0) (holding backward)).answer ≡ refused 20 0) × ((on_area (at 0) (holding forward)).answer ≡ standing 258)
unfolding on_area on_list entries_in records begins plain_of record_then read plain_then instant
dates_told = (refl, refl)
