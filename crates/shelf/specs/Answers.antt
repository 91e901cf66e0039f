-- Document 02, Wish 2: the number and values of each case of an answer, and the promise of fetching.
use Rattle.std.specs.Prelude.{◌≡◌, List, cond, ℕ, ◌+◌, length, Result, Ok, Err}
use Rattle.std.proofs.lemmas.List.Edits.{sets}
use Rattle.document.specs.Values.{answer_values}
use Rattle.document.specs.Answer.{read_values, table_after, buffer_after}
use Rattle.document.specs.declared.table.Reading.{Reading}
use Rattle.shelf_list.specs.Calls.{Answer, stored, removed, standing, refused, fetched_from}
use Rattle.shelf_bytes.specs.Layout.{record_bytes, has_room}
use Rattle.shelf.specs.Survey.{record_of}
use Rattle.document.specs.Refusals.{number_of}
use Rattle.document.specs.declared.refusal.Refusal.{Refusal}
use Rattle.shelf.specs.declared.fetching.Stretch.{Stretch}
use Rattle.shelf.specs.declared.survey.Place.{Place}

abbrev pub refused_answer : Refusal → Answer
refused_answer r = refused (number_of r.0) r.1

abbrev pub put_answer : Result ℕ Refusal → Answer
put_answer (Ok l) = stored l
put_answer (Err r) = refused_answer r

abbrev pub remove_answer : Result (Unit {0}) Refusal → Answer
remove_answer (Ok u) = removed
remove_answer (Err r) = refused_answer r

abbrev pub at_answer : Result ℕ Refusal → Answer
at_answer (Ok n) = standing n
at_answer (Err r) = refused_answer r

-- A record laid behind the bytes that are used, if there is room.
pub record StoresPlain (number used : ℕ) (text area : List ℕ) (r : Result ℕ Refusal) (area' : List ℕ) : Type 0 where
  pub answer : put_answer r ≡ cond (has_room used text area) (stored (length text)) (refused 24 0)
  pub left : area' ≡ cond (has_room used text area) (sets area used (record_bytes number text)) area

-- The promise of fetching: the answer, the table and the buffer of the reading that it is.
pub record Fetches (number : ℕ) (area before : List ℕ) (r : Reading) (after : List ℕ) : Type 0 where
  pub answer : answer_values r.answer ≡ read_values (fetched_from area number (length before))
  pub table : r.table ≡ table_after (fetched_from area number (length before))
  pub left : after ≡ buffer_after (fetched_from area number (length before)) before

-- Where the plain text under a number stands, behind the head of its record.
abbrev pub stretch : ℕ → ℕ → Stretch
stretch from to = record { from = from; to = to }

abbrev pub behind_head : Result Place Refusal → Result Stretch Refusal
behind_head (Ok p) = Ok (stretch (p.from + 6) (p.from + p.size))
behind_head (Err r) = Err r

abbrev pub found : List ℕ → ℕ → Result Stretch Refusal
found a number = behind_head (record_of a number)
