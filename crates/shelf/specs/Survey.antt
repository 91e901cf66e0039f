-- What going over an area once tells of it.
use Rattle.std.specs.Prelude.{◌≡◌, List, [], ◌∷◌, Bool, true, cond, ◌&&◌, ℕ, ◌+◌, eqb, length, take, drop, Option as Maybe, Some, None, ok_or, Result, Ok, Err}
use Rattle.std.proofs.Math.Option.{Option, none, some}
use Rattle.shelf_list.specs.Shelf.{Entry, is_number, size, used, is_plain, number_at, begins, entries_in}
use Rattle.shelf_list.specs.Calls.{number_standing}
use Rattle.shelf_bytes.specs.Marks.{marked, mark, is_new}
use Rattle.document.specs.Refusals.{refusal}
use Rattle.document.specs.declared.refusal.Reason.TheVariants.{NoShelf, NoNumber, NumberMissing}
use Rattle.document.specs.declared.refusal.Refusal.{Refusal}
use Rattle.shelf.specs.declared.survey.Place.{Place}
use Rattle.shelf.specs.declared.survey.Survey.{Survey}

-- The text of the record at a place.
abbrev pub text_at : List ℕ → ℕ → List ℕ
text_at a i = take (number_at (drop i a) 4) (drop 6 (drop i a))

-- A record with a number that is new, and a plain text.
unfoldable pub is_record : List ℕ → List ℕ → ℕ → Bool
unfolding begins marked
is_record set a i = begins (drop i a) && is_new set (number_at (drop i a) 2) && is_plain (text_at a i)

-- A record is passed by its size, and its number noted.
pub record Passes (set a : List ℕ) (i : ℕ) (r : Maybe ℕ) (set' : List ℕ) : Type 0 where
  pub size : r ≡ cond (is_record set a i) (Some (6 + number_at (drop i a) 4)) None
  pub noted : is_record set a i ≡ true → set' ≡ mark set (number_at (drop i a) 2)

-- Where the record of a number stands, in a list that is laid out from a place on.
abbrev pub place : ℕ → ℕ → Place
place from size = record { from = from; size = size }

abbrev pub place_from : ℕ → ℕ → List Entry → Maybe Place
place_from i n [] = None
place_from i n (e ∷ es) = cond (eqb n e.number) (Some (place i (size e))) (place_from (i + size e) n es)

abbrev pub place_under : ℕ → List Entry → Maybe Place
place_under = place_from 0

-- Of the number and the position that are asked for.
abbrev pub survey_of : ℕ → ℕ → List Entry → Survey
survey_of number position es =
    record {
      used = used es;
      count = length es;
      found = place_under number es;
      standing = number_standing position es;
    }

-- None of an area that is no shelf.
abbrev pub surveyed : ℕ → ℕ → Option (List Entry) → Maybe Survey
surveyed number position none = None
surveyed number position (some es) = Some (survey_of number position es)

-- One record more, of number n.
abbrev pub with_record : Survey → ℕ → ℕ → ℕ → ℕ → Survey
with_record s n size number position =
    record {
      used = s.used + size;
      count = s.count + 1;
      found = cond (eqb n number) (Some (place s.used size)) s.found;
      standing = cond (eqb s.count position) n s.standing;
    }

-- "Order: 20, 21, .."
abbrev pub asked : Maybe Survey → ℕ → Result Survey Refusal
asked None number = Err (refusal NoShelf 0)
asked (Some s) number = cond (is_number number) (Ok s) (Err (refusal NoNumber 0))

-- ".. 23": the record of a number.
abbrev pub record_in : Option (List Entry) → ℕ → Result Place Refusal
record_in none number = Err (refusal NoShelf 0)
record_in (some es) number = cond (is_number number) (ok_or (place_under number es) (refusal NumberMissing 0)) (Err (refusal NoNumber 0))

unfoldable pub record_of : List ℕ → ℕ → Result Place Refusal
unfolding entries_in
record_of a number = record_in (entries_in a) number
