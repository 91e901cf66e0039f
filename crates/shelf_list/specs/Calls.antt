-- Document 02, Wish 2: the four calls, over a list with the room rule, and over the bytes of an area.
use Rattle.std.specs.Prelude.{◌≡◌, List, [], ◌∷◌, ◌++◌, Bool, cond, ℕ, zero, suc, ◌-◌, eqb, leb, length}
use Rattle.std.proofs.Math.Option.{Option, none, some}
use Rattle.json_grammar.specs.Rows.{choose}
use Rattle.document.specs.Posology.{Posology}
use Rattle.document.specs.Valid.{room_of}
use Rattle.document.specs.Plain.{plain}
use Rattle.document.specs.Answer as R
use Rattle.document.specs.Answer.{Read, read}
use Rattle.document.specs.Write.{in_greatest_room}
use Rattle.document.specs.declared.terms.Terms.{Terms}
use Rattle.shelf_list.specs.Shelf.{Entry, entry, is_number, both_uses, size, used, laid_out, stands, entries_in}

pub data Call : Type 0 where
  put : ℕ → ℕ → List ℕ → Call  -- number, use, text
  fetch : ℕ → ℕ → Call  -- number, the length of the lent text buffer
  remove : ℕ → Call  -- number
  at : ℕ → Call  -- position

pub data Answer : Type 0 where
  stored : ℕ → Answer  -- L, the length of the plain text
  fetched : Posology → Answer
  removed : Answer
  standing : ℕ → Answer  -- the number at the position
  refused : ℕ → ℕ → Answer  -- number and place

-- What a call answers, and what it leaves.
pub record Outcome (S : Type 0) : Type 0 where
  pub answer : Answer
  pub state : S

abbrev pub answers : {S : Type 0} → Answer → S → Outcome S
answers r s = record { answer = r; state = s }

-- "remove a number": numbers stand once.
abbrev pub without : ℕ → List Entry → List Entry
without n [] = []
without n (e ∷ es) = cond (eqb n e.number) (without n es) (e ∷ without n es)

-- The posology under a number.
abbrev pub under : ℕ → List Entry → Option Posology
under n [] = none
under n (e ∷ es) = cond (eqb n e.number) (some e.posology) (under n es)

-- "which number stands at a position counted from 0, with 0 past the last"
abbrev pub number_standing : ℕ → List Entry → ℕ
number_standing i [] = 0
number_standing zero (e ∷ es) = e.number
number_standing (suc i) (e ∷ es) = number_standing i es

-- "24 no room, exactly when the free bytes are fewer than 6 and L": n is the area's length.
abbrev pub room_for : ℕ → List Entry → Entry → Bool
room_for n es e = leb (size e) (n - used es)

abbrev pub store : ℕ → List Entry → ℕ → Posology → Outcome (List Entry)
store n es number p =
    cond (room_for n es (entry number p)) (answers (stored (length (plain p))) (es ++ (entry number p ∷ []))) (answers (refused 24 0) es)

abbrev pub put_read : ℕ → List Entry → ℕ → Read → Outcome (List Entry)
put_read n es number (R.taken p) = store n es number p
put_read n es number (R.refused m place) = answers (refused m place) es

-- "Order: 20, 21, 22 or 23, the refusals of reading or writing, 24": 20 is the area's.
abbrev pub put_on : ℕ → List Entry → ℕ → ℕ → List ℕ → Outcome (List Entry)
put_on n es number purpose text =
    choose (is_number number) (λ _.
    choose (stands number es) (λ _. answers (refused 22 0) es) λ _.
    put_read n es number (read (in_greatest_room purpose) text)) λ _.
    answers (refused 21 0) es

-- "fetch a table by number, read for use 3 .., places counted in its plain text"
abbrev pub for_fetch : ℕ → Terms
for_fetch room = record { purpose = both_uses; room = room_of room }

abbrev pub fetch_under : Option Posology → ℕ → Read
fetch_under none room = R.refused 23 0
fetch_under (some p) room = read (for_fetch room) (plain p)

abbrev pub fetch_from : List Entry → ℕ → ℕ → Read
fetch_from es number room =
    choose (is_number number) (λ _. fetch_under (under number es) room) λ _.
    R.refused 21 0

abbrev pub fetch_answer : Read → Answer
fetch_answer (R.taken p) = fetched p
fetch_answer (R.refused m place) = refused m place

abbrev pub remove_from : List Entry → ℕ → Outcome (List Entry)
remove_from es number =
    choose (is_number number) (λ _.
    choose (stands number es) (λ _. answers removed (without number es)) λ _.
    answers (refused 23 0) es) λ _.
    answers (refused 21 0) es

-- A call on a list, where the records and what is free are n bytes.
unfoldable pub on_list : ℕ → Call → List Entry → Outcome (List Entry)
on_list n (put number purpose text) es = put_on n es number purpose text
on_list n (fetch number room) es = answers (fetch_answer (fetch_from es number room)) es
on_list n (remove number) es = remove_from es number
on_list n (at position) es = answers (standing (number_standing position es)) es

-- A call on an area: 20 where it is no shelf; else the list's answer, and the list laid out again.
abbrev pub laid_again : ℕ → Outcome (List Entry) → Outcome (List ℕ)
laid_again n o = answers o.answer (laid_out o.state n)

abbrev pub on_entries : Call → List ℕ → Option (List Entry) → Outcome (List ℕ)
on_entries c a none = answers (refused 20 0) a
on_entries c a (some es) = laid_again (length a) (on_list (length a) c es)

unfoldable pub on_area : Call → List ℕ → Outcome (List ℕ)
unfolding on_list entries_in
on_area c a = on_entries c a (entries_in a)

-- What fetching reads: its table and the text buffer are those of this reading.
abbrev pub fetch_in : Option (List Entry) → ℕ → ℕ → Read
fetch_in none number room = R.refused 20 0
fetch_in (some es) number room = fetch_from es number room

unfoldable pub fetched_from : List ℕ → ℕ → ℕ → Read
unfolding entries_in
fetched_from a number room = fetch_in (entries_in a) number room

-- The promise of a call: answer and area, for every call and every area.
pub record Serves (c : Call) (before : List ℕ) (r : Answer) (after : List ℕ) : Type 0 where
  pub result : r ≡ (on_area c before).answer
  pub left : after ≡ (on_area c before).state

-- A run of calls: the answers in their order, and what is left.
pub record Run (S : Type 0) : Type 0 where
  pub told : List Answer
  pub left : S

abbrev pub tells : {S : Type 0} → Answer → Run S → Run S
tells r k = record { told = r ∷ k.told; left = k.left }

abbrev pub run_with : {S : Type 0} → (Call → S → Outcome S) → List Call → S → Run S
run_with step [] s = record { told = []; left = s }
run_with step (c ∷ cs) s = tells (step c s).answer (run_with step cs (step c s).state)

abbrev pub run_on_list : ℕ → List Call → List Entry → Run (List Entry)
run_on_list n = run_with (on_list n)

abbrev pub run_on_area : List Call → List ℕ → Run (List ℕ)
run_on_area = run_with on_area
