-- Document 02, Wish 2: what the shelf promises over a sequence of calls.
use mathlib.Core.Path.{◌≡◌, refl, ap, sym, ◌∙◌}
use mathlib.Core.List.{List, []}
use mathlib.Core.Bool.{true, false}
use mathlib.Core.Option.{none, some}
use mathlib.Core.Logic.{◌↔◌, ◌⊎◌}
use Prim.Native.Nat.{ℕ, ◌+◌, ◌-◌, ◌≤◌, ◌<◌}
use native.Mathlib.Omega.{arith}
use lib.ListN.{length, replicate}
use Rattle.json_grammar.proofs.Truth.{never}
use Rattle.document.specs.Posology.{Posology}
use Rattle.document.specs.Valid.{Fits, room_of}
use Rattle.document.specs.Plain.{plain}
use Rattle.document.specs.Answer as R
use Rattle.document.specs.Answer.{read}
use Rattle.document.specs.Write.{in_greatest_room}
use Rattle.shelf_list.specs.Shelf.{area_at_most, Entry, is_number, used, laid_out, stands, Holds, bytes_used, entries_in}
use Rattle.shelf_list.specs.Calls.{Call, put, fetch, remove, Answer, stored, refused, under, fetch_from, fetch_answer, fetched_from, on_list, on_area, Serves, run_on_list, run_on_area}
use Rattle.shelf_list.specs.Grounds.{NoNumber, AlreadyThere, NotThere, NotRead, NoRoom, too_long, Taken}
use Rattle.shelf_list.specs.History.{held_by}
use Rattle.shelf_list.proofs.Shelves.{no_shelf_iff}
use Rattle.shelf_list.proofs.Runs.{run_on_laid, nothing_fits, nothing_laid, refusal_leaves, left_holds}
use Rattle.shelf_list.proofs.Totals.{run_total}
use Rattle.shelf_list.proofs.Endings.{holds_used}
use Rattle.shelf_list.proofs.Stored.{put_then_fetch}
use Rattle.shelf_list.proofs.Served.{on_no_shelf, shelf_answer, answer_on_shelf, answers_20, refusal_numbers, keeps_length, exactly, fetch_reads, put_then_fetched, freed_on_area}
use Rattle.shelf_list.proofs.Grounds.{call_ground, refused_by, stored_by_lem, by_21, by_22, by_23, by_24, by_reading, gives_21, gives_22, gives_23, gives_24, gives_reading, gives_stored, long_as_read, short_as_read}

-- "From an all-zero area any sequence of calls answers as an ordered list of numbers and posologies would, with the room rule":
-- the answers are the same, and the area afterwards is the list laid out.
pub answers_as_list : (n : ℕ) (cs : List Call) → n ≤ area_at_most
    → ((run_on_area cs (replicate n 0)).told ≡ (run_on_list n cs []).told)
    × ((run_on_area cs (replicate n 0)).left ≡ laid_out (run_on_list n cs []).left n)
answers_as_list n cs small =
    let e = ap (run_on_area cs) (nothing_laid n) ∙ run_on_laid n cs [] small (nothing_fits n) in
    (ap (λ r. r.told) e, ap (λ r. r.left) e)

-- The same from any shelf, with the list that it holds.
pub answers_as_its_list : (a : List ℕ) (es : List Entry) (cs : List Call) → Holds a es
    → ((run_on_area cs a).told ≡ (run_on_list (length a) cs es).told)
    × ((run_on_area cs a).left ≡ laid_out (run_on_list (length a) cs es).left (length a))
answers_as_its_list a es cs h =
    let e =
    ap (run_on_area cs) (sym h.bytes) ∙ run_on_laid (length a) cs es h.small (record { is_good = h.is_good; fits = h.fits }) in
    (ap (λ r. r.told) e, ap (λ r. r.left) e)

-- After any sequence of calls the area is a shelf again.
pub stays_a_shelf : (n : ℕ) (cs : List Call) → n ≤ area_at_most → Holds (run_on_area cs (replicate n 0)).left (run_on_list n cs []).left
stays_a_shelf n cs small = rw (answers_as_list n cs small).1 (left_holds n cs [] small (nothing_fits n))

-- "Bytes used equal the sum, over the accepted puts not removed since, of 6 and L": from the calls and their answers alone.
pub bytes_used_are : (n : ℕ) (cs : List Call) → n ≤ area_at_most
    → bytes_used (run_on_area cs (replicate n 0)).left ≡ held_by cs (run_on_area cs (replicate n 0)).told
bytes_used_are n cs small =
    holds_used (run_on_area cs (replicate n 0)).left (run_on_list n cs []).left (stays_a_shelf n cs small)
    ∙ run_total n cs
    ∙ ap (held_by cs) (sym (answers_as_list n cs small).0)

-- A refusal leaves every byte of the area, whatever lies in it.
pub refused_leaves_area : (c : Call) (a : List ℕ) (m place : ℕ) → (on_area c a).answer ≡ refused m place → (on_area c a).state ≡ a
refused_leaves_area c a m place e = refusal_leaves c a m place e

-- No call changes an area's length.
pub length_stays : (c : Call) (a : List ℕ) → length (on_area c a).state ≡ length a
length_stays c a = keeps_length c a

-- Two answers that the promise allows are equal, and so is each byte of the area.
pub determined_call : {c : Call} {before after after' : List ℕ} {r r' : Answer} → Serves c before r after → Serves c before r' after'
    → (r ≡ r') × (after ≡ after')
determined_call a b = (a.result ∙ sym b.result, a.left ∙ sym b.left)

-- 20: an area that no list lays out, whatever is asked of it; its bytes stay.
pub no_shelf_answers : (c : Call) (a : List ℕ) → ((es : List Entry) → Holds a es → ⊥)
    → ((on_area c a).answer ≡ refused 20 0) × ((on_area c a).state ≡ a)
no_shelf_answers c a h = let e = on_no_shelf c a ((no_shelf_iff a).1 h) in (e, refusal_leaves c a 20 0 e)

-- When each refusal is given, of every call and every area: "Refusals, with place 0", those of reading at their own places.
-- On a shelf there is one list es (Shelves); a ground that no constructor gives for a call is a refusal that it never gives.
module _ (c : Call) (a : List ℕ) (place : ℕ) where
  -- "20 area is no shelf"
  pub refused_20 : ((on_area c a).answer ≡ refused 20 place) ↔ ((entries_in a ≡ none) × (place ≡ 0))
  refused_20 = (λ e. answers_20 c a place e, λ h. rw h.1 (on_no_shelf c a h.0))

  -- "21 number 0"
  pub refused_21 : ((on_area c a).answer ≡ refused 21 place) ↔ ((es : List Entry) × Holds a es × NoNumber c × (place ≡ 0))
  refused_21 = exactly c a 21 place (λ es. NoNumber c) (λ q. omega arith) (λ es g. by_21 g refl) (gives_21 (length a))

  -- "22 number already there"
  pub refused_22 : ((on_area c a).answer ≡ refused 22 place) ↔ ((es : List Entry) × Holds a es × AlreadyThere es c × (place ≡ 0))
  refused_22 = exactly c a 22 place (λ es. AlreadyThere es c) (λ q. omega arith) (λ es g. by_22 g refl) (gives_22 (length a))

  -- "23 number not there"
  pub refused_23 : ((on_area c a).answer ≡ refused 23 place) ↔ ((es : List Entry) × Holds a es × NotThere es c × (place ≡ 0))
  refused_23 = exactly c a 23 place (λ es. NotThere es c) (λ q. omega arith) (λ es g. by_23 g refl) (gives_23 (length a))

  -- "24 no room, exactly when the free bytes are fewer than 6 and L"
  pub refused_24 : ((on_area c a).answer ≡ refused 24 place) ↔ ((es : List Entry) × Holds a es × NoRoom (length a) es c × (place ≡ 0))
  refused_24 = exactly c a 24 place (λ es. NoRoom (length a) es c) (λ q. omega arith) (λ es g. by_24 g refl) (gives_24 (length a))

  -- "the refusals of reading"
  pub refused_as_read : (m : ℕ) → m ≤ 17 → ((on_area c a).answer ≡ refused m place) ↔ ((es : List Entry) × Holds a es × NotRead es m place c)
  refused_as_read m low = (
    λ e.
        let s = shelf_answer c a (refused m place) (λ q. let z : m ≡ 20 = cc q in omega arith) e in
        (s.0, s.1, by_reading (refused_by (call_ground (length a) c s.0) s.2) low),
    λ x. answer_on_shelf c a x.0 x.1 ∙ gives_reading (length a) x.0 x.2,
  )

-- No other number: reading's own, and the shelf's.
pub refusals_are : (c : Call) (a : List ℕ) (m place : ℕ) → (on_area c a).answer ≡ refused m place
    → ((1 ≤ m) × (m ≤ 17)) ⊎ ((20 ≤ m) × (m ≤ 24))
refusals_are c a m place e = refusal_numbers c a m place e

-- A put is taken exactly when its number is good and free, its text is read and there is room; it answers L, the plain text's length.
pub stored_iff : (c : Call) (a : List ℕ) (l : ℕ)
    → ((on_area c a).answer ≡ stored l) ↔ ((es : List Entry) × Holds a es × Taken (length a) es l c)
stored_iff c a l = (
  λ e. let s = shelf_answer c a (stored l) (λ q. never (cc q)) e in (s.0, s.1, stored_by_lem (call_ground (length a) c s.0) s.2),
  λ x. answer_on_shelf c a x.0 x.1 ∙ gives_stored (length a) x.0 x.2,
)

pub stored_length : (number purpose : ℕ) (text a : List ℕ) (p : Posology) (l : ℕ) → (on_area (put number purpose text) a).answer ≡ stored l
    → read (in_greatest_room purpose) text ≡ R.taken p → l ≡ length (plain p)
stored_length number purpose text a p l s e = long_as_read e ((stored_iff (put number purpose text) a l).0 s).2

-- The room rule of a list, for a put that comes so far.
pub no_room_iff : (n : ℕ) (es : List Entry) (number purpose : ℕ) (text : List ℕ) (p : Posology)
    → is_number number ≡ true → stands number es ≡ false → read (in_greatest_room purpose) text ≡ R.taken p
    → ((on_list n (put number purpose text) es).answer ≡ refused 24 0) ↔ (n - used es < 6 + length (plain p))
no_room_iff n es number purpose text p i s e = (
  λ h. short_as_read e (by_24 (refused_by (call_ground n (put number purpose text) es) h) refl).0,
  λ l. gives_24 n es (too_long i s e l),
)

-- Fetching answers what it reads: the table and the text buffer are those of this reading.
pub fetch_is_its_reading : (number room : ℕ) (a : List ℕ) → (on_area (fetch number room) a).answer ≡ fetch_answer (fetched_from a number room)
fetch_is_its_reading number room a = fetch_reads number room a

-- What was put is fetched: the table that reading the text gave, for either use, in any buffer that holds its strings.
pub put_fetches : (number purpose room : ℕ) (text a : List ℕ) (p : Posology) (l : ℕ) → (on_area (put number purpose text) a).answer ≡ stored l
    → read (in_greatest_room purpose) text ≡ R.taken p → Fits (room_of room) p
    → fetched_from (on_area (put number purpose text) a).state number room ≡ R.taken p
put_fetches number purpose room text a p l s e g = put_then_fetched number purpose room text a p l s e g

-- The same of a list, good or not.
pub put_fetches_of_list : (n : ℕ) (es : List Entry) (number purpose room : ℕ) (text : List ℕ) (p : Posology) (l : ℕ)
    → (on_list n (put number purpose text) es).answer ≡ stored l → read (in_greatest_room purpose) text ≡ R.taken p → Fits (room_of room) p
    → fetch_from (on_list n (put number purpose text) es).state number room ≡ R.taken p
put_fetches_of_list n es number purpose room text p l s e g = put_then_fetch n es number purpose room text p l s e g

-- "freed room serves the next put": no more bytes than the removed record took are never 24.
pub freed_room : (a : List ℕ) (es : List Entry) (number other purpose : ℕ) (text : List ℕ) (p q : Posology) → Holds a es
    → under number es ≡ some p → read (in_greatest_room purpose) text ≡ R.taken q → length (plain q) ≤ length (plain p)
    → (place : ℕ) → (on_area (put other purpose text) (on_area (remove number) a).state).answer ≡ refused 24 place → ⊥
freed_room a es number other purpose text p q h u e l place k = freed_on_area a es number other purpose text p q h u e l place k
