-- Each refusal of a call on a list has its ground, and each ground gives its refusal; so has a put that is taken.
use mathlib.Core.Path.{◌≡◌, refl}
use mathlib.Core.List.{List}
use mathlib.Core.Bool.{Bool, true, false}
use mathlib.Core.Logic.{◌⊎◌, inl, inr}
use mathlib.Core.Option.{Option, none, some}
use Prim.Native.Nat.{ℕ, ◌+◌, ◌-◌, ◌≤◌, ◌<◌}
use native.Mathlib.Omega.{arith}
use lib.ListN.{length}
use borrow.Author.Tests.{leb-true, le-leb, leb-false, lt-leb}
use Rattle.json_grammar.specs.Rows.{choose}
use Rattle.json_grammar.proofs.Truth.{never}
use Rattle.document.specs.Posology.{Posology}
use Rattle.document.specs.Plain.{plain}
use Rattle.document.specs.Answer as R
use Rattle.document.specs.Answer.{Read, read}
use Rattle.document.specs.Write.{in_greatest_room}
use Rattle.demands.proofs.Refusals.{refusals_of_read}
use Rattle.shelf_list.specs.Shelf.{Entry, entry, is_number, size, used}
use Rattle.shelf_list.specs.Calls.{Call, put, fetch, remove, at, Answer, stored, fetched, removed, standing, refused, Outcome, under, fetch_under, fetch_from, fetch_answer, on_list, for_fetch}
use Rattle.shelf_list.specs.Grounds.{NoNumber, put_under, fetch_of, remove_of, AlreadyThere, for_put, NotThere, for_fetched, for_remove, NotRead, text_put, text_fetched, NoRoom, too_long, Taken, put_taken}
use Rattle.shelf_list.proofs.Under.{none_under, under_none}
use Rattle.shelf_list.proofs.Ends.{Put, no_number, there, unread, no_room, laid, put_ends, Remove, not_number, not_there, taken_out, remove_ends}

pub data Refusal (n : ℕ) (es : List Entry) (c : Call) : ℕ → ℕ → Type 0 where
  of_21 : NoNumber c → Refusal n es c 21 0
  of_22 : AlreadyThere es c → Refusal n es c 22 0
  of_23 : NotThere es c → Refusal n es c 23 0
  of_24 : NoRoom n es c → Refusal n es c 24 0
  of_reading : {m place : ℕ} → NotRead es m place c → Refusal n es c m place

pub data Ground (n : ℕ) (es : List Entry) (c : Call) : Answer → Type 0 where
  refusing : {m place : ℕ} → Refusal n es c m place → Ground n es c (refused m place)
  storing : {l : ℕ} → Taken n es l c → Ground n es c (stored l)
  fetching : {p : Posology} → Ground n es c (fetched p)
  removing : Ground n es c removed
  telling : {k : ℕ} → Ground n es c (standing k)

put_ground : {n : ℕ} {es : List Entry} {number purpose : ℕ} {text : List ℕ} {o : Outcome (List Entry)}
    → Put n es number purpose text o → Ground n es (put number purpose text) o.answer
put_ground (no_number i) = refusing (of_21 (put_under i))
put_ground (there i s) = refusing (of_22 (for_put i s))
put_ground (unread i s e) = refusing (of_reading (text_put i s e))
put_ground {n} {es} {number} (no_room {p = p} i s e r) =
    refusing (of_24 (too_long i s e (leb-false (size (entry number p)) (n - used es) r)))
put_ground {n} {es} {number} (laid {p = p} i s e r) = storing (put_taken i s e (leb-true (size (entry number p)) (n - used es) r) refl)

fetch_ground : (n : ℕ) (es : List Entry) (number room : ℕ) → Ground n es (fetch number room) (fetch_answer (fetch_from es number room))
fetch_ground n es number room = go (is_number number) (under number es) refl refl
  where
    reads : (p : Posology) (r : Read) → is_number number ≡ true → under number es ≡ some p → read (for_fetch room) (plain p) ≡ r
        → Ground n es (fetch number room) (fetch_answer r)
    reads p (R.taken q) i u e = fetching
    reads p (R.refused m place) i u e = refusing (of_reading (text_fetched i u e))

    go : (b : Bool) (o : Option Posology) → is_number number ≡ b → under number es ≡ o
        → Ground n es (fetch number room) (fetch_answer (choose b (λ _. fetch_under o room) (λ _. R.refused 21 0)))
    go true none i u = refusing (of_23 (for_fetched i (none_under number es u)))
    go true (some p) i u = reads p (read (for_fetch room) (plain p)) i u refl
    go false o i u = refusing (of_21 (fetch_of i))

remove_ground : {n number : ℕ} {es : List Entry} {o : Outcome (List Entry)} → Remove es number o → Ground n es (remove number) o.answer
remove_ground (not_number i) = refusing (of_21 (remove_of i))
remove_ground (not_there i s) = refusing (of_23 (for_remove i s))
remove_ground (taken_out i s) = removing

pub call_ground : (n : ℕ) (c : Call) (es : List Entry) → Ground n es c (on_list n c es).answer
unfolding on_list
call_ground n (put number purpose text) es = put_ground (put_ends n es number purpose text)
call_ground n (fetch number room) es = fetch_ground n es number room
call_ground n (remove number) es = remove_ground (remove_ends es number)
call_ground n (at position) es = telling

pub refused_by : {n : ℕ} {es : List Entry} {c : Call} {r : Answer} {m place : ℕ} → Ground n es c r → r ≡ refused m place
    → Refusal n es c m place
refused_by {n} {es} {c} {m = m} {place = place} (refusing {m = k} {place = q} g) e =
    let i : k ≡ m = cc e in
    let j : q ≡ place = cc e in
    rw (i, j) at g
refused_by (storing g) e = never (cc e)
refused_by fetching e = never (cc e)
refused_by removing e = never (cc e)
refused_by telling e = never (cc e)

pub stored_by_lem : {n : ℕ} {es : List Entry} {c : Call} {r : Answer} {l : ℕ} → Ground n es c r → r ≡ stored l → Taken n es l c
stored_by_lem (refusing g) e = never (cc e)
stored_by_lem {l = l} (storing {l = k} g) e = let i : k ≡ l = cc e in rw i at g
stored_by_lem fetching e = never (cc e)
stored_by_lem removing e = never (cc e)
stored_by_lem telling e = never (cc e)

-- Reading refuses by 1 to 17 alone: 20 to 24 are the shelf's own.
reading_low : {es : List Entry} {m place : ℕ} {c : Call} → NotRead es m place c → (1 ≤ m) × (m ≤ 17)
reading_low {m = m} {place = place} (text_put {purpose = purpose} {text = text} i s e) =
    refusals_of_read (in_greatest_room purpose) text m place e
reading_low {m = m} {place = place} (text_fetched {room = room} {p = p} i u e) = refusals_of_read (for_fetch room) (plain p) m place e

module _ {n : ℕ} {es : List Entry} {c : Call} where
  pub numbers : {m place : ℕ} → Refusal n es c m place → ((1 ≤ m) × (m ≤ 17)) ⊎ ((21 ≤ m) × (m ≤ 24))
  numbers (of_21 g) = inr (omega arith, omega arith)
  numbers (of_22 g) = inr (omega arith, omega arith)
  numbers (of_23 g) = inr (omega arith, omega arith)
  numbers (of_24 g) = inr (omega arith, omega arith)
  numbers (of_reading g) = inl (reading_low g)

  pub by_21 : {m place : ℕ} → Refusal n es c m place → m ≡ 21 → NoNumber c × (place ≡ 0)
  by_21 (of_21 g) q = (g, refl)
  by_21 (of_22 g) q = absurd (omega arith)
  by_21 (of_23 g) q = absurd (omega arith)
  by_21 (of_24 g) q = absurd (omega arith)
  by_21 (of_reading g) q = let l = (reading_low g).1 in absurd (omega arith)

  pub by_22 : {m place : ℕ} → Refusal n es c m place → m ≡ 22 → AlreadyThere es c × (place ≡ 0)
  by_22 (of_21 g) q = absurd (omega arith)
  by_22 (of_22 g) q = (g, refl)
  by_22 (of_23 g) q = absurd (omega arith)
  by_22 (of_24 g) q = absurd (omega arith)
  by_22 (of_reading g) q = let l = (reading_low g).1 in absurd (omega arith)

  pub by_23 : {m place : ℕ} → Refusal n es c m place → m ≡ 23 → NotThere es c × (place ≡ 0)
  by_23 (of_21 g) q = absurd (omega arith)
  by_23 (of_22 g) q = absurd (omega arith)
  by_23 (of_23 g) q = (g, refl)
  by_23 (of_24 g) q = absurd (omega arith)
  by_23 (of_reading g) q = let l = (reading_low g).1 in absurd (omega arith)

  pub by_24 : {m place : ℕ} → Refusal n es c m place → m ≡ 24 → NoRoom n es c × (place ≡ 0)
  by_24 (of_21 g) q = absurd (omega arith)
  by_24 (of_22 g) q = absurd (omega arith)
  by_24 (of_23 g) q = absurd (omega arith)
  by_24 (of_24 g) q = (g, refl)
  by_24 (of_reading g) q = let l = (reading_low g).1 in absurd (omega arith)

  pub by_reading : {m place : ℕ} → Refusal n es c m place → m ≤ 17 → NotRead es m place c
  by_reading (of_21 g) q = absurd (omega arith)
  by_reading (of_22 g) q = absurd (omega arith)
  by_reading (of_23 g) q = absurd (omega arith)
  by_reading (of_24 g) q = absurd (omega arith)
  by_reading (of_reading g) q = g

-- Each ground gives its refusal.
pub gives_21 : (n : ℕ) {c : Call} (es : List Entry) → NoNumber c → (on_list n c es).answer ≡ refused 21 0
unfolding on_list
gives_21 n es (put_under i) = rw i
gives_21 n es (fetch_of i) = rw i
gives_21 n es (remove_of i) = rw i

pub gives_22 : (n : ℕ) {c : Call} (es : List Entry) → AlreadyThere es c → (on_list n c es).answer ≡ refused 22 0
unfolding on_list
gives_22 n es (for_put i s) = rw (i, s)

pub gives_23 : (n : ℕ) {c : Call} (es : List Entry) → NotThere es c → (on_list n c es).answer ≡ refused 23 0
unfolding on_list
gives_23 n es (for_fetched {number = number} i s) = rw (i, under_none number es s)
gives_23 n es (for_remove i s) = rw (i, s)

pub gives_reading : (n : ℕ) {c : Call} (es : List Entry) {m place : ℕ} → NotRead es m place c → (on_list n c es).answer ≡ refused m place
unfolding on_list
gives_reading n es (text_put i s e) = rw (i, s, e)
gives_reading n es (text_fetched i u e) = rw (i, u, e)

pub gives_24 : (n : ℕ) {c : Call} (es : List Entry) → NoRoom n es c → (on_list n c es).answer ≡ refused 24 0
unfolding on_list
gives_24 n es (too_long {number = number} {p = p} i s e l) = rw (i, s, e, lt-leb (size (entry number p)) (n - used es) l)

pub gives_stored : (n : ℕ) {c : Call} (es : List Entry) {l : ℕ} → Taken n es l c → (on_list n c es).answer ≡ stored l
unfolding on_list
gives_stored n es (put_taken {number = number} {p = p} i s e r k) = rw (i, s, e, le-leb (size (entry number p)) (n - used es) r, k)

-- The posology of a put is the one that its text reads to.
pub short_as_read : {n : ℕ} {es : List Entry} {number purpose : ℕ} {text : List ℕ} {p : Posology}
    → read (in_greatest_room purpose) text ≡ R.taken p → NoRoom n es (put number purpose text) → n - used es < 6 + length (plain p)
short_as_read {p = p} e (too_long {p = q} i s f l) = let d : q ≡ p = cc (e, f) in rw d at l

pub long_as_read : {n : ℕ} {es : List Entry} {l number purpose : ℕ} {text : List ℕ} {p : Posology}
    → read (in_greatest_room purpose) text ≡ R.taken p → Taken n es l (put number purpose text) → l ≡ length (plain p)
long_as_read {p = p} e (put_taken {p = q} i s f r k) = let d : q ≡ p = cc (e, f) in rw d at k
