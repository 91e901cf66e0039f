-- What a put that is taken leaves, and the room that a removal frees.
use mathlib.Core.Path.{◌≡◌, refl, ap, sym, ◌∙◌}
use mathlib.Core.List.{List, [], ◌∷◌, ◌++◌}
use mathlib.Core.Bool.{Bool, true, false, cond, ◌||◌, true≢false, false≢true}
use mathlib.Core.Option.{Option, none, some}
use Prim.Native.Nat.{ℕ, ◌+◌, ◌-◌, ◌≤◌}
use native.Mathlib.Omega.{arith}
use lib.Dec.{eqb}
use lib.ListN.{length}
use borrow.Author.Tests.{le-leb, eq-eqb, eqb-true}
use Rattle.json_grammar.proofs.Truth.{and_left, and_right, choose_true, cond_true, cond_false, never}
use Rattle.document.specs.Posology.{Posology}
use Rattle.document.specs.Valid.{Fits, room_of, every}
use Rattle.document.specs.Plain.{plain}
use Rattle.document.specs.Answer as R
use Rattle.document.specs.Answer.{read}
use Rattle.document.specs.Write.{in_greatest_room}
use Rattle.document_meaning.proofs.Spelled.{accepted_spells}
use Rattle.document_meaning.proofs.PlainTexts.{plain_reads}
use Rattle.shelf_list.specs.Shelf.{Entry, entry, is_number, size, used, stands, good_entry}
use Rattle.shelf_list.specs.Calls.{put, remove, stored, refused, Outcome, without, under, room_for, put_on, fetch_under, fetch_from, on_list, for_fetch}
use Rattle.demands.proofs.PlanPrescribed.{valid_for_both}
use Rattle.shelf_list.proofs.Records.{good_each}
use Rattle.shelf_list.proofs.Ends.{Put, no_number, there, unread, no_room, laid, put_ends, Remove, not_number, not_there, taken_out, remove_ends}
use Rattle.shelf_list.proofs.Under.{under_stands}
use Rattle.shelf_list.proofs.Lists.{Fitting, or_false, used_without}

-- A put that is taken.
pub record Stored (n : ℕ) (es : List Entry) (e : Entry) (after : List Entry) : Type 0 where
  pub numbered : is_number e.number ≡ true
  pub free : stands e.number es ≡ false
  pub room : room_for n es e ≡ true
  pub is : after ≡ es ++ (e ∷ [])

pub put_stores : (n : ℕ) (es : List Entry) (number purpose : ℕ) (text : List ℕ) (p : Posology) (l : ℕ)
    → read (in_greatest_room purpose) text ≡ R.taken p
    → (put_on n es number purpose text).answer ≡ stored l → Stored n es (entry number p) (put_on n es number purpose text).state
put_stores n es number purpose text p l e h = go (put_ends n es number purpose text) h
  where
    go : {o : Outcome (List Entry)} → Put n es number purpose text o → o.answer ≡ stored l → Stored n es (entry number p) o.state
    go (no_number i) k = never (cc k)
    go (there i s) k = never (cc k)
    go (unread i s f) k = never (cc k)
    go (no_room i s f r) k = never (cc k)
    go (laid {p = q} i s f r) k = let d : q ≡ p = cc (e, f) in record { numbered = i; free = s; room = rw d at r; is = rw d }

pub under_last : (n : ℕ) (es : List Entry) (p : Posology) → stands n es ≡ false → under n (es ++ (entry n p ∷ [])) ≡ some p
under_last n [] p h = cond_true (eqb n n) (some p) none (eq-eqb n n refl)
under_last n (e ∷ es) p h =
    let k = or_false (eqb n e.number) (stands n es) h in
    ap (λ (b : Bool). cond b (some e.posology) (under n (es ++ (entry n p ∷ [])))) k.0 ∙ under_last n es p k.1

pub put_then_fetch : (n : ℕ) (es : List Entry) (number purpose room : ℕ) (text : List ℕ) (p : Posology) (l : ℕ)
    → (on_list n (put number purpose text) es).answer ≡ stored l → read (in_greatest_room purpose) text ≡ R.taken p → Fits (room_of room) p
    → fetch_from (on_list n (put number purpose text) es).state number room ≡ R.taken p
unfolding on_list
put_then_fetch n es number purpose room text p l s e g =
    let k = put_stores n es number purpose text p l e s in
    let a = accepted_spells (in_greatest_room purpose) text p e in
    ap (λ (fs : List Entry). fetch_from fs number room) k.is
    ∙ choose_true (is_number number) (λ _. fetch_under (under number (es ++ (entry number p ∷ []))) room) (λ _. R.refused 21 0) k.numbered
    ∙ ap (λ (o : Option Posology). fetch_under o room) (under_last number es p k.free)
    ∙ (plain_reads (for_fetch room) p (refl, valid_for_both purpose p a.1) a.3 g)

-- Where a number stands, its removal frees at least its record's bytes.
pub frees : (n : ℕ) (es : List Entry) (p : Posology) → under n es ≡ some p → used (without n es) + size (entry n p) ≤ used es
frees n [] p h = never (cc)
frees n (e ∷ es) p h = go (eqb n e.number) h (frees n es p)
  where
    go : (b : Bool) → cond b (some e.posology) (under n es) ≡ some p
        → (under n es ≡ some p → used (without n es) + size (entry n p) ≤ used es)
        → used (cond b (without n es) (e ∷ without n es)) + size (entry n p) ≤ size e + used es
    go true k i =
        let u = used_without n es in
        let s : e.posology ≡ p = cc in
        let l : length (plain e.posology) ≡ length (plain p) = ap (λ (q : Posology). length (plain q)) s in
        omega arith
    go false k i = let u = i k in omega arith

-- A number that stands on a shelf is one.
stands_number : (n : ℕ) (es : List Entry) → every good_entry es ≡ true → stands n es ≡ true → is_number n ≡ true
stands_number n [] g h = absurd (false≢true h)
stands_number n (e ∷ es) g h = go (eqb n e.number) refl h (stands_number n es (and_right (good_entry e) (every good_entry es) g))
  where
    go : (b : Bool) → eqb n e.number ≡ b → (b || stands n es) ≡ true → (stands n es ≡ true → is_number n ≡ true) → is_number n ≡ true
    go true i k below =
        ap is_number (eqb-true n e.number i) ∙ and_left (is_number e.number) _ (and_left (good_entry e) (every good_entry es) g)
    go false i k below = below k

-- A put that has room is never 24.
pub never_24 : (n : ℕ) (es : List Entry) (number purpose : ℕ) (text : List ℕ) (q : Posology) (place : ℕ)
    → read (in_greatest_room purpose) text ≡ R.taken q
    → room_for n es (entry number q) ≡ true → (put_on n es number purpose text).answer ≡ refused 24 place → ⊥
never_24 n es number purpose text q place e r h = go (put_ends n es number purpose text) h
  where
    go : {o : Outcome (List Entry)} → Put n es number purpose text o → o.answer ≡ refused 24 place → ⊥
    go (no_number i) k = let z : ◌≡◌ {A = ℕ} 21 24 = cc k in omega arith
    go (there i s) k = let z : ◌≡◌ {A = ℕ} 22 24 = cc k in omega arith
    go (unread i s f) k = never (cc (e, f))
    go (no_room {p = p} i s f t) k = let d : p ≡ q = cc (e, f) in true≢false (sym r ∙ (rw d at t))
    go (laid i s f t) k = never (cc k)

freed_room_for : (n : ℕ) (es : List Entry) (number other : ℕ) (p q : Posology) → Fitting n es → under number es ≡ some p
    → length (plain q) ≤ length (plain p) → room_for n (without number es) (entry other q) ≡ true
freed_room_for n es number other p q f u l =
    let a = frees number es p u in
    let b = f.fits in
    le-leb (size (entry other q)) (n - used (without number es)) (omega arith)

pub freed_serves : (n : ℕ) (es : List Entry) (number other purpose : ℕ) (text : List ℕ) (p q : Posology) → Fitting n es
    → under number es ≡ some p → read (in_greatest_room purpose) text ≡ R.taken q → length (plain q) ≤ length (plain p)
    → (place : ℕ) → (on_list n (put other purpose text) (on_list n (remove number) es).state).answer ≡ refused 24 place → ⊥
unfolding on_list
freed_serves n es number other purpose text p q f u e l place h = go (remove_ends es number) h
  where
    there_it_stands : stands number es ≡ true
    there_it_stands = under_stands number es p u

    go : {o : Outcome (List Entry)} → Remove es number o → (put_on n o.state other purpose text).answer ≡ refused 24 place → ⊥
    go (not_number i) k = false≢true (sym i ∙ stands_number number es (good_each es f.is_good) there_it_stands)
    go (not_there i s) k = false≢true (sym s ∙ there_it_stands)
    go (taken_out i s) k = never_24 n (without number es) other purpose text q place e (freed_room_for n es number other p q f u l) k

-- Where a number stands, the list falls apart there.
pub record Stands (n : ℕ) (es : List Entry) : Type 0 where
  pub ahead : List Entry
  pub it : Posology
  pub behind : List Entry
  pub is : es ≡ ahead ++ (entry n it ∷ behind)
  pub under_it : under n es ≡ some it

pub stands_there : (n : ℕ) (es : List Entry) → stands n es ≡ true → Stands n es
stands_there n [] h = absurd (false≢true h)
stands_there n (e ∷ es) h = go (eqb n e.number) refl h (stands_there n es)
  where
    go : (b : Bool) → eqb n e.number ≡ b → (b || stands n es) ≡ true → (stands n es ≡ true → Stands n es) → Stands n (e ∷ es)
    go true i k below =
        let j = eqb-true n e.number i in
        record {
          ahead = [];
          it = e.posology;
          behind = es;
          is = ap (λ (m : ℕ). entry m e.posology ∷ es) (sym j);
          under_it = cond_true (eqb n e.number) (some e.posology) (under n es) i;
        }
    go false i k below =
        let s = below k in
        record {
          ahead = e ∷ s.ahead;
          it = s.it;
          behind = s.behind;
          is = ap (λ (fs : List Entry). e ∷ fs) s.is;
          under_it = cond_false (eqb n e.number) (some e.posology) (under n es) i ∙ s.under_it;
        }
