-- A call on an area that holds a list answers as on that list, and leaves what that list's call leaves, laid out.
use mathlib.Core.Path.{◌≡◌, refl, ap, sym, ◌∙◌}
use mathlib.Core.List.{List}
use mathlib.Core.Option.{Option, none, some}
use mathlib.Core.Logic.{◌↔◌, ◌⊎◌, inl, inr}
use Prim.Native.Nat.{ℕ, ◌≤◌}
use native.Mathlib.Omega.{arith}
use lib.ListN.{length}
use Rattle.json_grammar.proofs.Truth.{never}
use Rattle.document.specs.Posology.{Posology}
use Rattle.document.specs.Valid.{Fits, room_of}
use Rattle.document.specs.Plain.{plain}
use Rattle.document.specs.Answer as R
use Rattle.document.specs.Answer.{read}
use Rattle.document.specs.Write.{in_greatest_room}
use Rattle.shelf_list.specs.Shelf.{Entry, Holds, entries_in}
use Rattle.shelf_list.specs.Calls.{Call, put, fetch, remove, Answer, stored, refused, Outcome, under, on_list, laid_again, on_entries, on_area, fetch_answer, fetch_in, fetched_from}
use Rattle.shelf_list.proofs.Records.{good_each}
use Rattle.shelf_list.proofs.Areas.{laid_length, laid_back, area_of_list, holds_back}
use Rattle.shelf_list.proofs.Lists.{Fitting, call_keeps}
use Rattle.shelf_list.proofs.Runs.{call_on_laid}
use Rattle.shelf_list.proofs.Stored.{put_then_fetch, freed_serves}
use Rattle.shelf_list.proofs.Grounds.{Refusal, call_ground, refused_by, numbers}

pub holds_fitting : {a : List ℕ} {es : List Entry} → Holds a es → Fitting (length a) es
holds_fitting h = record { is_good = h.is_good; fits = h.fits }

pub on_shelf : (c : Call) (a : List ℕ) (es : List Entry) → Holds a es → on_area c a ≡ laid_again (length a) (on_list (length a) c es)
unfolding on_area
on_shelf c a es h = ap (on_entries c a) (holds_back a es h)

pub answer_on_shelf : (c : Call) (a : List ℕ) (es : List Entry) → Holds a es → (on_area c a).answer ≡ (on_list (length a) c es).answer
answer_on_shelf c a es h = ap (λ (o : Outcome (List ℕ)). o.answer) (on_shelf c a es h)

pub on_no_shelf : (c : Call) (a : List ℕ) → entries_in a ≡ none → (on_area c a).answer ≡ refused 20 0
unfolding on_area
on_no_shelf c a e = ap (λ (o : Option (List Entry)). (on_entries c a o).answer) e

-- An answer is the list's, where it is not 20.
pub shelf_answer : (c : Call) (a : List ℕ) (r : Answer) → (r ≡ refused 20 0 → ⊥) → (on_area c a).answer ≡ r
    → (es : List Entry) × Holds a es × ((on_list (length a) c es).answer ≡ r)
unfolding on_area
shelf_answer c a r other h = go (entries_in a) refl h
  where
    go : (o : Option (List Entry)) → entries_in a ≡ o → (on_entries c a o).answer ≡ r
        → (es : List Entry) × Holds a es × ((on_list (length a) c es).answer ≡ r)
    go none e k = absurd (other (sym k))
    go (some es) e k = (es, area_of_list a es e, k)

pub answers_20 : (c : Call) (a : List ℕ) (place : ℕ) → (on_area c a).answer ≡ refused 20 place → (entries_in a ≡ none) × (place ≡ 0)
unfolding on_area
answers_20 c a place h = go (entries_in a) refl h
  where
    never_20 : ((1 ≤ 20) × (20 ≤ 17)) ⊎ ((21 ≤ 20) × (20 ≤ 24)) → ⊥
    never_20 (inl h) = omega arith
    never_20 (inr h) = omega arith

    go : (o : Option (List Entry)) → entries_in a ≡ o → (on_entries c a o).answer ≡ refused 20 place → (o ≡ none) × (place ≡ 0)
    go none e k = (refl, cc k)
    go (some es) e k = absurd (never_20 (numbers (refused_by (call_ground (length a) c es) k)))

pub refusal_numbers : (c : Call) (a : List ℕ) (m place : ℕ) → (on_area c a).answer ≡ refused m place
    → ((1 ≤ m) × (m ≤ 17)) ⊎ ((20 ≤ m) × (m ≤ 24))
unfolding on_area
refusal_numbers c a m place h = go (entries_in a) h
  where
    widen : ((1 ≤ m) × (m ≤ 17)) ⊎ ((21 ≤ m) × (m ≤ 24)) → ((1 ≤ m) × (m ≤ 17)) ⊎ ((20 ≤ m) × (m ≤ 24))
    widen (inl r) = inl r
    widen (inr r) = inr (omega arith, r.1)

    go : (o : Option (List Entry)) → (on_entries c a o).answer ≡ refused m place → ((1 ≤ m) × (m ≤ 17)) ⊎ ((20 ≤ m) × (m ≤ 24))
    go none k = let z : 20 ≡ m = cc k in inr (omega arith, omega arith)
    go (some es) k = widen (numbers (refused_by (call_ground (length a) c es) k))

pub keeps_length : (c : Call) (a : List ℕ) → length (on_area c a).state ≡ length a
unfolding on_area
keeps_length c a = go (entries_in a) refl
  where
    go : (o : Option (List Entry)) → entries_in a ≡ o → length (on_entries c a o).state ≡ length a
    go none e = refl
    go (some es) e =
        let f = call_keeps (length a) c es (holds_fitting (area_of_list a es e)) in
        laid_length (on_list (length a) c es).state (length a) (good_each (on_list (length a) c es).state f.is_good) f.fits

-- A refusal with a ground of its own on the list has it on the area.
pub exactly : (c : Call) (a : List ℕ) (m place : ℕ) (G : List Entry → Type 0) → (m ≡ 20 → ⊥)
    → ((es : List Entry) → Refusal (length a) es c m place → G es × (place ≡ 0))
    → ((es : List Entry) → G es → (on_list (length a) c es).answer ≡ refused m 0)
    → ((on_area c a).answer ≡ refused m place) ↔ ((es : List Entry) × Holds a es × G es × (place ≡ 0))
exactly c a m place G other by gives = (
  λ e.
      let s = shelf_answer c a (refused m place) (λ q. other (cc q)) e in
      let g = by s.0 (refused_by (call_ground (length a) c s.0) s.2) in
      (s.0, s.1, g.0, g.1),
  λ x. rw x.3 (answer_on_shelf c a x.0 x.1 ∙ gives x.0 x.2),
)

pub fetch_reads : (number room : ℕ) (a : List ℕ) → (on_area (fetch number room) a).answer ≡ fetch_answer (fetched_from a number room)
unfolding on_area on_list fetched_from
fetch_reads number room a = go (entries_in a)
  where
    go : (o : Option (List Entry)) → (on_entries (fetch number room) a o).answer ≡ fetch_answer (fetch_in o number room)
    go none = refl
    go (some es) = refl

pub put_then_fetched : (number purpose room : ℕ) (text a : List ℕ) (p : Posology) (l : ℕ)
    → (on_area (put number purpose text) a).answer ≡ stored l
    → read (in_greatest_room purpose) text ≡ R.taken p → Fits (room_of room) p
    → fetched_from (on_area (put number purpose text) a).state number room ≡ R.taken p
unfolding fetched_from
put_then_fetched number purpose room text a p l s e g =
    let c = put number purpose text in
    let n = length a in
    let x = shelf_answer c a (stored l) (λ q. never (cc q)) s in
    let es = x.0 in
    let after = (on_list n c es).state in
    let f = call_keeps n c es (holds_fitting x.1) in
    ap (λ (o : Outcome (List ℕ)). fetch_in (entries_in o.state) number room) (on_shelf c a es x.1)
    ∙ ap (λ (o : Option (List Entry)). fetch_in o number room) (laid_back after n f.is_good f.fits x.1.small)
    ∙ put_then_fetch n es number purpose room text p l x.2 e g

pub freed_on_area : (a : List ℕ) (es : List Entry) (number other purpose : ℕ) (text : List ℕ) (p q : Posology) → Holds a es
    → under number es ≡ some p → read (in_greatest_room purpose) text ≡ R.taken q → length (plain q) ≤ length (plain p)
    → (place : ℕ) → (on_area (put other purpose text) (on_area (remove number) a).state).answer ≡ refused 24 place → ⊥
freed_on_area a es number other purpose text p q h u e l place k =
    let n = length a in
    let after = (on_list n (remove number) es).state in
    let f = call_keeps n (remove number) es (holds_fitting h) in
    let same =
    ap (λ (o : Outcome (List ℕ)). (on_area (put other purpose text) o.state).answer) (on_shelf (remove number) a es h)
    ∙ ap (λ (o : Outcome (List ℕ)). o.answer) (call_on_laid n (put other purpose text) after h.small f) in
    freed_serves n es number other purpose text p q (holds_fitting h) u e l place (sym same ∙ k)
