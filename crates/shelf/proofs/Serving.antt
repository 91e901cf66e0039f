-- What the calls tell and leave is what the list's calls do.
use mathlib.Core.Path.{◌≡◌, refl, ap, sym, ◌∙◌}
use mathlib.Core.List.{List, [], ◌∷◌, ◌++◌, append-nil}
use mathlib.Core.Bool.{Bool, true, false}
use mathlib.Core.Option.{Option, none, some}
use Prim.Native.Nat.{ℕ, ◌+◌, ◌-◌, ◌/◌, ◌%◌, ◌≤◌}
use native.Mathlib.Omega.{arith}
use lib.Dec.{leb}
use lib.ListN.{length, take}
use lib.Seq.{sets}
use borrow.Author.Tests.{le-leb, leb-true, leb-false}
use Rattle.json_grammar.proofs.Truth.{cond_true, cond_false, never}
use Rattle.document.specs.Posology.{Posology}
use Rattle.document.specs.Plain.{plain}
use Rattle.document.specs.Answer as R
use Rattle.document.specs.Answer.{read}
use Rattle.document.specs.Write.{in_greatest_room}
use Rattle.document_meaning.proofs.Lengths.{plain_within}
use Rattle.rewriter.proofs.Reread.{ReadAs}
use Rattle.shelf_list.specs.Shelf.{both_uses, Entry, entry, is_number, two_bytes, record_then, size, used, laid_out, stands, Holds, entries_in}
use Rattle.shelf_list.specs.Calls.{Call, put, remove, at, Answer, stored, removed, standing, refused, answers, without, room_for, on_list, laid_again, on_area, Outcome, Serves}
use Rattle.shelf_list.specs.Grounds.{put_under, remove_of, for_put, for_remove, text_put, too_long}
use Rattle.shelf_list.proofs.Records.{good_parts}
use Rattle.shelf_list.proofs.Lists.{read_good}
use Rattle.shelf_list.proofs.Edits.{put_writes, remove_moves}
use Rattle.shelf_list.proofs.Grounds.{gives_21, gives_22, gives_23, gives_24, gives_reading}
use Rattle.shelf_list.proofs.Runs.{refusal_leaves}
use Rattle.shelf_list.proofs.Served.{on_shelf, answer_on_shelf, on_no_shelf}
use Rattle.shelf_bytes.specs.Layout.{low_bytes, record_bytes, has_room, Stores, closed, gap_closed}
use Rattle.std.specs.Prelude.{ok_or, Result, Ok, Err}
use Rattle.std.specs.Option.{is_some}
use Rattle.document.specs.Refusals.{refusal}
use Rattle.document.specs.declared.refusal.Reason.TheVariants.{NoShelf, NoNumber, NumberMissing, NoShelfRoom}
use Rattle.document.specs.declared.refusal.Refusal.{Refusal}
use Rattle.shelf_list.proofs.Areas.{area_of_list}
use Rattle.shelf.specs.Answers.{refused_answer, put_answer, StoresPlain}
use Rattle.shelf.specs.Survey.{survey_of, surveyed}
use Rattle.shelf.specs.declared.survey.Place.{Place}
use Rattle.shelf.specs.declared.survey.Survey.{Survey}
use Rattle.shelf.proofs.Surveyed.{Shelved, Asked, no_shelf, no_number, shelved, stands_placed, Sought, in_no_shelf, of_no_number, missing, there, There, there_inside}

-- A refusal leaves the area.
pub refuses : {c : Call} {a : List ℕ} {r : Answer} {m place : ℕ} → r ≡ refused m place → (on_area c a).answer ≡ refused m place
    → Serves c a r a
refuses {c} {a} {r} {m} {place} e h = record { result = e ∙ sym h; left = sym (refusal_leaves c a m place h) }

-- ---- at
pub stands_at : (a : List ℕ) (position : ℕ) {s : Survey} → Ok s ≡ ok_or (surveyed 0 position (entries_in a)) (refusal NoShelf 0)
    → standing s.standing ≡ (on_area (at position) a).answer
unfolding on_list
stands_at a position {s} e = go (entries_in a) refl e
  where
    go : (o : Option (List Entry)) → entries_in a ≡ o → Ok s ≡ ok_or (surveyed 0 position o) (refusal NoShelf 0)
        → standing s.standing ≡ (on_area (at position) a).answer
    go none i k = never (cc k)
    go (some es) i k =
        let t : s ≡ survey_of 0 position es = cc k in
        ap (λ (x : Survey). standing x.standing) t ∙ sym (answer_on_shelf (at position) a es (area_of_list a es i))

pub stands_nowhere : (a : List ℕ) (position : ℕ) {why : Refusal} → Err why ≡ ok_or (surveyed 0 position (entries_in a)) (refusal NoShelf 0)
    → refused_answer why ≡ (on_area (at position) a).answer
stands_nowhere a position {why} e = go (entries_in a) refl e
  where
    go : (o : Option (List Entry)) → entries_in a ≡ o → Err why ≡ ok_or (surveyed 0 position o) (refusal NoShelf 0)
        → refused_answer why ≡ (on_area (at position) a).answer
    go none i k = let t : why ≡ refusal NoShelf 0 = cc k in ap refused_answer t ∙ sym (on_no_shelf (at position) a i)
    go (some es) i k = never (cc k)

-- ---- remove
pub removes_none : {a : List ℕ} {number : ℕ} {why : Refusal} → Sought a number (Err why) → Serves (remove number) a (refused_answer why) a
removes_none {a} {number} {why} h = refuses refl (go h refl)
  where
    go : {r : Result Place Refusal} → Sought a number r → r ≡ Err why → (on_area (remove number) a).answer ≡ refused_answer why
    go (in_no_shelf e) k = let t : refusal NoShelf 0 ≡ why = cc k in on_no_shelf (remove number) a e ∙ ap refused_answer t
    go (of_no_number {es} h i) k =
        let t : refusal NoNumber 0 ≡ why = cc k in
        answer_on_shelf (remove number) a es h ∙ gives_21 (length a) es (remove_of i) ∙ ap refused_answer t
    go (missing {es} h i s) k =
        let t : refusal NumberMissing 0 ≡ why = cc k in
        answer_on_shelf (remove number) a es h ∙ gives_23 (length a) es (for_remove i s) ∙ ap refused_answer t
    go (there t) k = never (cc k)

on_list_removed : (n : ℕ) (es : List Entry) (number : ℕ) → is_number number ≡ true → stands number es ≡ true
    → on_list n (remove number) es ≡ answers removed (without number es)
unfolding on_list
on_list_removed n es number i s = rw (i, s)

pub removes : {a after : List ℕ} {number : ℕ} {p : Place} → There a number p → after ≡ gap_closed a p.from p.size
    → Serves (remove number) a removed after
removes {a} {after} {number} {p} t e =
    let es = t.ahead ++ (t.it ∷ t.behind) in
    let o = on_shelf (remove number) a es t.holds ∙ ap (laid_again (length a)) (on_list_removed (length a) es number t.numbered t.standing) in
    let l = there_inside t in
    let m = l.1 in
    record {
      result = sym (ap (λ (x : Outcome (List ℕ)). x.answer) o);
      left =
          e
          ∙ cond_true (leb (p.from + p.size) (length a)) (closed a p.from p.size) a (le-leb (p.from + p.size) (length a) m)
          ∙ ap (λ (x : ℕ). closed a x p.size) t.from_is
          ∙ ap (λ (x : ℕ). closed a (used t.ahead) x) t.size_is
          ∙ sym (remove_moves a t.ahead t.it t.behind t.holds)
          ∙ ap (λ (x : ℕ). laid_out (without x es) (length a)) t.same_number
          ∙ sym (ap (λ (x : Outcome (List ℕ)). x.state) o);
    }

-- ---- put
module _ {a : List ℕ} {number : ℕ} (purpose : ℕ) (text : List ℕ) where
  -- 20 and 21.
  pub puts_nowhere : {position : ℕ} {why : Refusal} → Asked a number position (Err why) → Serves (put number purpose text) a (refused_answer why) a
  puts_nowhere {position} {why} h = refuses refl (go h refl)
    where
      go : {r : Result Survey Refusal} → Asked a number position r → r ≡ Err why → (on_area (put number purpose text) a).answer ≡ refused_answer why
      go (no_shelf e) k = let t : refusal NoShelf 0 ≡ why = cc k in on_no_shelf (put number purpose text) a e ∙ ap refused_answer t
      go (no_number {es} h i) k =
          let t : refusal NoNumber 0 ≡ why = cc k in
          answer_on_shelf (put number purpose text) a es h ∙ gives_21 (length a) es (put_under i) ∙ ap refused_answer t
      go (shelved h) k = never (cc k)

  module _ {position : ℕ} {s : Survey} (h : Shelved a number position s) where
    put_on_list : (on_area (put number purpose text) a).answer ≡ (on_list (length a) (put number purpose text) h.entries).answer
    put_on_list = answer_on_shelf (put number purpose text) a h.entries h.holds

    standing_told : stands number h.entries ≡ is_some s.found
    standing_told = stands_placed 0 number h.entries ∙ sym (ap (λ (x : Survey). is_some x.found) h.is)

    pub puts_no_other : true ≡ is_some s.found → Serves (put number purpose text) a (refused 22 0) a
    puts_no_other e = refuses refl (put_on_list ∙ gives_22 (length a) h.entries (for_put h.numbered (standing_told ∙ sym e)))

    pub puts_unread : false ≡ is_some s.found → {m place : ℕ} → read (in_greatest_room purpose) text ≡ R.refused m place
        → Serves (put number purpose text) a (refused m place) a
    puts_unread e k = refuses refl (put_on_list ∙ gives_reading (length a) h.entries (text_put h.numbered (standing_told ∙ sym e) k))

two_bytes_lem : (n : ℕ) (k : List ℕ) → n ≤ 65535 → low_bytes n k ≡ two_bytes n k
two_bytes_lem n k l = let e : n / 256 % 256 ≡ n / 256 = omega arith in ap (λ (h : ℕ). h ∷ (n % 256) ∷ k) e

record_bytes_lem : (number : ℕ) (p : Posology) → number ≤ 65535 → length (plain p) ≤ 65535
    → record_bytes number (plain p) ≡ record_then (entry number p) []
unfolding record_then
record_bytes_lem number p l m =
    ap (λ (k : List ℕ). 0x50 ∷ 0x6F ∷ k)
    (two_bytes_lem number (low_bytes (length (plain p)) (plain p)) l
    ∙ ap (two_bytes number) (two_bytes_lem (length (plain p)) (plain p) m ∙ ap (two_bytes (length (plain p))) (sym (append-nil (plain p)))))

on_list_put : (n : ℕ) (es : List Entry) (number purpose : ℕ) (text : List ℕ) (p : Posology) → is_number number ≡ true
    → stands number es ≡ false → read (in_greatest_room purpose) text ≡ R.taken p → room_for n es (entry number p) ≡ true
    → on_list n (put number purpose text) es ≡ answers (stored (length (plain p))) (es ++ (entry number p ∷ []))
unfolding on_list
on_list_put n es number purpose text p i s e r = rw (i, s, e, r)

-- A record is stored behind the last one, or there is no room for it.
module _ (a after : List ℕ) (es : List Entry) (number purpose : ℕ) (text : List ℕ) (p : Posology) (r : Result ℕ Refusal)
    (h : Holds a es) (i : is_number number ≡ true) (s : stands number es ≡ false) (k : read (in_greatest_room purpose) text ≡ R.taken p)
    (st : StoresPlain number (used es) (plain p) a r after) where
  with_room : has_room (used es) (plain p) a ≡ true → Serves (put number purpose text) a (put_answer r) after
  with_room e =
      let c = put number purpose text in
      let it = entry number p in
      let o = on_shelf c a es h ∙ ap (laid_again (length a)) (on_list_put (length a) es number purpose text p i s k e) in
      let good = read_good number purpose text p i k in
      let g = good_parts it good in
      let short = plain_within both_uses p g.is_valid g.fits in
      let b = has_room (used es) (plain p) a in
      record {
        result = st.answer ∙ cond_true b (stored (length (plain p))) (refused 24 0) e ∙ sym (ap (λ (x : Outcome (List ℕ)). x.answer) o);
        left =
            st.left
            ∙ cond_true b (sets a (used es) (record_bytes number (plain p))) a e
            ∙ ap (sets a (used es)) (record_bytes_lem number p g.most (omega arith))
            ∙ sym (put_writes a es h it good (leb-true (size it) (length a - used es) e))
            ∙ sym (ap (λ (x : Outcome (List ℕ)). x.state) o);
      }

  without_room : has_room (used es) (plain p) a ≡ false → Serves (put number purpose text) a (put_answer r) after
  without_room e =
      let c = put number purpose text in
      let b = has_room (used es) (plain p) a in
      let long = too_long i s k (leb-false (6 + length (plain p)) (length a - used es) e) in
      let full = answer_on_shelf c a es h ∙ gives_24 (length a) es long in
      record {
        result = st.answer ∙ cond_false b (stored (length (plain p))) (refused 24 0) e ∙ sym full;
        left = st.left ∙ cond_false b (sets a (used es) (record_bytes number (plain p))) a e ∙ sym (refusal_leaves c a 24 0 full);
      }

  pub puts : Serves (put number purpose text) a (put_answer r) after
  puts = go (has_room (used es) (plain p) a) refl
    where
      go : (b : Bool) → has_room (used es) (plain p) a ≡ b → Serves (put number purpose text) a (put_answer r) after
      go true e = with_room e
      go false e = without_room e

-- The same, as the code has it: the bytes that stand first in the scratch buffer.
pub puts_as : {a after : List ℕ} {number position n : ℕ} (purpose : ℕ) (text : List ℕ) {scratch : List ℕ} {s : Survey} {r : Result ℕ Refusal}
    → Shelved a number position s → false ≡ is_some s.found → (k : ReadAs purpose text scratch n)
    → StoresPlain number s.used (take n scratch) a r after → Serves (put number purpose text) a (put_answer r) after
puts_as {a} {after} {number} purpose text {r = r} h f k st =
    let u = ap (λ (x : Survey). x.used) h.is in
    puts a after h.entries number purpose text k.posology r h.holds h.numbered (standing_told purpose text h ∙ sym f) k.taken (rw (sym k.first, sym u) st)

-- How a record stored or not is answered.
pub stores : {number used : ℕ} {text area after : List ℕ} → Stores number used text area true after
    → StoresPlain number used text area (Ok (length text)) after
stores {used = used} {text = text} {area = area} h =
    let t = sym h.stored in
    record { answer = sym (cond_true (has_room used text area) (stored (length text)) (refused 24 0) t); left = h.left }

pub stores_not : {number used : ℕ} {text area after : List ℕ} → Stores number used text area false after
    → StoresPlain number used text area (Err (refusal NoShelfRoom 0)) after
stores_not {used = used} {text = text} {area = area} h =
    let t = sym h.stored in
    record { answer = sym (cond_false (has_room used text area) (stored (length text)) (refused 24 0) t); left = h.left }
