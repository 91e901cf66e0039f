-- The bytes that a put writes and those that a removal moves: the rest of the area stays.
use mathlib.Core.Path.{◌≡◌, refl, ap, sym, ◌∙◌}
use mathlib.Core.List.{List, [], ◌∷◌, ◌++◌, append-nil, append_assoc}
use mathlib.Core.Bool.{Bool, true, false, not, cond}
use Prim.Native.Nat.{ℕ, ◌+◌, ◌-◌, ◌≤◌}
use native.Mathlib.Omega.{arith}
use lib.Dec.{eqb}
use lib.ListN.{length, take, drop, replicate, length-replicate, replicate-append-replicate}
use lib.Seq.{take_at, drop_at, drop-drop, sets, sets-eq}
use borrow.Author.Tests.{eq-eqb, not-true}
use Rattle.json_grammar.proofs.Truth.{and_both, and_left, and_right, cond_true}
use Rattle.document.proofs.Same.{eqb_sym}
use Rattle.document.specs.Valid.{every}
use Rattle.document.specs.Plain.{plain}
use Rattle.shelf_list.specs.Shelf.{Entry, two_bytes, record_then, size, used, records_then, laid_out, stands, once, good_entry, Holds}
use Rattle.shelf_list.specs.Calls.{without}
use Rattle.shelf_list.proofs.Records.{good_each, good_once, good_parts, record_length}
use Rattle.shelf_list.proofs.Areas.{records_length}
use Rattle.shelf_list.proofs.Lists.{or_false, used_append, used_both, stands_not}
use Rattle.shelf_list.proofs.Walks.{records_append}

-- Records in front of bytes are records and then the bytes.
pub record_then_lem : (e : Entry) (k : List ℕ) → record_then e k ≡ record_then e [] ++ k
unfolding record_then
record_then_lem e k =
    let p = plain e.posology in
    ap (λ (s : List ℕ). 0x50 ∷ 0x6F ∷ two_bytes e.number (two_bytes (length p) (s ++ k))) (sym (append-nil p))

pub records_then_lem : (es : List Entry) (k : List ℕ) → records_then es k ≡ records_then es [] ++ k
records_then_lem [] k = refl
records_then_lem (e ∷ es) k =
    ap (record_then e) (records_then_lem es k)
    ∙ record_then_lem e (records_then es [] ++ k)
    ∙ sym (append_assoc (record_then e []) (records_then es []) k)
    ∙ ap (λ (s : List ℕ). s ++ k) (sym (record_then_lem e (records_then es [])))

abbrev pub zeros : ℕ → List ℕ
zeros n = replicate n 0

drop_zeros : (k m : ℕ) → k ≤ m → drop k (zeros m) ≡ zeros (m - k)
drop_zeros k m h =
    let e : m ≡ k + (m - k) = omega arith in
    ap (λ (n : ℕ). drop k (zeros n)) e
    ∙ ap (drop k) (sym (replicate-append-replicate k (m - k) 0))
    ∙ drop_at (zeros k) (zeros (m - k)) k (length-replicate k 0)

-- An area that holds es, in front of and behind the end of its records.
module _ (a : List ℕ) (es : List Entry) (h : Holds a es) where
  split : records_then es [] ++ replicate (length a - used es) 0 ≡ a
  split = sym (records_then_lem es (replicate (length a - used es) 0)) ∙ h.bytes

  own_length : length (records_then es []) ≡ used es
  own_length = let l = records_length es [] (good_each es h.is_good) in omega arith

  pub front : take (used es) a ≡ records_then es []
  front = ap (take (used es)) (sym split) ∙ take_at (records_then es []) (replicate (length a - used es) 0) (used es) own_length

  pub free : drop (used es) a ≡ replicate (length a - used es) 0
  free = ap (drop (used es)) (sym split) ∙ drop_at (records_then es []) (replicate (length a - used es) 0) (used es) own_length

  -- A put writes its record behind the last one; zeros lie there already.
  pub put_writes : (e : Entry) → good_entry e ≡ true → size e ≤ length a - used es
      → laid_out (es ++ (e ∷ [])) (length a) ≡ sets a (used es) (record_then e [])
  put_writes e g room =
      let R = record_then e [] in
      let n = length a in
      let l : length R ≡ size e = let r = record_length e [] (good_parts e g) in omega arith in
      let u = used_append es e in
      let fits = h.fits in
      let m : n - used (es ++ (e ∷ [])) ≡ (n - used es) - size e = omega arith in
      let rest : drop (used es + length R) a ≡ replicate ((n - used es) - size e) 0 =
      ap (λ (x : ℕ). drop (used es + x) a) l
      ∙ sym (drop-drop (size e) (used es) a)
      ∙ ap (drop (size e)) free
      ∙ drop_zeros (size e) (n - used es) room in
      ap (λ (x : ℕ). records_then (es ++ (e ∷ [])) (replicate x 0)) m
      ∙ records_append es (e ∷ []) (replicate ((n - used es) - size e) 0)
      ∙ records_then_lem es (record_then e (replicate ((n - used es) - size e) 0))
      ∙ ap (λ (s : List ℕ). records_then es [] ++ s) (record_then_lem e (replicate ((n - used es) - size e) 0))
      ∙ sym (append_assoc (records_then es []) R (replicate ((n - used es) - size e) 0))
      ∙ sym (ap (λ (s : List ℕ). s ++ R ++ drop (used es + length R) a) front ∙ ap (λ (s : List ℕ). records_then es [] ++ R ++ s) rest)
      ∙ sym (sets-eq R a (used es) (omega arith))

without_none : (n : ℕ) (es : List Entry) → stands n es ≡ false → without n es ≡ es
without_none n [] h = refl
without_none n (e ∷ es) h =
    let k = or_false (eqb n e.number) (stands n es) h in
    ap (λ (b : Bool). cond b (without n es) (e ∷ without n es)) k.0 ∙ ap (λ (s : List Entry). e ∷ s) (without_none n es k.1)

-- A removal takes out the one entry with that number.
pub without_one : (fs : List Entry) (e : Entry) (gs : List Entry) → once (fs ++ (e ∷ gs)) ≡ true
    → without e.number (fs ++ (e ∷ gs)) ≡ fs ++ gs
without_one [] e gs o =
    cond_true (eqb e.number e.number) (without e.number gs) (e ∷ without e.number gs) (eq-eqb e.number e.number refl)
    ∙ without_none e.number gs (not-true (stands e.number gs) (and_left (not (stands e.number gs)) (once gs) o))
without_one (f ∷ fs) e gs o =
    let es = fs ++ (e ∷ gs) in
    let d = stands_not f.number fs e gs (not-true (stands f.number es) (and_left (not (stands f.number es)) (once es) o)) in
    ap (λ (b : Bool). cond b (without e.number es) (f ∷ without e.number es)) (eqb_sym e.number f.number ∙ d)
    ∙ ap (λ (s : List Entry). f ∷ s) (without_one fs e gs (and_right (not (stands f.number es)) (once es) o))

every_front : (fs gs : List Entry) → every good_entry (fs ++ gs) ≡ true → every good_entry fs ≡ true
every_front [] gs h = refl
every_front (f ∷ fs) gs h =
    let rest = every good_entry (fs ++ gs) in
    and_both (and_left (good_entry f) rest h) (every_front fs gs (and_right (good_entry f) rest h))

every_back : (fs gs : List Entry) → every good_entry (fs ++ gs) ≡ true → every good_entry gs ≡ true
every_back [] gs h = h
every_back (f ∷ fs) gs h = every_back fs gs (and_right (good_entry f) (every good_entry (fs ++ gs)) h)

-- What stands behind the record of e.
abbrev pub behind : List ℕ → List Entry → Entry → List Entry → List ℕ
behind a fs e gs = records_then gs (zeros (length a - used (fs ++ (e ∷ gs))))

-- The area of a list with e in it: what stands in front of its record, and what behind it.
module _ (a : List ℕ) (fs : List Entry) (e : Entry) (gs : List Entry) (h : Holds a (fs ++ (e ∷ gs))) where
  each_one : every good_entry (fs ++ (e ∷ gs)) ≡ true
  each_one = good_each (fs ++ (e ∷ gs)) h.is_good

  parted : records_then fs [] ++ (record_then e [] ++ (behind a fs e gs)) ≡ a
  parted =
      ap (λ (s : List ℕ). records_then fs [] ++ s) (sym (record_then_lem e (behind a fs e gs)))
      ∙ sym (records_then_lem fs (record_then e (behind a fs e gs)))
      ∙ sym (records_append fs (e ∷ gs) (zeros (length a - used (fs ++ (e ∷ gs)))))
      ∙ h.bytes

  fs_length : length (records_then fs []) ≡ used fs
  fs_length = let l = records_length fs [] (every_front fs (e ∷ gs) each_one) in omega arith

  pub it_good : good_entry e ≡ true
  it_good = and_left (good_entry e) (every good_entry gs) (every_back fs (e ∷ gs) each_one)

  e_length : length (record_then e []) ≡ size e
  e_length = let l = record_length e [] (good_parts e it_good) in omega arith

  pub in_front_of_it : take (used fs) a ≡ records_then fs []
  in_front_of_it =
      ap (take (used fs)) (sym parted) ∙ take_at (records_then fs []) (record_then e [] ++ (behind a fs e gs)) (used fs) fs_length

  from_it : drop (used fs) a ≡ record_then e [] ++ behind a fs e gs
  from_it = ap (drop (used fs)) (sym parted) ∙ drop_at (records_then fs []) (record_then e [] ++ behind a fs e gs) (used fs) fs_length

  -- The record itself begins at the bytes used in front of it.
  pub it : drop (used fs) a ≡ record_then e (behind a fs e gs)
  it = from_it ∙ sym (record_then_lem e (behind a fs e gs))

  pub behind_it : drop (used fs + size e) a ≡ (behind a fs e gs)
  behind_it =
      sym (drop-drop (size e) (used fs) a)
      ∙ ap (drop (size e)) from_it
      ∙ drop_at (record_then e []) (behind a fs e gs) (size e) e_length

  -- "Removing closes the gap": what stood behind the record moves up, and as many zeros as it had bytes follow.
  pub remove_moves : laid_out (without e.number (fs ++ (e ∷ gs))) (length a)
      ≡ take (used fs) a ++ (drop (used fs + size e) a ++ zeros (size e))
  remove_moves =
      let n = length a in
      let all = fs ++ (e ∷ gs) in
      let u = used_both fs (e ∷ gs) in
      let v = used_both fs gs in
      let fits = h.fits in
      let m : n - used (fs ++ gs) ≡ (n - used all) + size e = omega arith in
      let zs : zeros (n - used (fs ++ gs)) ≡ zeros (n - used all) ++ zeros (size e) =
      ap zeros m ∙ sym (replicate-append-replicate (n - used all) (size e) 0) in
      ap (λ (es : List Entry). laid_out es n) (without_one fs e gs (good_once all h.is_good))
      ∙ records_append fs gs (zeros (n - used (fs ++ gs)))
      ∙ ap (λ (s : List ℕ). records_then fs (records_then gs s)) zs
      ∙ records_then_lem fs (records_then gs (zeros (n - used all) ++ zeros (size e)))
      ∙ ap (λ (s : List ℕ). records_then fs [] ++ s)
      (records_then_lem gs (zeros (n - used all) ++ zeros (size e))
      ∙ sym (append_assoc (records_then gs []) (zeros (n - used all)) (zeros (size e)))
      ∙ ap (λ (s : List ℕ). s ++ zeros (size e)) (sym (records_then_lem gs (zeros (n - used all)))))
      ∙ ap (λ (s : List ℕ). records_then fs [] ++ (s ++ zeros (size e))) (sym behind_it)
      ∙ ap (λ (s : List ℕ). s ++ (drop (used fs + size e) a ++ zeros (size e))) (sym in_front_of_it)
