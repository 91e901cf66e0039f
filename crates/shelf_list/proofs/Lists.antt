-- What the calls on a list keep: entries stay good, and fit.
use mathlib.Core.Path.{◌≡◌, refl, ap, ◌∙◌, sym}
use mathlib.Core.List.{List, [], ◌∷◌, ◌++◌}
use mathlib.Core.Bool.{Bool, true, false, not, cond, ◌||◌, true≢false, ◌&&◌}
use Prim.Native.Nat.{ℕ, ◌+◌, ◌-◌, ◌≤◌}
use native.Mathlib.Omega.{arith}
use lib.Dec.{eqb}
use borrow.Author.Tests.{leb-true, not-true}
use Rattle.document.proofs.Same.{eqb_sym}
use Rattle.json_grammar.proofs.Truth.{and_both, and_left, and_right, never}
use Rattle.document.specs.Posology.{Posology}
use Rattle.document.specs.Valid.{every}
use Rattle.document.specs.Answer as R
use Rattle.document.specs.Answer.{read}
use Rattle.document.specs.Write.{in_greatest_room}
use Rattle.document_meaning.proofs.Spelled.{accepted_spells}
use Rattle.shelf_list.specs.Shelf.{Entry, entry, is_number, size, used, stands, once, good_entry, good}
use Rattle.shelf_list.specs.Calls.{Call, put, fetch, remove, at, Outcome, refused, without, room_for, on_list}
use Rattle.demands.proofs.PlanPrescribed.{valid_for_both}
use Rattle.shelf_list.proofs.Ends.{Put, no_number, there, unread, no_room, laid, put_ends, Remove, not_number, not_there, taken_out, remove_ends}
use Rattle.shelf_list.proofs.Records.{good_each, good_once, number_parts, parts_good}

-- A good list that fits into n bytes.
pub record Fitting (n : ℕ) (es : List Entry) : Type 0 where
  pub is_good : good es ≡ true
  pub fits : used es ≤ n

pub used_both : (es fs : List Entry) → used (es ++ fs) ≡ used es + used fs
used_both [] fs = omega arith
used_both (e ∷ es) fs = let a = used_both es fs in omega arith

pub used_append : (es : List Entry) (e : Entry) → used (es ++ (e ∷ [])) ≡ used es + size e
used_append es e = let a = used_both es (e ∷ []) in omega arith

pub every_append : (es : List Entry) (e : Entry) → every good_entry es ≡ true → good_entry e ≡ true → every good_entry (es ++ (e ∷ [])) ≡ true
every_append [] e h g = and_both g refl
every_append (f ∷ es) e h g =
    let rest = every good_entry es in
    and_both (and_left (good_entry f) rest h) (every_append es e (and_right (good_entry f) rest h) g)

pub or_false : (a b : Bool) → (a || b) ≡ false → (a ≡ false) × (b ≡ false)
or_false true b h = absurd (true≢false h)
or_false false b h = (refl, h)

pub and_false : (a b : Bool) → b ≡ false → (a && b) ≡ false
and_false true b h = h
and_false false b h = refl

-- A number stands among entries and others where it stands among the ones or the others.
pub stands_both : (n : ℕ) (es fs : List Entry) → stands n (es ++ fs) ≡ (stands n es || stands n fs)
stands_both n [] fs = refl
stands_both n (e ∷ es) fs = go (eqb n e.number) (stands_both n es fs)
  where
    go : (b : Bool) → stands n (es ++ fs) ≡ (stands n es || stands n fs) → (b || stands n (es ++ fs)) ≡ ((b || stands n es) || stands n fs)
    go true i = refl
    go false i = i

pub stands_last : (n : ℕ) (es : List Entry) (e : Entry) → stands n (es ++ (e ∷ [])) ≡ (eqb n e.number || stands n es)
stands_last n es e = stands_both n es (e ∷ []) ∙ go (stands n es) (eqb n e.number)
  where
    go : (a b : Bool) → (a || (b || false)) ≡ (b || a)
    go true true = refl
    go true false = refl
    go false true = refl
    go false false = refl

-- It is no number that does not stand there.
pub stands_not : (n : ℕ) (fs : List Entry) (e : Entry) (gs : List Entry) → stands n (fs ++ (e ∷ gs)) ≡ false → eqb n e.number ≡ false
stands_not n fs e gs h =
    (or_false (eqb n e.number) (stands n gs) (or_false (stands n fs) (stands n (e ∷ gs)) (sym (stands_both n fs (e ∷ gs)) ∙ h)).1).0

pub once_append : (es : List Entry) (e : Entry) → once es ≡ true → stands e.number es ≡ false → once (es ++ (e ∷ [])) ≡ true
once_append [] e h g = refl
once_append (f ∷ es) e h g =
    let k = or_false (eqb e.number f.number) (stands e.number es) g in
    let o = not-true (stands f.number es) (and_left (not (stands f.number es)) (once es) h) in
    let d = eqb_sym f.number e.number ∙ k.0 in
    and_both (ap not (stands_last f.number es e ∙ ap (λ (b : Bool). b || stands f.number es) d ∙ o))
    (once_append es e (and_right (not (stands f.number es)) (once es) h) k.1)

every_without : (n : ℕ) (es : List Entry) → every good_entry es ≡ true → every good_entry (without n es) ≡ true
every_without n [] h = refl
every_without n (e ∷ es) h = go (eqb n e.number) (every_without n es (and_right (good_entry e) (every good_entry es) h))
  where
    go : (b : Bool) → every good_entry (without n es) ≡ true → every good_entry (cond b (without n es) (e ∷ without n es)) ≡ true
    go true i = i
    go false i = and_both (and_left (good_entry e) (every good_entry es) h) i

stands_without : (m n : ℕ) (es : List Entry) → stands m es ≡ false → stands m (without n es) ≡ false
stands_without m n [] h = refl
stands_without m n (e ∷ es) h =
    let k = or_false (eqb m e.number) (stands m es) h in
    go (eqb n e.number) k.0 (stands_without m n es k.1)
  where
    go : (b : Bool) → eqb m e.number ≡ false → stands m (without n es) ≡ false
        → stands m (cond b (without n es) (e ∷ without n es)) ≡ false
    go true d i = i
    go false d i = ap (λ (x : Bool). x || stands m (without n es)) d ∙ i

once_without : (n : ℕ) (es : List Entry) → once es ≡ true → once (without n es) ≡ true
once_without n [] h = refl
once_without n (e ∷ es) h = go (eqb n e.number) (once_without n es (and_right (not (stands e.number es)) (once es) h))
  where
    go : (b : Bool) → once (without n es) ≡ true → once (cond b (without n es) (e ∷ without n es)) ≡ true
    go true i = i
    go false i =
        let o = not-true (stands e.number es) (and_left (not (stands e.number es)) (once es) h) in
        and_both (ap not (stands_without e.number n es o)) i

pub used_without : (n : ℕ) (es : List Entry) → used (without n es) ≤ used es
used_without n [] = omega arith
used_without n (e ∷ es) = go (eqb n e.number) (used_without n es)
  where
    go : (b : Bool) → used (without n es) ≤ used es → used (cond b (without n es) (e ∷ without n es)) ≤ size e + used es
    go true i = omega arith
    go false i = omega arith

pub fitting_append : (n : ℕ) (es : List Entry) (e : Entry) → Fitting n es → good_entry e ≡ true → stands e.number es ≡ false
    → room_for n es e ≡ true → Fitting n (es ++ (e ∷ []))
fitting_append n es e f g s r =
    let each = good_each es f.is_good in
    let single = good_once es f.is_good in
    let room = leb-true (size e) (n - used es) r in
    let u = used_append es e in
    let small = f.fits in
    record { is_good = and_both (every_append es e each g) (once_append es e single s); fits = omega arith }

pub fitting_without : (n number : ℕ) (es : List Entry) → Fitting n es → Fitting n (without number es)
fitting_without n number es f =
    let each = good_each es f.is_good in
    let single = good_once es f.is_good in
    let u = used_without number es in
    let small = f.fits in
    record { is_good = and_both (every_without number es each) (once_without number es single); fits = omega arith }

-- What is read for either use is good to store.
pub read_good : (number purpose : ℕ) (text : List ℕ) (p : Posology) → is_number number ≡ true → read (in_greatest_room purpose) text ≡ R.taken p
    → good_entry (entry number p) ≡ true
read_good number purpose text p i e =
    let a = accepted_spells (in_greatest_room purpose) text p e in
    let n = number_parts number i in
    parts_good (entry number p) (record { least = n.0; most = n.1; is_valid = valid_for_both purpose p a.1; fits = a.3 })

put_keeps : {n : ℕ} {es : List Entry} {number purpose : ℕ} {text : List ℕ} {o : Outcome (List Entry)} → Put n es number purpose text o
    → Fitting n es → Fitting n o.state
put_keeps (no_number i) f = f
put_keeps (there i s) f = f
put_keeps (unread i s e) f = f
put_keeps (no_room i s e r) f = f
put_keeps {n} {es} {number} {purpose} {text} (laid {p = p} i s e r) f =
    fitting_append n es (entry number p) f (read_good number purpose text p i e) s r

remove_keeps : {n number : ℕ} {es : List Entry} {o : Outcome (List Entry)} → Remove es number o → Fitting n es → Fitting n o.state
remove_keeps (not_number i) f = f
remove_keeps (not_there i s) f = f
remove_keeps {n} {number} {es} (taken_out i s) f = fitting_without n number es f

pub call_keeps : (n : ℕ) (c : Call) (es : List Entry) → Fitting n es → Fitting n (on_list n c es).state
unfolding on_list
call_keeps n (put number purpose text) es f = put_keeps (put_ends n es number purpose text) f
call_keeps n (fetch number room) es f = f
call_keeps n (remove number) es f = remove_keeps (remove_ends es number) f
call_keeps n (at position) es f = f

-- A refusal leaves the list.
put_refused : {n : ℕ} {es : List Entry} {number purpose : ℕ} {text : List ℕ} {o : Outcome (List Entry)} {m place : ℕ}
    → Put n es number purpose text o → o.answer ≡ refused m place → o.state ≡ es
put_refused (no_number i) h = refl
put_refused (there i s) h = refl
put_refused (unread i s e) h = refl
put_refused (no_room i s e r) h = refl
put_refused (laid i s e r) h = never (cc h)

remove_refused : {number : ℕ} {es : List Entry} {o : Outcome (List Entry)} {m place : ℕ} → Remove es number o → o.answer ≡ refused m place
    → o.state ≡ es
remove_refused (not_number i) h = refl
remove_refused (not_there i s) h = refl
remove_refused (taken_out i s) h = never (cc h)

pub call_refused : (n : ℕ) (c : Call) (es : List Entry) (m place : ℕ) → (on_list n c es).answer ≡ refused m place → (on_list n c es).state ≡ es
unfolding on_list
call_refused n (put number purpose text) es m place h = put_refused (put_ends n es number purpose text) h
call_refused n (fetch number room) es m place h = refl
call_refused n (remove number) es m place h = remove_refused (remove_ends es number) h
call_refused n (at position) es m place h = refl
