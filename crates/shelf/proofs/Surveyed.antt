-- What a survey says of the area: 20, 21, or a shelf with the number asked for on it or not.
use mathlib.Core.Path.{◌≡◌, refl, ap, sym, ◌∙◌}
use mathlib.Core.List.{List, [], ◌∷◌, ◌++◌}
use mathlib.Core.Bool.{Bool, true, false, not, cond, ◌||◌}
use mathlib.Core.Option.{Option, none, some}
use Prim.Native.Nat.{ℕ, ◌+◌, ◌≤◌}
use native.Mathlib.Omega.{arith}
use lib.Dec.{eqb}
use lib.ListN.{length}
use borrow.Author.Tests.{eq-eqb, not-true}
use Rattle.std.specs.Prelude.{Option as Maybe, Some, None, ok_or, Result, Ok, Err, IsErrAnd}
use Rattle.std.proofs.lemmas.Result.{err_from_is_err_and}
use Rattle.std.specs.Option.{is_some}
use Rattle.json_grammar.proofs.Truth.{and_left, and_right, cond_true, cond_false, never}
use Rattle.document.proofs.Same.{eqb_sym}
use Rattle.document.specs.Refusals.{refusal}
use Rattle.document.specs.declared.refusal.Reason.TheVariants.{NoShelf, NoNumber, NumberMissing}
use Rattle.document.specs.declared.refusal.Refusal.{Refusal}
use Rattle.shelf_list.specs.Shelf.{Entry, entry, is_number, size, used, stands, once, Holds, entries_in}
use Rattle.shelf_list.specs.Calls.{under}
use Rattle.shelf_list.proofs.Records.{good_once}
use Rattle.shelf_list.proofs.Areas.{area_of_list}
use Rattle.shelf_list.proofs.Lists.{stands_not, used_both}
use Rattle.shelf_list.proofs.Stored.{stands_there}
use Rattle.shelf.specs.Survey.{place, place_from, place_under, survey_of, surveyed, asked, record_in, record_of}
use Rattle.shelf.specs.declared.survey.Place.{Place}
use Rattle.shelf.specs.declared.survey.Survey.{Survey}

-- What the exit of a `?` returns.
pub raised : {T : Type 0} (r : Result T Refusal) {e : Refusal} → IsErrAnd r (λ d. d ≡ e) → r ≡ Err e
raised r h = let p = err_from_is_err_and r h in rw (p.1, p.2)

-- ---- an area and what was told of it
pub record Shelved (a : List ℕ) (number position : ℕ) (s : Survey) : Type 0 where
  pub entries : List Entry
  pub holds : Holds a entries
  pub numbered : is_number number ≡ true
  pub is : s ≡ survey_of number position entries

pub data Asked (a : List ℕ) (number position : ℕ) : Result Survey Refusal → Type 0 where
  no_shelf : entries_in a ≡ none → Asked a number position (Err (refusal NoShelf 0))
  no_number : {es : List Entry} → Holds a es → is_number number ≡ false → Asked a number position (Err (refusal NoNumber 0))
  shelved : {s : Survey} → Shelved a number position s → Asked a number position (Ok s)

asks : (a : List ℕ) (number position : ℕ) → Asked a number position (asked (surveyed number position (entries_in a)) number)
asks a number position = go (entries_in a) refl
  where
    on_shelf : (es : List Entry) → Holds a es → (b : Bool) → is_number number ≡ b
        → Asked a number position (cond b (Ok (survey_of number position es)) (Err (refusal NoNumber 0)))
    on_shelf es h true i = shelved (record { entries = es; holds = h; numbered = i; is = refl })
    on_shelf es h false i = no_number h i

    go : (o : Option (List Entry)) → entries_in a ≡ o → Asked a number position (asked (surveyed number position o) number)
    go none e = no_shelf e
    go (some es) e = on_shelf es (area_of_list a es e) (is_number number) refl

pub asked_of : {a : List ℕ} {number position : ℕ} {s : Maybe Survey} {r : Result Survey Refusal} → s ≡ surveyed number position (entries_in a)
    → r ≡ asked s number → Asked a number position r
asked_of {a} {number} {position} e f = rw (f, e) (asks a number position)

pub shelf_of : {a : List ℕ} {number position : ℕ} {s : Survey} → Asked a number position (Ok s) → Shelved a number position s
shelf_of {a} {number} {position} {s} h = go h refl
  where
    go : {r : Result Survey Refusal} → Asked a number position r → r ≡ Ok s → Shelved a number position s
    go (no_shelf e) k = never (cc k)
    go (no_number h i) k = never (cc k)
    go (shelved {s = t} h) k = let e : t ≡ s = cc k in rw (← e) h

-- ---- the number asked for
pub stands_placed : (i n : ℕ) (es : List Entry) → stands n es ≡ is_some (place_from i n es)
stands_placed i n [] = refl
stands_placed i n (e ∷ es) = go (eqb n e.number) (stands_placed (i + size e) n es)
  where
    go : (b : Bool) → stands n es ≡ is_some (place_from (i + size e) n es)
        → (b || stands n es) ≡ is_some (cond b (Some (place i (size e))) (place_from (i + size e) n es))
    go true k = refl
    go false k = k

-- Where it stands, between those in front of it and those behind.
place_there : (i : ℕ) (fs : List Entry) (e : Entry) (gs : List Entry) → once (fs ++ (e ∷ gs)) ≡ true
    → place_from i e.number (fs ++ (e ∷ gs)) ≡ Some (place (i + used fs) (size e))
place_there i [] e gs o =
    let z : i ≡ i + 0 = omega arith in
    cond_true (eqb e.number e.number) (Some (place i (size e))) (place_from (i + size e) e.number gs) (eq-eqb e.number e.number refl)
    ∙ ap (λ (m : ℕ). Some (place m (size e))) z
place_there i (f ∷ fs) e gs o =
    let es = fs ++ (e ∷ gs) in
    let no = not-true (stands f.number es) (and_left (not (stands f.number es)) (once es) o) in
    let d = eqb_sym e.number f.number ∙ stands_not f.number fs e gs no in
    let m : i + size f + used fs ≡ i + (size f + used fs) = omega arith in
    cond_false (eqb e.number f.number) (Some (place i (size f))) (place_from (i + size f) e.number es) d
    ∙ place_there (i + size f) fs e gs (and_right (not (stands f.number es)) (once es) o)
    ∙ ap (λ (k : ℕ). Some (place k (size e))) m

-- The record of the number asked for.
pub record There (a : List ℕ) (number : ℕ) (p : Place) : Type 0 where
  pub ahead : List Entry
  pub it : Entry
  pub behind : List Entry
  pub same_number : it.number ≡ number
  pub numbered : is_number number ≡ true
  pub standing : stands number (ahead ++ (it ∷ behind)) ≡ true
  pub under_it : under number (ahead ++ (it ∷ behind)) ≡ some it.posology
  pub holds : Holds a (ahead ++ (it ∷ behind))
  pub from_is : p.from ≡ used ahead
  pub size_is : p.size ≡ size it

pub data Sought (a : List ℕ) (number : ℕ) : Result Place Refusal → Type 0 where
  in_no_shelf : entries_in a ≡ none → Sought a number (Err (refusal NoShelf 0))
  of_no_number : {es : List Entry} → Holds a es → is_number number ≡ false → Sought a number (Err (refusal NoNumber 0))
  missing : {es : List Entry} → Holds a es → is_number number ≡ true → stands number es ≡ false → Sought a number (Err (refusal NumberMissing 0))
  there : {p : Place} → There a number p → Sought a number (Ok p)

is_there : (a : List ℕ) (es : List Entry) (number : ℕ) (p : Place) → Holds a es → is_number number ≡ true → place_under number es ≡ Some p
    → There a number p
is_there a es number p h i q =
    let s : stands number es ≡ true = stands_placed 0 number es ∙ ap is_some q in
    let w = stands_there number es s in
    let e = entry number w.it in
    let k : Holds a (w.ahead ++ (e ∷ w.behind)) = rw (sym w.is) h in
    let z : 0 + used w.ahead ≡ used w.ahead = omega arith in
    let f : ◌≡◌ {A = Maybe Place} (Some p) (Some (place (0 + used w.ahead) (size e))) =
    sym q ∙ ap (place_under number) w.is ∙ place_there 0 w.ahead e w.behind (good_once (w.ahead ++ (e ∷ w.behind)) k.is_good) in
    record {
      ahead = w.ahead;
      it = e;
      behind = w.behind;
      same_number = refl;
      numbered = i;
      standing = rw (sym w.is) s;
      under_it = rw (sym w.is) w.under_it;
      holds = k;
      from_is = cc (f, z);
      size_is = cc f;
    }

pub seeks : (a : List ℕ) (number : ℕ) → Sought a number (record_of a number)
unfolding record_of
seeks a number = go (entries_in a) refl
  where
    found_or : (es : List Entry) → Holds a es → is_number number ≡ true → (p : Maybe Place) → place_under number es ≡ p
        → Sought a number (ok_or p (refusal NumberMissing 0))
    found_or es h i None e = missing h i (stands_placed 0 number es ∙ ap is_some e)
    found_or es h i (Some p) e = there (is_there a es number p h i e)

    on_shelf : (es : List Entry) → Holds a es → (b : Bool) → is_number number ≡ b
        → Sought a number (cond b (ok_or (place_under number es) (refusal NumberMissing 0)) (Err (refusal NoNumber 0)))
    on_shelf es h true i = found_or es h i (place_under number es) refl
    on_shelf es h false i = of_no_number h i

    go : (o : Option (List Entry)) → entries_in a ≡ o → Sought a number (record_in o number)
    go none e = in_no_shelf e
    go (some es) e = on_shelf es (area_of_list a es e) (is_number number) refl

pub sought : {a : List ℕ} {number : ℕ} {r : Result Place Refusal} → r ≡ record_of a number → Sought a number r
sought {a} {number} e = rw e (seeks a number)

pub place_of : {a : List ℕ} {number : ℕ} {p : Place} → Sought a number (Ok p) → There a number p
place_of {a} {number} {p} h = go h refl
  where
    go : {r : Result Place Refusal} → Sought a number r → r ≡ Ok p → There a number p
    go (in_no_shelf e) k = never (cc k)
    go (of_no_number h i) k = never (cc k)
    go (missing h i s) k = never (cc k)
    go (there {p = q} t) k = let e : q ≡ p = cc k in rw (← e) t

-- It lies in the area.
pub there_inside : {a : List ℕ} {number : ℕ} {p : Place} → There a number p → (6 ≤ p.size) × (p.from + p.size ≤ length a) × (length a ≤ 65535)
there_inside t =
    let p = t.from_is in
    let b = t.size_is in
    let u = used_both t.ahead (t.it ∷ t.behind) in
    let f = t.holds.fits in
    let m = t.holds.small in
    (omega arith, omega arith, omega arith)

pub record_inside : (a : List ℕ) (number : ℕ) (p : Place) → Ok p ≡ record_of a number → (6 ≤ p.size) × (p.from + p.size ≤ length a) × (length a ≤ 65535)
record_inside a number p e = there_inside (place_of (sought e))

-- ---- as the code looks for it
module _ (a : List ℕ) (number : ℕ) where
  pub asked_first : {why : Refusal} → Err why ≡ asked (surveyed number 0 (entries_in a)) number → Err why ≡ record_of a number
  unfolding record_of
  asked_first {why} = go (entries_in a)
    where
      numbered : (es : List Entry) (b : Bool) → Err why ≡ cond b (Ok (survey_of number 0 es)) (Err (refusal NoNumber 0))
          → Err why ≡ cond b (ok_or (place_under number es) (refusal NumberMissing 0)) (Err (refusal NoNumber 0))
      numbered es true e = never (cc e)
      numbered es false e = cc e

      go : (o : Option (List Entry)) → Err why ≡ asked (surveyed number 0 o) number → Err why ≡ record_in o number
      go none e = cc e
      go (some es) e = numbered es (is_number number) e

  pub then_found : {s : Survey} → Ok s ≡ asked (surveyed number 0 (entries_in a)) number → ok_or s.found (refusal NumberMissing 0) ≡ record_of a number
  unfolding record_of
  then_found {s} = go (entries_in a)
    where
      numbered : (es : List Entry) (b : Bool) → Ok s ≡ cond b (Ok (survey_of number 0 es)) (Err (refusal NoNumber 0))
          → ok_or s.found (refusal NumberMissing 0) ≡ cond b (ok_or (place_under number es) (refusal NumberMissing 0)) (Err (refusal NoNumber 0))
      numbered es true e = let t : s ≡ survey_of number 0 es = cc e in ap (λ (x : Survey). ok_or x.found (refusal NumberMissing 0)) t
      numbered es false e = never (cc e)

      go : (o : Option (List Entry)) → Ok s ≡ asked (surveyed number 0 o) number → ok_or s.found (refusal NumberMissing 0) ≡ record_in o number
      go none e = never (cc e)
      go (some es) e = numbered es (is_number number) e
