-- Going over an area once, from record to record: what the code's loop knows, and what each way out of it says.
use mathlib.Core.Path.{◌≡◌, refl, ap, sym, ◌∙◌}
use mathlib.Core.List.{List, [], ◌∷◌, ◌++◌, append-nil}
use mathlib.Core.Bool.{Bool, true, false, not, cond, ◌&&◌, ◌||◌, true≢false}
use mathlib.Core.Option.{Option, none, some}
use Prim.Native.Nat.{ℕ, suc, ◌+◌, ◌-◌, ◌≤◌}
use native.Mathlib.Omega.{arith}
use lib.Dec.{leb}
use lib.ListN.{length, take, drop}
use lib.Seq.{drop-drop}
use borrow.Author.Tests.{le-leb}
use Rattle.json_grammar.specs.Rows.{choose}
use Rattle.json_grammar.proofs.Truth.{choose_true, cond_true}
use Rattle.document.specs.Posology.{Posology}
use Rattle.document.specs.Valid.{every}
use Rattle.shelf_list.specs.Shelf.{area_at_most, Entry, entry, record_then, used, records_then, stands, once, good_entry, plain_of, number_at, begins, is_zeros, with_text, records, if_once, entries_in}
use Rattle.shelf_list.proofs.Records.{record_here, record_size}
use Rattle.shelf_list.proofs.Areas.{few, headed, in_front, in_front_some, in_front_none, records_length, records_on, records_zeros}
use Rattle.shelf_list.proofs.Lists.{used_append, every_append, and_false, stands_both}

pub records_append : (es fs : List Entry) (k : List ℕ) → records_then (es ++ fs) k ≡ records_then es (records_then fs k)
records_append [] fs k = refl
records_append (e ∷ es) fs k = ap (record_then e) (records_append es fs k)

-- The entries es stand in front of place i.
pub record Walked (a : List ℕ) (i : ℕ) (es : List Entry) : Type 0 where
  pub place : used es ≡ i
  pub bytes : records_then es (drop i a) ≡ a
  pub each : every good_entry es ≡ true

pub walk_starts : (a : List ℕ) → Walked a 0 []
walk_starts a = record { place = refl; bytes = refl; each = refl }

-- A record at i: the walk goes on behind it.
pub walk_goes_on : (a : List ℕ) (i : ℕ) (es : List Entry) (p : Posology) → Walked a i es → begins (drop i a) ≡ true
    → plain_of (take (number_at (drop i a) 4) (drop 6 (drop i a))) ≡ some p
    → Walked a (i + (6 + number_at (drop i a) 4)) (es ++ (entry (number_at (drop i a) 2) p ∷ []))
walk_goes_on a i es p w b t =
    let h = record_here (drop i a) p b t in
    let e = entry (number_at (drop i a) 2) p in
    let n = 6 + number_at (drop i a) 4 in
    let u = used_append es e in
    let s = record_size (drop i a) p b t in
    let place = w.place in
    record {
      place = omega arith;
      bytes =
          ap (records_then (es ++ (e ∷ []))) (sym (drop-drop n i a))
          ∙ records_append es (e ∷ []) (drop n (drop i a))
          ∙ ap (records_then es) h.bytes
          ∙ w.bytes;
      each = every_append es e w.each h.is_good;
    }

-- What the area holds, by what follows the entries that were passed.
walked_records : (a : List ℕ) (i : ℕ) (es : List Entry) → Walked a i es
    → records (suc (length a)) a ≡ in_front es (records (suc (length a - length es)) (drop i a))
walked_records a i es w =
    let l : length (records_then es (drop i a)) ≡ length a = ap length w.bytes in
    let m = records_length es (drop i a) w.each in
    let c = few es in
    ap (records (suc (length a))) (sym w.bytes)
    ∙ records_on es (drop i a) (suc (length a)) (suc (length a - length es)) (omega arith) w.each

found : (a : List ℕ) (o : Option (List Entry)) → length a ≤ area_at_most → records (suc (length a)) a ≡ o → entries_in a ≡ if_once o
unfolding entries_in
found a o small e = choose_true (leb (length a) area_at_most) _ _ (le-leb (length a) area_at_most small) ∙ ap if_once e

-- Zeros from i on: the area is a shelf, if no number stands twice.
pub walk_ends : (a : List ℕ) (i : ℕ) (es : List Entry) → length a ≤ area_at_most → Walked a i es → is_zeros (drop i a) ≡ true → once es ≡ true
    → entries_in a ≡ some es
walk_ends a i es small w z o =
    let r =
    walked_records a i es w
    ∙ ap (in_front es) (records_zeros (length a - length es) (drop i a) z)
    ∙ in_front_some es []
    ∙ ap {B = Option (List Entry)} some (append-nil es) in
    found a (some es) small r ∙ cond_true (once es) (some es) none o

-- No zeros and no record: no shelf.
pub walk_fails : (a : List ℕ) (i : ℕ) (es : List Entry) → Walked a i es → records (suc (length a - length es)) (drop i a) ≡ none
    → entries_in a ≡ none
unfolding entries_in
walk_fails a i es w h =
    let r = walked_records a i es w ∙ ap (in_front es) h ∙ in_front_none es in
    go (leb (length a) area_at_most) (ap if_once r)
  where
    go : (b : Bool) → if_once (records (suc (length a)) a) ≡ none → choose b (λ _. if_once (records (suc (length a)) a)) (λ _. none) ≡ none
    go true k = k
    go false k = refl

no_record : (f : ℕ) (a : List ℕ) → is_zeros a ≡ false → begins a ≡ false → records (suc f) a ≡ none
unfolding records
no_record f a z b =
    ap (λ (t : Bool). choose t (λ _. some []) (λ _. choose (begins a) (λ _. headed f a) (λ _. none))) z
    ∙ ap (λ (t : Bool). choose t (λ _. headed f a) (λ _. none)) b

no_plain : (f : ℕ) (a : List ℕ) → is_zeros a ≡ false → plain_of (take (number_at a 4) (drop 6 a)) ≡ none → records (suc f) a ≡ none
unfolding records
no_plain f a z t =
    let more : Option Posology → Option (List Entry) = λ o. with_text (number_at a 2) o (λ _. records f (drop (6 + number_at a 4) a)) in
    ap (λ (b : Bool). choose b (λ _. some []) (λ _. choose (begins a) (λ _. headed f a) (λ _. none))) z
    ∙ ap (λ (o : Option Posology). choose (begins a) (λ _. more o) (λ _. none)) t
    ∙ go (begins a)
  where
    go : (b : Bool) → ◌≡◌ {A = Option (List Entry)} (choose b (λ _. none) (λ _. none)) none
    go true = refl
    go false = refl

pub walk_meets_no_record : (a : List ℕ) (i : ℕ) (es : List Entry) → Walked a i es → is_zeros (drop i a) ≡ false → begins (drop i a) ≡ false
    → entries_in a ≡ none
walk_meets_no_record a i es w z b = walk_fails a i es w (no_record (length a - length es) (drop i a) z b)

pub walk_meets_no_plain : (a : List ℕ) (i : ℕ) (es : List Entry) → Walked a i es → is_zeros (drop i a) ≡ false
    → plain_of (take (number_at (drop i a) 4) (drop 6 (drop i a))) ≡ none → entries_in a ≡ none
walk_meets_no_plain a i es w z t = walk_fails a i es w (no_plain (length a - length es) (drop i a) z t)

-- A number twice among the entries passed: no shelf, whatever follows.
stands_in_front : (n : ℕ) (es fs : List Entry) → stands n es ≡ true → stands n (es ++ fs) ≡ true
stands_in_front n es fs h = stands_both n es fs ∙ ap (λ (b : Bool). b || stands n fs) h

twice_in_front : (es fs : List Entry) → once es ≡ false → once (es ++ fs) ≡ false
twice_in_front [] fs h = absurd (true≢false h)
twice_in_front (e ∷ es) fs h = go (stands e.number es) refl h (twice_in_front es fs)
  where
    go : (b : Bool) → stands e.number es ≡ b → (not b && once es) ≡ false → (once es ≡ false → once (es ++ fs) ≡ false)
        → (not (stands e.number (es ++ fs)) && once (es ++ fs)) ≡ false
    go true s k i = ap (λ (b : Bool). not b && once (es ++ fs)) (stands_in_front e.number es fs s)
    go false s k i = and_false (not (stands e.number (es ++ fs))) (once (es ++ fs)) (i k)

pub walk_meets_number_twice : (a : List ℕ) (i : ℕ) (es : List Entry) → Walked a i es → once es ≡ false → entries_in a ≡ none
unfolding entries_in
walk_meets_number_twice a i es w o = small (leb (length a) area_at_most)
  where
    behind : (r : Option (List Entry)) → if_once (in_front es r) ≡ none
    behind none = ap if_once (in_front_none es)
    behind (some fs) = ap if_once (in_front_some es fs) ∙ ap (λ (b : Bool). cond b (some (es ++ fs)) none) (twice_in_front es fs o)

    small : (b : Bool) → choose b (λ _. if_once (records (suc (length a)) a)) (λ _. none) ≡ none
    small true = ap if_once (walked_records a i es w) ∙ behind (records (suc (length a - length es)) (drop i a))
    small false = refl
