-- The area of a good list holds that list, and what an area holds lays it out.
use mathlib.Core.Path.{◌≡◌, refl, ap, sym, subst, ◌∙◌}
use mathlib.Core.List.{List, [], ◌∷◌, ◌++◌, append-nil}
use mathlib.Core.Bool.{Bool, true, false, cond}
use mathlib.Core.Option.{Option, none, some}
use Prim.Native.Nat.{ℕ, zero, suc, ◌+◌, ◌-◌, ◌≤◌}
use native.Mathlib.Omega.{arith}
use lib.Dec.{eqb, leb}
use lib.ListN.{length, take, drop, replicate, length-replicate}
use borrow.Author.Tests.{leb-true, le-leb, eqb-true}
use Rattle.json_grammar.specs.Rows.{choose}
use Rattle.json_grammar.proofs.Truth.{and_both, and_left, and_right, choose_true, cond_true, never}
use Rattle.document.specs.Posology.{Posology}
use Rattle.document.specs.Valid.{every}
use Rattle.shelf_list.specs.Shelf.{area_at_most, Entry, entry, record_then, used, records_then, laid_out, once, good_entry, good, Holds, plain_of, number_at, begins, is_zeros, and_entry, with_text, records, if_once, entries_in}
use Rattle.shelf_list.proofs.Records.{good_each, good_once, good_parts, number_back, record_length, record_begins, record_text_lem, record_behind, Here, record_here}

pub records_length : (es : List Entry) (k : List ℕ) → every good_entry es ≡ true → length (records_then es k) ≡ used es + length k
records_length [] k h = omega arith
records_length (e ∷ es) k h =
    let a = record_length e (records_then es k) (good_parts e (and_left (good_entry e) (every good_entry es) h)) in
    let b = records_length es k (and_right (good_entry e) (every good_entry es) h) in
    omega arith

pub few : (es : List Entry) → length es ≤ used es
few [] = omega arith
few (e ∷ es) = let a = few es in omega arith

-- Entries in front of what was found behind them.
abbrev pub in_front : List Entry → Option (List Entry) → Option (List Entry)
in_front [] o = o
in_front (e ∷ es) o = and_entry e.number e.posology (in_front es o)

pub in_front_some : (es fs : List Entry) → in_front es (some fs) ≡ some (es ++ fs)
in_front_some [] fs = refl
in_front_some (e ∷ es) fs = ap (and_entry e.number e.posology) (in_front_some es fs)

pub in_front_none : (es : List Entry) → in_front es none ≡ none
in_front_none [] = refl
in_front_none (e ∷ es) = ap (and_entry e.number e.posology) (in_front_none es)

no_zeros : (e : Entry) (k : List ℕ) → is_zeros (record_then e k) ≡ false
unfolding record_then
no_zeros e k = refl

-- A head's number and text, and the records behind them.
abbrev pub headed : ℕ → List ℕ → Option (List Entry)
headed f a = with_text (number_at a 2) (plain_of (take (number_at a 4) (drop 6 a))) (λ _. records f (drop (6 + number_at a 4) a))

-- Past one record.
record_on : (e : Entry) (k : List ℕ) (f : ℕ) → good_entry e ≡ true
    → records (suc f) (record_then e k) ≡ and_entry e.number e.posology (records f k)
unfolding records
record_on e k f h =
    let g = good_parts e h in
    let a = record_then e k in
    let more : Unit {0} → Option (List Entry) = λ _. records f (drop (6 + number_at a 4) a) in
    ap (λ (b : Bool). choose b (λ _. some []) (λ _. choose (begins a) (λ _. headed f a) (λ _. none))) (no_zeros e k)
    ∙ choose_true (begins a) (λ _. headed f a) (λ _. none) (record_begins e k g)
    ∙ ap (λ (o : Option Posology). with_text (number_at a 2) o more) (record_text_lem e k g)
    ∙ ap (λ (n : ℕ). and_entry n e.posology (more tt)) (number_back e k g)
    ∙ ap (λ (s : List ℕ). and_entry e.number e.posology (records f s)) (record_behind e k g)

-- Past good entries: what follows them decides.
pub records_on : (es : List Entry) (k : List ℕ) (n f : ℕ) → n ≡ length es + f → every good_entry es ≡ true
    → records n (records_then es k) ≡ in_front es (records f k)
records_on [] k n f e h = ap (λ (m : ℕ). records m k) (e ∙ omega arith)
records_on (e ∷ es) k zero f i h = absurd (omega arith)
records_on (e ∷ es) k (suc n) f i h =
    record_on e (records_then es k) n (and_left (good_entry e) (every good_entry es) h)
    ∙ ap (and_entry e.number e.posology) (records_on es k n f (omega arith) (and_right (good_entry e) (every good_entry es) h))

pub zeros_zeros : (m : ℕ) → is_zeros (replicate m 0) ≡ true
zeros_zeros zero = refl
zeros_zeros (suc m) = zeros_zeros m

pub records_zeros : (f : ℕ) (a : List ℕ) → is_zeros a ≡ true → records (suc f) a ≡ some []
unfolding records
records_zeros f a z = choose_true (is_zeros a) _ _ z

pub laid_length : (es : List Entry) (n : ℕ) → every good_entry es ≡ true → used es ≤ n → length (laid_out es n) ≡ n
laid_length es n h fits =
    let a = records_length es (replicate (n - used es) 0) h in
    let b = length-replicate {A = ℕ} (n - used es) 0 in
    omega arith

-- The area of a good list that fits holds that list.
pub laid_back : (es : List Entry) (n : ℕ) → good es ≡ true → used es ≤ n → n ≤ area_at_most → entries_in (laid_out es n) ≡ some es
unfolding entries_in
laid_back es n g fits small =
    let each = good_each es g in
    let l = laid_length es n each fits in
    let c = few es in
    let m = length (laid_out es n) in
    let f = n - length es in
    let found : records (suc m) (laid_out es n) ≡ some (es ++ []) =
    records_on es (replicate (n - used es) 0) (suc m) (suc f) (omega arith) each
    ∙ ap (in_front es) (records_zeros f (replicate (n - used es) 0) (zeros_zeros (n - used es)))
    ∙ in_front_some es [] in
    choose_true (leb m area_at_most) _ _ (le-leb m area_at_most (omega arith))
    ∙ ap if_once (found ∙ ap {B = Option (List Entry)} some (append-nil es))
    ∙ cond_true (once es) (some es) none (good_once es g)

-- What lies in an area: records of good entries and zeros.
pub record Laid (a : List ℕ) (es : List Entry) : Type 0 where
  pub zeros : ℕ
  pub bytes : records_then es (replicate zeros 0) ≡ a
  pub each : every good_entry es ≡ true

zeros_are : (a : List ℕ) → is_zeros a ≡ true → replicate (length a) 0 ≡ a
zeros_are [] z = refl
zeros_are (b ∷ a) z =
    let e : b ≡ 0 = eqb-true b 0 (and_left (eqb b 0) (is_zeros a) z) in
    let f = zeros_are a (and_right (eqb b 0) (is_zeros a) z) in
    cc

laid_nothing : (a : List ℕ) (es : List Entry) → is_zeros a ≡ true → some [] ≡ some es → Laid a es
laid_nothing a es z e =
    let i : [] ≡ es = cc in
    subst (λ (fs : List Entry). Laid a fs) i (record { zeros = length a; bytes = zeros_are a z; each = refl })

laid_more : (a : List ℕ) (p : Posology) (fs : List Entry) → Here a p → Laid (drop (6 + number_at a 4) a) fs
    → Laid a (entry (number_at a 2) p ∷ fs)
laid_more a p fs h l =
    record {
      zeros = l.zeros;
      bytes = ap (record_then (entry (number_at a 2) p)) l.bytes ∙ h.bytes;
      each = and_both h.is_good l.each;
    }

-- The records from here on, where those behind the first are known to lie there.
abbrev Onward : ℕ → List ℕ → Type 0
Onward f a = (fs : List Entry) → records f a ≡ some fs → Laid a fs

module _ (f : ℕ) (a : List ℕ) (es : List Entry) (onward : Onward f (drop (6 + number_at a 4) a)) where
  behind : (p : Posology) → Here a p → (o : Option (List Entry)) → records f (drop (6 + number_at a 4) a) ≡ o
      → and_entry (number_at a 2) p o ≡ some es → Laid a es
  behind p here none r h = never (cc)
  behind p here (some fs) r h =
      let i : entry (number_at a 2) p ∷ fs ≡ es = cc in
      subst (λ (gs : List Entry). Laid a gs) i (laid_more a p fs here (onward fs r))

  with_text_lem : begins a ≡ true → (o : Option Posology) → plain_of (take (number_at a 4) (drop 6 a)) ≡ o
      → with_text (number_at a 2) o (λ _. records f (drop (6 + number_at a 4) a)) ≡ some es → Laid a es
  with_text_lem b none t h = never (cc)
  with_text_lem b (some p) t h = behind p (record_here a p b t) (records f (drop (6 + number_at a 4) a)) refl h

  a_record : (b : Bool) → begins a ≡ b → choose b (λ _. headed f a) (λ _. none) ≡ some es → Laid a es
  a_record true b h = with_text_lem b (plain_of (take (number_at a 4) (drop 6 a))) refl h
  a_record false b h = never (cc)

  zeros_or_record : (b : Bool) → is_zeros a ≡ b
      → choose b (λ _. some []) (λ _. choose (begins a) (λ _. headed f a) (λ _. none)) ≡ some es → Laid a es
  zeros_or_record true z h = laid_nothing a es z h
  zeros_or_record false z h = a_record (begins a) refl h

pub records_laid : (f : ℕ) (a : List ℕ) (es : List Entry) → records f a ≡ some es → Laid a es
unfolding records
records_laid zero a es e = never (cc)
records_laid (suc f) a es e = zeros_or_record f a es (λ fs. records_laid f (drop (6 + number_at a 4) a) fs) (is_zeros a) refl e

laid_holds : (a : List ℕ) (es : List Entry) → length a ≤ area_at_most → once es ≡ true → Laid a es → Holds a es
laid_holds a es small o l =
    let n = records_length es (replicate l.zeros 0) l.each in
    let m = length-replicate {A = ℕ} l.zeros 0 in
    let b : length (records_then es (replicate l.zeros 0)) ≡ length a = ap length l.bytes in
    let left_over : length a - used es ≡ l.zeros = omega arith in
    record {
      small = small;
      is_good = and_both l.each o;
      fits = omega arith;
      bytes = ap (λ (k : ℕ). records_then es (replicate k 0)) left_over ∙ l.bytes;
    }

once_holds : (a : List ℕ) (es : List Entry) → length a ≤ area_at_most → (o : Option (List Entry)) → records (suc (length a)) a ≡ o
    → if_once o ≡ some es → Holds a es
once_holds a es small none r h = never (cc)
once_holds a es small (some fs) r h = go (once fs) refl h
  where
    go : (b : Bool) → once fs ≡ b → cond b (some fs) none ≡ some es → Holds a es
    go true o e =
        let i : fs ≡ es = cc in
        subst (λ (gs : List Entry). Holds a gs) i (laid_holds a fs small o (records_laid (suc (length a)) a fs r))
    go false o e = never (cc)

-- What an area holds lays out that area.
pub area_of_list : (a : List ℕ) (es : List Entry) → entries_in a ≡ some es → Holds a es
unfolding entries_in
area_of_list a es e = go (leb (length a) area_at_most) refl e
  where
    go : (b : Bool) → leb (length a) area_at_most ≡ b → choose b (λ _. if_once (records (suc (length a)) a)) (λ _. none) ≡ some es → Holds a es
    go true l h = once_holds a es (leb-true (length a) area_at_most l) (records (suc (length a)) a) refl h
    go false l h = never (cc)

pub holds_back : (a : List ℕ) (es : List Entry) → Holds a es → entries_in a ≡ some es
holds_back a es s = ap entries_in (sym s.bytes) ∙ laid_back es (length a) s.is_good s.fits s.small
