-- The words of records: stores behind stores, and what a visit did from what was done below it.
use Prim.Native.Nat.{ℕ, suc, ◌+◌, ◌*◌, ◌<◌}
use mathlib.Core.Path.{◌≡◌, refl, ap, sym, ◌∙◌, subst}
use mathlib.Core.List.{List, [], ◌∷◌, ◌++◌}
use native.Mathlib.Omega.{arith}
use lib.ListN.{length, set}
use lib.Seq.{sets, set_comm}
use Rattle.document.specs.Visit.{State, Outcome, done}
use Rattle.std.specs.Prelude.{Result, Ok, Err}
use Rattle.document.specs.Words.{width, Words, row}
use Rattle.document.specs.Told.{Tells, Still, GoesOn, more}
use Rattle.document.specs.declared.refusal.Refusal.{Refusal}
use Rattle.document.specs.declared.terms.Terms.{Terms}
use Rattle.document.specs.declared.terms.Used.{Used}
use Rattle.read_dosages.specs.Visiting.{RowsIn, Did, Visited}
use Rattle.read_dosages.specs.Kept.{Ready, Grown, Kept}

-- Stores at two places may be done in either order.
set_before_sets : (ys l : List ℕ) (i j a : ℕ) → i < j → set (sets l j ys) i a ≡ sets (set l i a) j ys
set_before_sets [] l i j a h = refl
set_before_sets (y ∷ ys) l i j a h =
    set_before_sets ys (set l j y) i (suc j) a (omega arith) ∙ ap (λ r. sets r (suc j) ys) (set_comm l j i y a λ e. absurd (omega arith))

pub sets_before : (xs l : List ℕ) (k : ℕ) (ys : List ℕ) → sets (sets l (k + length xs) ys) k xs ≡ sets l k (xs ++ ys)
sets_before [] l k ys = ap (λ n. sets l n ys) (omega arith)
sets_before (x ∷ xs) l k ys =
    ap (λ r. sets r (suc k) xs) (set_before_sets ys l k (k + suc (length xs)) x (omega arith))
    ∙ ap (λ n. sets (sets (set l k x) n ys) (suc k) xs) (omega arith)
    ∙ sets_before xs (set l k x) (suc k) ys

-- A record with none below it.
module _ {A : Type 0} {terms : Terms} {text : List ℕ} {u v : Used} {before : List ℕ} {rows_in : RowsIn A} {o : Outcome A} {after : List ℕ} {s : State} where
  pub leaf_did : (a : A) (w : Words) → o ≡ done a s → Tells terms text v s → rows_in v.text a u.text (row w []) → v.records ≡ u.records + 1
      → after ≡ sets before (width * u.records) (row w []) → Did terms text u before rows_in o v after
  leaf_did a w e t h one stored = record { value = a; state = s; chunk = row w []; outcome = e; tells = t; row = h; words = stored; size = omega arith }

-- A record in front of those below it, which were done before it.
module _ {A B : Type 0} {terms : Terms} {text : List ℕ} {u u' v v' : Used} {before mid after : List ℕ} {below : RowsIn B} {rows_in : RowsIn A} {ob : Outcome B} {o : Outcome A} {s : State} where
  pub above_did : (d : Did terms text u' before below ob v mid) (a : A) (w : Words) → o ≡ done a s → Tells terms text v' s → rows_in v'.text a u.text (row w d.chunk)
      → u'.records ≡ u.records + 1 → v'.records ≡ v.records → after ≡ sets mid (width * u.records) (row w []) → Did terms text u before rows_in o v' after
  above_did d a w e t h one same stored =
      record {
        value = a;
        state = s;
        chunk = row w d.chunk;
        outcome = e;
        tells = t;
        row = h;
        words = stored ∙ ap (λ m. sets m (width * u.records) (row w [])) (d.words ∙ ap (λ n. sets before n d.chunk) (omega arith)) ∙ sets_before (row w []) before (width * u.records) d.chunk;
        size = omega (arith, d.size);
      }

-- How many records are below it.
pub count_below : {B : Type 0} {terms : Terms} {text : List ℕ} {u v : Used} {before mid : List ℕ} {below : RowsIn B} {ob : Outcome B} (d : Did terms text u before below ob v mid) (n : ℕ)
    → length d.chunk ≡ n * width → v.records ≡ u.records + n
count_below d n h = omega (arith, d.size)

-- What is kept where a visit is done.
pub kept_done : {terms : Terms} {least : ℕ} {before after : List ℕ} {u v : Used} → length after ≡ length before → Grown terms least u v → Kept terms least before u (Ok v) after
kept_done s g = record { size = s; grown = g }

-- The same from as many records and text bytes.
pub kept_still : {terms : Terms} {least : ℕ} {before after : List ℕ} {u u' : Used} (r : Result Used Refusal) → Still u u' → Kept terms least before u' r after → Kept terms least before u r after
kept_still (Ok v) s k = record { size = k.size; grown = record { some = omega (arith, k.grown.some, s.records); few = k.grown.few; fits = k.grown.fits } }
kept_still (Err r) s k = record { size = k.size; grown = tt }

pub did_still : {A : Type 0} {terms : Terms} {text : List ℕ} {u u' : Used} {before : List ℕ} {rows_in : RowsIn A} {o : Outcome A} {v : Used} {after : List ℕ}
    → Still u u' → Did terms text u' before rows_in o v after → Did terms text u before rows_in o v after
did_still {before = before} {rows_in = rows_in} {v = v} s d =
    record {
      value = d.value;
      state = d.state;
      chunk = d.chunk;
      outcome = d.outcome;
      tells = d.tells;
      row = subst (λ (n : ℕ). rows_in v.text d.value n d.chunk) s.text d.row;
      words = d.words ∙ ap (λ n. sets before (width * n) d.chunk) s.records;
      size = omega (arith, d.size, s.records);
    }

-- What was done of what reads the same.
pub did_as : {A : Type 0} {terms : Terms} {text : List ℕ} {u : Used} {before : List ℕ} {rows_in : RowsIn A} {o o' : Outcome A} {v : Used} {after : List ℕ}
    → o ≡ o' → Did terms text u before rows_in o' v after → Did terms text u before rows_in o v after
did_as e d =
    record {
      value = d.value;
      state = d.state;
      chunk = d.chunk;
      outcome = e ∙ d.outcome;
      tells = d.tells;
      row = d.row;
      words = d.words;
      size = d.size;
    }

-- A visit of what reads the same, from as many records and text bytes.
pub visited_as : {A : Type 0} (terms : Terms) (text : List ℕ) (u : Used) (before : List ℕ) (rows_in : RowsIn A) {o o' : Outcome A} (r : Result Used Refusal) (after : List ℕ)
    → o ≡ o' → Visited terms text u before rows_in o' r after → Visited terms text u before rows_in o r after
visited_as terms text u before rows_in r after e v = subst (λ o. Visited terms text u before rows_in o r after) (sym e) v

pub visited_still : {A : Type 0} (terms : Terms) (text : List ℕ) {u u' : Used} (before : List ℕ) (rows_in : RowsIn A) (o : Outcome A) (r : Result Used Refusal) (after : List ℕ)
    → Still u u' → Visited terms text u' before rows_in o r after → Visited terms text u before rows_in o r after
visited_still terms text before rows_in o (Ok v) after s d = did_still s d
visited_still terms text before rows_in o (Err r) after s d = d

-- Words are ready behind as many records and text bytes, and behind one record more.
module _ {terms : Terms} {before : List ℕ} {u v : Used} (ready : Ready terms before u) where
  pub ready_still : Still u v → Ready terms before v
  ready_still s = record { size = ready.size; few = omega (arith, ready.few, s.records); fits = omega (arith, ready.fits, s.text) }

  module _ (few : u.records < 64) (s : Still (more u) v) where
    pub one_ready : Ready terms before v
    one_ready = record { size = ready.size; few = omega (arith, few, s.records); fits = omega (arith, ready.fits, s.text) }

    pub one_grown : Grown terms 1 u v
    one_grown = record { some = omega (arith, s.records); few = omega (arith, few, s.records); fits = omega (arith, ready.fits, s.text) }

-- The same above what was done below: one record was taken before it, and none behind it.
pub grown_above : {terms : Terms} {least : ℕ} {u w v v' : Used} → Still (more u) w → Grown terms least w v → Still v v' → Grown terms 1 u v'
grown_above one g same =
    record {
      some = omega (arith, one.records, g.some, same.records);
      few = omega (arith, g.few, same.records);
      fits = omega (arith, g.fits, same.text);
    }

-- A visit of what reading went on to.
pub visited_goes : {A : Type 0} (terms : Terms) (text : List ℕ) {u u' : Used} (before : List ℕ) (rows_in : RowsIn A) {o : Outcome A} {rest : State → Outcome A} (r : Result Used Refusal) (after : List ℕ)
    → Still u u' → (g : GoesOn terms text o u' rest) → Visited terms text u' before rows_in (rest g.state) r after → Visited terms text u before rows_in o r after
visited_goes terms text {u} before rows_in {rest = rest} r after s g v =
    visited_as terms text u before rows_in r after g.outcome (visited_still terms text before rows_in (rest g.state) r after s v)
