-- The table of the names that stood, each where the search for it ends. A name that found no slot has none free from its start on.
use Prim.Native.Nat.{ℕ, ◌-◌, ◌<◌, ◌≤◌}
use mathlib.Core.Path.{◌≡◌, refl, sym, ap, subst, ◌∙◌}
use mathlib.Core.List.{List, [], ◌∷◌}
use mathlib.Core.Bool.{Bool, true, false, not, ◌||◌, false≢true}
use lib.ListN.{length, get_or, set, drop, length-set}
use lib.Seq.{get_or-set_same, get_or-set_other}
use lib.Dec.{eqb, ltb}
use native.Mathlib.Omega.{arith}
use borrow.Author.Tests.{ltb-true, ltb-false, eqb-true, eqb-false}
use Rattle.json_move.specs.Read.{decoded}
use Rattle.document.proofs.Same.{same_refl, same_equal}
use Rattle.document.specs.Lookup.{same, has}
use Rattle.read_names.specs.Names.{first_slot, slot_name, Searched}

pub record Kept (seed : ℕ) (text table n : List ℕ) : Type 0 where
  pub slot : ℕ
  pub from : first_slot seed n ≤ slot
  pub filled : (j : ℕ) → j < slot → first_slot seed n ≤ j → 0 < get_or table j 0
  pub is : slot < 8192 → (0 < get_or table slot 0) × (slot_name text table slot ≡ n)

pub record Tabled (seed : ℕ) (text table : List ℕ) (seen : List (List ℕ)) : Type 0 where
  pub size : length table ≡ 8192
  pub sound : (j : ℕ) → j < 8192 → 0 < get_or table j 0 → has (slot_name text table j) seen ≡ true
  pub whole : (n : List ℕ) → has n seen ≡ true → Kept seed text table n

pub tabled_none : {seed : ℕ} {text table : List ℕ} → length table ≡ 8192 → ((j : ℕ) → j < 8192 → get_or table j 0 ≡ 0) → Tabled seed text table []
tabled_none size zeros =
    record {
      size = size;
      sound = λ j h p. absurd (omega (arith, zeros j h));
      whole = λ n e. absurd (false≢true e);
    }

name_at_lem : (text table after : List ℕ) (j : ℕ) → get_or after j 0 ≡ get_or table j 0 → slot_name text after j ≡ slot_name text table j
unfolding slot_name
name_at_lem text table after j e = rw e

-- The table with v in the slot at which a search ended, if there is one.
pub record Entered (table : List ℕ) (r v : ℕ) (after : List ℕ) : Type 0 where
  pub size : length after ≡ length table
  pub here : r < 8192 → get_or after r 0 ≡ v
  pub other : (j : ℕ) → (r < 8192 → j ≡ r → ⊥) → get_or after j 0 ≡ get_or table j 0

module _ (table : List ℕ) (r v : ℕ) (after : List ℕ) where
  pub entered_in : length table ≡ 8192 → r < 8192 → after ≡ set table r v → Entered table r v after
  entered_in s h e =
      record {
        size = ap length e ∙ length-set table r v;
        here = λ l. rw e (get_or-set_same table r v 0 (omega arith));
        other = λ j f. rw e (get_or-set_other table r j v 0 (f h));
      }

  pub entered_out : 8192 ≤ r → after ≡ table → Entered table r v after
  entered_out h e = record { size = ap length e; here = λ l. absurd (omega arith); other = λ j f. ap (λ x. get_or x j 0) e }

either : (a : Bool) {b : Bool} → b ≡ true → a || b ≡ true
either true e = refl
either false e = e

module _ {seed : ℕ} {text table : List ℕ} {seen : List (List ℕ)} (t : Tabled seed text table seen) {n : List ℕ} {r : ℕ} (s : Searched seed text n table r) where
  found : r < 8192 → 0 < get_or table r 0 → has n seen ≡ true
  found h p = subst (λ x. has x seen ≡ true) (sym (same_equal n (slot_name text table r) (s.ends h p))) (t.sound r h p)

  -- the search would have met it
  nowhere : r < 8192 → get_or table r 0 ≡ 0 → Kept seed text table n → ⊥
  nowhere h z k = go (ltb k.slot r) (ltb r k.slot) refl refl
    where
      go : (x y : Bool) → ltb k.slot r ≡ x → ltb r k.slot ≡ y → ⊥
      go true y a b =
          let l = ltb-true k.slot r a in
          false≢true (sym (s.passed k.slot l k.from).1 ∙ ap (same n) (k.is (omega arith)).1 ∙ same_refl n)
      go false true a b = omega (arith, k.filled r (ltb-true r k.slot b) s.from)
      go false false a b =
          let e : k.slot ≡ r = omega (arith, ltb-false k.slot r a, ltb-false r k.slot b) in
          omega (arith, rw e at (k.is (omega arith)).0)

  fresh : r < 8192 → get_or table r 0 ≡ 0 → has n seen ≡ false
  fresh h z = go (has n seen) refl
    where
      go : (x : Bool) → has n seen ≡ x → has n seen ≡ false
      go true e = absurd (nowhere h z (t.whole n e))
      go false e = e

  pub slot_says : r < 8192 → not (eqb (get_or table r 0) 0) ≡ has n seen
  slot_says h = go (eqb (get_or table r 0) 0) refl
    where
      go : (x : Bool) → eqb (get_or table r 0) 0 ≡ x → not (eqb (get_or table r 0) 0) ≡ has n seen
      go true e = rw e (sym (fresh h (eqb-true (get_or table r 0) 0 e)))
      go false e = let f = eqb-false (get_or table r 0) 0 e in rw e (sym (found h (omega arith)))

  -- a name that did not stand is entered
  module _ (new : has n seen ≡ false) {v : ℕ} (pos : 0 < v) (named : decoded (drop (v - 1) text) ≡ n) {after : List ℕ} (e : Entered table r v after) where
    free : r < 8192 → 0 < get_or table r 0 → ⊥
    free h p = false≢true (sym new ∙ found h p)

    stays : (j : ℕ) → 0 < get_or table j 0 → get_or after j 0 ≡ get_or table j 0
    stays j p = e.other j (λ h i. free h (rw i at p))

    kept : (m : List ℕ) → Kept seed text table m → Kept seed text after m
    kept m k =
        record {
          slot = k.slot;
          from = k.from;
          filled = λ j a b. let p = k.filled j a b in rw (stays j p) p;
          is = λ h.
              let i = k.is h in
              (rw (stays k.slot i.0) i.0, name_at_lem text table after k.slot (stays k.slot i.0) ∙ i.1);
        }

    name_here : r < 8192 → slot_name text after r ≡ n
    unfolding slot_name
    name_here h = rw (e.here h) named

    here : Kept seed text after n
    here =
        record {
          slot = r;
          from = s.from;
          filled = λ j a b. let p = (s.passed j a b).0 in rw (stays j p) p;
          is = λ h. (rw (e.here h) pos, name_here h);
        }

    pub tabled_on : Tabled seed text after (n ∷ seen)
    tabled_on = record { size = e.size ∙ t.size; sound = λ j h p. sounds j h p (eqb j r) refl; whole = λ m h. wholes m h (same m n) refl }
      where
        sounds : (j : ℕ) → j < 8192 → 0 < get_or after j 0 → (x : Bool) → eqb j r ≡ x → has (slot_name text after j) (n ∷ seen) ≡ true
        sounds j h p true i =
            let z = eqb-true j r i in
            let is : slot_name text after j ≡ n = rw z (name_here (rw z at h)) in
            rw (is, same_refl n)
        sounds j h p false i =
            let was = e.other j (λ l. eqb-false j r i) in
            ap (λ (m : List ℕ). has m (n ∷ seen)) (name_at_lem text table after j was) ∙ either (same (slot_name text table j) n) (t.sound j h (rw was at p))

        wholes : (m : List ℕ) → has m (n ∷ seen) ≡ true → (x : Bool) → same m n ≡ x → Kept seed text after m
        wholes m h true i = rw (same_equal m n i) here
        wholes m h false i = kept m (t.whole m (rw i at h))
