-- Days in range, none twice, make a set that ascends.
use mathlib.Core.Path.{◌≡◌, refl, ap, sym, ◌∙◌}
use mathlib.Core.List.{List, [], ◌∷◌}
use mathlib.Core.Bool.{Bool, true, false, not, ◌&&◌, ◌||◌, true≢false}
use Prim.Native.Nat.{ℕ, ◌<◌, ◌≤◌}
use native.Mathlib.Omega.{arith}
use lib.Dec.{eqb, leb, ltb}
use borrow.Author.Tests.{leb-true, leb-false, le-leb, ltb-true, eqb-false, lt-ltb, ne_eqb, not-true}
use Rattle.json_grammar.specs.Rows.{choose}
use Rattle.document.specs.Date.{among}
use Rattle.document.specs.Visit.{is_empty, distinct, inserted, ascending}
use Rattle.document.specs.Valid.{climbs, is_days, every}
use Rattle.json_grammar.proofs.Truth.{and_both, and_left, and_right, and_left_comm, or_left_comm}
use Rattle.document.proofs.Ranges.{in_range}

-- The first day of a set is above the bound, and the others are above it.
pub climbs_parts : (from hi d : ℕ) (ds : List ℕ) → climbs from hi (d ∷ ds) ≡ true → (from < d) × (d ≤ hi) × (climbs d hi ds ≡ true)
climbs_parts from hi d ds c =
    let v = and_left (ltb from d && leb d hi) (climbs d hi ds) c in
    (ltb-true from d (and_left (ltb from d) (leb d hi) v), leb-true d hi (and_right (ltb from d) (leb d hi) v), and_right (ltb from d && leb d hi) (climbs d hi ds) c)

pub days_climb : (hi : ℕ) (ds : List ℕ) → is_days hi ds ≡ true → climbs 0 hi ds ≡ true
days_climb hi ds v = and_right (not (is_empty ds)) (climbs 0 hi ds) v

pub climbs_more : (from hi d : ℕ) (ds : List ℕ) → from < d → d ≤ hi → climbs d hi ds ≡ true → climbs from hi (d ∷ ds) ≡ true
climbs_more from hi d ds p q c = and_both (and_both (lt-ltb from d p) (le-leb d hi q)) c

or_false_left : (a b : Bool) → (a || b) ≡ false → a ≡ false
or_false_left true b h = h
or_false_left false b h = refl

or_false_right : (a b : Bool) → (a || b) ≡ false → b ≡ false
or_false_right true b h = absurd (true≢false h)
or_false_right false b h = h

among_inserted : (x d : ℕ) (es : List ℕ) → among x (inserted d es) ≡ (eqb x d || among x es)
among_inserted x d [] = refl
among_inserted x d (e ∷ es) = go (among_inserted x d es) (leb d e)
  where
    go : among x (inserted d es) ≡ (eqb x d || among x es) → (b : Bool) → among x (choose b (λ _. d ∷ e ∷ es) (λ _. e ∷ inserted d es)) ≡ (eqb x d || (eqb x e || among x es))
    go ih true = refl
    go ih false = ap (λ (c : Bool). eqb x e || c) ih ∙ or_left_comm (eqb x e) (eqb x d) (among x es)

among_ascending : (x : ℕ) (ds : List ℕ) → among x (ascending ds) ≡ among x ds
among_ascending x [] = refl
among_ascending x (d ∷ ds) = among_inserted x d (ascending ds) ∙ ap (λ (c : Bool). eqb x d || c) (among_ascending x ds)

inserted_climbs : (from hi d : ℕ) (es : List ℕ) → from < d → d ≤ hi → among d es ≡ false → climbs from hi es ≡ true → climbs from hi (inserted d es) ≡ true
inserted_climbs from hi d [] p q r c = climbs_more from hi d [] p q refl
inserted_climbs from hi d (e ∷ es) p q r c = go (λ f. inserted_climbs e hi d es f) (leb d e) refl
  where
    parts : (from < e) × (e ≤ hi) × (climbs e hi es ≡ true)
    parts = climbs_parts from hi e es c

    go : (e < d → d ≤ hi → among d es ≡ false → climbs e hi es ≡ true → climbs e hi (inserted d es) ≡ true) → (b : Bool) → leb d e ≡ b → climbs from hi (choose b (λ _. d ∷ e ∷ es) (λ _. e ∷ inserted d es)) ≡ true
    go ih true h =
        let le : d ≤ e = leb-true d e h in
        let ne : d ≡ e → ⊥ = eqb-false d e (or_false_left (eqb d e) (among d es) r) in
        climbs_more from hi d (e ∷ es) p q (climbs_more d hi e es (omega arith) parts.1 parts.2)
    go ih false h = climbs_more from hi e (inserted d es) parts.0 parts.1 (ih (leb-false d e h) q (or_false_right (eqb d e) (among d es) r) parts.2)

pub ascending_climbs : (hi : ℕ) (ds : List ℕ) → every (λ d. leb 1 d && leb d hi) ds ≡ true → distinct ds ≡ true → climbs 0 hi (ascending ds) ≡ true
ascending_climbs hi [] v u = refl
ascending_climbs hi (d ∷ ds) v u =
    let here = in_range 1 d hi (and_left (leb 1 d && leb d hi) _ v) in
    inserted_climbs 0 hi d (ascending ds) here.0 here.1
    (among_ascending d ds ∙ not-true (among d ds) (and_left (not (among d ds)) (distinct ds) u))
    (ascending_climbs hi ds (and_right (leb 1 d && leb d hi) _ v) (and_right (not (among d ds)) (distinct ds) u))

inserted_some : (d : ℕ) (es : List ℕ) → is_empty (inserted d es) ≡ false
inserted_some d [] = refl
inserted_some d (e ∷ es) = go (leb d e)
  where
    go : (b : Bool) → is_empty (choose b (λ _. d ∷ e ∷ es) (λ _. e ∷ inserted d es)) ≡ false
    go true = refl
    go false = refl

pub ascending_empty : (ds : List ℕ) → is_empty (ascending ds) ≡ is_empty ds
ascending_empty [] = refl
ascending_empty (d ∷ ds) = inserted_some d (ascending ds)

-- And back: the days of such a set are in range.
every_inserted : (test : ℕ → Bool) (d : ℕ) (es : List ℕ) → every test (inserted d es) ≡ (test d && every test es)
every_inserted test d [] = refl
every_inserted test d (e ∷ es) = go (every_inserted test d es) (leb d e)
  where
    go : every test (inserted d es) ≡ (test d && every test es) → (b : Bool) → every test (choose b (λ _. d ∷ e ∷ es) (λ _. e ∷ inserted d es)) ≡ (test d && (test e && every test es))
    go ih true = refl
    go ih false = ap (λ (c : Bool). test e && c) ih ∙ and_left_comm (test e) (test d) (every test es)

pub every_ascending : (test : ℕ → Bool) (ds : List ℕ) → every test (ascending ds) ≡ every test ds
every_ascending test [] = refl
every_ascending test (d ∷ ds) = every_inserted test d (ascending ds) ∙ ap (λ (c : Bool). test d && c) (every_ascending test ds)

climbs_every : (least from hi : ℕ) (es : List ℕ) → least ≤ from → climbs from hi es ≡ true → every (λ d. ltb least d && leb d hi) es ≡ true
climbs_every least from hi [] h c = refl
climbs_every least from hi (e ∷ es) h c =
    let k = climbs_parts from hi e es c in
    and_both (and_both (lt-ltb least e (omega arith)) (le-leb e hi k.1)) (climbs_every least e hi es (omega arith) k.2)

pub days_in_range : (hi : ℕ) (ds : List ℕ) → is_days hi (ascending ds) ≡ true → every (λ d. leb 1 d && leb d hi) ds ≡ true
days_in_range hi ds v = sym (every_ascending (λ d. leb 1 d && leb d hi) ds) ∙ climbs_every 0 0 hi (ascending ds) (omega arith) (days_climb hi (ascending ds) v)

pub days_some : (hi : ℕ) (ds : List ℕ) → is_days hi (ascending ds) ≡ true → is_empty ds ≡ false
days_some hi ds v = sym (ascending_empty ds) ∙ not-true (is_empty (ascending ds)) (and_left (not (is_empty (ascending ds))) (climbs 0 hi (ascending ds)) v)

-- A set that ascends is its own ascending list, and holds no day twice.
pub climbs_same : (from hi : ℕ) (ds : List ℕ) → climbs from hi ds ≡ true → ascending ds ≡ ds
climbs_same from hi [] c = refl
climbs_same from hi (d ∷ ds) c = let k = climbs_parts from hi d ds c in ap (inserted d) (climbs_same d hi ds k.2) ∙ first d hi ds k.2
  where
    first : (d hi : ℕ) (es : List ℕ) → climbs d hi es ≡ true → inserted d es ≡ d ∷ es
    first d hi [] c = refl
    first d hi (e ∷ es) c =
        let k = climbs_parts d hi e es c in
        ap (λ (b : Bool). choose b (λ _. d ∷ e ∷ es) (λ _. e ∷ inserted d es)) (le-leb d e (omega arith))

among_above : (x from hi : ℕ) (es : List ℕ) → x ≤ from → climbs from hi es ≡ true → among x es ≡ false
among_above x from hi [] h c = refl
among_above x from hi (e ∷ es) h c =
    let k = climbs_parts from hi e es c in
    let other : eqb x e ≡ false = ne_eqb x e (λ f. omega arith) in
    let behind : among x es ≡ false = among_above x e hi es (omega arith) k.2 in
    rw (other, behind)

pub climbs_distinct : (from hi : ℕ) (ds : List ℕ) → climbs from hi ds ≡ true → distinct ds ≡ true
climbs_distinct from hi [] c = refl
climbs_distinct from hi (d ∷ ds) c =
    let behind = (climbs_parts from hi d ds c).2 in
    and_both (ap not (among_above d d hi ds (omega arith) behind)) (climbs_distinct d hi ds behind)
