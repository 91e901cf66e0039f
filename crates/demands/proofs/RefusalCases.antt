-- What a refusal of a text or of a run comes from.
use mathlib.Core.Path.{◌≡◌, refl, sym, ◌∙◌}
use mathlib.Core.List.{List, [], ◌∷◌}
use mathlib.Core.Bool.{Bool, true, false, cond, ◌||◌}
use mathlib.Core.Logic.{◌⊎◌, inl, inr}
use Prim.Native.Nat.{ℕ, ◌≤◌, ◌<◌}
use native.Mathlib.Omega.{arith}
use lib.Dec.{leb, ltb}
use lib.ListN.{length}
use borrow.Author.Tests.{leb-true, leb-false, ltb-true, ltb-false}
use Rattle.json_grammar.proofs.Truth.{never}
use Rattle.json_grammar.specs.Rows.{choose}
use Rattle.json_grammar.specs.Byte.{blanked}
use Rattle.json_grammar.specs.Tree.{Place, place_in}
use Rattle.json_grammar.specs.Grammar.{Blanks}
use Rattle.json_grammar.specs.Walk.{Walked, end, refused2, refused3, first_object, one_object}
use Rattle.json_move.specs.Read.{tree_of}
use Rattle.json_laws.proofs.Blanks.{over_blanks, blanks_blanked}
use Rattle.document.specs.Posology.{Posology}
use Rattle.document.specs.Visit.{Outcome, done, refuse, visit}
use Rattle.document.specs.Valid.{is_use}
use Rattle.document.specs.Answer.{text_at_most, Read, taken, refused, visited, read_walked, after_walk, read, blank_to, refused_at, up_to, next_walked, next_begun, read_next}
use Rattle.document.specs.declared.terms.Terms.{Terms}
use Rattle.demands.specs.Refusals.{Met}
use Rattle.demands.proofs.VisitNumbers.{visit_refuses}

-- A text.
pub data Refusal (purpose : ℕ) (text : List ℕ) (n place : ℕ) : Type 0 where
  of_use : is_use purpose ≡ false → n ≡ 17 → place ≡ 0 → Refusal purpose text n place
  of_length : is_use purpose ≡ true → text_at_most < length text → n ≡ 1 → place ≡ text_at_most → Refusal purpose text n place
  of_spelling : is_use purpose ≡ true → length text ≤ text_at_most → (p : Place) → one_object text ≡ refused2 p → n ≡ 2 → place_in text p ≡ place → Refusal purpose text n place
  of_depth : is_use purpose ≡ true → length text ≤ text_at_most → (p : Place) → one_object text ≡ refused3 p → n ≡ 3 → place_in text p ≡ place → Refusal purpose text n place
  of_visit : 4 ≤ n → n ≤ 16 → Refusal purpose text n place

of_outcome : (start : List ℕ) (o : Outcome Posology) {n place : ℕ} → ((m : ℕ) (p : Place) → o ≡ refuse m p → (4 ≤ m) × (m ≤ 16)) → visited start o ≡ refused n place
    → (4 ≤ n) × (n ≤ 16)
of_outcome start (done p l) h e = never (cc e)
of_outcome start (refuse m p) {n} h e = let q : m ≡ n = cc e in rw q at (h m p refl)

of_walked : (terms : Terms) (text : List ℕ) {n place : ℕ} → read_walked terms text ≡ refused n place → (4 ≤ n) × (n ≤ 16)
of_walked terms text e = of_outcome text (visit terms (tree_of text)) (λ m p. visit_refuses terms (tree_of text)) e

pub refused_by : (terms : Terms) (text : List ℕ) {n place : ℕ} → read terms text ≡ refused n place → Refusal terms.purpose text n place
unfolding read
refused_by terms text {n} {place} h = go (is_use terms.purpose) (leb (length text) text_at_most) refl refl h
  where
    walked : (w : Walked) → one_object text ≡ w → is_use terms.purpose ≡ true → length text ≤ text_at_most → after_walk terms text w ≡ refused n place → Refusal terms.purpose text n place
    walked (end r) e u s g = let v = of_walked terms text g in of_visit v.0 v.1
    walked (refused2 p) e u s g = of_spelling u s p e (cc g) (cc g)
    walked (refused3 p) e u s g = of_depth u s p e (cc g) (cc g)

    go : (a b : Bool) → is_use terms.purpose ≡ a → leb (length text) text_at_most ≡ b
        → choose a (λ _. choose b (λ _. after_walk terms text (one_object text)) λ _. refused 1 text_at_most) (λ _. refused 17 0) ≡ refused n place
        → Refusal terms.purpose text n place
    go true true e f g = walked (one_object text) refl e (leb-true (length text) text_at_most f) g
    go true false e f g = of_length e (leb-false (length text) text_at_most f) (cc g) (cc g)
    go false b e f g = of_use e (cc g) (cc g)

-- The first text of a run: cut where the walk ends or is refused behind the first 32,768 bytes.
pub data Cut (run : List ℕ) : Type 0 where
  ended_behind : (r : Place) → first_object run ≡ end r → text_at_most < place_in run r → Cut run
  refused_behind : (p : Place) → (first_object run ≡ refused2 p) ⊎ (first_object run ≡ refused3 p) → text_at_most < length run → text_at_most ≤ place_in run p → Cut run

pub data NextRefusal (purpose : ℕ) (run : List ℕ) (n place : ℕ) : Type 0 where
  of_use : is_use purpose ≡ false → n ≡ 17 → place ≡ 0 → NextRefusal purpose run n place
  of_length : is_use purpose ≡ true → (Blanks run [] → ⊥) → Cut run → n ≡ 1 → place ≡ text_at_most → NextRefusal purpose run n place
  of_spelling : is_use purpose ≡ true → (Blanks run [] → ⊥) → (p : Place) → first_object run ≡ refused2 p → Met run place → n ≡ 2 → place_in run p ≡ place
      → NextRefusal purpose run n place
  of_depth : is_use purpose ≡ true → (p : Place) → first_object run ≡ refused3 p → Met run place → n ≡ 3 → place_in run p ≡ place → NextRefusal purpose run n place
  of_visit : 4 ≤ n → n ≤ 16 → NextRefusal purpose run n place

up_refused : (e : ℕ) (r : Read) {n place : ℕ} → up_to e r ≡ refused_at n place → r ≡ refused n place
up_refused e (taken p) h = never (cc h)
up_refused e (refused m at) h = cc h

some_byte : (run : List ℕ) (b : ℕ) (s : List ℕ) → blanked run ≡ b ∷ s → Blanks run [] → ⊥
unfolding blanked
some_byte run b s e h = never (cc (sym e ∙ over_blanks h))

-- Where 2 or 3 is met, or else cut.
met : (b c : Bool) (run : List ℕ) (at m n place : ℕ) {P : Type 0} → leb (length run) text_at_most ≡ b → ltb at text_at_most ≡ c
    → (Met run at → m ≡ n → at ≡ place → P) → (text_at_most < length run → text_at_most ≤ at → 1 ≡ n → text_at_most ≡ place → P)
    → cond (b || c) (refused_at m at) (refused_at 1 text_at_most) ≡ refused_at n place → P
met true c run at m n place e f k l g = k (inl (leb-true (length run) text_at_most e)) (cc g) (cc g)
met false true run at m n place e f k l g = k (inr (ltb-true at text_at_most f)) (cc g) (cc g)
met false false run at m n place e f k l g = l (leb-false (length run) text_at_most e) (ltb-false at text_at_most f) (cc g) (cc g)

pub next_refused_by : (terms : Terms) (run : List ℕ) {n place : ℕ} → read_next terms run ≡ refused_at n place → NextRefusal terms.purpose run n place
unfolding read_next
next_refused_by terms run {n} {place} h = go (is_use terms.purpose) refl h
  where
    walked : (w : Walked) → first_object run ≡ w → is_use terms.purpose ≡ true → (Blanks run [] → ⊥) → next_walked terms run w ≡ refused_at n place → NextRefusal terms.purpose run n place
    walked (end r) e u s g = ends (leb (place_in run r) text_at_most) refl g
      where
        ends : (b : Bool) → leb (place_in run r) text_at_most ≡ b
            → choose b (λ _. up_to (place_in run r) (read_walked terms run)) (λ _. refused_at 1 text_at_most) ≡ refused_at n place → NextRefusal terms.purpose run n place
        ends true f i = let v = of_walked terms run (up_refused (place_in run r) (read_walked terms run) i) in of_visit v.0 v.1
        ends false f i = of_length u s (ended_behind r e (leb-false (place_in run r) text_at_most f)) (cc i) (cc i)
    walked (refused2 p) e u s g =
        met (leb (length run) text_at_most) (ltb (place_in run p) text_at_most) run (place_in run p) 2 n place refl refl
        (λ m i j. of_spelling u s p e (rw j at m) (sym i) j)
        (λ l m i j. of_length u s (refused_behind p (inl e) l m) (sym i) (sym j)) g
    walked (refused3 p) e u s g =
        met (leb (length run) text_at_most) (ltb (place_in run p) text_at_most) run (place_in run p) 3 n place refl refl
        (λ m i j. of_depth u p e (rw j at m) (sym i) j)
        (λ l m i j. of_length u s (refused_behind p (inr e) l m) (sym i) (sym j)) g

    begun : (m : List ℕ) → blanked run ≡ m → is_use terms.purpose ≡ true → next_begun terms run m ≡ refused_at n place → NextRefusal terms.purpose run n place
    begun [] e u g = never (cc g)
    begun (b ∷ s) e u g = walked (first_object run) refl u (some_byte run b s e) g

    go : (b : Bool) → is_use terms.purpose ≡ b → choose b (λ _. next_begun terms run (blanked run)) (λ _. refused_at 17 0) ≡ refused_at n place → NextRefusal terms.purpose run n place
    go true u g = begun (blanked run) refl u g
    go false u g = of_use u (cc g) (cc g)

pub blank_by : (terms : Terms) (run : List ℕ) {n : ℕ} → read_next terms run ≡ blank_to n → (is_use terms.purpose ≡ true) × Blanks run [] × (n ≡ length run)
unfolding read_next
blank_by terms run {n} h = go (is_use terms.purpose) refl h
  where
    not_refused : (b : Bool) (m at : ℕ) → cond b (refused_at m at) (refused_at 1 text_at_most) ≡ blank_to n → ⊥
    not_refused true m at g = never (cc g)
    not_refused false m at g = never (cc g)

    up : (e : ℕ) (r : Read) → up_to e r ≡ blank_to n → ⊥
    up e (taken p) g = never (cc g)
    up e (refused m at) g = never (cc g)

    ends : (b : Bool) (e : ℕ) → choose b (λ _. up_to e (read_walked terms run)) (λ _. refused_at 1 text_at_most) ≡ blank_to n → ⊥
    ends true e g = up e (read_walked terms run) g
    ends false e g = never (cc g)

    walked : (w : Walked) → next_walked terms run w ≡ blank_to n → ⊥
    walked (end r) g = ends (leb (place_in run r) text_at_most) (place_in run r) g
    walked (refused2 p) g = not_refused (leb (length run) text_at_most || ltb (place_in run p) text_at_most) 2 (place_in run p) g
    walked (refused3 p) g = not_refused (leb (length run) text_at_most || ltb (place_in run p) text_at_most) 3 (place_in run p) g

    begun : (m : List ℕ) → blanked run ≡ m → next_begun terms run m ≡ blank_to n → Blanks run [] × (n ≡ length run)
    begun [] e g = (rw e at (blanks_blanked run), cc g)
    begun (b ∷ s) e g = absurd (walked (first_object run) g)

    go : (b : Bool) → is_use terms.purpose ≡ b → choose b (λ _. next_begun terms run (blanked run)) (λ _. refused_at 17 0) ≡ blank_to n
        → (is_use terms.purpose ≡ true) × Blanks run [] × (n ≡ length run)
    go true u g = let h = begun (blanked run) refl g in (u, h.0, h.1)
    go false u g = never (cc g)

-- The cases of one number.
module _ {purpose n : ℕ} {text : List ℕ} where
  pub by_17 : Refusal purpose text 17 n → (is_use purpose ≡ false) × (n ≡ 0)
  by_17 (of_use u e i) = (u, i)
  by_17 (of_length u l e i) = absurd (omega arith)
  by_17 (of_spelling u s p w e i) = absurd (omega arith)
  by_17 (of_depth u s p w e i) = absurd (omega arith)
  by_17 (of_visit l m) = absurd (omega arith)

  pub by_1 : Refusal purpose text 1 n → (is_use purpose ≡ true) × (text_at_most < length text) × (n ≡ text_at_most)
  by_1 (of_use u e i) = absurd (omega arith)
  by_1 (of_length u l e i) = (u, l, i)
  by_1 (of_spelling u s p w e i) = absurd (omega arith)
  by_1 (of_depth u s p w e i) = absurd (omega arith)
  by_1 (of_visit l m) = absurd (omega arith)

  pub by_2 : Refusal purpose text 2 n → (is_use purpose ≡ true) × (length text ≤ text_at_most) × ((p : Place) × (one_object text ≡ refused2 p) × (place_in text p ≡ n))
  by_2 (of_use u e i) = absurd (omega arith)
  by_2 (of_length u l e i) = absurd (omega arith)
  by_2 (of_spelling u s p w e i) = (u, s, (p, w, i))
  by_2 (of_depth u s p w e i) = absurd (omega arith)
  by_2 (of_visit l m) = absurd (omega arith)

  pub by_3 : Refusal purpose text 3 n → (is_use purpose ≡ true) × (length text ≤ text_at_most) × ((p : Place) × (one_object text ≡ refused3 p) × (place_in text p ≡ n))
  by_3 (of_use u e i) = absurd (omega arith)
  by_3 (of_length u l e i) = absurd (omega arith)
  by_3 (of_spelling u s p w e i) = absurd (omega arith)
  by_3 (of_depth u s p w e i) = (u, s, (p, w, i))
  by_3 (of_visit l m) = absurd (omega arith)

  pub next_by_17 : NextRefusal purpose text 17 n → (is_use purpose ≡ false) × (n ≡ 0)
  next_by_17 (of_use u e i) = (u, i)
  next_by_17 (of_length u b c e i) = absurd (omega arith)
  next_by_17 (of_spelling u b p w m e i) = absurd (omega arith)
  next_by_17 (of_depth u p w m e i) = absurd (omega arith)
  next_by_17 (of_visit l m) = absurd (omega arith)

  pub next_by_1 : NextRefusal purpose text 1 n → (is_use purpose ≡ true) × (Blanks text [] → ⊥) × (n ≡ text_at_most) × Cut text
  next_by_1 (of_use u e i) = absurd (omega arith)
  next_by_1 (of_length u b c e i) = (u, b, i, c)
  next_by_1 (of_spelling u b p w m e i) = absurd (omega arith)
  next_by_1 (of_depth u p w m e i) = absurd (omega arith)
  next_by_1 (of_visit l m) = absurd (omega arith)

  pub next_by_2 : NextRefusal purpose text 2 n → (is_use purpose ≡ true) × (Blanks text [] → ⊥) × ((p : Place) × (first_object text ≡ refused2 p) × (place_in text p ≡ n)) × Met text n
  next_by_2 (of_use u e i) = absurd (omega arith)
  next_by_2 (of_length u b c e i) = absurd (omega arith)
  next_by_2 (of_spelling u b p w m e i) = (u, b, (p, w, i), m)
  next_by_2 (of_depth u p w m e i) = absurd (omega arith)
  next_by_2 (of_visit l m) = absurd (omega arith)

  pub next_by_3 : NextRefusal purpose text 3 n → (is_use purpose ≡ true) × ((p : Place) × (first_object text ≡ refused3 p) × (place_in text p ≡ n)) × Met text n
  next_by_3 (of_use u e i) = absurd (omega arith)
  next_by_3 (of_length u b c e i) = absurd (omega arith)
  next_by_3 (of_spelling u b p w m e i) = absurd (omega arith)
  next_by_3 (of_depth u p w m e i) = (u, (p, w, i), m)
  next_by_3 (of_visit l m) = absurd (omega arith)

-- Every number.
pub from_1_to_17 : {purpose n place : ℕ} {text : List ℕ} → Refusal purpose text n place → (1 ≤ n) × (n ≤ 17)
from_1_to_17 (of_use u e i) = omega arith
from_1_to_17 (of_length u l e i) = omega arith
from_1_to_17 (of_spelling u s p w e i) = omega arith
from_1_to_17 (of_depth u s p w e i) = omega arith
from_1_to_17 (of_visit l m) = omega arith

pub next_from_1_to_17 : {purpose n place : ℕ} {run : List ℕ} → NextRefusal purpose run n place → (1 ≤ n) × (n ≤ 17)
next_from_1_to_17 (of_use u e i) = omega arith
next_from_1_to_17 (of_length u b c e i) = omega arith
next_from_1_to_17 (of_spelling u b p w m e i) = omega arith
next_from_1_to_17 (of_depth u p w m e i) = omega arith
next_from_1_to_17 (of_visit l m) = omega arith
