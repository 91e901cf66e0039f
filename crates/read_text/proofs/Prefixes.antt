-- The walk over the first bytes of a run tells what the walk over all of it comes to, and so where the run's first text ends.
use Prim.Native.Nat.{ℕ, zero, suc, ◌≤◌, ◌<◌, ◌-◌}
use mathlib.Core.Path.{◌≡◌, refl, sym, ap, ◌∙◌}
use mathlib.Core.List.{List, [], ◌∷◌, ◌++◌}
use mathlib.Core.Bool.{Bool, true, false, or-true}
use native.Mathlib.Omega.{arith}
use lib.ListN.{length, take, drop, take-append-drop, drop_of_length-le, length-drop, length-append}
use lib.Seq.{drop-cons, drop-append-le, take_all, length-take-le}
use lib.Dec.{leb, ltb}
use borrow.Author.Tests.{ltb-true, ltb-false, leb-true, leb-false, le-leb, lt-leb, lt-ltb, le-ltb}
use Rattle.json_grammar.specs.Tree.{place_in}
use Rattle.json_grammar.specs.Walk.{Frame, Mode, top, Next, wrong, deep, ended, go, onto, step, walk, Walked, end, refused2, refused3, first_object}
use Rattle.json_grammar.proofs.Places.{place_of}
use Rattle.document.specs.Answer.{text_at_most}
use Rattle.read_text.specs.Texts.{not_ended, first_walked}
use Rattle.std.specs.Prelude.{Ok, Err}
use Rattle.document.specs.Refusals.{refusal}
use Rattle.document.specs.declared.refusal.Reason.TheVariants.{TooLong, NotOneObject, TooDeep}
use Rattle.document.specs.declared.table.Next.TheVariants as F

-- ---- the walk of some bytes, and of these with others behind them
-- What stays open at the end goes on in the bytes behind; all else is settled.
abbrev pub Goes : List ℕ → Walked → Walked → Type 0
Goes more (end r) w = w ≡ end (r ++ more)
Goes more (refused2 []) w = (m : Mode) × (k : List Frame) × (w ≡ walk m k more)
Goes more (refused2 (b ∷ p)) w = w ≡ refused2 (b ∷ p ++ more)
Goes more (refused3 p) w = w ≡ refused3 (p ++ more)

pub walk_goes : (m : Mode) (k : List Frame) (s more : List ℕ) → Goes more (walk m k s) (walk m k (s ++ more))
unfolding walk
walk_goes m k [] more = (m, k, refl)
walk_goes m k (b ∷ s) more = by (step m b k) (λ n l. walk_goes n l s more)
  where
    by : (next : Next) → ((n : Mode) (l : List Frame) → Goes more (walk n l s) (walk n l (s ++ more)))
        → Goes more (onto next (b ∷ s) (λ n l. walk n l s) (λ _. end s)) (onto next (b ∷ s ++ more) (λ n l. walk n l (s ++ more)) (λ _. end (s ++ more)))
    by wrong f = refl
    by deep f = refl
    by ended f = refl
    by (go n l) f = f n l

walk_none : (m : Mode) (k : List Frame) → walk m k [] ≡ refused2 []
unfolding walk
walk_none m k = refl

-- How many bytes the walk of n bytes leaves.
abbrev pub Leaves : ℕ → Walked → Type 0
Leaves n (end r) = length r < n
Leaves n (refused2 p) = length p ≤ n
Leaves n (refused3 p) = (0 < length p) × (length p ≤ n)

leaves_more : (n : ℕ) (w : Walked) → Leaves n w → Leaves (suc n) w
leaves_more n (end r) h = omega arith
leaves_more n (refused2 p) h = omega arith
leaves_more n (refused3 p) h = (h.0, omega (arith, h.1))

pub walk_leaves : (m : Mode) (k : List Frame) (s : List ℕ) → Leaves (length s) (walk m k s)
unfolding walk
walk_leaves m k [] = omega arith
walk_leaves m k (b ∷ s) = by (step m b k) (λ n l. walk_leaves n l s)
  where
    by : (next : Next) → ((n : Mode) (l : List Frame) → Leaves (length s) (walk n l s))
        → Leaves (suc (length s)) (onto next (b ∷ s) (λ n l. walk n l s) (λ _. end s))
    by wrong f = omega arith
    by deep f = (omega arith, omega arith)
    by ended f = omega arith
    by (go n l) f = leaves_more (length s) (walk n l s) (f n l)

-- ---- the first n bytes of a run
module _ (n : ℕ) (run : List ℕ) where
  run_goes : Goes (drop n run) (first_object (take n run)) (first_object run)
  run_goes = rw (take-append-drop n run) at (walk_goes top [] (take n run) (drop n run))

  taken_length : length (take n run) ≤ length run
  taken_length = omega (arith, length-append (take n run) (drop n run), ap length (take-append-drop n run))

  kept : (p : ℕ) → p ≤ length (take n run) → drop p (take n run) ++ drop n run ≡ drop p run
  kept p h = sym (drop-append-le p (take n run) (drop n run) h) ∙ ap (drop p) (take-append-drop n run)

  pub run_ends : (e : ℕ) → first_object (take n run) ≡ end (drop e (take n run)) → e ≤ length (take n run) → first_object run ≡ end (drop e run)
  run_ends e h l = (rw h at run_goes) ∙ ap end (kept e l)

  run_refused2 : (p : ℕ) → first_object (take n run) ≡ refused2 (drop p (take n run)) → p < length (take n run) → first_object run ≡ refused2 (drop p run)
  run_refused2 p h l =
      let d = drop-cons (take n run) p 0 l in
      (rw (h, d) at run_goes) ∙ ap refused2 (ap (λ s. s ++ drop n run) (sym d) ∙ kept p (omega arith))

  run_refused3 : (p : ℕ) → first_object (take n run) ≡ refused3 (drop p (take n run)) → p ≤ length (take n run) → first_object run ≡ refused3 (drop p run)
  run_refused3 p h l = (rw h at run_goes) ∙ ap refused3 (kept p l)

  -- refusal 3 stands at a byte
  deep_inside : (p : ℕ) → first_object (take n run) ≡ refused3 (drop p (take n run)) → p < length (take n run)
  deep_inside p h = omega (arith, length-drop p (take n run), (rw h at (walk_leaves top [] (take n run))).0)

  run_open : (p : ℕ) → first_object (take n run) ≡ refused2 (drop p (take n run)) → length (take n run) ≤ p → (m : Mode) × (k : List Frame) × (first_object run ≡ walk m k (drop n run))
  run_open p h l = rw (h, drop_of_length-le (take n run) l) at run_goes

first_length : (n : ℕ) (run : List ℕ) → length (take n run) ≤ n
first_length zero run = omega arith
first_length (suc n) [] = omega arith
first_length (suc n) (b ∷ run) = let h = first_length n run in omega arith

-- ---- the run's first text
module _ (run : List ℕ) where
  -- the walk ends or is refused behind the first 32,768 bytes
  beyond : (w : Walked) → text_at_most < length run → Leaves (length run - text_at_most) w → first_walked run w ≡ Err (refusal TooLong text_at_most)
  beyond (end r) l h = rw (lt-leb (place_in run r) text_at_most (omega arith))
  beyond (refused2 p) l h = rw (lt-leb (length run) text_at_most l, le-ltb (place_in run p) text_at_most (omega arith))
  beyond (refused3 p) l h = rw (lt-leb (length run) text_at_most l, le-ltb (place_in run p) text_at_most (omega (arith, h.1)))

  module _ (place : ℕ) (inside : place ≤ length (take text_at_most run)) where
    pub text_ends : first_object (take text_at_most run) ≡ end (drop place (take text_at_most run)) → first_walked run (first_object run) ≡ Ok (F.Taken place)
    text_ends h =
        ap (first_walked run) (run_ends text_at_most run place h inside)
        ∙ rw (place_of run place (omega (arith, taken_length text_at_most run)), le-leb place text_at_most (omega (arith, first_length text_at_most run)))

    pub text_deep : first_object (take text_at_most run) ≡ refused3 (drop place (take text_at_most run)) → first_walked run (first_object run) ≡ Err (refusal TooDeep place)
    text_deep h =
        ap (first_walked run) (run_refused3 text_at_most run place h inside)
        ∙ rw (
          place_of run place (omega (arith, taken_length text_at_most run)),
          lt-ltb place text_at_most (omega (arith, first_length text_at_most run, deep_inside text_at_most run place h)),
          or-true,
        )

    pub text_bad : first_object (take text_at_most run) ≡ refused2 (drop place (take text_at_most run)) → first_walked run (first_object run) ≡ not_ended NotOneObject run place
    text_bad h = by (ltb place (length (take text_at_most run))) refl
      where
        open_on : (m : Mode) (k : List Frame) → first_object run ≡ walk m k (drop text_at_most run) → length (take text_at_most run) ≤ place
            → (t : Bool) → leb (length run) text_at_most ≡ t → first_walked run (first_object run) ≡ not_ended NotOneObject run place
        open_on m k g l true e =
            let d = drop_of_length-le run (leb-true (length run) text_at_most e) in
            let f = take_all text_at_most run (leb-true (length run) text_at_most e) in
            let q : length run - 0 ≡ place = omega (arith, ap length f) in
            ap (first_walked run) (g ∙ ap (walk m k) d ∙ walk_none m k) ∙ ap (not_ended NotOneObject run) q
        open_on m k g l false e =
            let b = leb-false (length run) text_at_most e in
            let n = length-take-le text_at_most run (omega arith) in
            ap (first_walked run) g
            ∙ beyond (walk m k (drop text_at_most run)) b (rw (length-drop text_at_most run) at (walk_leaves m k (drop text_at_most run)))
            ∙ sym (rw (lt-leb (length run) text_at_most b, le-ltb place text_at_most (omega arith)))

        by : (t : Bool) → ltb place (length (take text_at_most run)) ≡ t → first_walked run (first_object run) ≡ not_ended NotOneObject run place
        by true e =
            ap (first_walked run) (run_refused2 text_at_most run place h (ltb-true _ _ e))
            ∙ ap (not_ended NotOneObject run) (place_of run place (omega (arith, taken_length text_at_most run)))
        by false e =
            let g = run_open text_at_most run place h (ltb-false _ _ e) in
            open_on g.0 g.1 g.2 (ltb-false _ _ e) (leb (length run) text_at_most) refl
