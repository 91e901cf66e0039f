-- Loops over a text: what is asked of the rest at a place, and how one byte takes it on.
use Prim.Native.Nat.{ℕ, suc, ◌+◌, ◌<◌, ◌≤◌}
use mathlib.Core.Path.{◌≡◌, refl, sym, ap, ◌∙◌}
use mathlib.Core.List.{List, [], ◌∷◌}
use lib.ListN.{length, get_or, drop, drop_of_length-le}
use lib.Seq.{drop-cons, drop-length}
use native.Mathlib.Numerals.{add-one}
use native.Mathlib.Omega.{arith}
use Rattle.json_grammar.specs.Part.{Skips}

-- At `i` the code asks f of the rest, as at `at` it was asked g.
pub record Passes {A : Type 0} (f g : List ℕ → A) (text : List ℕ) (at i : ℕ) : Type 0 where
  pub same : f (drop i text) ≡ g (drop at text)
  pub ahead : at ≤ i
  pub inside : at ≤ length text → i ≤ length text

pub passes_none : {A : Type 0} (f : List ℕ → A) (text : List ℕ) (at : ℕ) → Passes f f text at at
passes_none f text at = record { same = refl; ahead = omega arith; inside = λ h. h }

module _ {A : Type 0} {f g : List ℕ → A} {text : List ℕ} {at i : ℕ} (p : Passes f g text at i) where
  module _ (h : i < length text) where
    -- the byte at `i` takes f to k
    pub passes_one : {k : List ℕ → A} → ((s : List ℕ) → f (get_or text i 0 ∷ s) ≡ k s) → Passes k g text at (i + 1)
    passes_one law = record {
      same = rw add-one (sym (law (drop (suc i) text)) ∙ ap f (sym (drop-cons text i 0 h)) ∙ p.same);
      ahead = omega (arith, p.ahead);
      inside = λ l. omega arith;
    }

    -- the answer is of the byte at `i`
    pub answers_here : (k : List ℕ → A) → ((s : List ℕ) → f (get_or text i 0 ∷ s) ≡ k (get_or text i 0 ∷ s)) → g (drop at text) ≡ k (drop i text)
    answers_here k law = sym p.same ∙ ap f (drop-cons text i 0 h) ∙ law (drop (suc i) text) ∙ ap k (sym (drop-cons text i 0 h))

  -- more bytes take f to k
  pub passes_on : {k : List ℕ → A} {r : ℕ} → f (drop i text) ≡ k (drop r text) → i < r → r ≤ length text → Passes k g text at r
  passes_on e l h = record { same = sym e ∙ p.same; ahead = omega (arith, p.ahead); inside = λ _. h }

  -- the answer is of the text's end
  pub answers_end : (k : List ℕ → A) → length text ≤ i → f [] ≡ k [] → g (drop at text) ≡ k (drop (length text) text)
  answers_end k h e = sym p.same ∙ ap f (drop_of_length-le text h) ∙ e ∙ ap k (sym (drop-length text))

-- ---- what is skipped
pub skips : {A : Type 0} {f : List ℕ → A} {text : List ℕ} {at i : ℕ} → Passes f f text at i → Skips f text at i
skips p = record { same = p.same; ahead = p.ahead; inside = p.inside }

pub skipped : {A : Type 0} {f g : List ℕ → A} {text : List ℕ} {at i r : ℕ} → Passes f g text at i → Skips f text i r → Passes f g text at r
skipped p k = record { same = k.same ∙ p.same; ahead = omega (arith, p.ahead, k.ahead); inside = λ h. k.inside (p.inside h) }
