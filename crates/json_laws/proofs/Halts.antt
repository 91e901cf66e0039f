-- Where the walk halts: the bytes before lead to a state, and the next byte has no step there, or the last.
use Prim.Native.Nat.{ℕ}
use mathlib.Core.Path.{◌≡◌, refl, ap}
use mathlib.Core.List.{List, [], ◌∷◌, ◌++◌}
use Rattle.json_grammar.specs.Walk.{Frame, Mode, step, walk, Next, wrong, deep, ended, go, Walked, end, refused2, refused3, onto}
use Rattle.json_laws.proofs.Fits.{Fits, backward}

-- The bytes w lead from one state to another.
pub data Leads : Mode → List Frame → List ℕ → Mode → List Frame → Type 0 where
  still : {m : Mode} {k : List Frame} → Leads m k [] m k
  by : {m n o : Mode} {k l j : List Frame} {b : ℕ} {w : List ℕ} → step m b k ≡ go n l → Leads n l w o j → Leads m k (b ∷ w) o j

pub leads_walk : {m n : Mode} {k l : List Frame} {w : List ℕ} → Leads m k w n l → (s : List ℕ) → walk m k (w ++ s) ≡ walk n l s
unfolding walk
leads_walk still s = refl
leads_walk (by e h) s = rw e (leads_walk h s)

pub leads_fits : {m n : Mode} {k l : List Frame} {w : List ℕ} → Leads m k w n l → (c r : List ℕ) → Fits n l c r → Fits m k (w ++ c) r
leads_fits still c r f = f
leads_fits (by {m = m} {k = k} {b = b} {w = w} e h) c r f = backward m b k (w ++ c) r (rw e (leads_fits h c r f))

abbrev pub Halted : Mode → List Frame → List ℕ → Walked → Type 0
Halted m k s (refused2 []) = (w : List ℕ) × (n : Mode) × (l : List Frame) × Leads m k w n l × (s ≡ w ++ [])
Halted m k s (refused2 (b ∷ q)) = (w : List ℕ) × (n : Mode) × (l : List Frame) × Leads m k w n l × (s ≡ w ++ (b ∷ q)) × (step n b l ≡ wrong)
Halted m k s (refused3 []) = ⊥
Halted m k s (refused3 (b ∷ q)) = (w : List ℕ) × (n : Mode) × (l : List Frame) × Leads m k w n l × (s ≡ w ++ (b ∷ q)) × (step n b l ≡ deep)
Halted m k s (end r) = (w : List ℕ) × (n : Mode) × (l : List Frame) × Leads m k w n l × (b : ℕ) × (s ≡ w ++ (b ∷ r)) × (step n b l ≡ ended)

later : (m n : Mode) (k l : List Frame) (b : ℕ) (s : List ℕ) (x : Walked) → step m b k ≡ go n l → Halted n l s x → Halted m k (b ∷ s) x
later m n k l b s (refused2 []) e h = (b ∷ h.0, h.1, h.2, by e h.3, ap (λ x. b ∷ x) h.4)
later m n k l b s (refused2 (c ∷ q)) e h = (b ∷ h.0, h.1, h.2, by e h.3, ap (λ x. b ∷ x) h.4, h.5)
later m n k l b s (refused3 []) e h = h
later m n k l b s (refused3 (c ∷ q)) e h = (b ∷ h.0, h.1, h.2, by e h.3, ap (λ x. b ∷ x) h.4, h.5)
later m n k l b s (end r) e h = (b ∷ h.0, h.1, h.2, by e h.3, h.4, ap (λ x. b ∷ x) h.5, h.6)

halt_step : (m : Mode) (k : List Frame) (b : ℕ) (s : List ℕ) (x : Next) → step m b k ≡ x → ((n : Mode) (l : List Frame) → Halted n l s (walk n l s))
    → Halted m k (b ∷ s) (onto x (b ∷ s) (λ n l. walk n l s) (λ _. end s))
halt_step m k b s wrong e f = ([], m, k, still, refl, e)
halt_step m k b s deep e f = ([], m, k, still, refl, e)
halt_step m k b s ended e f = ([], m, k, still, b, refl, e)
halt_step m k b s (go n l) e f = later m n k l b s (walk n l s) e (f n l)

pub halts : (m : Mode) (k : List Frame) (s : List ℕ) → Halted m k s (walk m k s)
unfolding walk
halts m k [] = ([], m, k, still, refl)
halts m k (b ∷ s) = halt_step m k b s (step m b k) refl (λ n l. halts n l s)
