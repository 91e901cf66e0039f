-- No more than 20 brackets are open wherever the walk goes.
use Prim.Native.Nat.{ℕ, zero, suc, ◌+◌, ◌-◌, ◌≤◌}
use mathlib.Core.Path.{◌≡◌, refl, sym, ap, ◌∙◌}
use mathlib.Core.List.{List, [], ◌∷◌, ◌++◌, append-nil}
use mathlib.Core.Bool.{Bool, true, false, cond}
use lib.ListN.{length, take}
use lib.Dec.{leb}
use lib.Seq.{take-append-le, take-append-add}
use borrow.Author.Tests.{leb-true, leb-false}
use native.Mathlib.Omega.{arith}
use Rattle.json_grammar.specs.Grammar.{Blanks, here, blank}
use Rattle.json_grammar.specs.Walk as W
use Rattle.json_grammar.specs.Walk.{Frame, Mode, step, ended}
use Rattle.json_laws.specs.Open.{open_after, open_quoted, open_escaped, open_in}
use Rattle.json_laws.proofs.Strings.{escaping}
use Rattle.json_laws.proofs.Counted.{counting, Worded, counted, blank_byte}
use Rattle.json_laws.proofs.Halts.{Leads, still, by}

pub leads_counted : {m n : Mode} {k l : List Frame} {w : List ℕ} → Leads m k w n l → Worded m → length k ≤ 20
    → Worded n × (length l ≤ 20) × ((s : List ℕ) → counting m (length k) (w ++ s) ≡ counting n (length l) s)
leads_counted still t h = (t, h, λ s. refl)
leads_counted (by {m = m} {k = k} {b = b} {w = w} e g) t h =
    let c = rw e at (counted m t b k) in
    let i = leads_counted g c.0 (c.1 h) in
    (i.0, i.1, λ s. c.2 (w ++ s) ∙ i.2 s)

inside_none : (x : Bool) (n : ℕ) → cond {A = List ℕ → ℕ} x (λ s. open_escaped n s) (λ s. open_quoted n s) [] ≡ n
unfolding open_after
inside_none true n = refl
inside_none false n = refl

none : (m : Mode) (n : ℕ) → counting m n [] ≡ n
unfolding open_after
none W.top n = refl
none W.value n = refl
none W.first_element n = refl
none W.first_name n = refl
none W.name n = refl
none W.colon n = refl
none W.behind n = refl
none (W.in_name c) n = inside_none (escaping c) n
none (W.in_string c) n = inside_none (escaping c) n
none (W.in_number i) n = refl
none (W.in_word v) n = refl

pub open_leads : {w : List ℕ} {n : Mode} {l : List Frame} → Leads W.top [] w n l → open_in w ≡ length l
unfolding open_in
open_leads {w} {n} {l} h = let g = leads_counted h tt (omega arith) in ap (λ x. open_after 0 x) (sym (append-nil w)) ∙ g.2 [] ∙ none n (length l)

-- The beginnings of what leads somewhere lead somewhere.
leads_take : {m n : Mode} {k l : List Frame} {w : List ℕ} → Leads m k w n l → (i : ℕ) → (o : Mode) × (j : List Frame) × Leads m k (take i w) o j
leads_take (still {m = m} {k = k}) zero = (m, k, still)
leads_take (still {m = m} {k = k}) (suc i) = (m, k, still)
leads_take (by {m = m} {k = k} e h) zero = (m, k, still)
leads_take (by e h) (suc i) = let g = leads_take h i in (g.0, g.1, by e g.2)

pub level : {w : List ℕ} {n : Mode} {l : List Frame} → Leads W.top [] w n l → (i : ℕ) → open_in (take i w) ≤ 20
level h i = let g = leads_take h i in let c = leads_counted g.2 tt (omega arith) in rw (open_leads g.2) c.1

-- Behind the text's object none is open.
blanks_open : {v : List ℕ} → Blanks v [] → (j : ℕ) → open_after 0 (take j v) ≡ 0
unfolding open_after
blanks_open here zero = refl
blanks_open here (suc j) = refl
blanks_open (blank e bs) zero = refl
blanks_open (blank {b = b} {s = s} e bs) (suc j) = blank_byte b 0 (take j s) e ∙ blanks_open bs j

pub level_ended : {w v s : List ℕ} {n : Mode} {l : List Frame} (a : ℕ) → s ≡ w ++ (a ∷ v) → Leads W.top [] w n l → step n a l ≡ ended → Blanks v [] → (i : ℕ) → open_in (take i s) ≤ 20
unfolding open_in
level_ended {w} {v} {n = n} {l = l} a d h e b i = rw d (which (leb i (length w)) refl)
  where
    behind : (j : ℕ) → open_in (w ++ (a ∷ take j v)) ≡ 0
    behind j = let g = leads_counted h tt (omega arith) in g.2 (a ∷ take j v) ∙ (rw e at (counted n g.0 a l)) (take j v) ∙ blanks_open b j

    far : (j : ℕ) → i ≡ length w + suc j → open_in (take i (w ++ (a ∷ v))) ≤ 20
    far j q = rw (q, take-append-add w (a ∷ v) (suc j), behind j) (omega arith)

    which : (x : Bool) → leb i (length w) ≡ x → open_in (take i (w ++ (a ∷ v))) ≤ 20
    which true q = rw (take-append-le i w (a ∷ v) (leb-true i (length w) q)) (level h i)
    which false q = let p = leb-false i (length w) q in far (i - suc (length w)) (omega arith)
