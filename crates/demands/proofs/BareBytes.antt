-- What the bare bytes tell of the bytes: which comes next, and whether blanks stand before it.
use Prim.Native.Nat.{ℕ}
use mathlib.Core.Path.{◌≡◌, refl, sym, ap, ◌∙◌}
use mathlib.Core.List.{List, [], ◌∷◌}
use mathlib.Core.Bool.{Bool, true, false, not, ◌&&◌, false≢true}
use lib.Dec.{eqb}
use Rattle.json_grammar.specs.Rows.{choose}
use Rattle.json_grammar.specs.Byte.{is_blank, is_numeric}
use Rattle.json_grammar.specs.Grammar.{Blanks, here, blank}
use Rattle.json_grammar.proofs.Truth.{and_right, and_left, never}
use Rattle.json_move.specs.Moving.{first_byte}
use Rattle.json_laws.proofs.Bytes.{blank_not_numeric}
use Rattle.document_meaning.proofs.Numerals.{Ends}
use Rattle.demands.specs.Blanks.{bare, bare_quoted, bare_escaped, in_word, may_part, whole_after, whole_quoted}

-- One step of each, by whether the byte is a blank, a quote, a backslash.
abbrev pub bare_step : Bool → Bool → ℕ → List ℕ → List ℕ
bare_step is_blank is_quote b s = choose is_blank (λ _. bare s) λ _. choose is_quote (λ _. b ∷ bare_quoted s) λ _. b ∷ bare s

abbrev pub quoted_step : Bool → Bool → ℕ → List ℕ → List ℕ
quoted_step is_quote is_slash b s = choose is_quote (λ _. b ∷ bare s) λ _. choose is_slash (λ _. b ∷ bare_escaped s) λ _. b ∷ bare_quoted s

abbrev pub whole_step : Bool → Bool → ℕ → ℕ → List ℕ → Bool
whole_step is_blank is_quote p b s =
    choose is_blank (λ _. may_part p (first_byte (bare s)) && whole_after p s) λ _. choose is_quote (λ _. whole_quoted s) λ _. whole_after b s

-- A byte outside strings, by its kind.
pub bare_blank : (b : ℕ) (s : List ℕ) → is_blank b ≡ true → bare (b ∷ s) ≡ bare s
unfolding bare
bare_blank b s e = rw e

pub bare_byte : (b : ℕ) (s : List ℕ) → is_blank b ≡ false → eqb b 34 ≡ false → bare (b ∷ s) ≡ b ∷ bare s
unfolding bare
bare_byte b s e f = rw (e, f)

pub bare_blanks : {s r : List ℕ} → Blanks s r → bare s ≡ bare r
bare_blanks here = refl
bare_blanks (blank {b = b} {s = s} e bs) = bare_blank b s e ∙ bare_blanks bs

-- What is behind a byte: in a string behind a quote, else outside.
abbrev pub behind : Bool → List ℕ → List ℕ
behind true s = bare_quoted s
behind false s = bare s

abbrev pub whole_behind : Bool → ℕ → List ℕ → Bool
whole_behind true p s = whole_quoted s
whole_behind false p s = whole_after p s

-- The next byte that is no blank.
pub record Next (c : ℕ) (y s : List ℕ) : Type 0 where
  pub rest : List ℕ
  pub blanks : Blanks s (c ∷ rest)
  pub same : y ≡ behind (eqb c 34) rest
  pub unparted : whole_behind (eqb c 34) c rest ≡ true

next_here : (x : Bool) (b c p : ℕ) (y s : List ℕ) → eqb b 34 ≡ x → c ∷ y ≡ bare_step false x b s → whole_step false x p b s ≡ true → Next c y (b ∷ s)
next_here true b c p y s e h w = let q : c ≡ b = cc h in let r : y ≡ bare_quoted s = cc h in rw q (record { rest = s; blanks = here; same = rw e r; unparted = rw e w })
next_here false b c p y s e h w = let q : c ≡ b = cc h in let r : y ≡ bare s = cc h in rw q (record { rest = s; blanks = here; same = rw e r; unparted = rw e w })

next : (c p : ℕ) (y s : List ℕ) → c ∷ y ≡ bare s → whole_after p s ≡ true → Next c y s
unfolding bare whole_after
next c p y [] h w = never (cc h)
next c p y (b ∷ s) h w = which (is_blank b) refl h w (next c p y s)
  where
    which : (x : Bool) → is_blank b ≡ x → c ∷ y ≡ bare_step x (eqb b 34) b s → whole_step x (eqb b 34) p b s ≡ true → (c ∷ y ≡ bare s → whole_after p s ≡ true → Next c y s)
        → Next c y (b ∷ s)
    which true e g v f =
        let n = f g (and_right (may_part p (first_byte (bare s))) (whole_after p s) v) in
        record { rest = n.rest; blanks = blank e n.blanks; same = n.same; unparted = n.unparted }
    which false e g v f = next_here (eqb b 34) b c p y s refl g v

-- Behind a byte of a word another one stands with no blank before it.
both : (a b : Bool) → a ≡ true → b ≡ true → not (a && b) ≡ true → ⊥
both true true e f h = false≢true h
both true false e f h = false≢true f
both false b e f h = false≢true e

pub next_in_word : (c p : ℕ) (y s : List ℕ) → in_word p ≡ true → in_word c ≡ true → eqb c 34 ≡ false → c ∷ y ≡ bare s → whole_after p s ≡ true
    → (r : List ℕ) × (s ≡ c ∷ r) × (y ≡ bare r) × (whole_after c r ≡ true)
unfolding bare whole_after
next_in_word c p y [] i j q h w = never (cc h)
next_in_word c p y (b ∷ s) i j q h w = which (is_blank b) (eqb b 34) refl h w
  where
    which : (x z : Bool) → eqb b 34 ≡ z → c ∷ y ≡ bare_step x z b s → whole_step x z p b s ≡ true → (r : List ℕ) × (b ∷ s ≡ c ∷ r) × (y ≡ bare r) × (whole_after c r ≡ true)
    which true z e g v = absurd (both (in_word p) (in_word (first_byte (bare s))) i (rw (← g) j) (and_left (may_part p (first_byte (bare s))) (whole_after p s) v))
    which false true e g v = let k : c ≡ b = cc g in absurd (false≢true (sym q ∙ ap (λ n. eqb n 34) k ∙ e))
    which false false e g v = let k : b ≡ c = cc g in (s, ap (λ n. n ∷ s) k, cc g, rw k at v)

-- No byte of a number comes next, blanks aside: so none comes next.
pub ends_same : (r s : List ℕ) → Ends (bare r) → bare r ≡ bare s → Ends s
unfolding bare
ends_same r [] h e = tt
ends_same r (b ∷ s) h e = which (is_blank b) (eqb b 34) refl (rw e at h)
  where
    which : (x y : Bool) → is_blank b ≡ x → Ends (bare_step x y b s) → is_numeric b ≡ false
    which true y f g = blank_not_numeric b f
    which false true f g = g
    which false false f g = g

-- Nothing but blanks.
pub all_blanks : (s : List ℕ) → [] ≡ bare s → Blanks s []
unfolding bare
all_blanks [] e = here
all_blanks (b ∷ s) e = which (is_blank b) (eqb b 34) refl e (all_blanks s)
  where
    which : (x y : Bool) → is_blank b ≡ x → [] ≡ bare_step x y b s → ([] ≡ bare s → Blanks s []) → Blanks (b ∷ s) []
    which true y f g k = blank f (k g)
    which false true f g k = never (cc g)
    which false false f g k = never (cc g)

-- The next byte, if it is no quote.
pub next_byte : (c p : ℕ) (y s : List ℕ) → eqb c 34 ≡ false → c ∷ y ≡ bare s → whole_after p s ≡ true → (r : List ℕ) × Blanks s (c ∷ r) × (y ≡ bare r) × (whole_after c r ≡ true)
next_byte c p y s q h w = plain (next c p y s h w) q
  where
    plain : (n : Next c y s) → eqb c 34 ≡ false → (r : List ℕ) × Blanks s (c ∷ r) × (y ≡ bare r) × (whole_after c r ≡ true)
    plain n e = (n.rest, n.blanks, n.same ∙ ap (λ x. behind x n.rest) e, sym (ap (λ x. whole_behind x c n.rest) e) ∙ n.unparted)

pub next_quote : (p : ℕ) (y s : List ℕ) → 34 ∷ y ≡ bare s → whole_after p s ≡ true → (r : List ℕ) × Blanks s (34 ∷ r) × (y ≡ bare_quoted r) × (whole_quoted r ≡ true)
next_quote p y s h w = let n = next 34 p y s h w in (n.rest, n.blanks, n.same, n.unparted)
