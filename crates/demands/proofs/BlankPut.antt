-- A blank that is put between two tokens changes no bare byte and parts nothing.
use Prim.Native.Nat.{ℕ}
use mathlib.Core.Path.{◌≡◌, refl, sym, ap, ◌∙◌}
use mathlib.Core.List.{List, [], ◌∷◌, ◌++◌}
use mathlib.Core.Bool.{Bool, true, false, false≢true}
use mathlib.Core.Logic.{◌⊎◌, inl, inr}
use lib.Dec.{eqb}
use Rattle.json_grammar.specs.Rows.{choose}
use Rattle.json_grammar.specs.Byte.{is_blank}
use Rattle.json_grammar.proofs.Truth.{and_both, and_left, and_right}
use Rattle.json_move.specs.Moving.{first_byte}
use Rattle.json_laws.proofs.Bytes.{apart}
use Rattle.demands.specs.Blanks.{bare, bare_quoted, bare_escaped, may_part, whole_after, whole_quoted, whole_escaped, whole, between_after, between_quoted, between_escaped, between}
use Rattle.demands.proofs.BareBytes.{bare_step, whole_step, quoted_step}

-- No blank may stand between two bytes of a word; here it may.
abbrev May : ℕ → List ℕ → Type 0
May p s = may_part p (first_byte s) ≡ true

-- Before the next byte, blanks aside, as before the next.
may_bare : (p : ℕ) (s : List ℕ) → May p s → whole_after p s ≡ true → May p (bare s)
unfolding bare whole_after
may_bare p [] m w = m
may_bare p (b ∷ s) m w = which (is_blank b) (eqb b 34) w
  where
    which : (x y : Bool) → whole_step x y p b s ≡ true → May p (bare_step x y b s)
    which true y v = and_left (may_part p (first_byte (bare s))) (whole_after p s) v
    which false true v = m
    which false false v = m

module _ (b : ℕ) (v : List ℕ) (is : is_blank b ≡ true) where
  -- behind the byte l, with p the last before that is no blank
  abbrev Puts : List ℕ → ℕ → Type 0
  Puts u p = (bare (u ++ (b ∷ v)) ≡ bare (u ++ v)) × (whole_after p (u ++ (b ∷ v)) ≡ true)

  abbrev PutsQuoted : List ℕ → Type 0
  PutsQuoted u = (bare_quoted (u ++ (b ∷ v)) ≡ bare_quoted (u ++ v)) × (whole_quoted (u ++ (b ∷ v)) ≡ true)

  abbrev PutsEscaped : List ℕ → Type 0
  PutsEscaped u = (bare_escaped (u ++ (b ∷ v)) ≡ bare_escaped (u ++ v)) × (whole_escaped (u ++ (b ∷ v)) ≡ true)

  -- at the place itself
  put_here : (p l : ℕ) → May l v → whole_after p v ≡ true → (l ≡ p) ⊎ May p (bare v) → Puts [] p
  unfolding bare whole_after
  put_here p l m w (inl e) = (rw is, rw is (and_both (may_bare p v (rw e at m) w) w))
  put_here p l m w (inr k) = (rw is, rw is (and_both k w))

  mutual
    unfolding bare whole_after between_after is_blank

    put : (u : List ℕ) (p l : ℕ) → between_after l u v ≡ true → whole_after p (u ++ v) ≡ true → (l ≡ p) ⊎ May p (bare (u ++ v)) → Puts u p
    put [] p l m w k = put_here p l m w k
    put (c ∷ u) p l m w k = which (is_blank c) (eqb c 34) refl refl m w (λ q n i j h. put u q n i j h) (λ i j. put_quoted u i j)
      where
        which : (x y : Bool) → is_blank c ≡ x → eqb c 34 ≡ y → choose y (λ _. between_quoted u v) (λ _. between_after c u v) ≡ true → whole_step x y p c (u ++ v) ≡ true
            → ((q n : ℕ) → between_after n u v ≡ true → whole_after q (u ++ v) ≡ true → (n ≡ q) ⊎ May q (bare (u ++ v)) → Puts u q)
            → (between_quoted u v ≡ true → whole_quoted (u ++ v) ≡ true → PutsQuoted u)
            → (bare_step x y c (u ++ (b ∷ v)) ≡ bare_step x y c (u ++ v)) × (whole_step x y p c (u ++ (b ∷ v)) ≡ true)
        which true true e f i j g h = absurd (false≢true (sym (apart is_blank c 34 e refl) ∙ f))
        which true false e f i j g h =
            let may = and_left (may_part p (first_byte (bare (u ++ v)))) (whole_after p (u ++ v)) j in
            let a = g p c i (and_right (may_part p (first_byte (bare (u ++ v)))) (whole_after p (u ++ v)) j) (inr may) in
            (a.0, and_both (ap (λ z. may_part p (first_byte z)) a.0 ∙ may) a.1)
        which false true e f i j g h = let a = h i j in (ap (λ z. c ∷ z) a.0, a.1)
        which false false e f i j g h = let a = g c c i j (inl refl) in (ap (λ z. c ∷ z) a.0, a.1)

    put_quoted : (u : List ℕ) → between_quoted u v ≡ true → whole_quoted (u ++ v) ≡ true → PutsQuoted u
    put_quoted [] m w = absurd (false≢true m)
    put_quoted (c ∷ u) m w = which (eqb c 34) (eqb c 92) m w (λ q n i j h. put u q n i j h) (λ i j. put_quoted u i j) (λ i j. put_escaped u i j)
      where
        which : (x y : Bool) → choose x (λ _. between_after c u v) (λ _. choose y (λ _. between_escaped u v) λ _. between_quoted u v) ≡ true
            → choose x (λ _. whole_after c (u ++ v)) (λ _. choose y (λ _. whole_escaped (u ++ v)) λ _. whole_quoted (u ++ v)) ≡ true
            → ((q n : ℕ) → between_after n u v ≡ true → whole_after q (u ++ v) ≡ true → (n ≡ q) ⊎ May q (bare (u ++ v)) → Puts u q)
            → (between_quoted u v ≡ true → whole_quoted (u ++ v) ≡ true → PutsQuoted u) → (between_escaped u v ≡ true → whole_escaped (u ++ v) ≡ true → PutsEscaped u)
            → (quoted_step x y c (u ++ (b ∷ v)) ≡ quoted_step x y c (u ++ v))
            × (choose x (λ _. whole_after c (u ++ (b ∷ v))) (λ _. choose y (λ _. whole_escaped (u ++ (b ∷ v))) λ _. whole_quoted (u ++ (b ∷ v))) ≡ true)
        which true y i j f g h = let a = f c c i j (inl refl) in (ap (λ z. c ∷ z) a.0, a.1)
        which false true i j f g h = let a = h i j in (ap (λ z. c ∷ z) a.0, a.1)
        which false false i j f g h = let a = g i j in (ap (λ z. c ∷ z) a.0, a.1)

    put_escaped : (u : List ℕ) → between_escaped u v ≡ true → whole_escaped (u ++ v) ≡ true → PutsEscaped u
    put_escaped [] m w = absurd (false≢true m)
    put_escaped (c ∷ u) m w = let a = put_quoted u m w in (ap (λ z. c ∷ z) a.0, a.1)

  pub blank_put : (u : List ℕ) → between u v ≡ true → whole (u ++ v) ≡ true → (bare (u ++ v) ≡ bare (u ++ (b ∷ v))) × (whole (u ++ (b ∷ v)) ≡ true)
  unfolding between whole
  blank_put u m w = let a = put u 0 0 m w (inl refl) in (sym a.0, a.1)
