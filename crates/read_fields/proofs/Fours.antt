-- A list of four decimals, read in turn.
use Prim.Native.Nat.{ℕ, suc}
use mathlib.Core.Path.{◌≡◌, refl, ap, sym, ◌∙◌, subst}
use mathlib.Core.List.{List, [], ◌∷◌}
use native.Mathlib.Omega.{arith}
use lib.ListN.{length, drop, length-drop}
use Rattle.std.specs.Prelude.{Option as Maybe, Result, Ok, Err}
use Rattle.json_grammar.specs.Tree.{Place, Moves, Tree, list, Elements, no_element, element}
use Rattle.json_move.specs.Moving.{first_in, next_after}
use Rattle.json_move.specs.Count.{count, elements_in}
use Rattle.json_laws.proofs.Moved.{elements_in_lem}
use Rattle.document.specs.Refusals.{number_of}
use Rattle.document.specs.Schema.{a_number, decimal, four_decimals, Four}
use Rattle.document.specs.Visit.{State, Outcome, done, refuse, bind, decimals, Value, value_of, values_of}
use Rattle.document.specs.At.{At}
use Rattle.document.specs.declared.refusal.Refusal.{Refusal}
use Rattle.document.specs.declared.refusal.Reason.TheVariants as R
use Rattle.read_fields.specs.Fields.{Refuses, ReadsAt, ReadsFour, FourIn, FourNeeded, ListNeeded}
use Rattle.read_fields.specs.declared.four.Four.{Four as FourRead}
use Rattle.read_fields.proofs.ValueKinds.{place_of}
use Rattle.read_fields.proofs.Elements.{Standing, standing_first, standing_at, standing_next}
use Rattle.read_fields.proofs.Refusals.{refuses_as, refuses_bind}

-- How many elements a list has.
count_values : (es : Elements) → count es ≡ length (values_of es)
unfolding values_of
count_values no_element = refl
count_values (element t es) = ap suc (count_values es)

counted : {text : List ℕ} {at : ℕ} {p : Place} {es : Elements} → At text at (list p es) → count (elements_in text (drop at text)) ≡ length (values_of es)
unfolding elements_in
counted {text} {at} {p} {es} a = ap count (elements_in_lem a.spelled (length text) (omega (arith, length-drop at text))) ∙ count_values es

-- Four elements, and any other number of them.
record FourOf (es : Elements) : Type 0 where
  pub a : Tree
  pub b : Tree
  pub c : Tree
  pub d : Tree
  pub all : es ≡ element a (element b (element c (element d no_element)))

four_of_lem : (es : Elements) → length (values_of es) ≡ 4 → FourOf es
unfolding values_of
four_of_lem no_element h = absurd (omega arith)
four_of_lem (element a no_element) h = absurd (omega arith)
four_of_lem (element a (element b no_element)) h = absurd (omega arith)
four_of_lem (element a (element b (element c no_element))) h = absurd (omega arith)
four_of_lem (element a (element b (element c (element d no_element)))) h = record { a = a; b = b; c = c; d = d; all = refl }
four_of_lem (element a (element b (element c (element d (element e es))))) h = absurd (omega arith)

not_four : (p : Place) (vs : List Value) (l : State) → (length vs ≡ 4 → ⊥) → decimals p vs l ≡ refuse 11 p
not_four p [] l h = refl
not_four p (a ∷ []) l h = refl
not_four p (a ∷ b ∷ []) l h = refl
not_four p (a ∷ b ∷ c ∷ []) l h = refl
not_four p (a ∷ b ∷ c ∷ d ∷ []) l h = absurd (h refl)
not_four p (a ∷ b ∷ c ∷ d ∷ e ∷ vs) l h = refl

-- The decimals in turn: of each the value that stands there, or its refusal.
abbrev read_here : Value → State → Outcome ℕ
read_here v l = v.read (a_number (decimal 0)) l

abbrev fourth : Value → ℕ → ℕ → ℕ → State → Outcome Four
fourth d m n e l = bind (read_here d l) λ i l₄. done (record { morning = m; noon = n; evening = e; night = i }) l₄

abbrev third : Value → Value → ℕ → ℕ → State → Outcome Four
third c d m n l = bind (read_here c l) λ e l₃. fourth d m n e l₃

abbrev second : Value → Value → Value → ℕ → State → Outcome Four
second b c d m l = bind (read_here b l) λ n l₂. third c d m n l₂

module _ {text : List ℕ} {at e₁ : ℕ} (m₁ : Moves first_in text at e₁) where
  module _ {p : Place} {es : Elements} (stands : At text at (list p es)) (four : length (values_of es) ≡ 4) (l : State) where
    q : FourOf es
    q = four_of_lem es four

    s₁ : Standing text e₁ (element q.a (element q.b (element q.c (element q.d no_element))))
    s₁ = subst (λ (x : Elements). Standing text e₁ x) q.all (standing_first stands m₁)

    start : decimals p (values_of es) l ≡ bind (read_here (value_of q.a) l) (second (value_of q.b) (value_of q.c) (value_of q.d))
    unfolding values_of
    start = ap (λ (x : Elements). decimals p (values_of x) l) q.all

    refused₁ : (r : Refusal) → ReadsAt text e₁ (decimal 0) (Err r) → Refuses text (decimals p (values_of es) l) (number_of r.0) r.1
    refused₁ r f = refuses_as start (refuses_bind (second (value_of q.b) (value_of q.c) (value_of q.d)) (f q.a (standing_at s₁) l))

    module _ {m : ℕ} (f₁ : ReadsAt text e₁ (decimal 0) (Ok m)) {e₂ : ℕ} (m₂ : Moves next_after text e₁ e₂) where
      s₂ : Standing text e₂ (element q.b (element q.c (element q.d no_element)))
      s₂ = standing_next s₁ m₂

      on₁ : decimals p (values_of es) l ≡ second (value_of q.b) (value_of q.c) (value_of q.d) m l
      on₁ = start ∙ ap (λ o. bind o (second (value_of q.b) (value_of q.c) (value_of q.d))) (f₁ q.a (standing_at s₁) l)

      refused₂ : (r : Refusal) → ReadsAt text e₂ (decimal 0) (Err r) → Refuses text (decimals p (values_of es) l) (number_of r.0) r.1
      refused₂ r f = refuses_as on₁ (refuses_bind (third (value_of q.c) (value_of q.d) m) (f q.b (standing_at s₂) l))

      module _ {n : ℕ} (f₂ : ReadsAt text e₂ (decimal 0) (Ok n)) {e₃ : ℕ} (m₃ : Moves next_after text e₂ e₃) where
        s₃ : Standing text e₃ (element q.c (element q.d no_element))
        s₃ = standing_next s₂ m₃

        on₂ : decimals p (values_of es) l ≡ third (value_of q.c) (value_of q.d) m n l
        on₂ = on₁ ∙ ap (λ o. bind o (third (value_of q.c) (value_of q.d) m)) (f₂ q.b (standing_at s₂) l)

        refused₃ : (r : Refusal) → ReadsAt text e₃ (decimal 0) (Err r) → Refuses text (decimals p (values_of es) l) (number_of r.0) r.1
        refused₃ r f = refuses_as on₂ (refuses_bind (fourth (value_of q.d) m n) (f q.c (standing_at s₃) l))

        module _ {e : ℕ} (f₃ : ReadsAt text e₃ (decimal 0) (Ok e)) {e₄ : ℕ} (m₄ : Moves next_after text e₃ e₄) where
          s₄ : Standing text e₄ (element q.d no_element)
          s₄ = standing_next s₃ m₄

          on₃ : decimals p (values_of es) l ≡ fourth (value_of q.d) m n e l
          on₃ = on₂ ∙ ap (λ o. bind o (fourth (value_of q.d) m n)) (f₃ q.c (standing_at s₃) l)

          refused₄ : (r : Refusal) → ReadsAt text e₄ (decimal 0) (Err r) → Refuses text (decimals p (values_of es) l) (number_of r.0) r.1
          refused₄ r f = refuses_as on₃ (refuses_bind (λ i l₄. done (record { morning = m; noon = n; evening = e; night = i }) l₄) (f q.d (standing_at s₄) l))

          read₄ : {i : ℕ} → ReadsAt text e₄ (decimal 0) (Ok i) → decimals p (values_of es) l ≡ done (record { morning = m; noon = n; evening = e; night = i }) l
          read₄ f = on₃ ∙ ap (λ o. bind o (λ i l₄. done (record { morning = m; noon = n; evening = e; night = i }) l₄)) (f q.d (standing_at s₄) l)

  -- Told of every list of four that stands there.
  pub morning_refused : (r : Refusal) → ReadsAt text e₁ (decimal 0) (Err r) → FourIn text at (Err r)
  morning_refused r f p es a four l = refused₁ a four l r f

  module _ {m : ℕ} (f₁ : ReadsAt text e₁ (decimal 0) (Ok m)) {e₂ : ℕ} (m₂ : Moves next_after text e₁ e₂) where
    pub noon_refused : (r : Refusal) → ReadsAt text e₂ (decimal 0) (Err r) → FourIn text at (Err r)
    noon_refused r f p es a four l = refused₂ a four l f₁ m₂ r f

    module _ {n : ℕ} (f₂ : ReadsAt text e₂ (decimal 0) (Ok n)) {e₃ : ℕ} (m₃ : Moves next_after text e₂ e₃) where
      pub evening_refused : (r : Refusal) → ReadsAt text e₃ (decimal 0) (Err r) → FourIn text at (Err r)
      evening_refused r f p es a four l = refused₃ a four l f₁ m₂ f₂ m₃ r f

      module _ {e : ℕ} (f₃ : ReadsAt text e₃ (decimal 0) (Ok e)) {e₄ : ℕ} (m₄ : Moves next_after text e₃ e₄) where
        pub night_refused : (r : Refusal) → ReadsAt text e₄ (decimal 0) (Err r) → FourIn text at (Err r)
        night_refused r f p es a four l = refused₄ a four l f₁ m₂ f₂ m₃ f₃ m₄ r f

        pub four_read : {i : ℕ} → ReadsAt text e₄ (decimal 0) (Ok i) → FourIn text at (Ok (record { morning = m; noon = n; evening = e; night = i }))
        four_read f p es a four l = read₄ a four l f₁ m₂ f₂ m₃ f₃ m₄ f

-- A field with four decimals.
module _ {text : List ℕ} (brace : ℕ) {slot : Maybe ℕ} {at n : ℕ} (h : ListNeeded text brace slot (Ok at)) (k : n ≡ count (elements_in text (drop at text))) where
  pub other_count : (n ≡ 4 → ⊥) → FourNeeded text brace slot (Err (record { 0 = R.WrongCount; 1 = at }))
  other_count other f s l =
      let g = h f s in
      record {
        outcome = g.outcome four_decimals l ∙ not_four g.place (values_of g.inner) l (λ four. other (k ∙ counted g.stands ∙ four)) ∙ ap (λ q. refuse 11 q) (place_of g.stands.spelled);
        inside = omega (arith, g.stands.inside);
      }

  pub four_there : (r : Result FourRead Refusal) → n ≡ 4 → FourIn text at r → FourNeeded text brace slot r
  four_there r four d f s l =
      let g = h f s in
      subst (λ (o : Outcome Four). ReadsFour text o l r) (sym (g.outcome four_decimals l)) (d g.place g.inner g.stands (sym (counted g.stands) ∙ sym k ∙ four) l)
