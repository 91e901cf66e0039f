-- A list of days read element by element.
use Prim.Native.Nat.{ℕ, ◌+◌, ◌<◌, ◌≤◌}
use mathlib.Core.Path.{◌≡◌, refl, sym, ap, ◌∙◌, subst}
use mathlib.Core.List.{List, [], ◌∷◌, ◌++◌, append-nil, append_assoc}
use mathlib.Core.Logic.{◌⊎◌, inl, inr}
use mathlib.Core.Bool.{Bool, true, false, not, ◌||◌}
use lib.ListN.{length, drop, get_or, set, length-drop, length-set}
use borrow.Author.Tests.{not-true, not-false}
use native.Mathlib.Omega.{arith}
use Rattle.json_grammar.specs.Tree.{Place, list, Elements, no_element, Moves}
use Rattle.json_move.specs.Moving.{first_in, next_after, at_end}
use Rattle.document.specs.Date.{among}
use Rattle.document.specs.Schema as S
use Rattle.document.specs.Schema.{a_number, integer}
use Rattle.document.specs.Table.{day_set}
use Rattle.document.specs.Visit.{State, Outcome, done, refuse, bind, guard, values_of, each, distinct, ascending, is_empty, needed}
use Rattle.document.specs.At.{At}
use Rattle.document.specs.Told.{Tells, Still}
use Rattle.std.specs.Prelude.{Option as Maybe, Result, Ok, Err}
use Rattle.document.specs.Refusals.{number_of}
use Rattle.document.specs.declared.refusal.Refusal.{Refusal}
use Rattle.document.specs.declared.refusal.Reason.TheVariants as R
use Rattle.document.specs.declared.terms.Terms.{Terms}
use Rattle.document.specs.declared.terms.Used.{Used}
use Rattle.document.proofs.Taken.{still_same, still_then}
use Rattle.read_fields.specs.Fields.{Refuses, Counts, CountsAt, ListNeeded}
use Rattle.read_fields.specs.Dates.{ReadsDays}
use Rattle.read_fields.specs.DaySets.{bits, days_of, DaysIn}
use Rattle.read_fields.specs.declared.field.Counted.{Counted}
use Rattle.read_fields.proofs.ValueKinds.{place_of}
use Rattle.read_fields.proofs.Elements.{Standing, standing_first, standing_here, standing_over, standing_none, next_shorter}
use Rattle.read_fields.proofs.Refusals.{refuses_as, refuses_bind}
use Rattle.read_fields.proofs.DayLaws.{Between, between_more, distinct_more, marks_more, marked_set}

abbrev each_day : ℕ → Elements → State → Outcome (List ℕ)
each_day most es l = each (a_number (integer 1 most)) (values_of es) l

-- An element that is read.
pub record Next (terms : Terms) (text : List ℕ) (most e e' d : ℕ) (w : Used) (es : Elements) (l : State) : Type 0 where
  pub rest : Elements
  pub stands : Standing text e' rest
  pub state : State
  pub tells : Tells terms text w state
  pub outcome : each_day most es l ≡ bind (each_day most rest state) λ more l'. done (d ∷ more) l'

module _ (terms : Terms) (text : List ℕ) (most e : ℕ) (z : at_end (drop e text) ≡ false) (u : Used) (es : Elements) (s : Standing text e es) (l : State) (told : Tells terms text u l) where
  refused_here : (r : Refusal) → CountsAt text e (integer 1 most) u (Err r) → Refuses text (each_day most es l) (number_of r.0) r.1
  unfolding values_of
  refused_here r h =
      let x = standing_here s z in
      refuses_as (ap (λ ts. each_day most ts l) x.split)
      (refuses_bind (λ d l₁. bind (each_day most x.rest l₁) λ more l'. done (d ∷ more) l') (h x.tree x.stands terms l told))

  read_here : (c : Counted) (e' : ℕ) → CountsAt text e (integer 1 most) u (Ok c) → Moves next_after text e e' → Next terms text most e e' c.value c.used es l
  unfolding values_of
  read_here c e' h m =
      let x = standing_here s z in
      let k = h x.tree x.stands terms l told in
      record {
        rest = x.rest;
        stands = x.onward e' m.lands;
        state = k.state;
        tells = k.tells;
        outcome =
            ap (λ ts. each_day most ts l) x.split
            ∙ ap (λ o. bind o λ d l₁. bind (each_day most x.rest l₁) λ more l'. done (d ∷ more) l') k.outcome
            ∙ ap (λ d. bind (each_day most x.rest k.state) λ more l'. done (d ∷ more) l') k.holds;
      }

regroup : (ds : List ℕ) (d : ℕ) (o : Outcome (List ℕ)) → bind (bind o λ more l'. done (d ∷ more) l') (λ more l'. done (ds ++ more) l') ≡ bind o λ more l'. done ((ds ++ (d ∷ [])) ++ more) l'
regroup ds d (done a l) = ap (λ x. done x l) (sym (append_assoc ds (d ∷ []) a))
regroup ds d (refuse n p) = refl

one_more : {o o₁ : Outcome (List ℕ)} (ds : List ℕ) (d : ℕ) (o₂ : Outcome (List ℕ)) → o ≡ bind o₁ (λ more l'. done (ds ++ more) l') → o₁ ≡ bind o₂ (λ more l'. done (d ∷ more) l')
    → o ≡ bind o₂ λ more l'. done ((ds ++ (d ∷ [])) ++ more) l'
one_more ds d o₂ so_far next = so_far ∙ ap (λ o. bind o λ more l'. done (ds ++ more) l') next ∙ regroup ds d o₂

-- The days so far, of the elements es, read from l on.
pub record SoFar (terms : Terms) (text : List ℕ) (most e count : ℕ) (marks : List Bool) (again : Bool) (u : Used) (es : Elements) (l : State) : Type 0 where
  pub days : List ℕ
  pub rest : Elements
  pub stands : Standing text e rest
  pub state : State
  pub tells : Tells terms text u state
  pub outcome : each_day most es l ≡ bind (each_day most rest state) λ more l'. done (days ++ more) l'
  pub between : Between days
  pub marked : (d : ℕ) → d < 29 → get_or marks d false ≡ among d days
  pub twice : again ≡ not (distinct days)
  pub short : length (drop e text) + count ≤ length text

pub record Days (text : List ℕ) (at most e count : ℕ) (marks : List Bool) (again : Bool) (u₀ u : Used) : Type 0 where
  pub size : length marks ≡ 29
  pub still : Still u₀ u
  pub read : (p : Place) (es : Elements) → At text at (list p es) → (terms : Terms) (l : State) → Tells terms text u₀ l → SoFar terms text most e count marks again u es l

module _ (text : List ℕ) (at most : ℕ) where
  pub days_start : (e : ℕ) (marks : List Bool) (u : Used) → length marks ≡ 29 → ((d : ℕ) → get_or marks d false ≡ false) → Moves first_in text at e → Days text at most e 0 marks false u u
  days_start e marks u h f m =
      record {
        size = h;
        still = still_same refl;
        read = λ p es a terms l told.
            record {
              days = [];
              rest = es;
              stands = standing_first a m;
              state = l;
              tells = told;
              outcome = same_each (each_day most es l);
              between = tt;
              marked = λ d k. f d;
              twice = refl;
              short = rw length-drop (omega arith);
            };
      }
    where
      same_each : (o : Outcome (List ℕ)) → o ≡ bind o λ more l'. done ([] ++ more) l'
      same_each (done a l) = refl
      same_each (refuse n p) = refl

  module _ (e count : ℕ) (marks : List Bool) (again : Bool) (u₀ u : Used) (g : Days text at most e count marks again u₀ u) where
    -- the end
    ended : (rest : Elements) → Standing text e rest → (at_end (drop e text) ≡ true) ⊎ (length text ≤ count) → length (drop e text) + count ≤ length text → rest ≡ no_element
    ended rest x (inl h) s = standing_over x h
    ended rest x (inr h) s = standing_none x (omega arith)

    record Over (p : Place) (es : Elements) (terms : Terms) (l : State) : Type 0 where
      pub days : List ℕ
      pub state : State
      pub tells : Tells terms text u state
      pub outcome : days_of most p (values_of es) l ≡ guard (distinct days) 11 p (done (ascending days) state)
      pub between : Between days
      pub marked : (d : ℕ) → d < 29 → get_or marks d false ≡ among d days
      pub twice : again ≡ not (distinct days)

    module _ (h : (at_end (drop e text) ≡ true) ⊎ (length text ≤ count)) where
      over : {p : Place} {es : Elements} → At text at (list p es) → {terms : Terms} {l : State} → Tells terms text u₀ l → Over p es terms l
      unfolding values_of
      over {p} {es} a {terms} {l} w =
          let s = g.read p es a terms l w in
          record {
            days = s.days;
            state = s.state;
            tells = s.tells;
            outcome = rw (s.outcome, ended s.rest s.stands h s.short, append-nil s.days);
            between = s.between;
            marked = s.marked;
            twice = s.twice;
          }

      pub days_twice : again ≡ true → DaysIn text at most u₀ (Err (record { 0 = R.WrongCount; 1 = at }))
      days_twice t p es a terms l w =
          let s = over a w in
          record { outcome = s.outcome ∙ rw (not-true (distinct s.days) (sym s.twice ∙ t)) (ap (λ x. refuse 11 x) (place_of a.spelled)); inside = omega (arith, a.inside) }

      pub days_once : again ≡ false → (n : ℕ) → n ≡ bits 28 marks → DaysIn text at most u₀ (Ok (record { value = n; used = u }))
      days_once t n q p es a terms l w =
          let s = over a w in
          let once : distinct s.days ≡ true = not-false (distinct s.days) (sym s.twice ∙ t) in
          record { value = ascending s.days; state = s.state; outcome = s.outcome ∙ rw once; tells = s.tells; holds = marked_set marks s.days s.between s.marked once ∙ sym q }

    -- an element is refused, and one more is read
    module _ (z : at_end (drop e text) ≡ false) where
      pub day_refused : (r : Refusal) → CountsAt text e (integer 1 most) u (Err r) → DaysIn text at most u₀ (Err r)
      day_refused r h p es a terms l w =
          let s = g.read p es a terms l w in
          let no = refused_here terms text most e z u s.rest s.stands s.state s.tells r h in
          rw (s.outcome, no.outcome) (record { outcome = refl; inside = no.inside })

      pub day_more : (c : Counted) (e' : ℕ) → most ≤ 28 → CountsAt text e (integer 1 most) u (Ok c) → Still u c.used → (1 ≤ c.value) × (c.value ≤ most) → Moves next_after text e e'
          → Days text at most e' (count + 1) (set marks c.value true) (again || get_or marks c.value false) u₀ c.used
      day_more c e' few h still range m =
          record {
            size = length-set marks c.value true ∙ g.size;
            still = still_then g.still still;
            read = λ p es a terms l w.
                let s = g.read p es a terms l w in
                let n = read_here terms text most e z u s.rest s.stands s.state s.tells c e' h m in
                record {
                  days = s.days ++ (c.value ∷ []);
                  rest = n.rest;
                  stands = n.stands;
                  state = n.state;
                  tells = n.tells;
                  outcome = one_more s.days c.value (each_day most n.rest n.state) s.outcome n.outcome;
                  between = between_more s.days c.value s.between range.0 (omega (arith, range.1));
                  marked = marks_more marks s.days c.value g.size (omega (arith, range.1)) s.marked;
                  twice = rw (s.twice, s.marked c.value (omega (arith, range.1))) (sym (distinct_more s.days c.value));
                  short = omega (arith, next_shorter s.stands z m, s.short);
                };
          }

-- A field with a list of days.
some_there : {text : List ℕ} {at e : ℕ} {p : Place} {es : Elements} → At text at (list p es) → Moves first_in text at e → at_end (drop e text) ≡ false → is_empty (values_of es) ≡ false
unfolding values_of
some_there a m z = ap (λ es. is_empty (values_of es)) (standing_here (standing_first a m) z).split

module _ (text : List ℕ) (brace : ℕ) (slot : Maybe ℕ) (most : ℕ) (u : Used) where
  module _ (at e : ℕ) (h : ListNeeded text brace slot (Ok at)) (m : Moves first_in text at e) where
    pub no_days : at_end (drop e text) ≡ true → ReadsDays text brace slot most u (Err (record { 0 = R.WrongCount; 1 = at }))
    unfolding values_of
    no_days z f s terms l told =
        let g = h f s in
        record {
          outcome = g.outcome (S.days most) l ∙ rw (standing_over (standing_first g.stands m) z) (ap (λ p. refuse 11 p) (place_of g.stands.spelled));
          inside = omega (arith, g.stands.inside);
        }

    pub days_read : at_end (drop e text) ≡ false → (r : Result Counted Refusal) → DaysIn text at most u r → ReadsDays text brace slot most u r
    days_read z r d f s terms l told =
        let g = h f s in
        let same : needed (S.a_list (S.days most)) (drop brace text) f l ≡ days_of most g.place (values_of g.inner) l = g.outcome (S.days most) l ∙ rw (some_there g.stands m z) in
        subst (λ (o : Outcome (List ℕ)). Counts terms text o day_set r) (sym same) (d g.place g.inner g.stands terms l told)
