-- A list gone through: what reading its elements in turn comes to.
use Prim.Native.Nat.{ℕ, ◌*◌}
use mathlib.Core.Path.{◌≡◌, refl, ap, sym, ◌∙◌, subst}
use mathlib.Core.List.{List, [], ◌∷◌, ◌++◌}
use mathlib.Core.Bool.{true, false}
use native.Mathlib.Omega.{arith}
use lib.ListN.{length, drop, length-append}
use Rattle.std.specs.Prelude.{Result, Ok, Err}
use lib.Seq.{sets, length-sets}
use Rattle.json_grammar.proofs.Stores.{sets_append}
use Rattle.json_grammar.specs.Tree.{Place, Moves, Tree, list, Elements}
use Rattle.json_move.specs.Moving.{first_in, next_after, at_end}
use Rattle.document.specs.Schema.{Shape, Of}
use Rattle.document.specs.Visit.{State, Outcome, done, bind, each, value_of, values_of, Value as Waits}
use Rattle.document.specs.At.{At}
use Rattle.document.specs.Told.{Tells}
use Rattle.document.specs.Refusals.{number_of}
use Rattle.document.specs.declared.refusal.Refusal.{Refusal}
use Rattle.document.specs.declared.terms.Terms.{Terms}
use Rattle.document.specs.declared.terms.Used.{Used}
use Rattle.document.specs.Words.{width}
use Rattle.read_fields.specs.Fields.{Refuses}
use Rattle.read_fields.proofs.Elements.{Standing, standing_first, standing_here, standing_over}
use Rattle.read_fields.proofs.Refusals.{refuses_as, refuses_bind}
use Rattle.read_dosages.specs.Visiting.{RowsIn, Did, Visited}
use Rattle.read_dosages.proofs.Bodies.{done_bind}

-- Elements read one behind the other.
module _ (terms : Terms) (text : List ℕ) (s : Shape) (all : RowsIn (List (Of s))) where
  pub none_did : (u : Used) (now : List ℕ) {k : State} → Tells terms text u k → all u.text [] u.text [] → Did terms text u now all (each s [] k) u now
  none_did u now {k} t h = record { value = []; state = k; chunk = []; outcome = refl; tells = t; row = h; words = refl; size = omega arith }

  pub one_then : {one : RowsIn (Of s)} {u u' : Used} {before mid : List ℕ} (v : Waits) (vs : List Waits) {k : State} (d : Did terms text u before one (v.read s k) u' mid)
      → ((end : ℕ) (a : Of s) (as' : List (Of s)) (c c' : List ℕ) → one u'.text a u.text c → all end as' u'.text c' → all end (a ∷ as') u.text (c ++ c'))
      → (r : Result Used Refusal) (after : List ℕ) → Visited terms text u' mid all (each s vs d.state) r after → Visited terms text u before all (each s (v ∷ vs) k) r after
  one_then {u = u} {u'} {before} v vs d join (Ok w) after m =
      record {
        value = d.value ∷ m.value;
        state = m.state;
        chunk = d.chunk ++ m.chunk;
        outcome = done_bind (λ a l. bind (each s vs l) λ as' l'. done (a ∷ as') l') d.outcome ∙ done_bind (λ as' l'. done (d.value ∷ as') l') m.outcome;
        tells = m.tells;
        row = join w.text d.value m.value d.chunk m.chunk d.row m.row;
        words =
            m.words ∙ ap (λ x. sets x (width * u'.records) m.chunk) d.words
            ∙ ap (λ n. sets (sets before (width * u.records) d.chunk) n m.chunk) (omega (arith, d.size))
            ∙ sym (sets_append d.chunk m.chunk before (width * u.records));
        size = omega (arith, d.size, m.size, length-append d.chunk m.chunk);
      }
  one_then {u = u} {u'} {before} v vs d join (Err r) after m = (
    refuses_as (done_bind (λ a l. bind (each s vs l) λ as' l'. done (a ∷ as') l') d.outcome) (refuses_bind (λ as' l'. done (d.value ∷ as') l') m.0),
    m.1 ∙ ap length d.words ∙ length-sets before (width * u.records) d.chunk,
  )

  -- Where a loop stands that has read from u₀ up to u: what is left to read settles the whole.
  pub record Going (u₀ : Used) (before : List ℕ) (o : Outcome (List (Of s))) (u : Used) (now : List ℕ) (e : ℕ) : Type 0 where
    pub left : Elements
    pub stands : Standing text e left
    pub state : State
    pub tells : Tells terms text u state
    pub rest : (r : Result Used Refusal) (after : List ℕ) → Visited terms text u now all (each s (values_of left) state) r after → Visited terms text u₀ before all o r after

  pub going_starts : {at e : ℕ} {p : Place} {es : Elements} (u : Used) (now : List ℕ) {k : State} → Tells terms text u k → At text at (list p es) → Moves first_in text at e
      → Going u now (each s (values_of es) k) u now e
  going_starts {es = es} u now {k} t a m = record { left = es; stands = standing_first a m; state = k; tells = t; rest = λ r after v. v }

  module _ {u₀ u : Used} {before now : List ℕ} {o : Outcome (List (Of s))} {e : ℕ} (g : Going u₀ before o u now e) where
    pub going_over : at_end (drop e text) ≡ true → all u.text [] u.text [] → Visited terms text u₀ before all o (Ok u) now
    unfolding values_of
    going_over q h =
        g.rest (Ok u) now
        (subst (λ (es : Elements). Did terms text u now all (each s (values_of es) g.state) u now) (sym (standing_over g.stands q)) (none_did u now g.tells h))

    module _ (q : at_end (drop e text) ≡ false) where
      pub going_refused : (r : Refusal) (after : List ℕ) → ((t : Tree) → At text e t → Refuses text ((value_of t).read s g.state) (number_of r.0) r.1) → length after ≡ length now
          → Visited terms text u₀ before all o (Err r) after
      unfolding values_of
      going_refused r after h k =
          let x = standing_here g.stands q in
          g.rest (Err r) after (
            refuses_as (ap (λ es. each s (values_of es) g.state) x.split)
                (refuses_bind (λ a l. bind (each s (values_of x.rest) l) λ as' l'. done (a ∷ as') l') (h x.tree x.stands)),
            k,
          )

      pub going_on : {one : RowsIn (Of s)} {u' : Used} {mid : List ℕ} {e' : ℕ} → ((t : Tree) → At text e t → Did terms text u now one ((value_of t).read s g.state) u' mid)
          → ((end : ℕ) (a : Of s) (as' : List (Of s)) (c c' : List ℕ) → one u'.text a u.text c → all end as' u'.text c' → all end (a ∷ as') u.text (c ++ c'))
          → Moves next_after text e e' → Going u₀ before o u' mid e'
      unfolding values_of
      going_on {u' = u'} {mid} {e'} h join m =
          let x = standing_here g.stands q in
          let d = h x.tree x.stands in
          record {
            left = x.rest;
            stands = x.onward e' m.lands;
            state = d.state;
            tells = d.tells;
            rest = λ r after v.
                g.rest r after
                (subst (λ (es : Elements). Visited terms text u now all (each s (values_of es) g.state) r after) (sym x.split)
                (one_then (value_of x.tree) (values_of x.rest) d join r after v));
          }
