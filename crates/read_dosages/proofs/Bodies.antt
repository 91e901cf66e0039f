-- An object of a known type: how its body begins, and how its fields go on.
use Prim.Native.Nat.{ℕ, ◌<◌, ◌≤◌}
use Prim.Native.String.{String}
use mathlib.Core.Path.{◌≡◌, refl, ap, sym, ◌∙◌, subst}
use mathlib.Core.List.{List, [], ◌∷◌, ◌++◌}
use mathlib.Core.Bool.{Bool, true, false}
use mathlib.Core.Option.{Option, none}
use lib.ListN.{length, drop}
use Rattle.std.specs.Prelude.{Ok, Err}
use Rattle.json_grammar.specs.Tree.{Place, object, list, Members, Elements}
use Rattle.json_grammar.specs.Grammar.{Value, an_empty_object, an_object, an_empty_list, a_list}
use Rattle.document.specs.Bytes.{bytes}
use Rattle.document.specs.Lookup.{Entry, find, unknown}
use Rattle.document.specs.Schema.{Family, Shape, NumberShape, a_number, Of, Rows, need, may, a_timed, rows_of, types_of, is_record, may_stand, may_open, names}
use Rattle.document.specs.Visit.{State, opened, Outcome, done, refuse, bind, guard, unless, needed, optional, fields, body, members, Value as Waits}
use Rattle.document.specs.At.{At}
use Rattle.document.specs.Told.{Tells, more, Hands, GoesOn}
use Rattle.document.specs.Refusals.{number_of}
use Rattle.document.specs.declared.refusal.Reason.{Reason}
use Rattle.document.specs.declared.refusal.Refusal.{Refusal}
use Rattle.document.specs.declared.terms.Terms.{Terms}
use Rattle.document.specs.declared.terms.Used.{Used}
use Rattle.document.proofs.Taken.{one_left, none_left, tells_opened}
use Rattle.read_names.specs.Names.{row_names}
use Rattle.read_names.specs.declared.names.Name.{Name}
use Rattle.read_fields.specs.Fields.{Refuses, Reads, CountsFrom, itself}
use Rattle.read_fields.specs.declared.field.Counted.{Counted}
use Rattle.read_fields.proofs.Refusals.{refuses_as, refuses_bind}
use Rattle.read_records.specs.Under.{types_under}
use Rattle.read_type.specs.Opens.{Typed, Plain, KnowsAll, by_kind, type_place}
use Rattle.read_type.specs.declared.opened.Opened.{Opened}
use Rattle.read_names.specs.declared.slots.Object.{Object}
use Rattle.read_dosages.specs.Visiting.{Under}

pub done_bind : {A B : Type 0} {o : Outcome A} {a : A} {l : State} (k : A → State → Outcome B) → o ≡ done a l → bind o k ≡ k a l
done_bind k e = ap (λ o. bind o k) e

-- An object and a list stand at their bracket.
object_place : {p : Place} {ms : Members} {s r : List ℕ} → Value (object p ms) s r → p ≡ s
object_place (an_empty_object b) = refl
object_place (an_object b m) = refl

list_place : {p : Place} {es : Elements} {s r : List ℕ} → Value (list p es) s r → p ≡ s
list_place (an_empty_list b) = refl
list_place (a_list b e) = refl

pub object_at : {text : List ℕ} {at : ℕ} {p : Place} {ms : Members} → At text at (object p ms) → p ≡ drop at text
object_at a = object_place a.spelled

pub list_at : {text : List ℕ} {at : ℕ} {p : Place} {es : Elements} → At text at (list p es) → p ≡ drop at text
list_at a = list_place a.spelled

-- The names of an object's rows.
pub record Known (f : Family) (t : ℕ) (also : List (List ℕ)) (ks : List Name) : Type 0 where
  pub counted : is_record f ≡ true
  pub named : row_names ks ≡ also ++ names (rows_of f t)

-- 15, then 5, then the fields.
pub body_full : (f : Family) (t : ℕ) (also : List (List ℕ)) (p : Place) (es : List (Entry Waits)) {terms : Terms} {text : List ℕ} {u : Used} {s : State}
    → Tells terms text u s → is_record f ≡ true → 64 ≤ u.records → (at : ℕ) → p ≡ drop at text → at ≤ length text → Refuses text (body f t also p es s) 15 at
unfolding rows_of
body_full f t also p es tells counted full at e h = record { outcome = rw (counted, none_left tells full, e); inside = h }

-- What is still to be read of an object: these fields, from what is taken on.
pub record Comes {A : Type 0} (terms : Terms) (text : List ℕ) (o : Outcome A) (p : Place) (es : List (Entry Waits)) (rows : Rows A) (u : Used) : Type 0 where
  pub state : State
  pub outcome : o ≡ fields rows p es state
  pub tells : Tells terms text u state

module _ {f : Family} {t : ℕ} {also : List (List ℕ)} {ks : List Name} (k : Known f t also ks) {terms : Terms} {text : List ℕ} {u : Used} {s : State} (tells : Tells terms text u s)
    (few : u.records < 64) (p : Place) (es : List (Entry Waits)) where
  body_begins : body f t also p es s ≡ unless (unknown (row_names ks) es) 5 (fields (rows_of f t) p es (opened s))
  body_begins =
      rw (k.counted, one_left tells few)
      (ap (λ ns. unless (unknown ns es) 5 (fields (rows_of f t) p es (opened s))) (sym k.named))

  pub body_opens : unknown (row_names ks) es ≡ none → {w : Used} → w ≡ more u → {q : Place} → p ≡ q → Comes terms text (body f t also p es s) q es (rows_of f t) w
  body_opens all counted at =
      record {
        state = opened s;
        outcome = body_begins ∙ ap (λ o. unless o 5 (fields (rows_of f t) p es (opened s))) all ∙ ap (λ q. fields (rows_of f t) q es (opened s)) at;
        tells = subst (λ (x : Used). Tells terms text x (opened s)) (sym counted) (tells_opened tells few);
      }

  pub body_unknown : (r : Refusal) → KnowsAll text (unknown (row_names ks) es) (Err r) → Refuses text (body f t also p es s) (number_of r.0) r.1
  body_unknown r told =
      record {
        outcome =
            body_begins ∙ ap (λ o. unless o 5 (fields (rows_of f t) p es (opened s))) told.1
            ∙ ap (λ (w : Reason). refuse (number_of w) (drop r.1 text)) (sym told.0);
        inside = told.2;
      }

-- Fields in turn.
module _ {A : Type 0} {terms : Terms} {text : List ℕ} {o : Outcome A} {p : Place} {es : List (Entry Waits)} {u : Used} where
  module _ {n : String} {s : Shape} {k : Of s → Rows A} (g : Comes terms text o p es (need n s k) u) where
    -- A field that hands on what is taken.
    pub took : {v : Used} {Holds : Of s → Type 0} (h : Hands terms text (needed s p (find (bytes n) es) g.state) v Holds) → Comes terms text o p es (k h.value) v
    took h = record { state = h.state; outcome = g.outcome ∙ ap (λ q. bind q λ x m. fields (k x) p es m) h.outcome; tells = h.tells }

    -- One that leaves the state alone.
    pub passed : {x : Of s} → needed s p (find (bytes n) es) g.state ≡ done x g.state → Comes terms text o p es (k x) u
    passed e = record { state = g.state; outcome = g.outcome ∙ ap (λ q. bind q λ x m. fields (k x) p es m) e; tells = g.tells }

    pub stopped : {m q : ℕ} → Refuses text (needed s p (find (bytes n) es) g.state) m q → Refuses text o m q
    stopped h = refuses_as g.outcome (refuses_bind (λ x m. fields (k x) p es m) h)

    -- What is counted.
    module _ (counts : Of s → ℕ) where
      pub counted_hands : (c : Counted) → CountsFrom text u (needed s p (find (bytes n) es)) counts (Ok c) → Hands terms text (needed s p (find (bytes n) es) g.state) c.used λ y. counts y ≡ c.value
      counted_hands c reads = reads terms g.state g.tells

      pub stopped_counted : (r : Refusal) → CountsFrom text u (needed s p (find (bytes n) es)) counts (Err r) → Refuses text o (number_of r.0) r.1
      stopped_counted r reads = stopped (reads terms g.state g.tells)

  module _ {n : String} {s : Shape} {k : Option (Of s) → Rows A} (g : Comes terms text o p es (may n s k) u) where
    pub took_given : {v : Used} {Holds : Option (Of s) → Type 0} (h : Hands terms text (optional s p (find (bytes n) es) g.state) v Holds) → Comes terms text o p es (k h.value) v
    took_given h = record { state = h.state; outcome = g.outcome ∙ ap (λ q. bind q λ x m. fields (k x) p es m) h.outcome; tells = h.tells }

    pub passed_given : {x : Option (Of s)} → optional s p (find (bytes n) es) g.state ≡ done x g.state → Comes terms text o p es (k x) u
    passed_given e = record { state = g.state; outcome = g.outcome ∙ ap (λ q. bind q λ x m. fields (k x) p es m) e; tells = g.tells }

    pub stopped_given : {m q : ℕ} → Refuses text (optional s p (find (bytes n) es) g.state) m q → Refuses text o m q
    stopped_given h = refuses_as g.outcome (refuses_bind (λ x m. fields (k x) p es m) h)

    module _ (counts : Option (Of s) → ℕ) where
      pub given_hands : (c : Counted) → CountsFrom text u (optional s p (find (bytes n) es)) counts (Ok c) → Hands terms text (optional s p (find (bytes n) es) g.state) c.used λ y. counts y ≡ c.value
      given_hands c reads = reads terms g.state g.tells

      pub given_stopped : (r : Refusal) → CountsFrom text u (optional s p (find (bytes n) es)) counts (Err r) → Refuses text o (number_of r.0) r.1
      given_stopped r reads = stopped_given (reads terms g.state g.tells)

  module _ {n : String} {sh : NumberShape} {k : ℕ → Rows A} (g : Comes terms text o p es (need n (a_number sh) k) u) where
    -- A number that leaves the state alone.
    pub took_number : (x : ℕ) → ((l : State) → Reads text (needed (a_number sh) p (find (bytes n) es) l) l (Ok x)) → Comes terms text o p es (k x) u
    took_number x reads = passed g (reads g.state)

    pub stopped_number : (r : Refusal) → ((l : State) → Reads text (needed (a_number sh) p (find (bytes n) es) l) l (Err r)) → Refuses text o (number_of r.0) r.1
    stopped_number r reads = stopped g (reads g.state)

    -- An integer.
    pub took_integer : (c : Counted) → CountsFrom text u (needed (a_number sh) p (find (bytes n) es)) itself (Ok c) → Comes terms text o p es (k c.value) c.used
    took_integer c reads =
        let h = counted_hands g itself c reads in
        subst (λ (y : ℕ). Comes terms text o p es (k y) c.used) h.holds (took g h)

    pub stopped_integer : (r : Refusal) → CountsFrom text u (needed (a_number sh) p (find (bytes n) es)) itself (Err r) → Refuses text o (number_of r.0) r.1
    stopped_integer r reads = stopped_counted g itself r reads

-- A test that holds, and one that fails.
pub guard_holds : {A : Type 0} {t : Bool} (n : ℕ) (p : Place) {r : Outcome A} → t ≡ true → guard t n p r ≡ r
guard_holds n p {r} e = ap (λ t. guard t n p r) e

pub guard_fails : {A : Type 0} {t : Bool} (n : ℕ) (p : Place) (r : Outcome A) → t ≡ false → guard t n p r ≡ refuse n p
guard_fails n p r e = ap (λ t. guard t n p r) e

-- An object that was opened reads as its body.
pub typed_as : {types : ℕ} {text : List ℕ} {at : ℕ} {u : Used} {es : List (Entry Waits)} {o : Opened} (x : Typed types text at u es o) (f : Family) (t : ℕ) {p : Place}
    {terms : Terms} {s : State} → Tells terms text u s → types_of f ≡ types → o.kind ≡ t → may_stand f t ≡ true → may_open f t ≡ true → p ≡ drop at text
    → GoesOn terms text (members f p es s) o.used (body f t (bytes "t" ∷ []) p es)
typed_as {text = text} {at} {es = es} {o = o} x f t {s = s} tells ts k stand open' e =
    let g = x.opens f ts _ s tells in
    record {
      state = g.state;
      outcome =
          ap (λ q. members f q es s) e
          ∙ g.outcome
          ∙ ap (λ t'. by_kind f t' text at o.object es g.state) k
          ∙ guard_holds 10 (type_place text o.object) stand
          ∙ guard_holds 14 (type_place text o.object) open'
          ∙ ap (λ q. body f t (bytes "t" ∷ []) q es g.state) (sym e);
      tells = g.tells;
    }

pub under_as : {parent : ℕ} {text : List ℕ} {at : ℕ} {u : Used} {es : List (Entry Waits)} {o : Opened} (x : Under parent text at u es o) (t : ℕ) {p : Place}
    {terms : Terms} {s : State} → Tells terms text u s → o.kind ≡ t → p ≡ drop at text
    → GoesOn terms text (members (a_timed (types_under parent)) p es s) o.used (body (a_timed (types_under parent)) t (bytes "t" ∷ []) p es)
under_as {parent} {text} {at} {es = es} x t {s = s} tells k e =
    let g = x.opens _ s tells in
    record {
      state = g.state;
      outcome =
          ap (λ q. members (a_timed (types_under parent)) q es s) e
          ∙ g.outcome
          ∙ ap (λ t'. body (a_timed (types_under parent)) t' (bytes "t" ∷ []) (drop at text) es g.state) k
          ∙ ap (λ q. body (a_timed (types_under parent)) t (bytes "t" ∷ []) q es g.state) (sym e);
      tells = g.tells;
    }

-- An object without a type reads as its body.
pub plain_as : {text : List ℕ} {at : ℕ} {u : Used} {es : List (Entry Waits)} {o : Object} (x : Plain text at es o) (f : Family) {p : Place} {terms : Terms} {s : State}
    → Tells terms text u s → types_of f ≡ 0 → p ≡ drop at text → GoesOn terms text (members f p es s) u (body f 0 [] p es)
plain_as {es = es} x f {s = s} tells ts e =
    record {
      state = s;
      outcome = ap (λ q. members f q es s) e ∙ x.opens f ts s ∙ ap (λ q. body f 0 [] q es s) (sym e);
      tells = tells;
    }
