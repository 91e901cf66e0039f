-- What reading a value gives, by the kind that the code found at its place.
use Prim.Native.Nat.{ℕ, ◌<◌, ◌≤◌}
use mathlib.Core.Path.{◌≡◌, refl, sym, ap, ◌∙◌}
use mathlib.Core.List.{List, ◌∷◌}
use mathlib.Core.Logic.{◌≢◌}
use mathlib.Core.Bool.{Bool, true, false, cond, not}
use mathlib.Core.Option.{none, some, get_or}
use lib.ListN.{length, drop}
use native.Mathlib.Omega.{arith}
use Rattle.std.specs.Prelude.{Option as Maybe, Some, None, Result, Ok, Err}
use Rattle.json_grammar.specs.Tree.{Place, Tree, object, list, string, number, bool, null}
use Rattle.json_grammar.specs.Grammar.{Value, an_empty_object, an_object, an_empty_list, a_list, a_string, a_number, a_true, a_false, a_null}
use Rattle.json_move.specs.Moving.{kind_of}
use Rattle.json_move.specs.Read.{decoded, written}
use Rattle.json_move.specs.declared.Kind.{Kind}
use Rattle.json_move.specs.declared.Kind.TheVariants as K
use Rattle.document_numbers.specs.Number.{Integer, Decimal, integer_in, decimal_from}
use Rattle.document_numbers.specs.declared.NumberError.TheVariants as N
use Rattle.json_laws.proofs.Moved.{number_written, string_decoded}
use Rattle.document.specs.Lookup.{Found, one}
use Rattle.document.specs.Refusals.{number_of}
use Rattle.document.specs.Schema as S
use Rattle.document.specs.Schema.{Shape, NumberShape, integer, decimal, StringShape, ListShape, Family}
use Rattle.document.specs.Visit.{Value as Waiting, State, Outcome, done, refuse, guard, present, value_of, needed, optional, whole, millionths, chars, empty_for, is_empty}
use Rattle.document.specs.At.{At, Slot, empty, filled}
use Rattle.document.specs.Told.{Tells}
use Rattle.document.specs.declared.refusal.Refusal.{Refusal}
use Rattle.document.specs.declared.terms.Terms.{Terms}
use Rattle.document.specs.declared.terms.Used.{Used}
use Rattle.read_fields.specs.Fields.{Refuses, Reads, ReadsAt, ReadsNeeded, Counts, itself, CountsAt, CountsNeeded, CountsOptional, ReadsFlag, Child, FindsObject, ObjectAt, ObjectNeeded, Listing, FindsList, ListNeeded}
use Rattle.read_fields.specs.Reading.{is_null, standing, Required, OfKind, wrong_kind, whole_at, millionths_at}
use Rattle.read_fields.specs.declared.field.Counted.{Counted}
use Rattle.read_fields.proofs.ValueKinds.{kind, place, kind_of_lem, place_of}

-- The tree of a number, and of a string.
number_is : {t : Tree} {s r : List ℕ} → Value t s r → kind t ≡ K.Number → t ≡ number s (written s)
number_is (an_empty_object b) e = cc
number_is (an_object b n) e = cc
number_is (an_empty_list b) e = cc
number_is (a_list b n) e = cc
number_is (a_string c) e = cc
number_is (a_number {s = s} d) e = ap (λ x. number s x) (sym (number_written d))
number_is a_true e = cc
number_is a_false e = cc
number_is a_null e = cc

text_is : {t : Tree} {s r : List ℕ} → Value t s r → kind t ≡ K.Text → t ≡ string s (decoded s)
text_is (an_empty_object b) e = cc
text_is (an_object b n) e = cc
text_is (an_empty_list b) e = cc
text_is (a_list b n) e = cc
text_is (a_string {s = s} c) e = ap (λ x. string (34 ∷ s) x) (sym (string_decoded c))
text_is (a_number d) e = cc
text_is a_true e = cc
text_is a_false e = cc
text_is a_null e = cc

-- null is absent for every shape.
null_absent : (t : Tree) (s : Shape) → is_null (kind t) ≡ true → (value_of t).absent s ≡ true
unfolding value_of
null_absent (object p ms) s e = cc
null_absent (list p es) s e = cc
null_absent (string p cs) s e = cc
null_absent (number p ds) s e = cc
null_absent (bool p true) s e = cc
null_absent (bool p false) s e = cc
null_absent (null p) s e = refl

-- What is not null is there, but for an empty string where a string is asked for.
not_absent : (t : Tree) (s : Shape) → ((cs : List ℕ) → empty_for cs s ≡ false) → is_null (kind t) ≡ false → (value_of t).absent s ≡ false
unfolding value_of
not_absent (object p ms) s f e = refl
not_absent (list p es) s f e = refl
not_absent (string p cs) s f e = f cs
not_absent (number p ds) s f e = refl
not_absent (bool p b) s f e = refl
not_absent (null p) s f e = cc

no_string_absent : (t : Tree) (s : Shape) → kind t ≢ K.Text → is_null (kind t) ≡ false → (value_of t).absent s ≡ false
unfolding value_of
no_string_absent (object p ms) s f e = refl
no_string_absent (list p es) s f e = refl
no_string_absent (string p cs) s f e = absurd (f refl)
no_string_absent (number p ds) s f e = refl
no_string_absent (bool p b) s f e = refl
no_string_absent (null p) s f e = cc

-- The wrong kind.
not_number : (t : Tree) (n : NumberShape) (l : State) → kind t ≢ K.Number → (value_of t).read (S.a_number n) l ≡ refuse 4 (place t)
unfolding value_of
not_number (object p ms) n l e = refl
not_number (list p es) n l e = refl
not_number (string p cs) n l e = refl
not_number (number p ds) n l e = absurd (e refl)
not_number (bool p b) n l e = refl
not_number (null p) n l e = refl

not_text : (t : Tree) (s : StringShape) (l : State) → kind t ≢ K.Text → (value_of t).read (S.a_string s) l ≡ refuse 4 (place t)
unfolding value_of
not_text (object p ms) n l e = refl
not_text (list p es) n l e = refl
not_text (string p cs) n l e = absurd (e refl)
not_text (number p ds) n l e = refl
not_text (bool p b) n l e = refl
not_text (null p) n l e = refl

not_object : (t : Tree) (f : Family) (l : State) → kind t ≢ K.Object → (value_of t).read (S.an_object f) l ≡ refuse 4 (place t)
unfolding value_of
not_object (object p ms) n l e = absurd (e refl)
not_object (list p es) n l e = refl
not_object (string p cs) n l e = refl
not_object (number p ds) n l e = refl
not_object (bool p b) n l e = refl
not_object (null p) n l e = refl

not_list : (t : Tree) (s : ListShape) (l : State) → kind t ≢ K.Array → (value_of t).read (S.a_list s) l ≡ refuse 4 (place t)
unfolding value_of
not_list (object p ms) n l e = refl
not_list (list p es) n l e = absurd (e refl)
not_list (string p cs) n l e = refl
not_list (number p ds) n l e = refl
not_list (bool p b) n l e = refl
not_list (null p) n l e = refl

not_flag : (t : Tree) (l : State) → kind t ≢ K.True → kind t ≢ K.False → (value_of t).read S.a_flag l ≡ refuse 4 (place t)
unfolding value_of
not_flag (object p ms) l a b = refl
not_flag (list p es) l a b = refl
not_flag (string p cs) l a b = refl
not_flag (number p ds) l a b = refl
not_flag (bool p true) l a b = absurd (a refl)
not_flag (bool p false) l a b = absurd (b refl)
not_flag (null p) l a b = refl

millionths_reads : (text : List ℕ) (at : ℕ) (l : State) → at < length text → (i : Decimal) → Reads text (millionths (drop at text) l i) l (millionths_at at i)
millionths_reads text at l h (Ok n) = refl
millionths_reads text at l h (Err N.NotCarried) = record { outcome = refl; inside = omega arith }
millionths_reads text at l h (Err N.Outside) = record { outcome = refl; inside = omega arith }

-- A value at a place of the text.
module _ {text : List ℕ} {at : ℕ} where
  kind_at : {t : Tree} → At text at t → kind_of (drop at text) ≡ kind t
  kind_at a = kind_of_lem a.spelled

  is_kind : {t : Tree} {k : Kind} → At text at t → kind_of (drop at text) ≡ k → kind t ≡ k
  is_kind a e = sym (kind_at a) ∙ e

  other_kind : {t : Tree} {k : Kind} → At text at t → kind_of (drop at text) ≢ k → kind t ≢ k
  other_kind a n e = n (kind_at a ∙ e)

  pub wrong : {X : Type 0} {t : Tree} {o : Outcome X} {r : Refusal} → At text at t → o ≡ refuse 4 (place t) → r ≡ wrong_kind at → Refuses text o (number_of r.0) r.1
  wrong a e k = rw k (record { outcome = e ∙ ap (λ p. refuse 4 p) (place_of a.spelled); inside = omega (arith, a.inside) })

  -- Integers and decimals.
  pub number_refused : {r : Refusal} → OfKind text at K.Number (Err r) → (n : NumberShape) → ReadsAt text at n (Err r)
  number_refused e n t a l = wrong a (not_number t n l (other_kind a e.0)) e.1

  pub number_not_counted : {r : Refusal} → OfKind text at K.Number (Err r) → (n : NumberShape) (u : Used) → CountsAt text at n u (Err r)
  number_not_counted e n u t a terms l told = number_refused e n t a l

  integer_read : {t : Tree} (lo hi : ℕ) (l : State) → At text at t → kind_of (drop at text) ≡ K.Number → (value_of t).read (S.a_number (integer lo hi)) l ≡ whole (drop at text) l (integer_in lo hi (written (drop at text)))
  unfolding value_of
  integer_read lo hi l a e = ap (λ x. (value_of x).read (S.a_number (integer lo hi)) l) (number_is a.spelled (is_kind a e))

  decimal_read : {t : Tree} (lo : ℕ) (l : State) → At text at t → kind_of (drop at text) ≡ K.Number → (value_of t).read (S.a_number (decimal lo)) l ≡ millionths (drop at text) l (decimal_from lo (written (drop at text)))
  unfolding value_of
  decimal_read lo l a e = ap (λ x. (value_of x).read (S.a_number (decimal lo)) l) (number_is a.spelled (is_kind a e))

  -- The one place that says what an integer notes.
  whole_counts : {terms : Terms} {u : Used} {l : State} → Tells terms text u l → at < length text → (i : Integer) → Counts terms text (whole (drop at text) l i) itself (whole_at at u i)
  whole_counts {l = l} told h (Ok i) = record { value = i.value; state = l; outcome = refl; tells = told; holds = refl }
  whole_counts told h (Err N.NotCarried) = record { outcome = refl; inside = omega arith }
  whole_counts told h (Err N.Outside) = record { outcome = refl; inside = omega arith }

  pub integer_counts : {v : ℕ} → OfKind text at K.Number (Ok v) → (lo hi : ℕ) (u : Used) (i : Integer) → i ≡ integer_in lo hi (written (drop v text)) → CountsAt text at (integer lo hi) u (whole_at v u i)
  integer_counts e lo hi u i q t a terms l told = rw (e.1, integer_read lo hi l a e.0, ← e.1, ← q, e.1) (whole_counts told a.inside i)

  pub decimal_reads : {v : ℕ} → OfKind text at K.Number (Ok v) → (lo : ℕ) (i : Decimal) → i ≡ decimal_from lo (written (drop v text)) → ReadsAt text at (decimal lo) (millionths_at v i)
  decimal_reads e lo i q t a l = rw (e.1, decimal_read lo l a e.0, ← e.1, ← q, e.1) (millionths_reads text at l a.inside i)

  -- Objects and lists.
  child : (t : Tree) → At text at t → kind t ≡ K.Object → Child text at (λ f l. (value_of t).read (S.an_object f) l)
  unfolding value_of
  child (object p ms) a e = record { place = p; inner = ms; stands = a; outcome = λ f l. refl }
  child (list p es) a e = cc
  child (string p cs) a e = cc
  child (number p ds) a e = cc
  child (bool p true) a e = cc
  child (bool p false) a e = cc
  child (null p) a e = cc

  pub object_at : (r : Result ℕ Refusal) → OfKind text at K.Object r → ObjectAt text at r
  object_at (Ok v) e t a = rw e.1 (child t a (is_kind a e.0))
  object_at (Err r) e t a = λ f l. wrong a (not_object t f l (other_kind a e.0)) e.1

  listing : (t : Tree) → At text at t → kind t ≡ K.Array → Listing text at (λ s l. (value_of t).read (S.a_list s) l)
  unfolding value_of
  listing (object p ms) a e = cc
  listing (list p es) a e = record { place = p; inner = es; stands = a; outcome = λ s l. refl }
  listing (string p cs) a e = cc
  listing (number p ds) a e = cc
  listing (bool p true) a e = cc
  listing (bool p false) a e = cc
  listing (null p) a e = cc

  list_at : (r : Result ℕ Refusal) → OfKind text at K.Array r → (t : Tree) → At text at t → FindsList text (λ s l. (value_of t).read (S.a_list s) l) r
  list_at (Ok v) e t a = rw e.1 (listing t a (is_kind a e.0))
  list_at (Err r) e t a = λ s l. wrong a (not_list t s l (other_kind a e.0)) e.1

-- A slot where nothing stands, or null: the member is missing, or absent.
pub record Nothing (f : Found Waiting) : Type 0 where
  pub missing : (s : Shape) (p : Place) (l : State) → needed s p f l ≡ refuse 7 p
  pub absent : (s : Shape) (p : Place) (l : State) → optional s p f l ≡ done none l

pub nothing_stands : {text : List ℕ} {slot : Maybe ℕ} {f : Found Waiting} → Slot text slot f → standing text slot ≡ None → Nothing f
nothing_stands empty e = record { missing = λ s p l. refl; absent = λ s p l. refl }
nothing_stands {text} (filled {v = v} {t = t} a) e = go (is_null (kind_of (drop v text))) refl e
  where
    go : (b : Bool) → is_null (kind_of (drop v text)) ≡ b → cond b None (Some v) ≡ None → Nothing (one (value_of t))
    go true n e =
        let h : is_null (kind t) ≡ true = ap is_null (sym (kind_at a)) ∙ n in
        record { missing = λ s p l. rw (null_absent t s h); absent = λ s p l. rw (null_absent t s h) }
    go false n e = cc

pub needed_missing : {text : List ℕ} {brace : ℕ} {slot : Maybe ℕ} {f : Found Waiting} {r : Refusal} → Required text brace slot (Err r) → brace ≤ length text → Slot text slot f → (s : Shape) (l : State) → Refuses text (needed s (drop brace text) f l) (number_of r.0) r.1
needed_missing {text} {brace} e h slot s l = rw e.1 (record { outcome = (nothing_stands slot e.0).missing s (drop brace text) l; inside = h })

-- A slot with a value: what is read of it.
pub record There (text : List ℕ) (at : ℕ) (f : Found Waiting) : Type 0 where
  pub tree : Tree
  pub stands : At text at tree
  pub found : f ≡ one (value_of tree)
  pub not_null : is_null (kind tree) ≡ false
  pub needs : (s : Shape) → ((cs : List ℕ) → empty_for cs s ≡ false) → (p : Place) (l : State) → needed s p f l ≡ (value_of tree).read s l
  pub may : (s : Shape) → ((cs : List ℕ) → empty_for cs s ≡ false) → (p : Place) (l : State) → optional s p f l ≡ present ((value_of tree).read s l)

pub there : {text : List ℕ} {slot : Maybe ℕ} {f : Found Waiting} {at : ℕ} → Slot text slot f → standing text slot ≡ Some at → There text at f
there empty e = cc
there {text} {at = at} (filled {v = v} {t = t} a) e = go (is_null (kind_of (drop v text))) refl e
  where
    go : (b : Bool) → is_null (kind_of (drop v text)) ≡ b → cond b None (Some v) ≡ Some at → There text at (one (value_of t))
    go true n e = cc
    go false n e =
        let same : v ≡ at = cc in
        let some : is_null (kind t) ≡ false = ap is_null (sym (kind_at a)) ∙ n in
        record {
          tree = t;
          stands = rw (← same) a;
          found = refl;
          not_null = some;
          needs = λ s q p l. rw (not_absent t s q some);
          may = λ s q p l. rw (not_absent t s q some);
        }

-- The fields, from what the code learnt in the order in which it looks.
given_number : (text : List ℕ) (absent : ℕ) (terms : Terms) (o : Outcome ℕ) (r : Result Counted Refusal) → Counts terms text o itself r → Counts terms text (present o) (λ x. get_or x absent) r
given_number text absent terms o (Ok c) h = record { value = some h.value; state = h.state; outcome = rw h.outcome; tells = h.tells; holds = h.holds }
given_number text absent terms o (Err r) h = record { outcome = rw h.outcome; inside = h.inside }

finds_object : (text : List ℕ) (r : Result ℕ Refusal) (a b : (f : Family) → State → Outcome (S.OfFamily f)) → ((f : Family) (l : State) → b f l ≡ a f l) → FindsObject text a r → FindsObject text b r
finds_object text (Ok at) a b e h = record { place = h.place; inner = h.inner; stands = h.stands; outcome = λ f l. e f l ∙ h.outcome f l }
finds_object text (Err r) a b e h = λ f l. record { outcome = e f l ∙ (h f l).outcome; inside = (h f l).inside }

finds_list : (text : List ℕ) (r : Result ℕ Refusal) (a b : (s : ListShape) → State → Outcome (S.OfList s)) → ((s : ListShape) (l : State) → b s l ≡ a s l) → FindsList text a r → FindsList text b r
finds_list text (Ok at) a b e h = record { place = h.place; inner = h.inner; stands = h.stands; outcome = λ s l. e s l ∙ h.outcome s l }
finds_list text (Err r) a b e h = λ s l. record { outcome = e s l ∙ (h s l).outcome; inside = (h s l).inside }

module _ {text : List ℕ} {brace : ℕ} {slot : Maybe ℕ} where
  pub number_missing : {r : Refusal} → Required text brace slot (Err r) → (n : NumberShape) → brace ≤ length text → ReadsNeeded text brace slot n (Err r)
  number_missing e n h f s l = needed_missing e h s (S.a_number n) l

  pub count_missing : {r : Refusal} → Required text brace slot (Err r) → (n : NumberShape) (u : Used) → brace ≤ length text → CountsNeeded text brace slot n u (Err r)
  count_missing e n u h f s terms l told = needed_missing e h s (S.a_number n) l

  pub object_missing : {r : Refusal} → Required text brace slot (Err r) → brace ≤ length text → ObjectNeeded text brace slot (Err r)
  object_missing e h f s fam l = needed_missing e h s (S.an_object fam) l

  pub list_missing : {r : Refusal} → Required text brace slot (Err r) → brace ≤ length text → ListNeeded text brace slot (Err r)
  list_missing e h f s t l = needed_missing e h s (S.a_list t) l

module _ {text : List ℕ} (brace : ℕ) {slot : Maybe ℕ} {at : ℕ} (e : standing text slot ≡ Some at) where
  pub number_needed : (n : NumberShape) (r : Result ℕ Refusal) → ReadsAt text at n r → ReadsNeeded text brace slot n r
  number_needed n r h f s l =
      let q = there s e in
      rw (q.needs (S.a_number n) (λ cs. refl) (drop brace text) l) (h q.tree q.stands l)

  pub count_needed : (n : NumberShape) (u : Used) (r : Result Counted Refusal) → CountsAt text at n u r → CountsNeeded text brace slot n u r
  count_needed n u r h f s terms l told =
      let q = there s e in
      rw (q.needs (S.a_number n) (λ cs. refl) (drop brace text) l) (h q.tree q.stands terms l told)

  pub object_needed : (r : Result ℕ Refusal) → ObjectAt text at r → ObjectNeeded text brace slot r
  object_needed r h f s =
      let q = there s e in
      finds_object text r (λ fam l. (value_of q.tree).read (S.an_object fam) l) (λ fam l. needed (S.an_object fam) (drop brace text) f l)
      (λ fam l. q.needs (S.an_object fam) (λ cs. refl) (drop brace text) l) (h q.tree q.stands)

  pub list_needed : (r : Result ℕ Refusal) → OfKind text at K.Array r → ListNeeded text brace slot r
  list_needed r h f s =
      let q = there s e in
      finds_list text r (λ t l. (value_of q.tree).read (S.a_list t) l) (λ t l. needed (S.a_list t) (drop brace text) f l) (λ t l. q.needs (S.a_list t) (λ cs. refl) (drop brace text) l) (list_at r h q.tree q.stands)

flag_is : (t : Tree) (b : Bool) (l : State) → kind t ≡ cond b K.True K.False → (value_of t).read S.a_flag l ≡ done b l
unfolding value_of
flag_is (object p ms) true l k = cc
flag_is (object p ms) false l k = cc
flag_is (list p es) true l k = cc
flag_is (list p es) false l k = cc
flag_is (string p cs) true l k = cc
flag_is (string p cs) false l k = cc
flag_is (number p ds) true l k = cc
flag_is (number p ds) false l k = cc
flag_is (bool p true) true l k = refl
flag_is (bool p true) false l k = cc
flag_is (bool p false) true l k = cc
flag_is (bool p false) false l k = refl
flag_is (null p) true l k = cc
flag_is (null p) false l k = cc

module _ {text : List ℕ} {slot : Maybe ℕ} where
  pub count_absent : standing text slot ≡ None → (n : NumberShape) (absent : ℕ) (u : Used) → CountsOptional text slot n absent u (Ok (record { value = absent; used = u }))
  count_absent e n absent u f s p terms l told = record { value = none; state = l; outcome = (nothing_stands s e).absent (S.a_number n) p l; tells = told; holds = refl }

  pub flag_absent : standing text slot ≡ None → ReadsFlag text slot (Ok false)
  flag_absent e f s p l = record { value = none; outcome = (nothing_stands s e).absent S.a_flag p l; marks = refl }

  module _ {at : ℕ} (e : standing text slot ≡ Some at) where
    pub count_given : (n : NumberShape) (absent : ℕ) (u : Used) (r : Result Counted Refusal) → CountsAt text at n u r → CountsOptional text slot n absent u r
    count_given n absent u r h f s p terms l told =
        let q = there s e in
        rw (q.may (S.a_number n) (λ cs. refl) p l) (given_number text absent terms ((value_of q.tree).read (S.a_number n) l) r (h q.tree q.stands terms l told))

    pub flag_given : (b : Bool) → kind_of (drop at text) ≡ cond b K.True K.False → ReadsFlag text slot (Ok b)
    flag_given b k f s p l =
        let q = there s e in
        record { value = some b; outcome = q.may S.a_flag (λ cs. refl) p l ∙ rw (flag_is q.tree b l (is_kind q.stands k)); marks = refl }

    pub flag_refused : kind_of (drop at text) ≢ K.True → kind_of (drop at text) ≢ K.False → ReadsFlag text slot (Err (wrong_kind at))
    flag_refused a b f s p l =
        let q = there s e in
        wrong q.stands (q.may S.a_flag (λ cs. refl) p l ∙ rw (not_flag q.tree l (other_kind q.stands a) (other_kind q.stands b))) refl

-- Strings.
pub record Said (text : List ℕ) (at : ℕ) (k : StringShape) (f : Found Waiting) : Type 0 where
  pub inside : at < length text
  pub reads : (p : Place) (l : State) → needed (S.a_string k) p f l ≡ guard (not (is_empty (decoded (drop at text)))) 7 p (chars k (drop at text) (decoded (drop at text)) l)
  pub given : (p : Place) (l : State) → optional (S.a_string k) p f l ≡ cond (is_empty (decoded (drop at text))) (done none l) (present (chars k (drop at text) (decoded (drop at text)) l))

module _ {text : List ℕ} {slot : Maybe ℕ} {at : ℕ} (e : standing text slot ≡ Some at) {f : Found Waiting} (s : Slot text slot f) (k : StringShape) where
  pub said : {v : ℕ} → OfKind text at K.Text (Ok v) → Said text v k f
  unfolding value_of
  said {v} h =
      let q = there s e in
      let t : q.tree ≡ string (drop at text) (decoded (drop at text)) = text_is q.stands.spelled (is_kind q.stands h.0) in
      rw h.1 (record { inside = q.stands.inside; reads = λ p l. rw (q.found, t); given = λ p l. rw (q.found, t) })

  pub string_refused : {r : Refusal} → OfKind text at K.Text (Err r) → (p : Place) (l : State) → Refuses text (needed (S.a_string k) p f l) (number_of r.0) r.1
  string_refused h p l =
      let q = there s e in
      let n = other_kind q.stands h.0 in
      wrong q.stands (ap (λ x. needed (S.a_string k) p x l) q.found ∙ rw (no_string_absent q.tree (S.a_string k) n q.not_null) (not_text q.tree k l n)) h.1

  pub optional_refused : {r : Refusal} → OfKind text at K.Text (Err r) → (p : Place) (l : State) → Refuses text (optional (S.a_string k) p f l) (number_of r.0) r.1
  optional_refused h p l =
      let q = there s e in
      let n = other_kind q.stands h.0 in
      wrong q.stands (ap (λ x. optional (S.a_string k) p x l) q.found ∙ rw (no_string_absent q.tree (S.a_string k) n q.not_null, not_text q.tree k l n)) h.1
