-- A visit refuses with a number from 4 to 16.
use Rattle.std.specs.Prelude.{Ok, Err}
use mathlib.Core.Path.{◌≡◌, refl, subst}
use mathlib.Core.List.{List, [], ◌∷◌, ◌++◌}
use mathlib.Core.Bool.{Bool, true, false, cond, not, ◌&&◌}
use mathlib.Core.Option.{Option, none, some}
use Prim.Native.Nat.{ℕ, ◌≤◌}
use lib.Dec.{eqb, leb, ltb}
use lib.ListN.{length}
use borrow.Author.Tests.{leb-true}
use Rattle.json_grammar.specs.Tree.{Place, Tree, object, list, string, number, bool, null, Members, no_member, member, Elements, no_element, element}
use Rattle.json_grammar.proofs.Truth.{and_left, and_right}
use Rattle.document_numbers.specs.Number.{Integer, Decimal, integer_in, decimal_from}
use Rattle.document_numbers.specs.declared.NumberError.TheVariants as N
use Rattle.document.specs.Bytes.{bytes}
use Rattle.document.specs.Posology.{Posology}
use Rattle.document.specs.Date.{date_of, time_of}
use Rattle.document.specs.Lookup.{Entry, same, Found, nothing, one, twice, add, find, repeated, unknown}
use Rattle.document.specs.Schema.{Family, a_posology, NumberShape, integer, decimal, StringShape, text, date, time, ListShape, four_decimals, days, some_objects, any_objects, Shape, a_number, a_string, a_flag, an_object, a_list, Rows, need, may, gives, gives_if, rows_of, types_of, is_record, may_stand, may_open, names}
use Rattle.document.specs.Visit.{State, start, Outcome, done, refuse, bind, guard, unless, Value, needed, present, optional, fields, opening, body, place_of, typed, by_type, members, whole, millionths, digits, or_refused, chars, each, is_empty, distinct, decimals, elements, of_number, of_string, of_bool, of_object, of_list, value_of, entries_of, values_of, visit}
use Rattle.document.specs.declared.terms.Terms.{Terms}

abbrev from4_to16 : ℕ → Bool
from4_to16 n = leb 4 n && leb n 16

abbrev Within : {A : Type 0} → Outcome A → Type 0
Within (done a l) = Unit {0}
Within (refuse n p) = from4_to16 n ≡ true

bind_within : {A B : Type 0} (r : Outcome A) (f : A → State → Outcome B) → Within r → ((a : A) (l : State) → Within (f a l)) → Within (bind r f)
bind_within (done a l) f h k = k a l
bind_within (refuse n p) f h k = h

guard_within : {A : Type 0} (b : Bool) (n : ℕ) (p : Place) (r : Outcome A) → from4_to16 n ≡ true → Within r → Within (guard b n p r)
guard_within true n p r e h = h
guard_within false n p r e h = e

unless_within : {A : Type 0} (o : Option Place) (n : ℕ) (r : Outcome A) → from4_to16 n ≡ true → Within r → Within (unless o n r)
unless_within none n r e h = h
unless_within (some p) n r e h = e

cond_within : {A : Type 0} (b : Bool) (r s : Outcome A) → Within r → Within s → Within (cond b r s)
cond_within true r s h k = h
cond_within false r s h k = k

-- Values whose reading does so.
abbrev WithinValue : Value → Type 0
WithinValue v = (s : Shape) (l : State) → Within (v.read s l)

abbrev WithinEntries : List (Entry Value) → Type 0
WithinEntries [] = Unit {0}
WithinEntries (e ∷ es) = WithinValue e.value × WithinEntries es

abbrev WithinValues : List Value → Type 0
WithinValues [] = Unit {0}
WithinValues (v ∷ vs) = WithinValue v × WithinValues vs

abbrev WithinFound : Found Value → Type 0
WithinFound nothing = Unit {0}
WithinFound (one v) = WithinValue v
WithinFound twice = Unit {0}

add_within : (b : Bool) (v : Value) (f : Found Value) → WithinValue v → WithinFound f → WithinFound (add b v f)
add_within false v f h k = k
add_within true v nothing h k = h
add_within true v (one w) h k = tt
add_within true v twice h k = tt

find_within : (n : List ℕ) (es : List (Entry Value)) → WithinEntries es → WithinFound (find n es)
find_within n [] h = tt
find_within n (e ∷ es) h = add_within (same n e.name) e.value (find n es) h.0 (find_within n es h.1)

-- The fields.
needed_within : (s : Shape) (p : Place) (f : Found Value) → WithinFound f → (l : State) → Within (needed s p f l)
needed_within s p nothing h l = refl
needed_within s p (one v) h l = guard_within (not (v.absent s)) 7 p (v.read s l) refl (h s l)
needed_within s p twice h l = refl

optional_within : (s : Shape) (p : Place) (f : Found Value) → WithinFound f → (l : State) → Within (optional s p f l)
optional_within s p nothing h l = tt
optional_within s p (one v) h l = cond_within (v.absent s) (done none l) (present (v.read s l)) tt (bind_within (v.read s l) (λ a l'. done (some a) l') (h s l) λ a l'. tt)
optional_within s p twice h l = refl

fields_within : {A : Type 0} (rows : Rows A) (p : Place) (es : List (Entry Value)) → WithinEntries es → (l : State) → Within (fields rows p es l)
fields_within (need n s k) p es h l =
    bind_within (needed s p (find (bytes n) es) l) _ (needed_within s p (find (bytes n) es) (find_within (bytes n) es h) l) λ x l'. fields_within (k x) p es h l'
fields_within (may n s k) p es h l =
    bind_within (optional s p (find (bytes n) es) l) _ (optional_within s p (find (bytes n) es) (find_within (bytes n) es h) l) λ x l'. fields_within (k x) p es h l'
fields_within (gives a) p es h l = tt
fields_within (gives_if test a) p es h l = guard_within test 12 p (done a l) refl tt

-- The objects.
opening_within : {A : Type 0} (b : Bool) (p : Place) (l : State) (f : State → Outcome A) → ((l' : State) → Within (f l')) → Within (opening b p l f)
opening_within true p l f h = guard_within (ltb 0 l.left.records) 15 p _ refl (h _)
opening_within false p l f h = h l

body_within : (f : Family) (t : ℕ) (also : List (List ℕ)) (p : Place) (es : List (Entry Value)) → WithinEntries es → (l : State) → Within (body f t also p es l)
body_within f t also p es h l =
    opening_within (is_record f) p l _ λ l'.
    unless_within (unknown (also ++ names (rows_of f t)) es) 5 (fields (rows_of f t) p es l') refl (fields_within (rows_of f t) p es h l')

typed_within : (n : ℕ) (f : Family) (p : Place) (es : List (Entry Value)) → WithinEntries es → (l : State) → Within (typed n f p es l)
typed_within n f p es h l =
    bind_within (needed (a_number (integer 1 n)) p (find (bytes "t") es) l) _
    (needed_within (a_number (integer 1 n)) p (find (bytes "t") es) (find_within (bytes "t") es h) l) λ t l'.
    guard_within (may_stand f t) 10 (place_of p (find (bytes "t") es)) _ refl
    (guard_within (may_open f t) 14 (place_of p (find (bytes "t") es)) _ refl
    (body_within f t (bytes "t" ∷ []) p es h l'))

by_type_within : (b : Bool) (f : Family) (p : Place) (es : List (Entry Value)) → WithinEntries es → (l : State) → Within (by_type b f p es l)
by_type_within true f p es h l = body_within f 0 [] p es h l
by_type_within false f p es h l = typed_within (types_of f) f p es h l

members_within : (f : Family) (p : Place) (es : List (Entry Value)) → WithinEntries es → (l : State) → Within (members f p es l)
members_within f p es h l = unless_within (repeated [] es) 6 (by_type (eqb (types_of f) 0) f p es l) refl (by_type_within (eqb (types_of f) 0) f p es h l)

-- The other values.
whole_within : (p : Place) (l : State) (i : Integer) → Within (whole p l i)
whole_within p l (Ok i) = tt
whole_within p l (Err N.NotCarried) = refl
whole_within p l (Err N.Outside) = refl

millionths_within : (p : Place) (l : State) (d : Decimal) → Within (millionths p l d)
millionths_within p l (Ok n) = tt
millionths_within p l (Err N.NotCarried) = refl
millionths_within p l (Err N.Outside) = refl

digits_within : (n : NumberShape) (p : Place) (raw : List ℕ) (l : State) → Within (digits n p raw l)
digits_within (integer lo hi) p raw l = whole_within p l (integer_in lo hi raw)
digits_within (decimal lo) p raw l = millionths_within p l (decimal_from lo raw)

or_refused_within : {A : Type 0} (p : Place) (l : State) (o : Option A) → Within (or_refused 13 p l o)
or_refused_within p l none = refl
or_refused_within p l (some a) = tt

chars_within : (s : StringShape) (p : Place) (cs : List ℕ) (l : State) → Within (chars s p cs l)
chars_within text p cs l = guard_within (leb (length cs) l.left.room) 16 p _ refl tt
chars_within date p cs l = or_refused_within p l (date_of cs)
chars_within time p cs l = or_refused_within p l (time_of cs)

each_within : (s : Shape) (vs : List Value) → WithinValues vs → (l : State) → Within (each s vs l)
each_within s [] h l = tt
each_within s (v ∷ vs) h l = bind_within (v.read s l) _ (h.0 s l) λ a l'. bind_within (each s vs l') _ (each_within s vs h.1 l') λ as' l''. tt

decimals_within : (p : Place) (vs : List Value) → WithinValues vs → (l : State) → Within (decimals p vs l)
decimals_within p [] h l = refl
decimals_within p (a ∷ []) h l = refl
decimals_within p (a ∷ b ∷ []) h l = refl
decimals_within p (a ∷ b ∷ c ∷ []) h l = refl
decimals_within p (a ∷ b ∷ c ∷ d ∷ []) h l =
    bind_within (a.read (a_number (decimal 0)) l) _ (h.0 (a_number (decimal 0)) l) λ m l₁.
    bind_within (b.read (a_number (decimal 0)) l₁) _ (h.1.0 (a_number (decimal 0)) l₁) λ n l₂.
    bind_within (c.read (a_number (decimal 0)) l₂) _ (h.1.1.0 (a_number (decimal 0)) l₂) λ e l₃.
    bind_within (d.read (a_number (decimal 0)) l₃) _ (h.1.1.1.0 (a_number (decimal 0)) l₃) λ i l₄. tt
decimals_within p (a ∷ b ∷ c ∷ d ∷ e ∷ vs) h l = refl

elements_within : (s : ListShape) (p : Place) (vs : List Value) → WithinValues vs → (l : State) → Within (elements s p vs l)
elements_within four_decimals p vs h l = decimals_within p vs h l
elements_within (days hi) p vs h l =
    guard_within (not (is_empty vs)) 11 p _ refl
    (bind_within (each (a_number (integer 1 hi)) vs l) _ (each_within (a_number (integer 1 hi)) vs h l) λ ds l'. guard_within (distinct ds) 11 p _ refl tt)
elements_within (some_objects f) p vs h l = guard_within (not (is_empty vs)) 11 p _ refl (each_within (an_object f) vs h l)
elements_within (any_objects f) p vs h l = each_within (an_object f) vs h l

of_number_within : (p : Place) (raw : List ℕ) (s : Shape) (l : State) → Within (of_number p raw s l)
of_number_within p raw (a_number n) l = digits_within n p raw l
of_number_within p raw (a_string s) l = refl
of_number_within p raw a_flag l = refl
of_number_within p raw (an_object f) l = refl
of_number_within p raw (a_list s) l = refl

of_string_within : (p : Place) (cs : List ℕ) (s : Shape) (l : State) → Within (of_string p cs s l)
of_string_within p cs (a_number n) l = refl
of_string_within p cs (a_string s) l = chars_within s p cs l
of_string_within p cs a_flag l = refl
of_string_within p cs (an_object f) l = refl
of_string_within p cs (a_list s) l = refl

of_bool_within : (p : Place) (b : Bool) (s : Shape) (l : State) → Within (of_bool p b s l)
of_bool_within p b (a_number n) l = refl
of_bool_within p b (a_string s) l = refl
of_bool_within p b a_flag l = tt
of_bool_within p b (an_object f) l = refl
of_bool_within p b (a_list s) l = refl

of_object_within : (p : Place) (es : List (Entry Value)) → WithinEntries es → (s : Shape) (l : State) → Within (of_object p es s l)
of_object_within p es h (a_number n) l = refl
of_object_within p es h (a_string s) l = refl
of_object_within p es h a_flag l = refl
of_object_within p es h (an_object f) l = members_within f p es h l
of_object_within p es h (a_list s) l = refl

of_list_within : (p : Place) (vs : List Value) → WithinValues vs → (s : Shape) (l : State) → Within (of_list p vs s l)
of_list_within p vs h (a_number n) l = refl
of_list_within p vs h (a_string s) l = refl
of_list_within p vs h a_flag l = refl
of_list_within p vs h (an_object f) l = refl
of_list_within p vs h (a_list s) l = elements_within s p vs h l

mutual
  unfolding value_of

  value_within : (t : Tree) → WithinValue (value_of t)
  value_within (object p ms) = of_object_within p (entries_of ms) (entries_within ms)
  value_within (list p es) = of_list_within p (values_of es) (values_within es)
  value_within (string p cs) = of_string_within p cs
  value_within (number p raw) = of_number_within p raw
  value_within (bool p b) = of_bool_within p b
  value_within (null p) = λ s l. refl

  entries_within : (ms : Members) → WithinEntries (entries_of ms)
  entries_within no_member = tt
  entries_within (member q n t ms) = (value_within t, entries_within ms)

  values_within : (es : Elements) → WithinValues (values_of es)
  values_within no_element = tt
  values_within (element t es) = (value_within t, values_within es)

visit_within : (terms : Terms) (t : Tree) → Within (visit terms t)
unfolding visit
visit_within terms t = value_within t (an_object (a_posology terms.purpose)) (start terms)

pub visit_refuses : (terms : Terms) (t : Tree) {n : ℕ} {p : Place} → visit terms t ≡ refuse n p → (4 ≤ n) × (n ≤ 16)
visit_refuses terms t {n} e =
    let h = subst (λ (o : Outcome Posology). Within o) e (visit_within terms t) in
    (leb-true 4 n (and_left (leb 4 n) (leb n 16) h), leb-true n 16 (and_right (leb 4 n) (leb n 16) h))
