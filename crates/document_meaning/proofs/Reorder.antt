-- Members in another order and values at other places are read alike: both accepted as the same, or both refused.
use Rattle.std.specs.Prelude.{Ok, Err}
use mathlib.Core.Path.{◌≡◌, refl, ap, subst, ◌∙◌}
use mathlib.Core.List.{List, [], ◌∷◌, ◌++◌}
use mathlib.Core.Bool.{Bool, true, false, cond, ◌||◌, ◌&&◌, not, true≢false, false≢true}
use mathlib.Core.Option.{Option, none, some}
use Prim.Native.Nat.{ℕ}
use lib.Dec.{eqb, leb, ltb}
use lib.ListN.{length}
use Rattle.json_grammar.specs.Tree.{Place, Tree, object, list, string, number, bool, null, Members, no_member, member, Elements, no_element, element}
use Rattle.document_numbers.specs.Number.{Integer, Decimal, integer_in, decimal_from}
use Rattle.document_numbers.specs.declared.NumberError.TheVariants as N
use Rattle.document.specs.Bytes.{bytes}
use Rattle.document.specs.Posology.{Posology}
use Rattle.document.specs.Date.{date_of, time_of}
use Rattle.document.specs.Lookup.{Entry, same, has, or_else, Found, nothing, one, twice, add, find, repeated, unknown}
use Rattle.document.specs.Schema.{Family, a_posology, NumberShape, integer, decimal, StringShape, text, date, time, ListShape, four_decimals, days, some_objects, any_objects, Shape, a_number, a_string, a_flag, an_object, a_list, Rows, need, may, gives, gives_if, rows_of, types_of, is_record, may_stand, may_open, names}
use Rattle.document.specs.Visit.{Left, record_less, room_less, State, opened, laid, start, Outcome, done, refuse, bind, guard, unless, Value, needed, present, optional, fields, opening, body, place_of, typed, by_type, members, whole, millionths, digits, or_refused, chars, each, is_empty, distinct, decimals, elements, of_number, of_string, of_bool, of_object, of_list, value_of, entries_of, values_of, visit}
use Rattle.document.specs.declared.terms.Terms.{Terms}
use Rattle.json_grammar.proofs.Truth.{and_left_comm, or_left_comm, never}
use Rattle.document.proofs.Same.{same_sym}
use Rattle.document.specs.Same as S
use Rattle.document.specs.Same.{Reordered, ReorderedMembers, ReorderedElements}

-- Two states that say the same, places aside: as much is left.
pub record AlikeState (k j : State) : Type 0 where
  pub left : k.left ≡ j.left

same_state : (k : State) → AlikeState k k
same_state k = record { left = refl }

state_trans : {k j i : State} → AlikeState k j → AlikeState j i → AlikeState k i
state_trans h g = record { left = h.left ∙ g.left }

opened_alike : {k j : State} → AlikeState k j → AlikeState (opened k) (opened j)
opened_alike h = record { left = ap record_less h.left }

laid_alike : (n : ℕ) {k j : State} → AlikeState k j → AlikeState (laid n k) (laid n j)
laid_alike n h = record { left = ap (room_less n) h.left }

-- Two outcomes that say the same, the refusals' numbers and places aside.
pub data Alike {A : Type 0} : Outcome A → Outcome A → Type 0 where
  both_done : {a : A} {k j : State} → AlikeState k j → Alike (done a k) (done a j)
  both_refuse : {n m : ℕ} {p q : Place} → Alike (refuse n p) (refuse m q)

alike_trans : {A : Type 0} {r s t : Outcome A} → Alike r s → Alike s t → Alike r t
alike_trans (both_done h) (both_done g) = both_done (state_trans h g)
alike_trans both_refuse both_refuse = both_refuse

-- What the second is where the first is taken.
pub record TakenAlike {A : Type 0} (s : Outcome A) (a : A) (k : State) : Type 0 where
  pub state : State
  pub is : s ≡ done a state
  pub alike : AlikeState k state

pub alike_done : {A : Type 0} {r s : Outcome A} {a : A} {l : State} → Alike r s → r ≡ done a l → TakenAlike s a l
alike_done {a = a} {l = l} (both_done {a = b} {k = k} {j = j} h) e =
    let f : b ≡ a = cc e in let g : k ≡ l = cc e in
    record { state = j; is = ap (λ x. done x j) f; alike = subst (λ (i : State). AlikeState i j) g h }
alike_done both_refuse e = never (cc e)

bind_alike : {A B : Type 0} {r s : Outcome A} {f g : A → State → Outcome B} → Alike r s → ((a : A) (k j : State) → AlikeState k j → Alike (f a k) (g a j)) → Alike (bind r f) (bind s g)
bind_alike (both_done {a = a} {k = k} {j = j} h) c = c a k j h
bind_alike both_refuse c = both_refuse

guard_alike : {A : Type 0} (b : Bool) (n m : ℕ) (p q : Place) {r s : Outcome A} → Alike r s → Alike (guard b n p r) (guard b m q s)
guard_alike true n m p q h = h
guard_alike false n m p q h = both_refuse

-- Two values that are absent for the same shapes and read alike.
record AlikeValue (v w : Value) : Type 0 where
  absent : (s : Shape) → v.absent s ≡ w.absent s
  read : (s : Shape) {k j : State} → AlikeState k j → Alike (v.read s k) (w.read s j)

value_trans : {u v w : Value} → AlikeValue u v → AlikeValue v w → AlikeValue u w
value_trans a b = record { absent = λ s. a.absent s ∙ b.absent s; read = λ s {k} {j} h. alike_trans (a.read s h) (b.read s (same_state j)) }

abbrev entry : Place → List ℕ → Value → Entry Value
entry q n v = record { quote = q; name = n; value = v }

data AlikeEntries : List (Entry Value) → List (Entry Value) → Type 0 where
  no_entry : AlikeEntries [] []
  next_entry : {p q : Place} {n : List ℕ} {v w : Value} {es ds : List (Entry Value)} → AlikeValue v w → AlikeEntries es ds → AlikeEntries (entry p n v ∷ es) (entry q n w ∷ ds)
  swap_entry : {p q p' q' : Place} {n m : List ℕ} {v w : Value} {es : List (Entry Value)} → AlikeValue v v → AlikeValue w w → AlikeEntries es es → AlikeEntries (entry p n v ∷ entry q m w ∷ es) (entry q' m w ∷ entry p' n v ∷ es)
  twice_entry : {es ds cs : List (Entry Value)} → AlikeEntries es ds → AlikeEntries ds cs → AlikeEntries es cs

data AlikeFound : Found Value → Found Value → Type 0 where
  both_nothing : AlikeFound nothing nothing
  both_one : {v w : Value} → AlikeValue v w → AlikeFound (one v) (one w)
  both_twice : AlikeFound twice twice

found_trans : {f g h : Found Value} → AlikeFound f g → AlikeFound g h → AlikeFound f h
found_trans both_nothing k = k
found_trans both_twice k = k
found_trans (both_one a) (both_one b) = both_one (value_trans a b)

add_alike : (b : Bool) {v w : Value} {x y : Found Value} → AlikeValue v w → AlikeFound x y → AlikeFound (add b v x) (add b w y)
add_alike false h k = k
add_alike true h both_nothing = both_one h
add_alike true h (both_one k) = both_twice
add_alike true h both_twice = both_twice

add_swap : (a b : Bool) {v w : Value} {x : Found Value} → AlikeValue v v → AlikeValue w w → AlikeFound x x → AlikeFound (add a v (add b w x)) (add b w (add a v x))
add_swap false b h k g = add_alike b k g
add_swap true false h k g = add_alike true h g
add_swap true true h k both_nothing = both_twice
add_swap true true h k (both_one g) = both_twice
add_swap true true h k both_twice = both_twice

find_alike : (k : List ℕ) {es ds : List (Entry Value)} → AlikeEntries es ds → AlikeFound (find k es) (find k ds)
find_alike k no_entry = both_nothing
find_alike k (next_entry {n = n} h t) = add_alike (same k n) h (find_alike k t)
find_alike k (swap_entry {n = n} {m = m} h g t) = add_swap (same k n) (same k m) h g (find_alike k t)
find_alike k (twice_entry s t) = found_trans (find_alike k s) (find_alike k t)

-- 5 and 6 are met in both or in neither.
abbrev is_none : Option Place → Bool
is_none none = true
is_none (some p) = false

unless_alike : {A : Type 0} (x y : Option Place) (n m : ℕ) {r s : Outcome A} → is_none x ≡ is_none y → Alike r s → Alike (unless x n r) (unless y m s)
unless_alike none none n m e h = h
unless_alike none (some p) n m e h = absurd (true≢false e)
unless_alike (some p) none n m e h = absurd (false≢true e)
unless_alike (some p) (some q) n m e h = both_refuse

or_else_none : (b : Bool) (p : Place) (x : Option Place) → is_none (or_else b p x) ≡ (not b && is_none x)
or_else_none true p x = refl
or_else_none false p x = refl

unknown_alike : (k : List (List ℕ)) {es ds : List (Entry Value)} → AlikeEntries es ds → is_none (unknown k es) ≡ is_none (unknown k ds)
unknown_alike k no_entry = refl
unknown_alike k (next_entry {n = n} h t) = simp or_else_none (rw (unknown_alike k t))
unknown_alike k (swap_entry {n = n} {m = m} {es = es} h g t) = simp or_else_none (and_left_comm (not (not (has n k))) (not (not (has m k))) (is_none (unknown k es)))
unknown_alike k (twice_entry s t) = unknown_alike k s ∙ unknown_alike k t

repeated_seen : (k l : List (List ℕ)) → ((n : List ℕ) → has n k ≡ has n l) → (es : List (Entry Value)) → is_none (repeated k es) ≡ is_none (repeated l es)
repeated_seen k l h [] = refl
repeated_seen k l h (e ∷ es) = simp or_else_none (rw (h e.name, repeated_seen (e.name ∷ k) (e.name ∷ l) (λ n. rw (h n)) es))

swap_bools : (a b d x : Bool) → (not a && (not (d || b) && x)) ≡ (not b && (not (d || a) && x))
swap_bools true true true x = refl
swap_bools true true false x = refl
swap_bools true false true x = refl
swap_bools true false false x = refl
swap_bools false true true x = refl
swap_bools false true false x = refl
swap_bools false false true x = refl
swap_bools false false false x = refl

repeated_alike : (k : List (List ℕ)) {es ds : List (Entry Value)} → AlikeEntries es ds → is_none (repeated k es) ≡ is_none (repeated k ds)
repeated_alike k no_entry = refl
repeated_alike k (next_entry {n = n} h t) = simp or_else_none (rw (repeated_alike (n ∷ k) t))
repeated_alike k (swap_entry {n = n} {m = m} {es = es} h g t) = simp or_else_none (rw (repeated_seen (m ∷ n ∷ k) (n ∷ m ∷ k) (λ x. or_left_comm (same x m) (same x n) (has x k)) es, same_sym m n) (swap_bools (has n k) (has m k) (same n m) _))
repeated_alike k (twice_entry s t) = repeated_alike k s ∙ repeated_alike k t

-- The fields.
needed_alike : (s : Shape) (p q : Place) {x y : Found Value} → AlikeFound x y → {k j : State} → AlikeState k j → Alike (needed s p x k) (needed s q y j)
needed_alike s p q both_nothing l = both_refuse
needed_alike s p q (both_one {v = v} {w = w} h) l = rw (h.absent s) (guard_alike (not (w.absent s)) 7 7 p q (h.read s l))
needed_alike s p q both_twice l = both_refuse

present_alike : {A : Type 0} {r s : Outcome A} → Alike r s → Alike (present r) (present s)
present_alike h = bind_alike h λ a k j l. both_done l

cond_alike : {A : Type 0} (b : Bool) {r r' s s' : Outcome A} → Alike r r' → Alike s s' → Alike (cond b r s) (cond b r' s')
cond_alike true h k = h
cond_alike false h k = k

optional_alike : (s : Shape) (p q : Place) {x y : Found Value} → AlikeFound x y → {k j : State} → AlikeState k j → Alike (optional s p x k) (optional s q y j)
optional_alike s p q both_nothing l = both_done l
optional_alike s p q (both_one {v = v} {w = w} h) l = rw (h.absent s) (cond_alike (w.absent s) (both_done l) (present_alike (h.read s l)))
optional_alike s p q both_twice l = both_refuse

fields_alike : {A : Type 0} (rows : Rows A) (p q : Place) {es ds : List (Entry Value)} → AlikeEntries es ds → {k j : State} → AlikeState k j → Alike (fields rows p es k) (fields rows q ds j)
fields_alike (need n s k) p q h l = bind_alike (needed_alike s p q (find_alike (bytes n) h) l) λ x _ _ l'. fields_alike (k x) p q h l'
fields_alike (may n s k) p q h l = bind_alike (optional_alike s p q (find_alike (bytes n) h) l) λ x _ _ l'. fields_alike (k x) p q h l'
fields_alike (gives a) p q h l = both_done l
fields_alike (gives_if test a) p q h l = guard_alike test 12 12 p q (both_done l)

-- The objects.
guards_alike : {A : Type 0} (b c : Bool) (n m : ℕ) (p q : Place) {r s : Outcome A} → b ≡ c → Alike r s → Alike (guard b n p r) (guard c m q s)
guards_alike b c n m p q e h = rw e (guard_alike c n m p q h)

opening_alike : {A : Type 0} (b : Bool) (p q : Place) {k j : State} {f g : State → Outcome A} → AlikeState k j → ((k' j' : State) → AlikeState k' j' → Alike (f k') (g j')) → Alike (opening b p k f) (opening b q j g)
opening_alike true p q {k} {j} l h = guards_alike (ltb 0 k.left.records) (ltb 0 j.left.records) 15 15 p q (ap (λ (i : Left). ltb 0 i.records) l.left) (h (opened k) (opened j) (opened_alike l))
opening_alike false p q {k} {j} l h = h k j l

body_alike : (f : Family) (t : ℕ) (also : List (List ℕ)) (p q : Place) {es ds : List (Entry Value)} → AlikeEntries es ds → {k j : State} → AlikeState k j → Alike (body f t also p es k) (body f t also q ds j)
body_alike f t also p q {es} {ds} h l =
    opening_alike (is_record f) p q l λ _ _ l'.
    unless_alike (unknown (also ++ names (rows_of f t)) es) (unknown (also ++ names (rows_of f t)) ds) 5 5 (unknown_alike (also ++ names (rows_of f t)) h) (fields_alike (rows_of f t) p q h l')

typed_alike : (n : ℕ) (f : Family) (p q : Place) {es ds : List (Entry Value)} → AlikeEntries es ds → {k j : State} → AlikeState k j → Alike (typed n f p es k) (typed n f q ds j)
typed_alike n f p q {es} {ds} h l =
    bind_alike (needed_alike (a_number (integer 1 n)) p q (find_alike (bytes "t") h) l) λ t _ _ l'.
    guard_alike (may_stand f t) 10 10 (place_of p (find (bytes "t") es)) (place_of q (find (bytes "t") ds))
    (guard_alike (may_open f t) 14 14 (place_of p (find (bytes "t") es)) (place_of q (find (bytes "t") ds))
    (body_alike f t (bytes "t" ∷ []) p q h l'))

by_type_alike : (b : Bool) (f : Family) (p q : Place) {es ds : List (Entry Value)} → AlikeEntries es ds → {k j : State} → AlikeState k j → Alike (by_type b f p es k) (by_type b f q ds j)
by_type_alike true f p q h l = body_alike f 0 [] p q h l
by_type_alike false f p q h l = typed_alike (types_of f) f p q h l

members_alike : (f : Family) (p q : Place) {es ds : List (Entry Value)} → AlikeEntries es ds → {k j : State} → AlikeState k j → Alike (members f p es k) (members f q ds j)
members_alike f p q {es} {ds} h l = unless_alike (repeated [] es) (repeated [] ds) 6 6 (repeated_alike [] h) (by_type_alike (eqb (types_of f) 0) f p q h l)

-- The other values.
whole_alike : (p q : Place) {k j : State} → AlikeState k j → (i : Integer) → Alike (whole p k i) (whole q j i)
whole_alike p q l (Ok i) = both_done l
whole_alike p q l (Err N.NotCarried) = both_refuse
whole_alike p q l (Err N.Outside) = both_refuse

millionths_alike : (p q : Place) {k j : State} → AlikeState k j → (d : Decimal) → Alike (millionths p k d) (millionths q j d)
millionths_alike p q l (Ok n) = both_done l
millionths_alike p q l (Err N.NotCarried) = both_refuse
millionths_alike p q l (Err N.Outside) = both_refuse

digits_alike : (n : NumberShape) (p q : Place) (raw : List ℕ) {k j : State} → AlikeState k j → Alike (digits n p raw k) (digits n q raw j)
digits_alike (integer lo hi) p q raw l = whole_alike p q l (integer_in lo hi raw)
digits_alike (decimal lo) p q raw l = millionths_alike p q l (decimal_from lo raw)

or_refused_alike : {A : Type 0} (n : ℕ) (p q : Place) {k j : State} → AlikeState k j → (o : Option A) → Alike (or_refused n p k o) (or_refused n q j o)
or_refused_alike n p q l none = both_refuse
or_refused_alike n p q l (some a) = both_done l

chars_alike : (s : StringShape) (p q : Place) (cs : List ℕ) {k j : State} → AlikeState k j → Alike (chars s p cs k) (chars s q cs j)
chars_alike text p q cs {k} {j} l = guards_alike (leb (length cs) k.left.room) (leb (length cs) j.left.room) 16 16 p q (ap (λ (i : Left). leb (length cs) i.room) l.left) (both_done (laid_alike (length cs) l))
chars_alike date p q cs l = or_refused_alike 13 p q l (date_of cs)
chars_alike time p q cs l = or_refused_alike 13 p q l (time_of cs)

data AlikeValues : List Value → List Value → Type 0 where
  no_value : AlikeValues [] []
  next_value : {v w : Value} {vs ws : List Value} → AlikeValue v w → AlikeValues vs ws → AlikeValues (v ∷ vs) (w ∷ ws)

empty_alike : {vs ws : List Value} → AlikeValues vs ws → is_empty vs ≡ is_empty ws
empty_alike no_value = refl
empty_alike (next_value h t) = refl

each_alike : (s : Shape) {vs ws : List Value} → AlikeValues vs ws → {k j : State} → AlikeState k j → Alike (each s vs k) (each s ws j)
each_alike s no_value l = both_done l
each_alike s (next_value h t) l = bind_alike (h.read s l) λ a _ _ l'. bind_alike (each_alike s t l') λ as' _ _ l''. both_done l''

decimals_alike : (p q : Place) {vs ws : List Value} → AlikeValues vs ws → {k j : State} → AlikeState k j → Alike (decimals p vs k) (decimals q ws j)
decimals_alike p q no_value l = both_refuse
decimals_alike p q (next_value a no_value) l = both_refuse
decimals_alike p q (next_value a (next_value b no_value)) l = both_refuse
decimals_alike p q (next_value a (next_value b (next_value c no_value))) l = both_refuse
decimals_alike p q (next_value a (next_value b (next_value c (next_value d no_value)))) l =
    bind_alike (a.read (a_number (decimal 0)) l) λ m _ _ l₁.
    bind_alike (b.read (a_number (decimal 0)) l₁) λ n _ _ l₂.
    bind_alike (c.read (a_number (decimal 0)) l₂) λ e _ _ l₃.
    bind_alike (d.read (a_number (decimal 0)) l₃) λ i _ _ l₄. both_done l₄
decimals_alike p q (next_value a (next_value b (next_value c (next_value d (next_value e t))))) l = both_refuse

elements_alike : (s : ListShape) (p q : Place) {vs ws : List Value} → AlikeValues vs ws → {k j : State} → AlikeState k j → Alike (elements s p vs k) (elements s q ws j)
elements_alike four_decimals p q h l = decimals_alike p q h l
elements_alike (days hi) p q {vs} {ws} h l = rw (empty_alike h) (guard_alike (not (is_empty ws)) 11 11 p q (bind_alike (each_alike (a_number (integer 1 hi)) h l) λ ds _ _ l'. guard_alike (distinct ds) 11 11 p q (both_done l')))
elements_alike (some_objects f) p q {vs} {ws} h l = rw (empty_alike h) (guard_alike (not (is_empty ws)) 11 11 p q (each_alike (an_object f) h l))
elements_alike (any_objects f) p q h l = each_alike (an_object f) h l

of_number_alike : (p q : Place) (raw : List ℕ) (s : Shape) {k j : State} → AlikeState k j → Alike (of_number p raw s k) (of_number q raw s j)
of_number_alike p q raw (a_number n) l = digits_alike n p q raw l
of_number_alike p q raw (a_string s) l = both_refuse
of_number_alike p q raw a_flag l = both_refuse
of_number_alike p q raw (an_object f) l = both_refuse
of_number_alike p q raw (a_list s) l = both_refuse

of_string_alike : (p q : Place) (cs : List ℕ) (s : Shape) {k j : State} → AlikeState k j → Alike (of_string p cs s k) (of_string q cs s j)
of_string_alike p q cs (a_number n) l = both_refuse
of_string_alike p q cs (a_string s) l = chars_alike s p q cs l
of_string_alike p q cs a_flag l = both_refuse
of_string_alike p q cs (an_object f) l = both_refuse
of_string_alike p q cs (a_list s) l = both_refuse

of_bool_alike : (p q : Place) (b : Bool) (s : Shape) {k j : State} → AlikeState k j → Alike (of_bool p b s k) (of_bool q b s j)
of_bool_alike p q b (a_number n) l = both_refuse
of_bool_alike p q b (a_string s) l = both_refuse
of_bool_alike p q b a_flag l = both_done l
of_bool_alike p q b (an_object f) l = both_refuse
of_bool_alike p q b (a_list s) l = both_refuse

of_object_alike : (p q : Place) {es ds : List (Entry Value)} → AlikeEntries es ds → (s : Shape) {k j : State} → AlikeState k j → Alike (of_object p es s k) (of_object q ds s j)
of_object_alike p q h (a_number n) l = both_refuse
of_object_alike p q h (a_string s) l = both_refuse
of_object_alike p q h a_flag l = both_refuse
of_object_alike p q h (an_object f) l = members_alike f p q h l
of_object_alike p q h (a_list s) l = both_refuse

of_list_alike : (p q : Place) {vs ws : List Value} → AlikeValues vs ws → (s : Shape) {k j : State} → AlikeState k j → Alike (of_list p vs s k) (of_list q ws s j)
of_list_alike p q h (a_number n) l = both_refuse
of_list_alike p q h (a_string s) l = both_refuse
of_list_alike p q h a_flag l = both_refuse
of_list_alike p q h (an_object f) l = both_refuse
of_list_alike p q h (a_list s) l = elements_alike s p q h l

-- A tree is read alike behind states that are alike.
mutual
  unfolding value_of

  value_self : (t : Tree) → AlikeValue (value_of t) (value_of t)
  value_self (object p ms) = record { absent = λ s. refl; read = of_object_alike p p (entries_self ms) }
  value_self (list p es) = record { absent = λ s. refl; read = of_list_alike p p (values_self es) }
  value_self (string p cs) = record { absent = λ s. refl; read = of_string_alike p p cs }
  value_self (number p raw) = record { absent = λ s. refl; read = of_number_alike p p raw }
  value_self (bool p b) = record { absent = λ s. refl; read = of_bool_alike p p b }
  value_self (null p) = record { absent = λ s. refl; read = λ s l. both_refuse }

  entries_self : (ms : Members) → AlikeEntries (entries_of ms) (entries_of ms)
  entries_self no_member = no_entry
  entries_self (member q n t ms) = next_entry (value_self t) (entries_self ms)

  values_self : (es : Elements) → AlikeValues (values_of es) (values_of es)
  values_self no_element = no_value
  values_self (element t es) = next_value (value_self t) (values_self es)

mutual
  unfolding value_of

  value_alike : {t u : Tree} → Reordered t u → AlikeValue (value_of t) (value_of u)
  value_alike (S.an_object {p = p} {q = q} h) = record { absent = λ s. refl; read = of_object_alike p q (entries_alike h) }
  value_alike (S.a_list {p = p} {q = q} h) = record { absent = λ s. refl; read = of_list_alike p q (values_alike h) }
  value_alike (S.a_string {p = p} {q = q} {cs = cs}) = record { absent = λ s. refl; read = of_string_alike p q cs }
  value_alike (S.a_number {p = p} {q = q} {raw = raw}) = record { absent = λ s. refl; read = of_number_alike p q raw }
  value_alike (S.a_bool {p = p} {q = q} {b = b}) = record { absent = λ s. refl; read = of_bool_alike p q b }
  value_alike S.a_null = record { absent = λ s. refl; read = λ s l. both_refuse }

  entries_alike : {ms ns : Members} → ReorderedMembers ms ns → AlikeEntries (entries_of ms) (entries_of ns)
  entries_alike S.no_members = no_entry
  entries_alike (S.next_member h t) = next_entry (value_alike h) (entries_alike t)
  entries_alike (S.swap {t = t} {u = u} {ms = ms}) = swap_entry (value_self t) (value_self u) (entries_self ms)
  entries_alike (S.twice s t) = twice_entry (entries_alike s) (entries_alike t)

  values_alike : {es ds : Elements} → ReorderedElements es ds → AlikeValues (values_of es) (values_of ds)
  values_alike S.no_elements = no_value
  values_alike (S.next_element h t) = next_value (value_alike h) (values_alike t)

-- A reordered tree that is taken is taken as the same posology.
pub visit_reordered : {t u : Tree} → Reordered t u → (terms : Terms) {p : Posology} {l : State} → visit terms t ≡ done p l → TakenAlike (visit terms u) p l
unfolding visit
visit_reordered h terms e = alike_done ((value_alike h).read (an_object (a_posology terms.purpose)) (same_state (start terms))) e
