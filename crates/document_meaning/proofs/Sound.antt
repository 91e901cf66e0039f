-- What is accepted is valid, takes what its records and strings take, and is what the tree means.
use Rattle.std.specs.Prelude.{Ok, Err}
use mathlib.Core.Path.{◌≡◌, refl, ap, sym, subst, ◌∙◌}
use mathlib.Core.List.{List, [], ◌∷◌, ◌++◌}
use mathlib.Core.Bool.{Bool, true, false, not, ◌&&◌, cond}
use mathlib.Core.Option.{Option, none, some}
use Prim.Native.Nat.{ℕ, ◌≤◌, ◌<◌}
use native.Mathlib.Omega.{arith}
use lib.Dec.{leb, ltb}
use lib.ListN.{length, drop}
use borrow.Author.Tests.{leb-true, ltb-true, not-true}
use Rattle.json_grammar.specs.Rows.{choose}
use Rattle.json_grammar.specs.Tree.{Place, Tree, object, list, string, number, bool, null, Members, no_member, member, Elements, no_element, element}
use Rattle.document_numbers.specs.Number.{integer_in, decimal_from, carried, negative, rounded, all_zero, behind_point, millionths as millionths_of}
use Rattle.document_numbers.specs.declared.NumberError.TheVariants as N
use Rattle.document.specs.Bytes.{bytes}
use Rattle.document.specs.Utf8.{is_utf8}
use Rattle.document.specs.Date.{is_date, is_second, date_of, time_of}
use Rattle.document.specs.Lookup.{Entry, same, has, or_else, Found, nothing, one, twice, add, find, repeated, unknown}
use Rattle.document.specs.Schema.{greatest_decimal, Family, NumberShape, integer, decimal, StringShape, text, date, time, OfString, ListShape, four_decimals, days, some_objects, any_objects, Shape, a_number, a_string, a_flag, an_object, a_list, Of, OfFamily, Rows, need, may, gives, gives_if, rows_of, types_of, is_record, may_stand, may_open, names}
use Rattle.document.specs.Visit.{Left, record_less, room_less, State, Outcome, done, refuse, bind, guard, unless, Value, needed, present, optional, fields, opening, body, place_of, typed, by_type, members, whole, millionths, digits, or_refused, chars, each, is_empty, distinct, decimals, elements, of_number, of_string, of_bool, of_object, of_list, empty_for, value_of, entries_of, values_of}
use Rattle.document.specs.Valid.{every, is_amount}
use Rattle.document.specs.Spells.{Meaning, Given, Perhaps, FieldsMean, BodyMeans, TypeMeans, MembersMean, DigitsMean, CharsMean, EachMeans, ElementsMean, NumberMeans, StringMeans, BoolMeans, ObjectMeans, ListMeans, meaning_of, meant_members, meant_elements}
use Rattle.json_grammar.proofs.Truth.{and_both, and_right}
use Rattle.document_meaning.proofs.Good.{sum, valid_of, records_of, text_of, Takes, Opened, Good, GoodOption, Filled, Made}
use Rattle.document.proofs.Days.{ascending_climbs, ascending_empty}
use Rattle.document.proofs.RealDates.{Holds, time_holds, date_holds}
use Rattle.document_meaning.proofs.Makes.{takes_none, takes_then, takes_as, good_free}
use Rattle.document_meaning.proofs.Parts.{nothing_taken}
use Rattle.document_meaning.proofs.Families.{InTypes, Allowed, untyped, law}

-- What holds of an outcome that is no refusal.
abbrev pub All : {A : Type 0} → (A → State → Type 0) → Outcome A → Type 0
All P (done a l) = P a l
All P (refuse n p) = Unit {0}

bind_all : {A B : Type 0} (P : A → State → Type 0) (Q : B → State → Type 0) (r : Outcome A) (f : A → State → Outcome B) → All P r → ((a : A) (l : State) → P a l → All Q (f a l)) → All Q (bind r f)
bind_all P Q (done a l) f h k = k a l h
bind_all P Q (refuse n p) f h k = tt

guard_all : {A : Type 0} (P : A → State → Type 0) (b : Bool) (n : ℕ) (p : Place) (r : Outcome A) → (b ≡ true → All P r) → All P (guard b n p r)
guard_all P true n p r h = h refl
guard_all P false n p r h = tt

unless_all : {A : Type 0} (P : A → State → Type 0) (o : Option Place) (n : ℕ) (r : Outcome A) → (o ≡ none → All P r) → All P (unless o n r)
unless_all P none n r h = h refl
unless_all P (some p) n r h = tt

all_map : {A : Type 0} (P Q : A → State → Type 0) (r : Outcome A) → All P r → ((a : A) (l : State) → P a l → Q a l) → All Q r
all_map P Q (done a l) h k = k a l h
all_map P Q (refuse n p) h k = tt

all_and : {A : Type 0} (P Q : A → State → Type 0) (r : Outcome A) → All P r → All Q r → All (λ a l. P a l × Q a l) r
all_and P Q (done a l) h k = (h, k)
all_and P Q (refuse n p) h k = tt

-- A value against its meaning.
pub record Sound (v : Value) (m : Meaning) : Type 0 where
  pub absent : (s : Shape) → v.absent s ≡ m.absent s
  pub read : (s : Shape) (l : State) → All (λ x l'. Good s x l.left l'.left × m.means s x) (v.read s l)
  pub filled : (s : Shape) (l : State) → v.absent s ≡ false → All (λ x l'. Filled s x) (v.read s l)

abbrev SoundFound : Found Value → Found Meaning → Type 0
SoundFound nothing nothing = Unit {0}
SoundFound nothing (one m) = ⊥
SoundFound nothing twice = ⊥
SoundFound (one v) nothing = ⊥
SoundFound (one v) (one m) = Sound v m
SoundFound (one v) twice = ⊥
SoundFound twice nothing = ⊥
SoundFound twice (one m) = ⊥
SoundFound twice twice = Unit {0}

-- Members against theirs: every name finds the like, and the same names are unknown or stand twice.
record SoundEntries (es : List (Entry Value)) (ds : List (Entry Meaning)) : Type 0 where
  finds : (n : List ℕ) → SoundFound (find n es) (find n ds)
  knows : (k : List (List ℕ)) → unknown k es ≡ unknown k ds
  repeats : (k : List (List ℕ)) → repeated k es ≡ repeated k ds

add_sound : (b : Bool) (v : Value) (m : Meaning) (x : Found Value) (y : Found Meaning) → Sound v m → SoundFound x y → SoundFound (add b v x) (add b m y)
add_sound false v m x y h k = k
add_sound true v m nothing nothing h k = h
add_sound true v m nothing (one n) h k = absurd k
add_sound true v m nothing twice h k = absurd k
add_sound true v m (one w) nothing h k = absurd k
add_sound true v m (one w) (one n) h k = tt
add_sound true v m (one w) twice h k = absurd k
add_sound true v m twice nothing h k = absurd k
add_sound true v m twice (one n) h k = absurd k
add_sound true v m twice twice h k = tt

no_entries : SoundEntries [] []
no_entries = record { finds = λ n. tt; knows = λ k. refl; repeats = λ k. refl }

more_entries : (q : Place) (n : List ℕ) (v : Value) (m : Meaning) (es : List (Entry Value)) (ds : List (Entry Meaning)) → Sound v m → SoundEntries es ds → SoundEntries (record { quote = q; name = n; value = v } ∷ es) (record { quote = q; name = n; value = m } ∷ ds)
more_entries q n v m es ds h t = record {
  finds = λ k. add_sound (same k n) v m (find k es) (find k ds) h (t.finds k);
  knows = λ k. ap (λ (o : Option Place). or_else (not (has n k)) q o) (t.knows k);
  repeats = λ k. ap (λ (o : Option Place). or_else (has n k) q o) (t.repeats (n ∷ k));
}

-- The fields.
needed_sound : (s : Shape) (p : Place) (x : Found Value) (y : Found Meaning) → SoundFound x y → (l : State) → All (λ a l'. Good s a l.left l'.left × Filled s a × Given s y a) (needed s p x l)
needed_sound s p nothing y h l = tt
needed_sound s p (one v) nothing h l = absurd h
needed_sound s p (one v) (one m) h l =
    guard_all _ (not (v.absent s)) 7 p (v.read s l) λ e.
    let away : v.absent s ≡ false = not-true (v.absent s) e in
    all_map (λ a l'. (Good s a l.left l'.left × m.means s a) × Filled s a) _ (v.read s l)
    (all_and (λ a l'. Good s a l.left l'.left × m.means s a) (λ a l'. Filled s a) (v.read s l) (h.read s l) (h.filled s l away))
    λ a l' g. (g.0.0, g.1, (sym (h.absent s) ∙ away, g.0.1))
needed_sound s p (one v) twice h l = absurd h
needed_sound s p twice y h l = tt

optional_one : (s : Shape) (v : Value) (m : Meaning) (b : Bool) → Sound v m → v.absent s ≡ b → (l : State) → All (λ a l'. GoodOption s a l.left l'.left × Perhaps s (one m) a) (cond b (done none l) (present (v.read s l)))
optional_one s v m true h e l = (refl, sym (h.absent s) ∙ e)
optional_one s v m false h e l =
    bind_all (λ a l'. (Good s a l.left l'.left × m.means s a) × Filled s a) _ (v.read s l) _
    (all_and (λ a l'. Good s a l.left l'.left × m.means s a) (λ a l'. Filled s a) (v.read s l) (h.read s l) (h.filled s l e))
    λ a l' g. ((g.0.0, g.1), (sym (h.absent s) ∙ e, g.0.1))

optional_sound : (s : Shape) (p : Place) (x : Found Value) (y : Found Meaning) → SoundFound x y → (l : State) → All (λ a l'. GoodOption s a l.left l'.left × Perhaps s y a) (optional s p x l)
optional_sound s p nothing nothing h l = (refl, tt)
optional_sound s p nothing (one m) h l = absurd h
optional_sound s p nothing twice h l = absurd h
optional_sound s p (one v) nothing h l = absurd h
optional_sound s p (one v) (one m) h l = optional_one s v m (v.absent s) h refl l
optional_sound s p (one v) twice h l = absurd h
optional_sound s p twice y h l = tt

fields_sound : {A : Type 0} (rows : Rows A) (p : Place) (es : List (Entry Value)) (ds : List (Entry Meaning)) → SoundEntries es ds → (l : State) → All (λ a l''. Made rows l.left a l''.left × FieldsMean rows ds a) (fields rows p es l)
fields_sound (need n s k) p es ds h l =
    bind_all (λ x l'. Good s x l.left l'.left × Filled s x × Given s (find (bytes n) ds) x) _ (needed s p (find (bytes n) es) l) _
    (needed_sound s p (find (bytes n) es) (find (bytes n) ds) (h.finds (bytes n)) l) λ x l' g.
    all_map (λ a l''. Made (k x) l'.left a l''.left × FieldsMean (k x) ds a) _ (fields (k x) p es l') (fields_sound (k x) p es ds h l') λ a l'' i.
    ((x, l'.left, g.0, g.1, i.0), (x, g.2, i.1))
fields_sound (may n s k) p es ds h l =
    bind_all (λ x l'. GoodOption s x l.left l'.left × Perhaps s (find (bytes n) ds) x) _ (optional s p (find (bytes n) es) l) _
    (optional_sound s p (find (bytes n) es) (find (bytes n) ds) (h.finds (bytes n)) l) λ x l' g.
    all_map (λ a l''. Made (k x) l'.left a l''.left × FieldsMean (k x) ds a) _ (fields (k x) p es l') (fields_sound (k x) p es ds h l') λ a l'' i.
    ((x, l'.left, g.0, i.0), (x, g.1, i.1))
fields_sound (gives a) p es ds h l = ((refl, refl), refl)
fields_sound (gives_if test a) p es ds h l = guard_all _ test 12 p (done a l) λ e. ((e, refl, refl), refl)

-- The objects.
one_less : (l : Left) → ltb 0 l.records ≡ true → Takes 1 0 l (record_less l)
one_less l e = let h : 0 < l.records = ltb-true 0 l.records e in record { taken = omega arith; used = omega arith }

opening_sound : {A : Type 0} (b : Bool) (p : Place) (l : State) (f : State → Outcome A) (P : A → State → Type 0) → ((l₁ : State) → Opened b l.left l₁.left → All P (f l₁)) → All P (opening b p l f)
opening_sound true p l f P h = guard_all P (ltb 0 l.left.records) 15 p _ λ e. h _ (one_less l.left e)
opening_sound false p l f P h = h l refl

body_sound : (f : Family) (t : ℕ) (also : List (List ℕ)) (p : Place) (es : List (Entry Value)) (ds : List (Entry Meaning)) → SoundEntries es ds → (l : State) → All (λ a l''. ((l₁ : State) × Opened (is_record f) l.left l₁.left × Made (rows_of f t) l₁.left a l''.left) × BodyMeans f t also ds a) (body f t also p es l)
body_sound f t also p es ds h l =
    opening_sound (is_record f) p l _ _ λ l₁ o.
    unless_all _ (unknown (also ++ names (rows_of f t)) es) 5 (fields (rows_of f t) p es l₁) λ e.
    all_map (λ a l''. Made (rows_of f t) l₁.left a l''.left × FieldsMean (rows_of f t) ds a) _ (fields (rows_of f t) p es l₁) (fields_sound (rows_of f t) p es ds h l₁) λ a l'' g.
    ((l₁, o, g.0), (sym (h.knows (also ++ names (rows_of f t))) ∙ e, g.1))

-- The type was looked at before the object opened.
opened_later : (b : Bool) (l l' l₁ : Left) → Takes 0 0 l l' → Opened b l' l₁ → Opened b l l₁
opened_later true l l' l₁ t o = takes_then t o
opened_later false l l' l₁ t o = nothing_taken l l' t ∙ o

abbrev TypedGood : ℕ → (f : Family) → State → OfFamily f → State → Type 0
TypedGood n f l a l'' =
    (t : ℕ) × (l' : State) × (l₁ : State) × Takes 0 0 l.left l'.left × ((leb 1 t && leb t n) ≡ true) × (may_stand f t ≡ true) × (may_open f t ≡ true)
    × Opened (is_record f) l'.left l₁.left × Made (rows_of f t) l₁.left a l''.left

abbrev TypedMeans : ℕ → (f : Family) → List (Entry Meaning) → OfFamily f → Type 0
TypedMeans n f ds a = (t : ℕ) × Given (a_number (integer 1 n)) (find (bytes "t") ds) t × ((leb 1 t && leb t n) ≡ true) × BodyMeans f t (bytes "t" ∷ []) ds a

typed_sound : (n : ℕ) (f : Family) (p : Place) (es : List (Entry Value)) (ds : List (Entry Meaning)) → SoundEntries es ds → (l : State) → All (λ a l''. TypedGood n f l a l'' × TypedMeans n f ds a) (typed n f p es l)
typed_sound n f p es ds h l =
    bind_all (λ t l'. Good (a_number (integer 1 n)) t l.left l'.left × Unit {0} × Given (a_number (integer 1 n)) (find (bytes "t") ds) t) _ (needed (a_number (integer 1 n)) p (find (bytes "t") es) l) _
    (needed_sound (a_number (integer 1 n)) p (find (bytes "t") es) (find (bytes "t") ds) (h.finds (bytes "t")) l) λ t l' g.
    guard_all _ (may_stand f t) 10 (place_of p (find (bytes "t") es)) _ λ stands.
    guard_all _ (may_open f t) 14 (place_of p (find (bytes "t") es)) _ λ opens.
    all_map (λ a l''. ((l₁ : State) × Opened (is_record f) l'.left l₁.left × Made (rows_of f t) l₁.left a l''.left) × BodyMeans f t (bytes "t" ∷ []) ds a) _ (body f t (bytes "t" ∷ []) p es l') (body_sound f t (bytes "t" ∷ []) p es ds h l') λ a l'' b.
    ((t, l', b.0.0, g.0.takes, g.0.valid, stands, opens, b.0.1, b.0.2), (t, g.2, g.0.valid, b.1))

abbrev MembersSound : (f : Family) → Place → List (Entry Value) → List (Entry Meaning) → State → Type 0
MembersSound f p es ds l = All (λ a l''. Good (an_object f) a l.left l''.left × MembersMean f ds a) (members f p es l)

by_type_sound : (b : Bool) (f : Family) → untyped f ≡ b → (p : Place) (es : List (Entry Value)) (ds : List (Entry Meaning)) → SoundEntries es ds → (l : State) → All (λ a l''. Good (an_object f) a l.left l''.left × TypeMeans b f ds a) (by_type b f p es l)
by_type_sound true f u p es ds h l =
    all_map (λ a l''. ((l₁ : State) × Opened (is_record f) l.left l₁.left × Made (rows_of f 0) l₁.left a l''.left) × BodyMeans f 0 [] ds a) _ (body f 0 [] p es l) (body_sound f 0 [] p es ds h l) λ a l'' b.
    ((law f).makes l.left b.0.0.left l''.left 0 a b.0.1 (subst (λ (c : Bool). InTypes c f 0) (sym u) refl) (subst (λ (c : Bool). Allowed c f 0) (sym u) tt) b.0.2, b.1)
by_type_sound false f u p es ds h l =
    all_map (λ a l''. TypedGood (types_of f) f l a l'' × TypedMeans (types_of f) f ds a) _ (typed (types_of f) f p es l) (typed_sound (types_of f) f p es ds h l) λ a l'' g.
    let t = g.0 in
    ((law f).makes l.left t.2.left l''.left t.0 a (opened_later (is_record f) l.left t.1.left t.2.left t.3 t.7) (subst (λ (c : Bool). InTypes c f t.0) (sym u) t.4) (subst (λ (c : Bool). Allowed c f t.0) (sym u) (t.5, t.6)) t.8, g.1)

members_sound : (f : Family) (p : Place) (es : List (Entry Value)) (ds : List (Entry Meaning)) → SoundEntries es ds → (l : State) → MembersSound f p es ds l
members_sound f p es ds h l =
    unless_all _ (repeated [] es) 6 _ λ e.
    all_map (λ a l''. Good (an_object f) a l.left l''.left × TypeMeans (untyped f) f ds a) _ (by_type (untyped f) f p es l) (by_type_sound (untyped f) f refl p es ds h l) λ a l'' g.
    (g.0, (sym (h.repeats []) ∙ e, g.1))

-- The other values. An integer leaves what was left, whether or not it had to be rounded.
whole_sound : (p : Place) (l : State) (lo hi : ℕ) (raw : List ℕ) → All (λ n l'. Good (a_number (integer lo hi)) n l.left l'.left × DigitsMean (integer lo hi) raw n) (whole p l (integer_in lo hi raw))
unfolding integer_in
whole_sound p l lo hi raw = go (carried raw) (negative raw) (leb lo (rounded raw) && leb (rounded raw) hi) (all_zero (behind_point raw)) refl refl refl
  where
    go : (c n b exact : Bool) → carried raw ≡ c → negative raw ≡ n → (leb lo (rounded raw) && leb (rounded raw) hi) ≡ b
        → All (λ m l'. Good (a_number (integer lo hi)) m l.left l'.left × DigitsMean (integer lo hi) raw m) (whole p l (choose c (λ _. cond n (Err N.Outside) (cond b (Ok (record { value = (rounded raw); exact = exact })) (Err N.Outside))) λ _. Err N.NotCarried))
    go false n b exact e f g = tt
    go true true b exact e f g = tt
    go true false false exact e f g = tt
    go true false true true e f g = (record { valid = g; takes = takes_none refl }, (e, f, refl))
    go true false true false e f g = (record { valid = g; takes = takes_none refl }, (e, f, refl))

millionths_sound : (p : Place) (l : State) (lo : ℕ) (raw : List ℕ) → All (λ n l'. Good (a_number (decimal lo)) n l.left l'.left × DigitsMean (decimal lo) raw n) (millionths p l (decimal_from lo raw))
unfolding decimal_from
millionths_sound p l lo raw = go (carried raw && all_zero (drop 6 (behind_point raw))) (negative raw) (leb lo (millionths_of raw) && leb (millionths_of raw) greatest_decimal) refl refl refl
  where
    go : (c n b : Bool) → (carried raw && all_zero (drop 6 (behind_point raw))) ≡ c → negative raw ≡ n → (leb lo (millionths_of raw) && leb (millionths_of raw) greatest_decimal) ≡ b
        → All (λ m l'. Good (a_number (decimal lo)) m l.left l'.left × DigitsMean (decimal lo) raw m) (millionths p l (choose c (λ _. cond n (Err N.Outside) (cond b (Ok (millionths_of raw)) (Err N.Outside))) λ _. Err N.NotCarried))
    go false n b e f g = tt
    go true true b e f g = tt
    go true false false e f g = tt
    go true false true e f g = (good_free (a_number (decimal lo)) (millionths_of raw) l.left g refl refl, (e, f, refl))

digits_sound : (n : NumberShape) (p : Place) (raw : List ℕ) (l : State) → All (λ x l'. Good (a_number n) x l.left l'.left × DigitsMean n raw x) (digits n p raw l)
digits_sound (integer lo hi) p raw l = whole_sound p l lo hi raw
digits_sound (decimal lo) p raw l = millionths_sound p l lo raw

room_less_lem : (n : ℕ) (l : Left) → leb n l.room ≡ true → Takes 0 n l (room_less n l)
room_less_lem n l e = let h : n ≤ l.room = leb-true n l.room e in record { taken = omega arith; used = omega arith }

date_sound : (p : Place) (l : State) (cs : List ℕ) (o : Option (OfString date)) → date_of cs ≡ o → Holds (λ x. is_date x ≡ true) o → All (λ x l'. Good (a_string date) x l.left l'.left × CharsMean date cs x) (or_refused 13 p l o)
date_sound p l cs none e h = tt
date_sound p l cs (some d) e h = (good_free (a_string date) d l.left h refl refl, e)

time_sound : (p : Place) (l : State) (cs : List ℕ) (o : Option ℕ) → time_of cs ≡ o → Holds (λ x. is_second x ≡ true) o → All (λ x l'. Good (a_string time) x l.left l'.left × CharsMean time cs x) (or_refused 13 p l o)
time_sound p l cs none e h = tt
time_sound p l cs (some d) e h = (good_free (a_string time) d l.left h refl refl, e)

chars_sound : (s : StringShape) (p : Place) (cs : List ℕ) (l : State) → is_utf8 cs ≡ true → All (λ x l'. Good (a_string s) x l.left l'.left × CharsMean s cs x) (chars s p cs l)
chars_sound text p cs l u = guard_all _ (leb (length cs) l.left.room) 16 p _ λ e. (record { valid = u; takes = room_less_lem (length cs) l.left e }, refl)
chars_sound date p cs l u = date_sound p l cs (date_of cs) refl (date_holds cs)
chars_sound time p cs l u = time_sound p l cs (time_of cs) refl (time_holds cs)

-- Lists.
abbrev SoundEach : List Value → List Meaning → Type 0
SoundEach [] [] = Unit {0}
SoundEach [] (m ∷ ms) = ⊥
SoundEach (v ∷ vs) [] = ⊥
SoundEach (v ∷ vs) (m ∷ ms) = Sound v m × SoundEach vs ms

pub record EachGood (s : Shape) (vs : List Value) (xs : List (Of s)) (l l' : State) : Type 0 where
  pub valid : every (valid_of s) xs ≡ true
  pub takes : Takes (sum (records_of s) xs) (sum (text_of s) xs) l.left l'.left
  pub empty : is_empty xs ≡ is_empty vs

each_sound : (s : Shape) (vs : List Value) (ms : List Meaning) → SoundEach vs ms → (l : State) → All (λ xs l'. EachGood s vs xs l l' × EachMeans s ms xs) (each s vs l)
each_sound s [] [] h l = (record { valid = refl; takes = takes_none refl; empty = refl }, tt)
each_sound s [] (m ∷ ms) h l = absurd h
each_sound s (v ∷ vs) [] h l = absurd h
each_sound s (v ∷ vs) (m ∷ ms) h l =
    bind_all (λ x l'. Good s x l.left l'.left × m.means s x) _ (v.read s l) _ (h.0.read s l) λ x l' g.
    bind_all (λ xs l''. EachGood s vs xs l' l'' × EachMeans s ms xs) _ (each s vs l') _ (each_sound s vs ms h.1 l') λ xs l'' i.
    (record { valid = and_both g.0.valid i.0.valid; takes = takes_then g.0.takes i.0.takes; empty = refl }, (g.1, i.1))

decimals_sound : (p : Place) (vs : List Value) (ms : List Meaning) → SoundEach vs ms → (l : State) → All (λ x l'. Good (a_list four_decimals) x l.left l'.left × ElementsMean four_decimals ms x) (decimals p vs l)
decimals_sound p [] ms h l = tt
decimals_sound p (a ∷ []) ms h l = tt
decimals_sound p (a ∷ b ∷ []) ms h l = tt
decimals_sound p (a ∷ b ∷ c ∷ []) ms h l = tt
decimals_sound p (a ∷ b ∷ c ∷ d ∷ []) [] h l = absurd h
decimals_sound p (a ∷ b ∷ c ∷ d ∷ []) (m ∷ []) h l = absurd h.1
decimals_sound p (a ∷ b ∷ c ∷ d ∷ []) (m ∷ n ∷ []) h l = absurd h.1.1
decimals_sound p (a ∷ b ∷ c ∷ d ∷ []) (m ∷ n ∷ i ∷ []) h l = absurd h.1.1.1
decimals_sound p (a ∷ b ∷ c ∷ d ∷ []) (m ∷ n ∷ i ∷ j ∷ []) h l =
    bind_all (λ x l'. Good (a_number (decimal 0)) x l.left l'.left × m.means (a_number (decimal 0)) x) _ (a.read (a_number (decimal 0)) l) _ (h.0.read (a_number (decimal 0)) l) λ x l₁ g₁.
    bind_all (λ y l'. Good (a_number (decimal 0)) y l₁.left l'.left × n.means (a_number (decimal 0)) y) _ (b.read (a_number (decimal 0)) l₁) _ (h.1.0.read (a_number (decimal 0)) l₁) λ y l₂ g₂.
    bind_all (λ z l'. Good (a_number (decimal 0)) z l₂.left l'.left × i.means (a_number (decimal 0)) z) _ (c.read (a_number (decimal 0)) l₂) _ (h.1.1.0.read (a_number (decimal 0)) l₂) λ z l₃ g₃.
    bind_all (λ w l'. Good (a_number (decimal 0)) w l₃.left l'.left × j.means (a_number (decimal 0)) w) _ (d.read (a_number (decimal 0)) l₃) _ (h.1.1.1.0.read (a_number (decimal 0)) l₃) λ w l₄ g₄. (
      record {
        valid = and_both (and_both (and_both (most x g₁.0.valid) (most y g₂.0.valid)) (most z g₃.0.valid)) (most w g₄.0.valid);
        takes = takes_then g₁.0.takes (takes_then g₂.0.takes (takes_then g₃.0.takes g₄.0.takes));
      },
      (g₁.1, (g₂.1, (g₃.1, (g₄.1, tt)))),
    )
  where
    most : (x : ℕ) → (leb 0 x && leb x greatest_decimal) ≡ true → is_amount x ≡ true
    most x e = and_right (leb 0 x) (leb x greatest_decimal) e
decimals_sound p (a ∷ b ∷ c ∷ d ∷ []) (m ∷ n ∷ i ∷ j ∷ k ∷ ms) h l = absurd h.1.1.1.1
decimals_sound p (a ∷ b ∷ c ∷ d ∷ e ∷ vs) ms h l = tt

pub numbers_take : (n : NumberShape) (xs : List ℕ) → (sum (records_of (a_number n)) xs ≡ 0) × (sum (text_of (a_number n)) xs ≡ 0)
numbers_take n [] = (refl, refl)
numbers_take n (x ∷ xs) = let e = numbers_take n xs in let p = e.0 in let q = e.1 in (omega arith, omega arith)

elements_sound : (s : ListShape) (p : Place) (vs : List Value) (ms : List Meaning) → SoundEach vs ms → (l : State) → All (λ x l'. Good (a_list s) x l.left l'.left × ElementsMean s ms x) (elements s p vs l)
elements_sound four_decimals p vs ms h l = decimals_sound p vs ms h l
elements_sound (days hi) p vs ms h l =
    guard_all _ (not (is_empty vs)) 11 p _ λ e.
    bind_all (λ ds l'. EachGood (a_number (integer 1 hi)) vs ds l l' × EachMeans (a_number (integer 1 hi)) ms ds) _ (each (a_number (integer 1 hi)) vs l) _ (each_sound (a_number (integer 1 hi)) vs ms h l) λ ds l' g.
    guard_all _ (distinct ds) 11 p _ λ u.
    let z = numbers_take (integer 1 hi) ds in (
      record {
        valid = and_both (ap not (ascending_empty ds ∙ g.0.empty) ∙ e) (ascending_climbs hi ds g.0.valid u);
        takes = takes_as z.0 z.1 g.0.takes;
      },
      (ds, g.1, u, refl),
    )
elements_sound (some_objects f) p vs ms h l =
    guard_all _ (not (is_empty vs)) 11 p _ λ e.
    all_map (λ xs l'. EachGood (an_object f) vs xs l l' × EachMeans (an_object f) ms xs) _ (each (an_object f) vs l) (each_sound (an_object f) vs ms h l) λ xs l' g.
    (record { valid = and_both (ap not g.0.empty ∙ e) g.0.valid; takes = g.0.takes }, g.1)
elements_sound (any_objects f) p vs ms h l =
    all_map (λ xs l'. EachGood (an_object f) vs xs l l' × EachMeans (an_object f) ms xs) _ (each (an_object f) vs l) (each_sound (an_object f) vs ms h l) λ xs l' g.
    (record { valid = g.0.valid; takes = g.0.takes }, g.1)

-- Each kind of value. Only a text must not be empty.
all_unit : {A : Type 0} (r : Outcome A) → All (λ a l. Unit {0}) r
all_unit (done a l) = tt
all_unit (refuse n p) = tt

number_sound : (p : Place) (raw : List ℕ) (s : Shape) (l : State) → All (λ x l'. Good s x l.left l'.left × NumberMeans raw s x) (of_number p raw s l)
number_sound p raw (a_number n) l = digits_sound n p raw l
number_sound p raw (a_string s) l = tt
number_sound p raw a_flag l = tt
number_sound p raw (an_object f) l = tt
number_sound p raw (a_list s) l = tt

number_filled : (p : Place) (raw : List ℕ) (s : Shape) (l : State) → All (λ x l'. Filled s x) (of_number p raw s l)
number_filled p raw (a_number n) l = all_unit (digits n p raw l)
number_filled p raw (a_string s) l = tt
number_filled p raw a_flag l = tt
number_filled p raw (an_object f) l = tt
number_filled p raw (a_list s) l = tt

string_sound : (p : Place) (cs : List ℕ) → is_utf8 cs ≡ true → (s : Shape) (l : State) → All (λ x l'. Good s x l.left l'.left × StringMeans cs s x) (of_string p cs s l)
string_sound p cs u (a_number n) l = tt
string_sound p cs u (a_string s) l = chars_sound s p cs l u
string_sound p cs u a_flag l = tt
string_sound p cs u (an_object f) l = tt
string_sound p cs u (a_list s) l = tt

string_filled : (p : Place) (cs : List ℕ) (s : Shape) (l : State) → empty_for cs s ≡ false → All (λ x l'. Filled s x) (of_string p cs s l)
string_filled p cs (a_number n) l e = tt
string_filled p cs (a_string text) l e = guard_all _ (leb (length cs) l.left.room) 16 p _ λ _. e
string_filled p cs (a_string date) l e = all_unit (or_refused 13 p l (date_of cs))
string_filled p cs (a_string time) l e = all_unit (or_refused 13 p l (time_of cs))
string_filled p cs a_flag l e = tt
string_filled p cs (an_object f) l e = tt
string_filled p cs (a_list s) l e = tt

bool_sound : (p : Place) (b : Bool) (s : Shape) (l : State) → All (λ x l'. Good s x l.left l'.left × BoolMeans b s x) (of_bool p b s l)
bool_sound p b (a_number n) l = tt
bool_sound p b (a_string s) l = tt
bool_sound p b a_flag l = (good_free a_flag b l.left refl refl refl, refl)
bool_sound p b (an_object f) l = tt
bool_sound p b (a_list s) l = tt

bool_filled : (p : Place) (b : Bool) (s : Shape) (l : State) → All (λ x l'. Filled s x) (of_bool p b s l)
bool_filled p b (a_number n) l = tt
bool_filled p b (a_string s) l = tt
bool_filled p b a_flag l = tt
bool_filled p b (an_object f) l = tt
bool_filled p b (a_list s) l = tt

object_sound : (p : Place) (es : List (Entry Value)) (ds : List (Entry Meaning)) → SoundEntries es ds → (s : Shape) (l : State) → All (λ x l'. Good s x l.left l'.left × ObjectMeans ds s x) (of_object p es s l)
object_sound p es ds h (a_number n) l = tt
object_sound p es ds h (a_string s) l = tt
object_sound p es ds h a_flag l = tt
object_sound p es ds h (an_object f) l = members_sound f p es ds h l
object_sound p es ds h (a_list s) l = tt

object_filled : (p : Place) (es : List (Entry Value)) (s : Shape) (l : State) → All (λ x l'. Filled s x) (of_object p es s l)
object_filled p es (a_number n) l = tt
object_filled p es (a_string s) l = tt
object_filled p es a_flag l = tt
object_filled p es (an_object f) l = all_unit (members f p es l)
object_filled p es (a_list s) l = tt

list_sound : (p : Place) (vs : List Value) (ms : List Meaning) → SoundEach vs ms → (s : Shape) (l : State) → All (λ x l'. Good s x l.left l'.left × ListMeans ms s x) (of_list p vs s l)
list_sound p vs ms h (a_number n) l = tt
list_sound p vs ms h (a_string s) l = tt
list_sound p vs ms h a_flag l = tt
list_sound p vs ms h (an_object f) l = tt
list_sound p vs ms h (a_list s) l = elements_sound s p vs ms h l

list_filled : (p : Place) (vs : List Value) (s : Shape) (l : State) → All (λ x l'. Filled s x) (of_list p vs s l)
list_filled p vs (a_number n) l = tt
list_filled p vs (a_string s) l = tt
list_filled p vs a_flag l = tt
list_filled p vs (an_object f) l = tt
list_filled p vs (a_list s) l = all_unit (elements s p vs l)

-- Every string of a tree is UTF-8, as every tree of a text is.
abbrev mutual
  pub Utf8Tree : Tree → Type 0
  Utf8Tree (object p ms) = Utf8Members ms
  Utf8Tree (list p es) = Utf8Elements es
  Utf8Tree (string p cs) = is_utf8 cs ≡ true
  Utf8Tree (number p raw) = Unit {0}
  Utf8Tree (bool p b) = Unit {0}
  Utf8Tree (null p) = Unit {0}

  pub Utf8Members : Members → Type 0
  Utf8Members no_member = Unit {0}
  Utf8Members (member q n t ms) = Utf8Tree t × Utf8Members ms

  pub Utf8Elements : Elements → Type 0
  Utf8Elements no_element = Unit {0}
  Utf8Elements (element t es) = Utf8Tree t × Utf8Elements es

mutual
  unfolding value_of meaning_of

  pub tree_sound : (t : Tree) → Utf8Tree t → Sound (value_of t) (meaning_of t)
  tree_sound (object p ms) u = record { absent = λ s. refl; read = object_sound p (entries_of ms) (meant_members ms) (entries_sound ms u); filled = λ s l e. object_filled p (entries_of ms) s l }
  tree_sound (list p es) u = record { absent = λ s. refl; read = list_sound p (values_of es) (meant_elements es) (values_sound es u); filled = λ s l e. list_filled p (values_of es) s l }
  tree_sound (string p cs) u = record { absent = λ s. refl; read = string_sound p cs u; filled = string_filled p cs }
  tree_sound (number p raw) u = record { absent = λ s. refl; read = number_sound p raw; filled = λ s l e. number_filled p raw s l }
  tree_sound (bool p b) u = record { absent = λ s. refl; read = bool_sound p b; filled = λ s l e. bool_filled p b s l }
  tree_sound (null p) u = record { absent = λ s. refl; read = λ s l. tt; filled = λ s l e. tt }

  entries_sound : (ms : Members) → Utf8Members ms → SoundEntries (entries_of ms) (meant_members ms)
  entries_sound no_member u = no_entries
  entries_sound (member q n t ms) u = more_entries q n (value_of t) (meaning_of t) (entries_of ms) (meant_members ms) (tree_sound t u.0) (entries_sound ms u.1)

  values_sound : (es : Elements) → Utf8Elements es → SoundEach (values_of es) (meant_elements es)
  values_sound no_element u = tt
  values_sound (element t es) u = (tree_sound t u.0, values_sound es u.1)
