-- What a tree means is accepted, if it is good.
use Rattle.std.specs.Prelude.{Ok}
use mathlib.Core.Path.{◌≡◌, refl, ap, sym, subst, ◌∙◌}
use mathlib.Core.List.{List, [], ◌∷◌, ◌++◌}
use mathlib.Core.Bool.{Bool, true, false, not, ◌&&◌, false≢true}
use mathlib.Core.Option.{Option, none, some}
use Prim.Native.Nat.{ℕ, ◌+◌}
use native.Mathlib.Omega.{arith}
use lib.Dec.{eqb, leb, ltb}
use lib.ListN.{length, drop}
use borrow.Author.Tests.{le-leb}
use Rattle.json_grammar.specs.Tree.{Place, Tree, object, list, string, number, bool, null, Members, no_member, member, Elements, no_element, element}
use Rattle.document_numbers.specs.Number.{Integer, Decimal, integer_in, decimal_from, carried, negative, rounded, all_zero, behind_point, millionths as millionths_of}
use Rattle.document.specs.Bytes.{bytes}
use Rattle.document.specs.Posology.{Posology}
use Rattle.document.specs.Lookup.{Entry, same, has, or_else, Found, nothing, one, twice, add, find, repeated, unknown}
use Rattle.document.specs.Schema.{greatest_decimal, Family, a_posology, NumberShape, integer, decimal, StringShape, text, date, time, OfString, ListShape, four_decimals, days, some_objects, any_objects, OfList, Four, Shape, a_number, a_string, a_flag, an_object, a_list, Of, OfFamily, Rows, need, may, gives, gives_if, posology_rows, rows_of, types_of, is_record, may_stand, may_open, names}
use Rattle.document.specs.Visit.{Left, record_less, room_less, State, start, Outcome, done, bind, guard, unless, Value, needed, present, optional, fields, opening, body, place_of, by_type, members, whole, millionths, digits, or_refused, chars, each, is_empty, distinct, ascending, decimals, elements, of_number, of_string, of_bool, of_object, of_list, value_of, entries_of, values_of, visit}
use Rattle.document.specs.declared.terms.Terms.{Terms}
use Rattle.document.specs.Valid.{every, is_amount, is_days}
use Rattle.document.specs.Spells.{Meaning, Given, Perhaps, TypeMeans, MembersMean, DigitsMean, CharsMean, EachMeans, ElementsMean, NumberMeans, StringMeans, BoolMeans, ObjectMeans, ListMeans, meaning_of, meant_members, meant_elements, Means}
use Rattle.json_grammar.proofs.Truth.{and_left, and_right, cond_true, cond_false, choose_true}
use Rattle.document_meaning.proofs.Good.{sum, valid_of, records_of, text_of, Takes, Good}
use Rattle.document.proofs.Days.{days_in_range, days_some}
use Rattle.document_meaning.proofs.Makes.{takes_as, good_free}
use Rattle.document_meaning.proofs.Sound.{numbers_take}
use Rattle.document_meaning.proofs.Families.{InTypes, Allowed, untyped, opened_to, MayOpen, law}
use Rattle.document.proofs.DetailParts.{all_four}
use Rattle.document_meaning.proofs.Parts.{Parts, GoodGiven, nothing_taken, amount_of, posology_parts, head_fields_lem}

-- An outcome that is this value and leaves so much, whatever it notes.
pub record Taken {A : Type 0} (o : Outcome A) (a : A) (l : Left) : Type 0 where
  pub state : State
  pub is : o ≡ done a state
  pub left : state.left ≡ l

by : {A : Type 0} {o o' : Outcome A} {a : A} {l : Left} → o ≡ o' → Taken o' a l → Taken o a l
by e t = record { state = t.state; is = e ∙ t.is; left = t.left }

bind_to : {A B : Type 0} (r : Outcome A) (a : A) (l : Left) (f : A → State → Outcome B) (b : B) (l'' : Left) → Taken r a l → ((k : State) → k.left ≡ l → Taken (f a k) b l'') → Taken (bind r f) b l''
bind_to {A} r a l f b l'' t c = by (ap (λ (q : Outcome A). bind q f) t.is) (c t.state t.left)

done_both : {A : Type 0} (a b : A) (k : State) (l : Left) → a ≡ b → k.left ≡ l → Taken (done a k) b l
done_both {A} a b k l e f = record { state = k; is = ap (λ (x : A). done x k) e; left = f }

guard_true : {A : Type 0} (b : Bool) (n : ℕ) (p : Place) (r : Outcome A) → b ≡ true → guard b n p r ≡ r
guard_true true n p r e = refl
guard_true false n p r e = absurd (false≢true e)

unless_none : {A : Type 0} (o : Option Place) (n : ℕ) (r : Outcome A) → o ≡ none → unless o n r ≡ r
unless_none o n r e = ap (λ (q : Option Place). unless q n r) e

pub record Complete (v : Value) (m : Meaning) : Type 0 where
  pub absent : (s : Shape) → v.absent s ≡ m.absent s
  pub read : (s : Shape) (x : Of s) (k : State) (l l' : Left) → k.left ≡ l → m.means s x → Good s x l l' → Taken (v.read s k) x l'

abbrev CompleteFound : Found Value → Found Meaning → Type 0
CompleteFound nothing nothing = Unit {0}
CompleteFound nothing (one m) = ⊥
CompleteFound nothing twice = ⊥
CompleteFound (one v) nothing = ⊥
CompleteFound (one v) (one m) = Complete v m
CompleteFound (one v) twice = ⊥
CompleteFound twice nothing = ⊥
CompleteFound twice (one m) = ⊥
CompleteFound twice twice = Unit {0}

record CompleteEntries (es : List (Entry Value)) (ds : List (Entry Meaning)) : Type 0 where
  finds : (n : List ℕ) → CompleteFound (find n es) (find n ds)
  knows : (k : List (List ℕ)) → unknown k es ≡ unknown k ds
  repeats : (k : List (List ℕ)) → repeated k es ≡ repeated k ds

add_complete : (b : Bool) (v : Value) (m : Meaning) (x : Found Value) (y : Found Meaning) → Complete v m → CompleteFound x y → CompleteFound (add b v x) (add b m y)
add_complete false v m x y h k = k
add_complete true v m nothing nothing h k = h
add_complete true v m nothing (one n) h k = absurd k
add_complete true v m nothing twice h k = absurd k
add_complete true v m (one w) nothing h k = absurd k
add_complete true v m (one w) (one n) h k = tt
add_complete true v m (one w) twice h k = absurd k
add_complete true v m twice nothing h k = absurd k
add_complete true v m twice (one n) h k = absurd k
add_complete true v m twice twice h k = tt

no_entries : CompleteEntries [] []
no_entries = record { finds = λ n. tt; knows = λ k. refl; repeats = λ k. refl }

more_entries : (q : Place) (n : List ℕ) (v : Value) (m : Meaning) (es : List (Entry Value)) (ds : List (Entry Meaning)) → Complete v m → CompleteEntries es ds → CompleteEntries (record { quote = q; name = n; value = v } ∷ es) (record { quote = q; name = n; value = m } ∷ ds)
more_entries q n v m es ds h t = record {
  finds = λ k. add_complete (same k n) v m (find k es) (find k ds) h (t.finds k);
  knows = λ k. ap (λ (o : Option Place). or_else (not (has n k)) q o) (t.knows k);
  repeats = λ k. ap (λ (o : Option Place). or_else (has n k) q o) (t.repeats (n ∷ k));
}

needed_complete : (s : Shape) (p : Place) (x : Found Value) (y : Found Meaning) → CompleteFound x y → (a : Of s) (k : State) (l l' : Left) → k.left ≡ l → Given s y a → Good s a l l' → Taken (needed s p x k) a l'
needed_complete s p nothing nothing h a k l l' e g d = absurd g
needed_complete s p nothing (one m) h a k l l' e g d = absurd h
needed_complete s p nothing twice h a k l l' e g d = absurd h
needed_complete s p (one v) nothing h a k l l' e g d = absurd h
needed_complete s p (one v) (one m) h a k l l' e g d = by (guard_true (not (v.absent s)) 7 p (v.read s k) (ap not (h.absent s ∙ g.0))) (h.read s a k l l' e g.1 d)
needed_complete s p (one v) twice h a k l l' e g d = absurd h
needed_complete s p twice nothing h a k l l' e g d = absurd h
needed_complete s p twice (one m) h a k l l' e g d = absurd h
needed_complete s p twice twice h a k l l' e g d = absurd g

optional_complete : (s : Shape) (p : Place) (x : Found Value) (y : Found Meaning) → CompleteFound x y → (a : Option (Of s)) (k : State) (l l' : Left) → k.left ≡ l → Perhaps s y a → GoodGiven s a l l' → Taken (optional s p x k) a l'
optional_complete s p nothing nothing h none k l l' e g d = done_both none none k l' refl (e ∙ d)
optional_complete s p nothing nothing h (some a) k l l' e g d = absurd g
optional_complete s p nothing (one m) h a k l l' e g d = absurd h
optional_complete s p nothing twice h a k l l' e g d = absurd h
optional_complete s p (one v) nothing h a k l l' e g d = absurd h
optional_complete s p (one v) (one m) h none k l l' e g d = by (cond_true (v.absent s) (done none k) (present (v.read s k)) (h.absent s ∙ g)) (done_both none none k l' refl (e ∙ d))
optional_complete s p (one v) (one m) h (some a) k l l' e g d = by (cond_false (v.absent s) (done none k) (present (v.read s k)) (h.absent s ∙ g.0)) (bind_to (v.read s k) a l' _ (some a) l' (h.read s a k l l' e g.1 d) λ k' e'. done_both (some a) (some a) k' l' refl e')
optional_complete s p (one v) twice h a k l l' e g d = absurd h
optional_complete s p twice nothing h a k l l' e g d = absurd h
optional_complete s p twice (one m) h a k l l' e g d = absurd h
optional_complete s p twice twice h none k l l' e g d = absurd g
optional_complete s p twice twice h (some a) k l l' e g d = absurd g

fields_complete : {A : Type 0} (rows : Rows A) (p : Place) (es : List (Entry Value)) (ds : List (Entry Meaning)) → CompleteEntries es ds → (k : State) (l l'' : Left) (a : A) → k.left ≡ l → Parts rows ds l a l'' → Taken (fields rows p es k) a l''
fields_complete (need n s r) p es ds h k l l'' a e m =
    bind_to (needed s p (find (bytes n) es) k) m.0 m.1 _ a l''
    (needed_complete s p (find (bytes n) es) (find (bytes n) ds) (h.finds (bytes n)) m.0 k l m.1 e m.2 m.3) λ k' e'.
    fields_complete (r m.0) p es ds h k' m.1 l'' a e' m.4
fields_complete (may n s r) p es ds h k l l'' a e m =
    bind_to (optional s p (find (bytes n) es) k) m.0 m.1 _ a l''
    (optional_complete s p (find (bytes n) es) (find (bytes n) ds) (h.finds (bytes n)) m.0 k l m.1 e m.2 m.3) λ k' e'.
    fields_complete (r m.0) p es ds h k' m.1 l'' a e' m.4
fields_complete (gives b) p es ds h k l l'' a e m = done_both b a k l'' m.0 (e ∙ m.1)
fields_complete (gives_if test b) p es ds h k l l'' a e m = by (guard_true test 12 p (done b k) m.0) (done_both b a k l'' m.1 (e ∙ m.2))

-- The objects.
body_complete : (f : Family) (t : ℕ) (also : List (List ℕ)) (p : Place) (es : List (Entry Value)) (ds : List (Entry Meaning)) → CompleteEntries es ds → (k : State) (l l'' : Left) (a : OfFamily f) → k.left ≡ l → (b : Bool) → is_record f ≡ b → MayOpen b l → unknown (also ++ names (rows_of f t)) ds ≡ none → Parts (rows_of f t) ds (opened_to b l) a l'' → Taken (body f t also p es k) a l''
body_complete f t also p es ds h k l l'' a e b r o u m =
    by (ap (λ (c : Bool). opening c p k inside) r) (opening_complete b o m)
  where
    inside : State → Outcome (OfFamily f)
    inside k₁ = unless (unknown (also ++ names (rows_of f t)) es) 5 (fields (rows_of f t) p es k₁)

    inside_complete : (k₁ : State) (l₁ : Left) → k₁.left ≡ l₁ → Parts (rows_of f t) ds l₁ a l'' → Taken (inside k₁) a l''
    inside_complete k₁ l₁ e₁ m₁ =
        by (unless_none (unknown (also ++ names (rows_of f t)) es) 5 (fields (rows_of f t) p es k₁) (h.knows (also ++ names (rows_of f t)) ∙ u))
        (fields_complete (rows_of f t) p es ds h k₁ l₁ l'' a e₁ m₁)

    opening_complete : (c : Bool) → MayOpen c l → Parts (rows_of f t) ds (opened_to c l) a l'' → Taken (opening c p k inside) a l''
    opening_complete true o₁ m₁ = by (guard_true (ltb 0 k.left.records) 15 p _ (ap (λ (j : Left). ltb 0 j.records) e ∙ o₁)) (inside_complete _ (record_less l) (ap record_less e) m₁)
    opening_complete false o₁ m₁ = inside_complete k l e m₁

by_type_complete : (b : Bool) (f : Family) → untyped f ≡ b → (p : Place) (es : List (Entry Value)) (ds : List (Entry Meaning)) → CompleteEntries es ds → (k : State) (l l'' : Left) (a : OfFamily f) → k.left ≡ l → TypeMeans b f ds a → Good (an_object f) a l l'' → Taken (by_type b f p es k) a l''
by_type_complete true f e p es ds h k l l'' a c m g =
    let q = (law f).parts ds l l'' 0 a (subst (λ (c : Bool). InTypes c f 0) (sym e) refl) m.1 g in
    body_complete f 0 [] p es ds h k l l'' a c (is_record f) refl q.1 m.0 q.2
by_type_complete false f e p es ds h k l l'' a c m g =
    let t = m.0 in let n = types_of f in
    let q = (law f).parts ds l l'' t a (subst (λ (c : Bool). InTypes c f t) (sym e) m.2) m.3.1 g in
    let w : Allowed false f t = subst (λ (c : Bool). Allowed c f t) e q.0 in
    bind_to (needed (a_number (integer 1 n)) p (find (bytes "t") es) k) t l _ a l''
    (needed_complete (a_number (integer 1 n)) p (find (bytes "t") es) (find (bytes "t") ds) (h.finds (bytes "t")) t k l l c m.1 (good_free (a_number (integer 1 n)) t l m.2 refl refl)) λ k' c'.
    by (guard_true (may_stand f t) 10 (place_of p (find (bytes "t") es)) _ w.0 ∙ guard_true (may_open f t) 14 (place_of p (find (bytes "t") es)) _ w.1)
    (body_complete f t (bytes "t" ∷ []) p es ds h k' l l'' a c' (is_record f) refl q.1 m.3.0 q.2)

six : {A : Type 0} (es : List (Entry Value)) (ds : List (Entry Meaning)) → CompleteEntries es ds → repeated [] ds ≡ none → (r : Outcome A) → unless (repeated [] es) 6 r ≡ r
six es ds h e r = unless_none (repeated [] es) 6 r (h.repeats [] ∙ e)

-- The head.
head_names_lem : (b : Bool) → names (posology_rows b) ≡ names (posology_rows true)
unfolding posology_rows
head_names_lem true = refl
head_names_lem false = refl

pub posology_means : (purpose : ℕ) (ds : List (Entry Meaning)) (p : Posology) → MembersMean (a_posology purpose) ds p → MembersMean (a_posology 3) ds p
unfolding rows_of
posology_means purpose ds p m = (m.0, (subst (λ (k : List (List ℕ)). unknown k ds ≡ none) (head_names_lem (eqb purpose 3)) m.1.0, head_fields_lem (eqb purpose 3) ds p m.1.1))

head_complete : (purpose : ℕ) (p : Place) (es : List (Entry Value)) (ds : List (Entry Meaning)) → CompleteEntries es ds → (k : State) (l l'' : Left) (a : Posology) → k.left ≡ l → MembersMean (a_posology 3) ds a → Good (an_object (a_posology purpose)) a l l'' → Taken (members (a_posology purpose) p es k) a l''
unfolding rows_of
head_complete purpose p es ds h k l l'' a e m g =
    by (six es ds h m.0 _
    ∙ unless_none (unknown (names (posology_rows (eqb purpose 3))) es) 5 (fields (posology_rows (eqb purpose 3)) p es k) (h.knows (names (posology_rows (eqb purpose 3))) ∙ subst (λ (k : List (List ℕ)). unknown k ds ≡ none) (sym (head_names_lem (eqb purpose 3))) m.1.0))
    (fields_complete (posology_rows (eqb purpose 3)) p es ds h k l l'' a e (posology_parts purpose ds l l'' a m.1.1 g))

members_complete : (f : Family) (p : Place) (es : List (Entry Value)) (ds : List (Entry Meaning)) → CompleteEntries es ds → (k : State) (l l'' : Left) (a : OfFamily f) → k.left ≡ l → MembersMean f ds a → Good (an_object f) a l l'' → Taken (members f p es k) a l''
members_complete f p es ds h k l l'' a e m g = by (six es ds h m.0 _) (by_type_complete (untyped f) f refl p es ds h k l l'' a e m.1 g)

-- The other values. An integer leaves what was left, whether or not it had to be rounded.
whole_taken : (p : Place) (k : State) (n m : ℕ) (exact : Bool) (l : Left) → n ≡ m → k.left ≡ l → Taken (whole p k (Ok (record { value = n; exact = exact }))) m l
whole_taken p k n m true l e f = done_both n m _ l e f
whole_taken p k n m false l e f = done_both n m _ l e f

whole_complete : (p : Place) (k : State) (l l' : Left) (lo hi : ℕ) (raw : List ℕ) (n : ℕ) → k.left ≡ l → DigitsMean (integer lo hi) raw n → Good (a_number (integer lo hi)) n l l' → Taken (whole p k (integer_in lo hi raw)) n l'
unfolding integer_in
whole_complete p k l l' lo hi raw n e m g =
    by (ap (λ (i : Integer). whole p k i)
    (choose_true (carried raw) _ _ m.0
    ∙ cond_false (negative raw) _ _ m.1
    ∙ cond_true (leb lo (rounded raw) && leb (rounded raw) hi) _ _ (subst (λ (k : ℕ). (leb lo k && leb k hi) ≡ true) (sym m.2) g.valid)))
    (whole_taken p k (rounded raw) n (all_zero (behind_point raw)) l' m.2 (e ∙ nothing_taken l l' g.takes))

millionths_complete : (p : Place) (k : State) (l l' : Left) (lo : ℕ) (raw : List ℕ) (n : ℕ) → k.left ≡ l → DigitsMean (decimal lo) raw n → Good (a_number (decimal lo)) n l l' → Taken (millionths p k (decimal_from lo raw)) n l'
unfolding decimal_from
millionths_complete p k l l' lo raw n e m g =
    by (ap (λ (i : Decimal). millionths p k i)
    (choose_true (carried raw && all_zero (drop 6 (behind_point raw))) _ _ m.0
    ∙ cond_false (negative raw) _ _ m.1
    ∙ cond_true (leb lo (millionths_of raw) && leb (millionths_of raw) greatest_decimal) _ _ (subst (λ (k : ℕ). (leb lo k && leb k greatest_decimal) ≡ true) (sym m.2) g.valid)))
    (done_both (millionths_of raw) n k l' m.2 (e ∙ nothing_taken l l' g.takes))

digits_complete : (s : NumberShape) (p : Place) (raw : List ℕ) (n : ℕ) (k : State) (l l' : Left) → k.left ≡ l → DigitsMean s raw n → Good (a_number s) n l l' → Taken (digits s p raw k) n l'
digits_complete (integer lo hi) p raw n k l l' e m g = whole_complete p k l l' lo hi raw n e m g
digits_complete (decimal lo) p raw n k l l' e m g = millionths_complete p k l l' lo raw n e m g

room_left : (cs : List ℕ) (l l' : Left) → Takes 0 (length cs) l l' → (leb (length cs) l.room ≡ true) × (room_less (length cs) l ≡ l')
room_left cs l l' t =
    let a = t.taken in let b = t.used in
    (le-leb (length cs) l.room (omega arith), nothing_taken (room_less (length cs) l) l' (record { taken = omega arith; used = omega arith }))

chars_complete : (s : StringShape) (p : Place) (cs : List ℕ) (x : OfString s) (k : State) (l l' : Left) → k.left ≡ l → CharsMean s cs x → Good (a_string s) x l l' → Taken (chars s p cs k) x l'
chars_complete text p cs x k l l' e m g =
    let r = room_left cs l l' (subst (λ (k : List ℕ). Takes 0 (length k) l l') (sym m) g.takes) in
    by (guard_true (leb (length cs) k.left.room) 16 p _ (ap (λ (j : Left). leb (length cs) j.room) e ∙ r.0)) (done_both cs x _ l' m (ap (λ (j : Left). room_less (length cs) j) e ∙ r.1))
chars_complete date p cs x k l l' e m g = by (ap (λ (o : Option (OfString date)). or_refused 13 p k o) m) (done_both x x k l' refl (e ∙ nothing_taken l l' g.takes))
chars_complete time p cs x k l l' e m g = by (ap (λ (o : Option ℕ). or_refused 13 p k o) m) (done_both x x k l' refl (e ∙ nothing_taken l l' g.takes))

-- Lists.
abbrev CompleteEach : List Value → List Meaning → Type 0
CompleteEach [] [] = Unit {0}
CompleteEach [] (m ∷ ms) = ⊥
CompleteEach (v ∷ vs) [] = ⊥
CompleteEach (v ∷ vs) (m ∷ ms) = Complete v m × CompleteEach vs ms

abbrev behind : ℕ → ℕ → Left → Left
behind c d k = record { records = c + k.records; room = d + k.room }

each_complete : (s : Shape) (vs : List Value) (ms : List Meaning) → CompleteEach vs ms → (xs : List (Of s)) (k : State) (l l' : Left) → k.left ≡ l → EachMeans s ms xs → every (valid_of s) xs ≡ true → Takes (sum (records_of s) xs) (sum (text_of s) xs) l l' → Taken (each s vs k) xs l'
each_complete s [] [] h [] k l l' e m v t = done_both [] [] k l' refl (e ∙ nothing_taken l l' t)
each_complete s [] [] h (x ∷ xs) k l l' e m v t = absurd m
each_complete s [] (m' ∷ ms) h xs k l l' e m v t = absurd h
each_complete s (w ∷ vs) [] h xs k l l' e m v t = absurd h
each_complete s (w ∷ vs) (m' ∷ ms) h [] k l l' e m v t = absurd m
each_complete s (w ∷ vs) (m' ∷ ms) h (x ∷ xs) k l l' e m v t =
    let l₁ = behind (sum (records_of s) xs) (sum (text_of s) xs) l' in
    let a = t.taken in let b = t.used in
    let g : Good s x l l₁ = record { valid = and_left (valid_of s x) (every (valid_of s) xs) v; takes = record { taken = omega arith; used = omega arith } } in
    bind_to (w.read s k) x l₁ _ (x ∷ xs) l' (h.0.read s x k l l₁ e m.0 g) λ k₁ e₁.
    bind_to (each s vs k₁) xs l' _ (x ∷ xs) l' (each_complete s vs ms h.1 xs k₁ l₁ l' e₁ m.1 (and_right (valid_of s x) (every (valid_of s) xs) v) (record { taken = omega arith; used = omega arith })) λ k₂ e₂.
    done_both (x ∷ xs) (x ∷ xs) k₂ l' refl e₂

decimals_complete : (p : Place) (vs : List Value) (ms : List Meaning) → CompleteEach vs ms → (x : Four) (k : State) (l l' : Left) → k.left ≡ l → ElementsMean four_decimals ms x → Good (a_list four_decimals) x l l' → Taken (decimals p vs k) x l'
decimals_complete p vs [] h x k l l' e m g = absurd m
decimals_complete p vs (m₁ ∷ []) h x k l l' e m g = absurd m.1
decimals_complete p vs (m₁ ∷ m₂ ∷ []) h x k l l' e m g = absurd m.1.1
decimals_complete p vs (m₁ ∷ m₂ ∷ m₃ ∷ []) h x k l l' e m g = absurd m.1.1.1
decimals_complete p [] (m₁ ∷ m₂ ∷ m₃ ∷ m₄ ∷ []) h x k l l' e m g = absurd h
decimals_complete p (a ∷ []) (m₁ ∷ m₂ ∷ m₃ ∷ m₄ ∷ []) h x k l l' e m g = absurd h.1
decimals_complete p (a ∷ b ∷ []) (m₁ ∷ m₂ ∷ m₃ ∷ m₄ ∷ []) h x k l l' e m g = absurd h.1.1
decimals_complete p (a ∷ b ∷ c ∷ []) (m₁ ∷ m₂ ∷ m₃ ∷ m₄ ∷ []) h x k l l' e m g = absurd h.1.1.1
decimals_complete p (a ∷ b ∷ c ∷ d ∷ []) (m₁ ∷ m₂ ∷ m₃ ∷ m₄ ∷ []) h x k l l' e m g =
    let v = all_four (is_amount x.morning) (is_amount x.noon) (is_amount x.evening) (is_amount x.night) g.valid in
    bind_to (a.read amount k) x.morning l _ x l' (h.0.read amount x.morning k l l e m.0 (here x.morning v.0)) λ k₁ e₁.
    bind_to (b.read amount k₁) x.noon l _ x l' (h.1.0.read amount x.noon k₁ l l e₁ m.1.0 (here x.noon v.1)) λ k₂ e₂.
    bind_to (c.read amount k₂) x.evening l _ x l' (h.1.1.0.read amount x.evening k₂ l l e₂ m.1.1.0 (here x.evening v.2)) λ k₃ e₃.
    bind_to (d.read amount k₃) x.night l _ x l' (h.1.1.1.0.read amount x.night k₃ l l e₃ m.1.1.1.0 (here x.night v.3)) λ k₄ e₄.
    done_both x x k₄ l' refl (e₄ ∙ nothing_taken l l' g.takes)
  where
    amount : Shape
    amount = a_number (decimal 0)

    here : (n : ℕ) → is_amount n ≡ true → Good (a_number (decimal 0)) n l l
    here n e = good_free (a_number (decimal 0)) n l (amount_of n e) refl refl
decimals_complete p (a ∷ b ∷ c ∷ d ∷ w ∷ vs) (m₁ ∷ m₂ ∷ m₃ ∷ m₄ ∷ []) h x k l l' e m g = absurd h.1.1.1.1
decimals_complete p vs (m₁ ∷ m₂ ∷ m₃ ∷ m₄ ∷ m₅ ∷ ms) h x k l l' e m g = absurd m.1.1.1.1

-- Elements that mean a list are as many.
means_empty : (s : Shape) (vs : List Value) (ms : List Meaning) → CompleteEach vs ms → (xs : List (Of s)) → EachMeans s ms xs → is_empty vs ≡ is_empty xs
means_empty s [] [] h [] m = refl
means_empty s [] [] h (x ∷ xs) m = absurd m
means_empty s [] (m' ∷ ms) h xs m = absurd h
means_empty s (v ∷ vs) [] h xs m = absurd h
means_empty s (v ∷ vs) (m' ∷ ms) h [] m = absurd m
means_empty s (v ∷ vs) (m' ∷ ms) h (x ∷ xs) m = refl

elements_complete : (s : ListShape) (p : Place) (vs : List Value) (ms : List Meaning) → CompleteEach vs ms → (x : OfList s) (k : State) (l l' : Left) → k.left ≡ l → ElementsMean s ms x → Good (a_list s) x l l' → Taken (elements s p vs k) x l'
elements_complete four_decimals p vs ms h x k l l' e m g = decimals_complete p vs ms h x k l l' e m g
elements_complete (days hi) p vs ms h x k l l' e m g =
    let ds = m.0 in
    let v : is_days hi (ascending ds) ≡ true = ap (is_days hi) m.3 ∙ g.valid in
    let z = numbers_take (integer 1 hi) ds in
    by (guard_true (not (is_empty vs)) 11 p _ (ap not (means_empty (a_number (integer 1 hi)) vs ms h ds m.1 ∙ days_some hi ds v)))
    (bind_to (each (a_number (integer 1 hi)) vs k) ds l' _ x l'
    (each_complete (a_number (integer 1 hi)) vs ms h ds k l l' e m.1 (days_in_range hi ds v) (takes_as (sym z.0) (sym z.1) g.takes)) λ k₁ e₁.
    by (guard_true (distinct ds) 11 p _ m.2) (done_both (ascending ds) x k₁ l' m.3 e₁))
elements_complete (some_objects f) p vs ms h x k l l' e m g =
    by (guard_true (not (is_empty vs)) 11 p _ (ap not (means_empty (an_object f) vs ms h x m) ∙ and_left (not (is_empty x)) (every (valid_of (an_object f)) x) g.valid))
    (each_complete (an_object f) vs ms h x k l l' e m (and_right (not (is_empty x)) (every (valid_of (an_object f)) x) g.valid) g.takes)
elements_complete (any_objects f) p vs ms h x k l l' e m g = each_complete (an_object f) vs ms h x k l l' e m g.valid g.takes

-- Each kind of value.
number_complete : (p : Place) (raw : List ℕ) (s : Shape) (x : Of s) (k : State) (l l' : Left) → k.left ≡ l → NumberMeans raw s x → Good s x l l' → Taken (of_number p raw s k) x l'
number_complete p raw (a_number n) x k l l' e m g = digits_complete n p raw x k l l' e m g
number_complete p raw (a_string s) x k l l' e m g = absurd m
number_complete p raw a_flag x k l l' e m g = absurd m
number_complete p raw (an_object f) x k l l' e m g = absurd m
number_complete p raw (a_list s) x k l l' e m g = absurd m

string_complete : (p : Place) (cs : List ℕ) (s : Shape) (x : Of s) (k : State) (l l' : Left) → k.left ≡ l → StringMeans cs s x → Good s x l l' → Taken (of_string p cs s k) x l'
string_complete p cs (a_number n) x k l l' e m g = absurd m
string_complete p cs (a_string s) x k l l' e m g = chars_complete s p cs x k l l' e m g
string_complete p cs a_flag x k l l' e m g = absurd m
string_complete p cs (an_object f) x k l l' e m g = absurd m
string_complete p cs (a_list s) x k l l' e m g = absurd m

bool_complete : (p : Place) (b : Bool) (s : Shape) (x : Of s) (k : State) (l l' : Left) → k.left ≡ l → BoolMeans b s x → Good s x l l' → Taken (of_bool p b s k) x l'
bool_complete p b (a_number n) x k l l' e m g = absurd m
bool_complete p b (a_string s) x k l l' e m g = absurd m
bool_complete p b a_flag x k l l' e m g = done_both b x k l' m (e ∙ nothing_taken l l' g.takes)
bool_complete p b (an_object f) x k l l' e m g = absurd m
bool_complete p b (a_list s) x k l l' e m g = absurd m

object_complete : (p : Place) (es : List (Entry Value)) (ds : List (Entry Meaning)) → CompleteEntries es ds → (s : Shape) (x : Of s) (k : State) (l l' : Left) → k.left ≡ l → ObjectMeans ds s x → Good s x l l' → Taken (of_object p es s k) x l'
object_complete p es ds h (a_number n) x k l l' e m g = absurd m
object_complete p es ds h (a_string s) x k l l' e m g = absurd m
object_complete p es ds h a_flag x k l l' e m g = absurd m
object_complete p es ds h (an_object f) x k l l' e m g = members_complete f p es ds h k l l' x e m g
object_complete p es ds h (a_list s) x k l l' e m g = absurd m

list_complete : (p : Place) (vs : List Value) (ms : List Meaning) → CompleteEach vs ms → (s : Shape) (x : Of s) (k : State) (l l' : Left) → k.left ≡ l → ListMeans ms s x → Good s x l l' → Taken (of_list p vs s k) x l'
list_complete p vs ms h (a_number n) x k l l' e m g = absurd m
list_complete p vs ms h (a_string s) x k l l' e m g = absurd m
list_complete p vs ms h a_flag x k l l' e m g = absurd m
list_complete p vs ms h (an_object f) x k l l' e m g = absurd m
list_complete p vs ms h (a_list s) x k l l' e m g = elements_complete s p vs ms h x k l l' e m g

mutual
  unfolding value_of meaning_of

  tree_complete : (t : Tree) → Complete (value_of t) (meaning_of t)
  tree_complete (object p ms) = record { absent = λ s. refl; read = object_complete p (entries_of ms) (meant_members ms) (entries_complete ms) }
  tree_complete (list p es) = record { absent = λ s. refl; read = list_complete p (values_of es) (meant_elements es) (values_complete es) }
  tree_complete (string p cs) = record { absent = λ s. refl; read = string_complete p cs }
  tree_complete (number p raw) = record { absent = λ s. refl; read = number_complete p raw }
  tree_complete (bool p b) = record { absent = λ s. refl; read = bool_complete p b }
  tree_complete (null p) = record { absent = λ s. refl; read = λ s x k l l' e m g. absurd m }

  entries_complete : (ms : Members) → CompleteEntries (entries_of ms) (meant_members ms)
  entries_complete no_member = no_entries
  entries_complete (member q n t ms) = more_entries q n (value_of t) (meaning_of t) (entries_of ms) (meant_members ms) (tree_complete t) (entries_complete ms)

  values_complete : (es : Elements) → CompleteEach (values_of es) (meant_elements es)
  values_complete no_element = tt
  values_complete (element t es) = (tree_complete t, values_complete es)

-- What a tree means, if it is good for the use, is what a visit takes.
pub visit_complete : (t : Tree) (terms : Terms) (p : Posology) (l' : Left) → Means t p → Good (an_object (a_posology terms.purpose)) p (start terms).left l' → Taken (visit terms t) p l'
unfolding value_of meaning_of visit
visit_complete (object q ms) terms p l' m g = head_complete terms.purpose q (entries_of ms) (meant_members ms) (entries_complete ms) (start terms) (start terms).left l' p refl m g
visit_complete (list q es) terms p l' m g = absurd m
visit_complete (string q cs) terms p l' m g = absurd m
visit_complete (number q raw) terms p l' m g = absurd m
visit_complete (bool q b) terms p l' m g = absurd m
visit_complete (null q) terms p l' m g = absurd m
