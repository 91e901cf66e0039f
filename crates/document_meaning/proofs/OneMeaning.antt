-- A tree means at most one posology.
use mathlib.Core.Path.{◌≡◌, refl, ap, sym, subst, ◌∙◌}
use mathlib.Core.List.{List, [], ◌∷◌}
use mathlib.Core.Bool.{Bool, true, false, true≢false}
use mathlib.Core.Option.{Option, none, some}
use Prim.Native.Nat.{ℕ}
use lib.Dec.{eqb}
use Rattle.json_grammar.specs.Tree.{Tree, object, list, string, number, bool, null, Members, no_member, member, Elements, no_element, element}
use Rattle.document.specs.Bytes.{bytes}
use Rattle.document.specs.Posology.{Posology}
use Rattle.document.specs.Lookup.{Entry, same, Found, nothing, one, twice, add, find}
use Rattle.document.specs.Schema.{Family, a_posology, NumberShape, integer, decimal, StringShape, text, date, time, OfString, ListShape, four_decimals, days, some_objects, any_objects, OfList, Four, Shape, a_number, a_string, a_flag, an_object, a_list, Of, OfFamily, Rows, need, may, gives, gives_if, rows_of, types_of}
use Rattle.document.specs.Visit.{ascending}
use Rattle.document.specs.Spells.{Meaning, Given, Perhaps, FieldsMean, TypeMeans, MembersMean, DigitsMean, CharsMean, EachMeans, four_of, ElementsMean, NumberMeans, StringMeans, BoolMeans, ObjectMeans, ListMeans, meaning_of, meant_members, meant_elements, Means}

abbrev One : Meaning → Type 0
One m = (s : Shape) (x y : Of s) → m.means s x → m.means s y → x ≡ y

abbrev OneEach : List Meaning → Type 0
OneEach [] = Unit {0}
OneEach (m ∷ ms) = One m × OneEach ms

abbrev OneEntries : List (Entry Meaning) → Type 0
OneEntries [] = Unit {0}
OneEntries (e ∷ es) = One e.value × OneEntries es

abbrev OneFound : Found Meaning → Type 0
OneFound nothing = Unit {0}
OneFound (one m) = One m
OneFound twice = Unit {0}

add_one_found : (b : Bool) (m : Meaning) (f : Found Meaning) → One m → OneFound f → OneFound (add b m f)
add_one_found false m f h k = k
add_one_found true m nothing h k = h
add_one_found true m (one w) h k = tt
add_one_found true m twice h k = tt

find_one : (n : List ℕ) (es : List (Entry Meaning)) → OneEntries es → OneFound (find n es)
find_one n [] h = tt
find_one n (e ∷ es) h = add_one_found (same n e.name) e.value (find n es) h.0 (find_one n es h.1)

given_one : (s : Shape) (f : Found Meaning) → OneFound f → (x y : Of s) → Given s f x → Given s f y → x ≡ y
given_one s nothing h x y a b = absurd a
given_one s (one m) h x y a b = h s x y a.1 b.1
given_one s twice h x y a b = absurd a

perhaps_one : (s : Shape) (f : Found Meaning) → OneFound f → (x y : Option (Of s)) → Perhaps s f x → Perhaps s f y → x ≡ y
perhaps_one s nothing h none none a b = refl
perhaps_one s nothing h none (some y) a b = absurd b
perhaps_one s nothing h (some x) y a b = absurd a
perhaps_one s (one m) h none none a b = refl
perhaps_one s (one m) h none (some y) a b = absurd (true≢false (sym a ∙ b.0))
perhaps_one s (one m) h (some x) none a b = absurd (true≢false (sym b ∙ a.0))
perhaps_one s (one m) h (some x) (some y) a b = ap some (h s x y a.1 b.1)
perhaps_one s twice h none y a b = absurd a
perhaps_one s twice h (some x) y a b = absurd a

fields_one : {A : Type 0} (rows : Rows A) (es : List (Entry Meaning)) → OneEntries es → (a b : A) → FieldsMean rows es a → FieldsMean rows es b → a ≡ b
fields_one (need n s k) es h a b f g =
    let e : g.0 ≡ f.0 = given_one s (find (bytes n) es) (find_one (bytes n) es h) g.0 f.0 g.1 f.1 in
    fields_one (k f.0) es h a b f.2 (subst (λ (x : Of s). FieldsMean (k x) es b) e g.2)
fields_one (may n s k) es h a b f g =
    let e : g.0 ≡ f.0 = perhaps_one s (find (bytes n) es) (find_one (bytes n) es h) g.0 f.0 g.1 f.1 in
    fields_one (k f.0) es h a b f.2 (subst (λ (x : Option (Of s)). FieldsMean (k x) es b) e g.2)
fields_one (gives c) es h a b f g = sym f ∙ g
fields_one (gives_if test c) es h a b f g = sym f ∙ g

type_one : (b : Bool) (f : Family) (es : List (Entry Meaning)) → OneEntries es → (x y : OfFamily f) → TypeMeans b f es x → TypeMeans b f es y → x ≡ y
type_one true f es h x y a b = fields_one (rows_of f 0) es h x y a.1 b.1
type_one false f es h x y a b =
    let e : b.0 ≡ a.0 = given_one (a_number (integer 1 (types_of f))) (find (bytes "t") es) (find_one (bytes "t") es h) b.0 a.0 b.1 a.1 in
    fields_one (rows_of f a.0) es h x y a.3.1 (subst (λ (t : ℕ). FieldsMean (rows_of f t) es y) e b.3.1)

members_one : (f : Family) (es : List (Entry Meaning)) → OneEntries es → (x y : OfFamily f) → MembersMean f es x → MembersMean f es y → x ≡ y
members_one f es h x y a b = type_one (eqb (types_of f) 0) f es h x y a.1 b.1

digits_one : (n : NumberShape) (raw : List ℕ) (x y : ℕ) → DigitsMean n raw x → DigitsMean n raw y → x ≡ y
digits_one (integer lo hi) raw x y a b = sym a.2 ∙ b.2
digits_one (decimal lo) raw x y a b = sym a.2 ∙ b.2

chars_one : (s : StringShape) (cs : List ℕ) (x y : OfString s) → CharsMean s cs x → CharsMean s cs y → x ≡ y
chars_one text cs x y a b = sym a ∙ b
chars_one date cs x y a b = cc (sym a ∙ b)
chars_one time cs x y a b = cc (sym a ∙ b)

each_one : (s : Shape) (ms : List Meaning) → OneEach ms → (xs ys : List (Of s)) → EachMeans s ms xs → EachMeans s ms ys → xs ≡ ys
each_one s [] h [] [] a b = refl
each_one s [] h [] (y ∷ ys) a b = absurd b
each_one s [] h (x ∷ xs) ys a b = absurd a
each_one s (m ∷ ms) h [] ys a b = absurd a
each_one s (m ∷ ms) h (x ∷ xs) [] a b = absurd b
each_one s (m ∷ ms) h (x ∷ xs) (y ∷ ys) a b = let e = h.0 s x y a.0 b.0 in let f = each_one s ms h.1 xs ys a.1 b.1 in rw (e, f)

abbrev four : ℕ → ℕ → ℕ → ℕ → Four
four a b c d = record { morning = a; noon = b; evening = c; night = d }

four_one : (x y : Four) → four_of x ≡ four_of y → x ≡ y
four_one x y e =
    let m : x.morning ≡ y.morning = cc in
    let n : x.noon ≡ y.noon = cc in
    let i : x.evening ≡ y.evening = cc in
    let j : x.night ≡ y.night = cc in
    ap (λ (a : ℕ). four a x.noon x.evening x.night) m
    ∙ ap (λ (a : ℕ). four y.morning a x.evening x.night) n
    ∙ ap (λ (a : ℕ). four y.morning y.noon a x.night) i
    ∙ ap (λ (a : ℕ). four y.morning y.noon y.evening a) j

elements_one : (s : ListShape) (ms : List Meaning) → OneEach ms → (x y : OfList s) → ElementsMean s ms x → ElementsMean s ms y → x ≡ y
elements_one four_decimals ms h x y a b = four_one x y (each_one (a_number (decimal 0)) ms h (four_of x) (four_of y) a b)
elements_one (days hi) ms h x y a b = sym a.3 ∙ ap ascending (each_one (a_number (integer 1 hi)) ms h a.0 b.0 a.1 b.1) ∙ b.3
elements_one (some_objects f) ms h x y a b = each_one (an_object f) ms h x y a b
elements_one (any_objects f) ms h x y a b = each_one (an_object f) ms h x y a b

number_one : (raw : List ℕ) (s : Shape) (x y : Of s) → NumberMeans raw s x → NumberMeans raw s y → x ≡ y
number_one raw (a_number n) x y a b = digits_one n raw x y a b
number_one raw (a_string s) x y a b = absurd a
number_one raw a_flag x y a b = absurd a
number_one raw (an_object f) x y a b = absurd a
number_one raw (a_list s) x y a b = absurd a

string_one : (cs : List ℕ) (s : Shape) (x y : Of s) → StringMeans cs s x → StringMeans cs s y → x ≡ y
string_one cs (a_number n) x y a b = absurd a
string_one cs (a_string s) x y a b = chars_one s cs x y a b
string_one cs a_flag x y a b = absurd a
string_one cs (an_object f) x y a b = absurd a
string_one cs (a_list s) x y a b = absurd a

bool_one : (c : Bool) (s : Shape) (x y : Of s) → BoolMeans c s x → BoolMeans c s y → x ≡ y
bool_one c (a_number n) x y a b = absurd a
bool_one c (a_string s) x y a b = absurd a
bool_one c a_flag x y a b = sym a ∙ b
bool_one c (an_object f) x y a b = absurd a
bool_one c (a_list s) x y a b = absurd a

object_one : (es : List (Entry Meaning)) → OneEntries es → (s : Shape) (x y : Of s) → ObjectMeans es s x → ObjectMeans es s y → x ≡ y
object_one es h (a_number n) x y a b = absurd a
object_one es h (a_string s) x y a b = absurd a
object_one es h a_flag x y a b = absurd a
object_one es h (an_object f) x y a b = members_one f es h x y a b
object_one es h (a_list s) x y a b = absurd a

list_one : (ms : List Meaning) → OneEach ms → (s : Shape) (x y : Of s) → ListMeans ms s x → ListMeans ms s y → x ≡ y
list_one ms h (a_number n) x y a b = absurd a
list_one ms h (a_string s) x y a b = absurd a
list_one ms h a_flag x y a b = absurd a
list_one ms h (an_object f) x y a b = absurd a
list_one ms h (a_list s) x y a b = elements_one s ms h x y a b

mutual
  unfolding meaning_of

  tree_one : (t : Tree) → One (meaning_of t)
  tree_one (object p ms) = object_one (meant_members ms) (entries_one ms)
  tree_one (list p es) = list_one (meant_elements es) (each_meaning_one es)
  tree_one (string p cs) = string_one cs
  tree_one (number p raw) = number_one raw
  tree_one (bool p b) = bool_one b
  tree_one (null p) = λ s x y a b. absurd a

  entries_one : (ms : Members) → OneEntries (meant_members ms)
  entries_one no_member = tt
  entries_one (member q n t ms) = (tree_one t, entries_one ms)

  each_meaning_one : (es : Elements) → OneEach (meant_elements es)
  each_meaning_one no_element = tt
  each_meaning_one (element t es) = (tree_one t, each_meaning_one es)

pub means_one : (t : Tree) (p q : Posology) → Means t p → Means t q → p ≡ q
means_one t p q a b = tree_one t (an_object (a_posology 3)) p q a b
