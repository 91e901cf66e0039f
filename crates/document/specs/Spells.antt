-- What a text spells: its tree, and the posology that the tree means. Members are looked up by their names, so their order says nothing.
-- Ranges, counts and which kind may stand under which are Valid's, and are not asked here.
use Rattle.std.specs.Prelude.{◌≡◌, List, [], ◌∷◌, ◌++◌, Bool, true, false, ◌&&◌, ℕ, ◌≤◌, eqb, leb, drop}
use Rattle.std.proofs.Math.Option.{Option, none, some}
use Rattle.json_grammar.specs.Tree.{Tree, object, list, string, number, bool, null, Members, no_member, member, Elements, no_element, element}
use Rattle.json_grammar.specs.Grammar.{Text}
use Rattle.json_laws.specs.Depth.{depth}
use Rattle.document_numbers.specs.Number.{carried, negative, rounded, all_zero, behind_point, millionths}
use Rattle.document.specs.Bytes.{bytes}
use Rattle.document.specs.Posology.{Posology}
use Rattle.document.specs.Date.{date_of, time_of}
use Rattle.document.specs.Lookup.{Entry, Found, nothing, one, twice, find, repeated, unknown}
use Rattle.document.specs.Schema.{Family, a_posology, NumberShape, integer, decimal, StringShape, text, date, time, OfString, ListShape, four_decimals, days, some_objects, any_objects, OfList, Four, Shape, a_number, a_string, a_flag, an_object, a_list, Of, OfFamily, Rows, need, may, gives, gives_if, rows_of, types_of, names}
use Rattle.document.specs.Visit.{empty_for, distinct, ascending}

-- A value that waits for its field's shape: whether it counts as absent, and what it means there.
pub record Meaning : Type 1 where
  pub absent : Shape → Bool
  pub means : (s : Shape) → Of s → Type 0

-- A required field has a value; an optional one may be absent.
abbrev pub Given : (s : Shape) → Found Meaning → Of s → Type 0
Given s nothing x = ⊥
Given s (one m) x = (m.absent s ≡ false) × m.means s x
Given s twice x = ⊥

abbrev pub Perhaps : (s : Shape) → Found Meaning → Option (Of s) → Type 0
Perhaps s nothing none = Unit {0}
Perhaps s nothing (some x) = ⊥
Perhaps s (one m) none = m.absent s ≡ true
Perhaps s (one m) (some x) = (m.absent s ≡ false) × m.means s x
Perhaps s twice none = ⊥
Perhaps s twice (some x) = ⊥

-- The fields under their names make a.
abbrev pub FieldsMean : {A : Type 0} → Rows A → List (Entry Meaning) → A → Type 0
FieldsMean (need n s k) es a = (x : Of s) × Given s (find (bytes n) es) x × FieldsMean (k x) es a
FieldsMean (may n s k) es a = (x : Option (Of s)) × Perhaps s (find (bytes n) es) x × FieldsMean (k x) es a
FieldsMean (gives b) es a = b ≡ a
FieldsMean (gives_if test b) es a = b ≡ a

-- No name stands that is not known for the type.
abbrev pub BodyMeans : (f : Family) → ℕ → List (List ℕ) → List (Entry Meaning) → OfFamily f → Type 0
BodyMeans f t also es x = (unknown (also ++ names (rows_of f t)) es ≡ none) × FieldsMean (rows_of f t) es x

abbrev pub TypeMeans : Bool → (f : Family) → List (Entry Meaning) → OfFamily f → Type 0
TypeMeans true f es x = BodyMeans f 0 [] es x
TypeMeans false f es x =
    (t : ℕ) × Given (a_number (integer 1 (types_of f))) (find (bytes "t") es) t
    × ((leb 1 t && leb t (types_of f)) ≡ true)
    × BodyMeans f t (bytes "t" ∷ []) es x

-- No name stands twice.
abbrev pub MembersMean : (f : Family) → List (Entry Meaning) → OfFamily f → Type 0
MembersMean f es x = (repeated [] es ≡ none) × TypeMeans (eqb (types_of f) 0) f es x

-- A number by the digits it is written with: an integer rounded, a decimal in whole millionths.
abbrev pub DigitsMean : NumberShape → List ℕ → ℕ → Type 0
DigitsMean (integer lo hi) raw n = (carried raw ≡ true) × (negative raw ≡ false) × (rounded raw ≡ n)
DigitsMean (decimal lo) raw n = ((carried raw && all_zero (drop 6 (behind_point raw))) ≡ true) × (negative raw ≡ false) × (millionths raw ≡ n)

abbrev pub CharsMean : (s : StringShape) → List ℕ → OfString s → Type 0
CharsMean text cs x = cs ≡ x
CharsMean date cs x = date_of cs ≡ some x
CharsMean time cs x = time_of cs ≡ some x

abbrev pub EachMeans : (s : Shape) → List Meaning → List (Of s) → Type 0
EachMeans s [] [] = Unit {0}
EachMeans s [] (x ∷ xs) = ⊥
EachMeans s (m ∷ ms) [] = ⊥
EachMeans s (m ∷ ms) (x ∷ xs) = m.means s x × EachMeans s ms xs

abbrev pub four_of : Four → List ℕ
four_of f = f.morning ∷ f.noon ∷ f.evening ∷ f.night ∷ []

-- A list of days means the set of them, if it holds none twice.
abbrev pub ElementsMean : (s : ListShape) → List Meaning → OfList s → Type 0
ElementsMean four_decimals ms x = EachMeans (a_number (decimal 0)) ms (four_of x)
ElementsMean (days hi) ms x = (ds : List ℕ) × EachMeans (a_number (integer 1 hi)) ms ds × (distinct ds ≡ true) × (ascending ds ≡ x)
ElementsMean (some_objects f) ms x = EachMeans (an_object f) ms x
ElementsMean (any_objects f) ms x = EachMeans (an_object f) ms x

-- Each JSON kind means something where its own shape is asked for, and nothing elsewhere.
abbrev pub NumberMeans : List ℕ → (s : Shape) → Of s → Type 0
NumberMeans raw (a_number n) x = DigitsMean n raw x
NumberMeans raw (a_string s) x = ⊥
NumberMeans raw a_flag x = ⊥
NumberMeans raw (an_object f) x = ⊥
NumberMeans raw (a_list s) x = ⊥

abbrev pub StringMeans : List ℕ → (s : Shape) → Of s → Type 0
StringMeans cs (a_number n) x = ⊥
StringMeans cs (a_string s) x = CharsMean s cs x
StringMeans cs a_flag x = ⊥
StringMeans cs (an_object f) x = ⊥
StringMeans cs (a_list s) x = ⊥

abbrev pub BoolMeans : Bool → (s : Shape) → Of s → Type 0
BoolMeans b (a_number n) x = ⊥
BoolMeans b (a_string s) x = ⊥
BoolMeans b a_flag x = b ≡ x
BoolMeans b (an_object f) x = ⊥
BoolMeans b (a_list s) x = ⊥

abbrev pub ObjectMeans : List (Entry Meaning) → (s : Shape) → Of s → Type 0
ObjectMeans es (a_number n) x = ⊥
ObjectMeans es (a_string s) x = ⊥
ObjectMeans es a_flag x = ⊥
ObjectMeans es (an_object f) x = MembersMean f es x
ObjectMeans es (a_list s) x = ⊥

abbrev pub ListMeans : List Meaning → (s : Shape) → Of s → Type 0
ListMeans ms (a_number n) x = ⊥
ListMeans ms (a_string s) x = ⊥
ListMeans ms a_flag x = ⊥
ListMeans ms (an_object f) x = ⊥
ListMeans ms (a_list s) x = ElementsMean s ms x

unfoldable mutual
  pub meaning_of : Tree → Meaning
  meaning_of (object p ms) = record { absent = λ s. false; means = ObjectMeans (meant_members ms) }
  meaning_of (list p es) = record { absent = λ s. false; means = ListMeans (meant_elements es) }
  meaning_of (string p cs) = record { absent = empty_for cs; means = StringMeans cs }
  meaning_of (number p raw) = record { absent = λ s. false; means = NumberMeans raw }
  meaning_of (bool p b) = record { absent = λ s. false; means = BoolMeans b }
  meaning_of (null p) = record { absent = λ s. true; means = λ s x. ⊥ }

  pub meant_members : Members → List (Entry Meaning)
  meant_members no_member = []
  meant_members (member q n t ms) = record { quote = q; name = n; value = meaning_of t } ∷ meant_members ms

  pub meant_elements : Elements → List Meaning
  meant_elements no_element = []
  meant_elements (element t es) = meaning_of t ∷ meant_elements es

-- Whether a unit must be given hangs on the use, and is Valid's too: for use 3 it may be absent.
abbrev pub Means : Tree → Posology → Type 0
Means t p = (meaning_of t).means (an_object (a_posology 3)) p

-- "the 21st `{` or `[` open at once" is no part of such a text.
abbrev pub open_at_most : ℕ
open_at_most = 20

abbrev pub Spells : List ℕ → Posology → Type 0
Spells s p = (t : Tree) × Text t s × (depth t ≤ open_at_most) × Means t p
