-- Document 01, "Answers by number", the order line: objects in visiting order, and in each the order of its refusals.
use Rattle.std.specs.Prelude.{List, [], ◌∷◌, ◌++◌, Bool, true, false, cond, not, ◌&&◌, ℕ, ◌-◌, eqb, leb, ltb, length, Ok, Err}
use Rattle.std.proofs.Math.Option.{Option, none, some}
use Rattle.json_grammar.specs.Rows.{choose}
use Rattle.json_grammar.specs.Tree.{Place, Tree, object, list, string, number, bool, null, Members, no_member, member, Elements, no_element, element}
use Rattle.document_numbers.specs.Number.{Integer, Decimal, integer_in, decimal_from}
use Rattle.document_numbers.specs.declared.NumberError.TheVariants as N
use Rattle.document.specs.declared.terms.Terms.{Terms}
use Rattle.document.specs.Bytes.{bytes}
use Rattle.document.specs.Posology.{Posology}
use Rattle.document.specs.Date.{among, date_of, time_of}
use Rattle.document.specs.Lookup.{Entry, Found, nothing, one, twice, find, repeated, unknown}
use Rattle.document.specs.Schema.{Family, NumberShape, integer, decimal, StringShape, text, date, time, OfString, ListShape, four_decimals, days, some_objects, any_objects, OfList, Four, Shape, a_number, a_string, a_flag, an_object, a_list, Of, OfFamily, Rows, need, may, gives, gives_if, rows_of, types_of, is_record, may_stand, may_open, names}

-- What the objects visited leave to those behind them: records and text bytes that may still come.
pub record Left : Type 0 where
  pub records : ℕ
  pub room : ℕ

abbrev pub record_less : Left → Left
record_less l = record { records = l.records - 1; room = l.room }

abbrev pub room_less : ℕ → Left → Left
room_less n l = record { records = l.records; room = l.room - n }

-- What is handed on from one field to the next. A reading looks at what is left, and at nothing else of it.
pub record State : Type 0 where
  pub left : Left

abbrev pub records_at_most : ℕ
records_at_most = 64

abbrev pub start : Terms → State
start terms = record { left = record { records = records_at_most; room = terms.room } }

-- A record is taken; a string of so many bytes is laid.
abbrev pub opened : State → State
opened s = record { left = record_less s.left }

abbrev pub laid : ℕ → State → State
laid n s = record { left = room_less n s.left }

pub data Outcome (A : Type 0) : Type 0 where
  done : A → State → Outcome A
  refuse : ℕ → Place → Outcome A

abbrev pub bind : {A B : Type 0} → Outcome A → (A → State → Outcome B) → Outcome B
bind (done a l) f = f a l
bind (refuse n p) f = refuse n p

abbrev pub guard : {A : Type 0} → Bool → ℕ → Place → Outcome A → Outcome A
guard true n p r = r
guard false n p r = refuse n p

abbrev pub unless : {A : Type 0} → Option Place → ℕ → Outcome A → Outcome A
unless none n r = r
unless (some p) n r = refuse n p

-- A value that waits for the shape of its field: its place, whether it counts as absent, and what is read of it.
pub record Value : Type 0 where
  pub place : Place
  pub absent : Shape → Bool
  pub read : (s : Shape) → State → Outcome (Of s)

-- "A required member that is null, or a required string that is empty, is missing."
abbrev pub needed : (s : Shape) → Place → Found Value → State → Outcome (Of s)
needed s p nothing l = refuse 7 p
needed s p (one v) l = guard (not (v.absent s)) 7 p (v.read s l)
needed s p twice l = refuse 6 p

-- "an optional member that is null, or an optional string that is empty, is absent"
abbrev pub present : {A : Type 0} → Outcome A → Outcome (Option A)
present r = bind r λ a l. done (some a) l

abbrev pub optional : (s : Shape) → Place → Found Value → State → Outcome (Option (Of s))
optional s p nothing l = done none l
optional s p (one v) l = cond (v.absent s) (done none l) (present (v.read s l))
optional s p twice l = refuse 6 p

-- The fields of an object, whose brace is at p.
abbrev pub fields : {A : Type 0} → Rows A → Place → List (Entry Value) → State → Outcome A
fields (need n s k) p es l = bind (needed s p (find (bytes n) es) l) λ x l'. fields (k x) p es l'
fields (may n s k) p es l = bind (optional s p (find (bytes n) es) l) λ x l'. fields (k x) p es l'
fields (gives a) p es l = done a l
fields (gives_if test a) p es l = guard test 12 p (done a l)

-- 15: an object that is a record takes one of those left.
abbrev pub opening : {A : Type 0} → Bool → Place → State → (State → Outcome A) → Outcome A
opening true p l f = guard (ltb 0 l.left.records) 15 p (f (opened l))
opening false p l f = f l

-- An object of a known type: 15, then 5, then its fields.
abbrev pub body : (f : Family) → ℕ → List (List ℕ) → Place → List (Entry Value) → State → Outcome (OfFamily f)
body f t also p es l = opening (is_record f) p l λ l'. unless (unknown (also ++ names (rows_of f t)) es) 5 (fields (rows_of f t) p es l')

abbrev pub place_of : Place → Found Value → Place
place_of p nothing = p
place_of p (one v) = v.place
place_of p twice = p

-- "t (7, 4, 8, 9, 10, 14; applications and the head have none)"
abbrev pub typed : ℕ → (f : Family) → Place → List (Entry Value) → State → Outcome (OfFamily f)
typed types f p es l =
    let found = find (bytes "t") es in
    bind (needed (a_number (integer 1 types)) p found l) λ t l'.
    guard (may_stand f t) 10 (place_of p found)
    (guard (may_open f t) 14 (place_of p found)
    (body f t (bytes "t" ∷ []) p es l'))

abbrev pub by_type : Bool → (f : Family) → Place → List (Entry Value) → State → Outcome (OfFamily f)
by_type true f p es l = body f 0 [] p es l
by_type false f p es l = typed (types_of f) f p es l

abbrev pub members : (f : Family) → Place → List (Entry Value) → State → Outcome (OfFamily f)
members f p es l = unless (repeated [] es) 6 (by_type (eqb (types_of f) 0) f p es l)

-- A number: 8, then 9.
abbrev pub whole : Place → State → Integer → Outcome ℕ
whole p l (Ok i) = done i.value l
whole p l (Err N.NotCarried) = refuse 8 p
whole p l (Err N.Outside) = refuse 9 p

abbrev pub millionths : Place → State → Decimal → Outcome ℕ
millionths p l (Ok n) = done n l
millionths p l (Err N.NotCarried) = refuse 8 p
millionths p l (Err N.Outside) = refuse 9 p

abbrev pub digits : NumberShape → Place → List ℕ → State → Outcome ℕ
digits (integer lo hi) p raw l = whole p l (integer_in lo hi raw)
digits (decimal lo) p raw l = millionths p l (decimal_from lo raw)

-- A string: 13 for a date or time, 16 for a text.
abbrev pub or_refused : {A : Type 0} → ℕ → Place → State → Option A → Outcome A
or_refused n p l none = refuse n p
or_refused n p l (some a) = done a l

abbrev pub chars : (s : StringShape) → Place → List ℕ → State → Outcome (OfString s)
chars text p cs l = guard (leb (length cs) l.left.room) 16 p (done cs (laid (length cs) l))
chars date p cs l = or_refused 13 p l (date_of cs)
chars time p cs l = or_refused 13 p l (time_of cs)

-- A list: the count, then the elements, then repeats.
abbrev pub each : (s : Shape) → List Value → State → Outcome (List (Of s))
each s [] l = done [] l
each s (v ∷ vs) l = bind (v.read s l) λ a l'. bind (each s vs l') λ as' l''. done (a ∷ as') l''

abbrev pub is_empty : {A : Type 0} → List A → Bool
is_empty [] = true
is_empty (a ∷ as') = false

abbrev pub distinct : List ℕ → Bool
distinct [] = true
distinct (d ∷ ds) = not (among d ds) && distinct ds

-- A set of days ascends.
abbrev pub inserted : ℕ → List ℕ → List ℕ
inserted d [] = d ∷ []
inserted d (e ∷ es) = let more = e ∷ inserted d es in choose (leb d e) (λ _. d ∷ e ∷ es) (λ _. more)

abbrev pub ascending : List ℕ → List ℕ
ascending [] = []
ascending (d ∷ ds) = inserted d (ascending ds)

abbrev pub decimals : Place → List Value → State → Outcome Four
decimals p [] l = refuse 11 p
decimals p (a ∷ []) l = refuse 11 p
decimals p (a ∷ b ∷ []) l = refuse 11 p
decimals p (a ∷ b ∷ c ∷ []) l = refuse 11 p
decimals p (a ∷ b ∷ c ∷ d ∷ []) l =
    bind (a.read (a_number (decimal 0)) l) λ m l₁.
    bind (b.read (a_number (decimal 0)) l₁) λ n l₂.
    bind (c.read (a_number (decimal 0)) l₂) λ e l₃.
    bind (d.read (a_number (decimal 0)) l₃) λ i l₄.
    done (record { morning = m; noon = n; evening = e; night = i }) l₄
decimals p (a ∷ b ∷ c ∷ d ∷ e ∷ vs) l = refuse 11 p

abbrev pub elements : (s : ListShape) → Place → List Value → State → Outcome (OfList s)
elements four_decimals p vs l = decimals p vs l
elements (days hi) p vs l =
    guard (not (is_empty vs)) 11 p
    (bind (each (a_number (integer 1 hi)) vs l) λ ds l'. guard (distinct ds) 11 p (done (ascending ds) l'))
elements (some_objects f) p vs l = guard (not (is_empty vs)) 11 p (each (an_object f) vs l)
elements (any_objects f) p vs l = each (an_object f) vs l

-- Each JSON kind against each shape: 4 where they differ.
abbrev pub of_number : Place → List ℕ → (s : Shape) → State → Outcome (Of s)
of_number p raw (a_number n) l = digits n p raw l
of_number p raw (a_string s) l = refuse 4 p
of_number p raw a_flag l = refuse 4 p
of_number p raw (an_object f) l = refuse 4 p
of_number p raw (a_list s) l = refuse 4 p

abbrev pub of_string : Place → List ℕ → (s : Shape) → State → Outcome (Of s)
of_string p cs (a_number n) l = refuse 4 p
of_string p cs (a_string s) l = chars s p cs l
of_string p cs a_flag l = refuse 4 p
of_string p cs (an_object f) l = refuse 4 p
of_string p cs (a_list s) l = refuse 4 p

abbrev pub of_bool : Place → Bool → (s : Shape) → State → Outcome (Of s)
of_bool p b (a_number n) l = refuse 4 p
of_bool p b (a_string s) l = refuse 4 p
of_bool p b a_flag l = done b l
of_bool p b (an_object f) l = refuse 4 p
of_bool p b (a_list s) l = refuse 4 p

abbrev pub of_object : Place → List (Entry Value) → (s : Shape) → State → Outcome (Of s)
of_object p es (a_number n) l = refuse 4 p
of_object p es (a_string s) l = refuse 4 p
of_object p es a_flag l = refuse 4 p
of_object p es (an_object f) l = members f p es l
of_object p es (a_list s) l = refuse 4 p

abbrev pub of_list : Place → List Value → (s : Shape) → State → Outcome (Of s)
of_list p vs (a_number n) l = refuse 4 p
of_list p vs (a_string s) l = refuse 4 p
of_list p vs a_flag l = refuse 4 p
of_list p vs (an_object f) l = refuse 4 p
of_list p vs (a_list s) l = elements s p vs l

-- An empty string counts as absent where a string is asked for.
abbrev pub empty_for : List ℕ → Shape → Bool
empty_for cs (a_number n) = false
empty_for cs (a_string s) = is_empty cs
empty_for cs a_flag = false
empty_for cs (an_object f) = false
empty_for cs (a_list s) = false

unfoldable mutual
  unfolding rows_of integer_in decimal_from date_of time_of

  pub value_of : Tree → Value
  value_of (object p ms) = record { place = p; absent = λ s. false; read = of_object p (entries_of ms) }
  value_of (list p es) = record { place = p; absent = λ s. false; read = of_list p (values_of es) }
  value_of (string p cs) = record { place = p; absent = empty_for cs; read = of_string p cs }
  value_of (number p raw) = record { place = p; absent = λ s. false; read = of_number p raw }
  value_of (bool p b) = record { place = p; absent = λ s. false; read = of_bool p b }
  value_of (null p) = record { place = p; absent = λ s. true; read = λ s l. refuse 4 p }

  pub entries_of : Members → List (Entry Value)
  entries_of no_member = []
  entries_of (member q n t ms) = record { quote = q; name = n; value = value_of t } ∷ entries_of ms

  pub values_of : Elements → List Value
  values_of no_element = []
  values_of (element t es) = value_of t ∷ values_of es

-- A tree read as one posology.
unfoldable pub visit : Terms → Tree → Outcome Posology
unfolding value_of
visit terms t = (value_of t).read (an_object (Family.a_posology terms.purpose)) (start terms)
