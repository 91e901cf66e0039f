-- What the parts of a field's code answer, each by what it was given.
use Rattle.std.specs.Prelude.{ℕ, ◌-◌, ◌≡◌, ◌≢◌, List, Bool, true, false, cond, ltb, drop, Option as Maybe, Some, None, Result, Ok, Err}
use Rattle.std.proofs.Math.Option.{Option, none, some}
use Rattle.json_move.specs.Moving.{kind_of}
use Rattle.json_move.specs.declared.Kind.{Kind}
use Rattle.json_move.specs.declared.Kind.TheVariants as K
use Rattle.document_numbers.specs.Number.{Integer, Decimal}
use Rattle.document_numbers.specs.declared.NumberError.{NumberError}
use Rattle.document_numbers.specs.declared.NumberError.TheVariants as N
use Rattle.document.specs.Posology as P
use Rattle.document.specs.Date.{then, date_of}
use Rattle.document.specs.Table.{date_cell}
use Rattle.document.specs.Visit.{is_empty}
use Rattle.document.specs.Told.{longer}
use Rattle.document.specs.declared.refusal.Refusal.{Refusal}
use Rattle.document.specs.declared.refusal.Reason.TheVariants as R
use Rattle.document.specs.declared.table.Date.{Date}
use Rattle.document.specs.declared.terms.Terms.{Terms}
use Rattle.document.specs.declared.terms.Used.{Used}
use Rattle.read_fields.specs.declared.field.Counted.{Counted}
use Rattle.read_fields.specs.declared.field.Worded.{Worded}

-- The value of a slot: null is none.
abbrev pub is_null : Kind → Bool
is_null K.Object = false
is_null K.Array = false
is_null K.Text = false
is_null K.Number = false
is_null K.True = false
is_null K.False = false
is_null K.Null = true

abbrev pub standing : List ℕ → Maybe ℕ → Maybe ℕ
standing text None = None
standing text (Some v) = cond (is_null (kind_of (drop v text))) None (Some v)

-- A value that must stand: 7.
abbrev pub missing : ℕ → Refusal
missing brace = record { 0 = R.Missing; 1 = brace }

abbrev pub Required : List ℕ → ℕ → Maybe ℕ → Result ℕ Refusal → Type 0
Required text brace slot (Ok v) = standing text slot ≡ Some v
Required text brace slot (Err r) = (standing text slot ≡ None) × (r ≡ missing brace)

-- A value of a kind: 4.
abbrev pub wrong_kind : ℕ → Refusal
wrong_kind v = record { 0 = R.WrongKind; 1 = v }

abbrev pub OfKind : List ℕ → ℕ → Kind → Result ℕ Refusal → Type 0
OfKind text at k (Ok v) = (kind_of (drop at text) ≡ k) × (v ≡ at)
OfKind text at k (Err r) = (kind_of (drop at text) ≢ k) × (r ≡ wrong_kind at)

-- A number at the place v: 8, then 9.
abbrev pub unread : ℕ → NumberError → Refusal
unread v N.NotCarried = record { 0 = R.NotCarried; 1 = v }
unread v N.Outside = record { 0 = R.OutOfRange; 1 = v }

abbrev pub whole_at : ℕ → Used → Integer → Result Counted Refusal
whole_at v u (Ok i) = Ok (record { value = i.value; used = u })
whole_at v u (Err e) = Err (unread v e)

abbrev pub millionths_at : ℕ → Decimal → Result ℕ Refusal
millionths_at v (Ok n) = Ok n
millionths_at v (Err e) = Err (unread v e)

-- A string of n bytes, not empty, at the place v: 16.
abbrev pub roomed : Terms → ℕ → ℕ → Used → Result Worded Refusal
roomed terms v n u = cond (ltb (terms.room - u.text) n) (Err (record { 0 = R.NoTextRoom; 1 = v })) (Ok (record { quote = v; len = n; used = longer n u }))

-- A date by its decoded bytes: none, or one that is absent, or one that is there.
abbrev pub dated : List ℕ → Option (Option P.Date)
dated cs = cond (is_empty cs) (some none) (then (date_of cs) λ x. some (some x))

abbrev pub not_a_date : ℕ → Refusal
not_a_date v = record { 0 = R.NotADate; 1 = v }

abbrev pub DateAt : ℕ → List ℕ → Result Date Refusal → Type 0
DateAt v cs (Ok d) = (o : Option P.Date) × (dated cs ≡ some o) × (date_cell o ≡ d)
DateAt v cs (Err r) = (dated cs ≡ none) × (r ≡ not_a_date v)

-- A time of day at the place v: 7 where its string is empty, and 13.
abbrev pub time_at : ℕ → ℕ → Bool → Option ℕ → Result ℕ Refusal
time_at brace v true o = Err (missing brace)
time_at brace v false none = Err (not_a_date v)
time_at brace v false (some s) = Ok s
