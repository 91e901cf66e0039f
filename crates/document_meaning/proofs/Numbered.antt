-- The numbering is one to one: a refusal is known by its number and place, and an answer by its values.
use Rattle.std.specs.Prelude.{ℕ, List, [], ◌∷◌, get_or, Result, Ok, Err}
use mathlib.Core.Path.{◌≡◌, refl, sym, ap, ◌∙◌}
use Rattle.json_grammar.proofs.Truth.{never}
use Rattle.document.specs.Refusals.{number_of}
use Rattle.document.specs.Values.{answer_values, next_values, length_values, refusal_values}
use Rattle.document.specs.declared.refusal.Reason.{Reason}
use Rattle.document.specs.declared.refusal.Reason.TheVariants as R
use Rattle.document.specs.declared.refusal.Refusal.{Refusal}
use Rattle.document.specs.declared.table.Reading.{Reading}
use Rattle.document.specs.declared.table.Next.{Next}
use Rattle.document.specs.declared.table.Next.TheVariants as N
use Rattle.document.specs.declared.table.NextReading.{NextReading}
use Rattle.document.specs.declared.table.Table.{Table}

-- In the order of their numbers.
abbrev reasons : List Reason
reasons =
    R.Unasked ∷ R.TooLong ∷ R.NotOneObject ∷ R.TooDeep ∷ R.WrongKind ∷ R.UnknownName ∷ R.NameTwice ∷ R.Missing ∷ R.NotCarried ∷ R.OutOfRange ∷ R.TypeNotAllowed ∷ R.WrongCount ∷ R.WrongOrder
    ∷ R.NotADate ∷ R.SequenceTooDeep ∷ R.TooManyRecords ∷ R.NoTextRoom ∷ R.WrongUse ∷ R.NotReadable ∷ R.BufferTooShort ∷ R.NoShelf ∷ R.NoNumber ∷ R.NumberTaken ∷ R.NumberMissing ∷ R.NoShelfRoom ∷ []

abbrev reason_of : ℕ → Reason
reason_of n = get_or reasons n R.Unasked

there_and_back : (a : Reason) → reason_of (number_of a) ≡ a
there_and_back R.Unasked = refl
there_and_back R.TooLong = refl
there_and_back R.NotOneObject = refl
there_and_back R.TooDeep = refl
there_and_back R.WrongKind = refl
there_and_back R.UnknownName = refl
there_and_back R.NameTwice = refl
there_and_back R.Missing = refl
there_and_back R.NotCarried = refl
there_and_back R.OutOfRange = refl
there_and_back R.TypeNotAllowed = refl
there_and_back R.WrongCount = refl
there_and_back R.WrongOrder = refl
there_and_back R.NotADate = refl
there_and_back R.SequenceTooDeep = refl
there_and_back R.TooManyRecords = refl
there_and_back R.NoTextRoom = refl
there_and_back R.WrongUse = refl
there_and_back R.NotReadable = refl
there_and_back R.BufferTooShort = refl
there_and_back R.NoShelf = refl
there_and_back R.NoNumber = refl
there_and_back R.NumberTaken = refl
there_and_back R.NumberMissing = refl
there_and_back R.NoShelfRoom = refl

pub reason_one : (a b : Reason) → number_of a ≡ number_of b → a ≡ b
reason_one a b e = sym (there_and_back a) ∙ ap reason_of e ∙ there_and_back b

refusal_same : (a b : Reason) (p q : ℕ) → a ≡ b → p ≡ q → (let r : Refusal = record { 0 = a; 1 = p } in r) ≡ (let r : Refusal = record { 0 = b; 1 = q } in r)
refusal_same a b p q e f = cc

pub refusal_one : (a b : Refusal) → refusal_values a ≡ refusal_values b → a ≡ b
refusal_one a b e =
    let n : number_of a.0 ≡ number_of b.0 = cc e in
    let p : a.1 ≡ b.1 = cc e in
    refusal_same a.0 b.0 a.1 b.1 (reason_one a.0 b.0 n) p

pub answer_one : (a b : Result (Unit {0}) Refusal) → answer_values a ≡ answer_values b → a ≡ b
answer_one (Ok x) (Ok y) e = refl
answer_one (Ok x) (Err r) e = never (cc e)
answer_one (Err r) (Ok x) e = never (cc e)
answer_one (Err r) (Err s) e = ap (λ (t : Refusal). Err t) (refusal_one r s e)

pub next_one : (a b : Result Next Refusal) → next_values a ≡ next_values b → a ≡ b
next_one (Ok (N.Taken m)) (Ok (N.Taken n)) e = cc e
next_one (Ok (N.Taken m)) (Ok (N.Blank n)) e = never (cc e)
next_one (Ok (N.Taken m)) (Err r) e = never (cc e)
next_one (Ok (N.Blank m)) (Ok (N.Taken n)) e = never (cc e)
next_one (Ok (N.Blank m)) (Ok (N.Blank n)) e = cc e
next_one (Ok (N.Blank m)) (Err r) e = never (cc e)
next_one (Err r) (Ok (N.Taken n)) e = never (cc e)
next_one (Err r) (Ok (N.Blank n)) e = never (cc e)
next_one (Err r) (Err s) e = ap (λ (t : Refusal). Err t) (refusal_one r s e)

pub length_one : (a b : Result ℕ Refusal) → length_values a ≡ length_values b → a ≡ b
length_one (Ok m) (Ok n) e = cc e
length_one (Ok m) (Err r) e = never (cc e)
length_one (Err r) (Ok n) e = never (cc e)
length_one (Err r) (Err s) e = ap (λ (t : Refusal). Err t) (refusal_one r s e)

-- A reading is known by its answer's values and its table.
pub reading_one : (r s : Reading) → answer_values r.answer ≡ answer_values s.answer → r.table ≡ s.table → r ≡ s
reading_one r s e f =
    ap (λ (a : Result (Unit {0}) Refusal). record { answer = a; table = r.table }) (answer_one r.answer s.answer e) ∙ ap (λ (t : Table). record { answer = s.answer; table = t }) f

pub next_reading_one : (r s : NextReading) → next_values r.answer ≡ next_values s.answer → r.table ≡ s.table → r ≡ s
next_reading_one r s e f =
    ap (λ (a : Result Next Refusal). record { answer = a; table = r.table }) (next_one r.answer s.answer e) ∙ ap (λ (t : Table). record { answer = s.answer; table = t }) f
