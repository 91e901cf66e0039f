-- A date or a time in a field: its decoded bytes are laid into 25 bytes, or are no date.
use Prim.Native.Nat.{ℕ, ◌+◌, ◌<◌, ◌≤◌}
use mathlib.Core.Path.{◌≡◌, refl, sym, ap, ◌∙◌}
use mathlib.Core.List.{List}
use mathlib.Core.Bool.{Bool, true, false, cond, not}
use mathlib.Core.Option.{Option, none, some}
use lib.ListN.{length, take, drop}
use lib.Seq.{sets, sets-eq, take_at, length-sets}
use lib.Dec.{leb}
use borrow.Author.Tests.{leb-true, leb-false}
use native.Mathlib.Omega.{arith}
use Rattle.std.specs.Prelude.{Option as Maybe, Some, None, Result, Ok, Err, ok_or}
use Rattle.json_grammar.specs.Tree.{Place}
use Rattle.json_move.specs.Read.{decoded}
use Rattle.json_move.specs.declared.Kind.TheVariants as K
use Rattle.json_lay.specs.Strings.{laid, buffered}
use Rattle.document.specs.Posology as P
use Rattle.document.specs.Date.{then, date_of, time_of}
use Rattle.document.specs.Schema as S
use Rattle.document.specs.Visit.{State, done, refuse, guard, present, or_refused, is_empty}
use Rattle.document.specs.declared.refusal.Refusal.{Refusal}
use Rattle.document.specs.declared.table.Date.{Date}
use Rattle.document.specs.declared.table.Date.TheVariants as D
use Rattle.read_fields.specs.Fields.{Reads, ReadsTime, ReadsDate}
use Rattle.read_fields.specs.Dates.{IsDate, IsTime}
use Rattle.read_fields.specs.Reading.{standing, Required, OfKind, not_a_date, missing, dated, DateAt, time_at}
use Rattle.document.proofs.Strings.{empty_of_length, some_of_length}
use Rattle.read_fields.proofs.Values.{nothing_stands, needed_missing, said, string_refused, optional_refused}
use Rattle.read_fields.proofs.DateLengths.{long_date, long_time}

-- Bytes that were laid, or had no room.
pub record Lies (ds after : List ℕ) (n : ℕ) : Type 0 where
  pub bytes : take n after ≡ ds
  pub size : length ds ≡ n
  pub fits : n ≤ length after

module _ (b ds : List ℕ) (h : length b ≡ 25) where
  too_long : None ≡ laid b 0 ds → 25 < length ds
  too_long e = go (leb (0 + length ds) (length b)) refl e
    where
      go : (t : Bool) → leb (0 + length ds) (length b) ≡ t → None ≡ cond t (Some (0 + length ds)) None → 25 < length ds
      go true k e = cc
      go false k e = omega (arith, leb-false (0 + length ds) (length b) k)

  pub lies : (n : ℕ) → Some n ≡ laid b 0 ds → (after : List ℕ) → after ≡ buffered b 0 ds → Lies ds after n
  lies n e after a = rw a (go (leb (0 + length ds) (length b)) refl e)
    where
      go : (t : Bool) → leb (0 + length ds) (length b) ≡ t → Some n ≡ cond t (Some (0 + length ds)) None → Lies ds (cond t (sets b 0 ds) b) n
      go true k e =
          let j : 0 + length ds ≡ n = cc in
          let room : 0 + length ds ≤ length b = leb-true (0 + length ds) (length b) k in
          record { bytes = ap (take n) (sets-eq ds b 0 (omega arith)) ∙ take_at ds (drop (0 + length ds) b) n (omega arith); size = omega arith; fits = omega (arith, length-sets b 0 ds) }
      go false k e = cc

  pub date_too_long : None ≡ laid b 0 ds → dated ds ≡ none
  date_too_long e = rw (some_of_length ds (λ z. omega (arith, too_long e)), long_date ds (too_long e))

  pub time_too_long : (brace v : ℕ) → None ≡ laid b 0 ds → Err (not_a_date v) ≡ time_at brace v (is_empty ds) (time_of ds)
  time_too_long brace v e = rw (some_of_length ds (λ z. omega (arith, too_long e)), long_time ds (too_long e))

-- A date by its bytes.
module _ {ds after : List ℕ} {n : ℕ} (q : Lies ds after n) where
  pub lies_size : n ≡ length (take n after)
  lies_size = sym q.size ∙ sym (ap length q.bytes)

  pub date_empty : n ≡ 0 → dated ds ≡ some none
  date_empty e = rw (empty_of_length ds (q.size ∙ e))

  pub time_empty : (brace v : ℕ) → n ≡ 0 → Err (missing brace) ≡ time_at brace v (is_empty ds) (time_of ds)
  time_empty brace v e = rw (empty_of_length ds (q.size ∙ e))

  module _ (m : n ≡ 0 → ⊥) where
    filled : is_empty ds ≡ false
    filled = some_of_length ds (λ z. m (sym q.size ∙ z))

    pub date_told : (v : ℕ) (o : Maybe Date) → IsDate (take n after) o → DateAt v ds (ok_or o (not_a_date v))
    date_told v (Some d) h = let k : IsDate ds (Some d) = rw q.bytes at h in (some k.0, rw (filled, k.1), k.2)
    date_told v None h = let k : IsDate ds None = rw q.bytes at h in (rw (filled, k), refl)

    pub time_told : (brace v : ℕ) (o : Maybe ℕ) → IsTime (take n after) o → ok_or o (not_a_date v) ≡ time_at brace v (is_empty ds) (time_of ds)
    time_told brace v (Some s) h = let k : IsTime ds (Some s) = rw q.bytes at h in rw (filled, k)
    time_told brace v None h = let k : IsTime ds None = rw q.bytes at h in rw (filled, k)

-- In a field.
pub date_absent : {text : List ℕ} {slot : Maybe ℕ} → standing text slot ≡ None → ReadsDate text slot (Ok D.Absent)
date_absent e f s p l = record { value = none; outcome = (nothing_stands s e).absent (S.a_string S.date) p l; cell = refl }

pub time_missing : {text : List ℕ} {brace : ℕ} {slot : Maybe ℕ} {r : Refusal} → Required text brace slot (Err r) → brace ≤ length text → ReadsTime text brace slot (Err r)
time_missing e h f s l = needed_missing e h s (S.a_string S.time) l

module _ {text : List ℕ} {slot : Maybe ℕ} {at : ℕ} {r : Refusal} (e : standing text slot ≡ Some at) (k : OfKind text at K.Text (Err r)) where
  pub date_refused : ReadsDate text slot (Err r)
  date_refused f s p l = optional_refused e s S.date k p l

  pub time_refused : (brace : ℕ) → ReadsTime text brace slot (Err r)
  time_refused brace f s l = string_refused e s S.time k (drop brace text) l

given_date : (s : Place) (l : State) (o : Option P.Date) (b : Bool) (x : Option P.Date) → cond b (some none) (then x λ y. some (some y)) ≡ some o → cond b (done none l) (present (or_refused 13 s l x)) ≡ done o l
given_date s l o true x e = cc
given_date s l o false none e = cc
given_date s l o false (some y) e = cc

refused_date : (s : Place) (l : State) (b : Bool) (x : Option P.Date) → cond b (some none) (then x λ y. some (some y)) ≡ none → cond b (done none l) (present (or_refused 13 s l x)) ≡ refuse 13 s
refused_date s l true x e = cc
refused_date s l false none e = refl
refused_date s l false (some y) e = cc

module _ {text : List ℕ} {slot : Maybe ℕ} {at v : ℕ} (e : standing text slot ≡ Some at) (k : OfKind text at K.Text (Ok v)) where
  pub date_given : (r : Result Date Refusal) → DateAt v (decoded (drop v text)) r → ReadsDate text slot r
  date_given (Ok d) (o, h, c) = λ f s p l.
      record { value = o; outcome = (said e s S.date k).given p l ∙ given_date (drop v text) l o (is_empty (decoded (drop v text))) (date_of (decoded (drop v text))) h; cell = c }
  date_given (Err r) (h, c) = λ f s p l.
      let d = said e s S.date k in
      rw c
      (record {
        outcome = d.given p l ∙ refused_date (drop v text) l (is_empty (decoded (drop v text))) (date_of (decoded (drop v text))) h;
        inside = omega (arith, d.inside);
      })

  pub time_needed : (brace : ℕ) → brace ≤ length text → (r : Result ℕ Refusal) → r ≡ time_at brace v (is_empty (decoded (drop v text))) (time_of (decoded (drop v text))) → ReadsTime text brace slot r
  time_needed brace h r c f s l =
      let d = said e s S.time k in
      rw (c, d.reads (drop brace text) l) (go (is_empty (decoded (drop v text))) (time_of (decoded (drop v text))) d.inside)
    where
      go : (b : Bool) (x : Option ℕ) → v < length text → Reads text (guard (not b) 7 (drop brace text) (or_refused 13 (drop v text) l x)) l (time_at brace v b x)
      go true x k = record { outcome = refl; inside = h }
      go false none k = record { outcome = refl; inside = omega arith }
      go false (some s) k = refl
