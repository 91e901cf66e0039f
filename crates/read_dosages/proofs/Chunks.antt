-- The words of each value's records: how many, and a record in front of those below it.
use Prim.Native.Nat.{ℕ, ◌+◌, ◌*◌, ◌-◌}
use mathlib.Core.Path.{◌≡◌, refl, ap, sym, ◌∙◌}
use mathlib.Core.List.{List, [], ◌∷◌, ◌++◌}
use mathlib.Core.Bool.{Bool, true, false, cond}
use native.Mathlib.Omega.{arith}
use lib.ListN.{length}
use lib.Seq.{sets}
use Rattle.document.specs.Posology as P
use Rattle.document.specs.Schema.{OfFamily}
use Rattle.document.specs.Valid.{timed_records}
use Rattle.document.specs.Table.{day_set, dosage_cell, dosage_row, times_rows, segments_rows, timed_rows}
use Rattle.document.specs.Visit.{State, Outcome, done}
use Rattle.document.specs.Told.{Tells, Still, more}
use Rattle.document.specs.Words.{width, words, dosage_words, row, rows, all_words}
use Rattle.document.specs.declared.terms.Terms.{Terms}
use Rattle.document.specs.declared.terms.Used.{Used}
use Rattle.read_dosages.specs.Visiting.{RowsIn, Did, DosageRows, an_application, applications_rows}
use Rattle.read_dosages.proofs.Rowed.{count_below, leaf_did}
use Rattle.read_dosages.proofs.Alike.{application, with_applications, on_days, either}

-- How many words each value takes: six a record.
pub applications_length : (timed : Bool) (as' : List (OfFamily (an_application timed))) → length (rows (all_words (applications_rows timed as'))) ≡ (length as' + length as') * width
applications_length true [] = refl
applications_length true (P.at_time d dt ∷ ts) = omega (arith, applications_length true ts)
applications_length false [] = refl
applications_length false (P.in_segment d s ∷ ss) = omega (arith, applications_length false ss)

pub timed_length : (td : P.Timed) → length (rows (all_words (timed_rows td []))) ≡ timed_records td * width
unfolding timed_rows
timed_length (P.dosage_only d) = refl
timed_length (P.times ts) = omega (arith, applications_length true ts)
timed_length (P.day_segments ss) = omega (arith, applications_length false ss)
timed_length (P.week_days ds td) = omega (arith, timed_length td)
timed_length (P.days_of_month ds td) = omega (arith, timed_length td)
timed_length (P.interval d du unit) = refl

-- No application, and one before others.
pub no_application : (timed : Bool) → [] ≡ rows (all_words (applications_rows timed []))
no_application true = refl
no_application false = refl

pub applications_join : (timed : Bool) (a : OfFamily (an_application timed)) (as' : List (OfFamily (an_application timed))) (c c' : List ℕ)
    → c ≡ rows (all_words (applications_rows timed (a ∷ []))) → c' ≡ rows (all_words (applications_rows timed as')) → c ++ c' ≡ rows (all_words (applications_rows timed (a ∷ as')))
applications_join true (P.at_time d dt) ts c c' e e' = ap (λ x. x ++ c') e ∙ ap (λ x. rows (all_words (times_rows (P.at_time d dt ∷ []) [])) ++ x) e'
applications_join false (P.in_segment d s) ss c c' e e' = ap (λ x. x ++ c') e ∙ ap (λ x. rows (all_words (segments_rows (P.in_segment d s ∷ []) [])) ++ x) e'

-- A record in front: the number of those below it, and their words.
pub row_above : (t a b c d : ℕ) {n n' : ℕ} {k k' : List ℕ} → n ≡ n' → k ≡ k' → row (words n t a b c d) k ≡ row (words n' t a b c d) k'
row_above t a b c d {n' = n'} {k} e e' = ap (λ n. row (words n t a b c d) k) e ∙ ap (λ k. row (words n' t a b c d) k) e'

-- An application, its dosage below it.
pub application_rows : (timed : Bool) (d : P.Dosage) (a : ℕ) {tag n : ℕ} {k : List ℕ} → tag ≡ cond timed 17 18 → n ≡ 1 → k ≡ rows (all_words (dosage_row d ∷ []))
    → row (words n tag a 0 0 0) k ≡ rows (all_words (applications_rows timed (application timed d a ∷ [])))
application_rows timed d a {n = n} {k} t e e' =
    either (λ t (tag : ℕ). row (words n tag a 0 0 0) k ≡ rows (all_words (applications_rows t (application t d a ∷ [])))) timed t (row_above 17 a 0 0 0 e e') (row_above 18 a 0 0 0 e e')

-- How many records are below one, by the words of what was done there.
pub counted : {B : Type 0} {terms : Terms} {text : List ℕ} (u v' : Used) {w v : Used} {before mid : List ℕ} {below : RowsIn B} {o : Outcome B} (d : Did terms text w before below o v mid)
    (n : ℕ) {c : List ℕ} → d.chunk ≡ c → length c ≡ n * width → w.records ≡ u.records + 1 → v'.records ≡ v.records → v'.records - u.records - 1 ≡ n
counted u v' d n e h one same = omega (arith, count_below d n (ap length e ∙ h))

-- The records of each timed dosage, its own in front.
module _ {n : ℕ} {k : List ℕ} where
  pub dosage_only_rows_lem : (d : P.Dosage) → n ≡ 1 → k ≡ rows (all_words (dosage_row d ∷ [])) → row (words n 6 0 0 0 0) k ≡ rows (all_words (timed_rows (P.dosage_only d) []))
  unfolding timed_rows
  dosage_only_rows_lem d e e' = row_above 6 0 0 0 0 e e'

  pub applications_rows_lem : (timed : Bool) (as' : List (OfFamily (an_application timed))) {kind : ℕ} → kind ≡ cond timed 2 3 → n ≡ length as' + length as'
      → k ≡ rows (all_words (applications_rows timed as')) → row (words n (kind + 5) 0 0 0 0) k ≡ rows (all_words (timed_rows (with_applications timed as') []))
  unfolding timed_rows
  applications_rows_lem true ts t e e' = ap (λ t. row (words n (t + 5) 0 0 0 0) k) t ∙ row_above 7 0 0 0 0 e e'
  applications_rows_lem false ss t e e' = ap (λ t. row (words n (t + 5) 0 0 0 0) k) t ∙ row_above 8 0 0 0 0 e e'

  pub days_rows : (week : Bool) (ds : List ℕ) (td : P.Timed) {kind set : ℕ} → kind ≡ cond week 4 5 → day_set ds ≡ set → n ≡ timed_records td
      → k ≡ rows (all_words (timed_rows td [])) → row (words n (kind + 5) set 0 0 0) k ≡ rows (all_words (timed_rows (on_days week ds td) []))
  unfolding timed_rows
  days_rows week ds td {kind} t b e e' =
      ap (λ s. row (words n (kind + 5) s 0 0 0) k) (sym b)
      ∙ either (λ w (t : ℕ). row (words n (t + 5) (day_set ds) 0 0 0) k ≡ rows (all_words (timed_rows (on_days w ds td) []))) week t (row_above 9 (day_set ds) 0 0 0 e e') (row_above 10 (day_set ds) 0 0 0 e e')

  pub interval_rows_lem : (d : P.Dosage) (du unit : ℕ) → n ≡ 1 → k ≡ rows (all_words (dosage_row d ∷ [])) → row (words n 11 du unit 0 0) k ≡ rows (all_words (timed_rows (P.interval d du unit) []))
  unfolding timed_rows
  interval_rows_lem d du unit e e' = row_above 11 du unit 0 0 e e'

-- A dosage is one record, with none below it.
pub dosage_did : {terms : Terms} {text : List ℕ} {u v : Used} {before after : List ℕ} {o : Outcome P.Dosage} {s : State} (d : P.Dosage) → o ≡ done d s → Tells terms text v s → Still (more u) v
    → after ≡ sets before (width * u.records) (row (dosage_words (v.records - u.records - 1) (dosage_cell d)) []) → Did terms text u before DosageRows o v after
dosage_did {u = u} {v} d e tells s stored =
    leaf_did d (dosage_words (v.records - u.records - 1) (dosage_cell d)) e tells (ap (λ n. row (dosage_words n (dosage_cell d)) []) (omega (arith, s.records)), s.text) s.records stored
