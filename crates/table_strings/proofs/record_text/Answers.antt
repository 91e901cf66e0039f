-- A record's text is its kind's; a kind without text, or a record outside the table, has the empty one.
use mathlib.Core.Path.{◌≡◌, refl}
use mathlib.Core.List.{List, []}
use Prim.Native.Nat.{ℕ, ◌≤◌}
use native.Mathlib.Omega.{arith}
use lib.ListN.{length, get_or, get_or-eq_default}
use lib.Dec.{leb-zero}
use Rattle.document.specs.declared.table.Kind.{Kind}
use Rattle.document.specs.declared.table.Kind.TheVariants as K
use Rattle.document.specs.declared.table.Text.{Text}
use Rattle.document.specs.Table.{no_record}
use Rattle.document.specs.Write.{record_text, kind_text, no_text, lent}
use Rattle.table_strings.specs.Handing.{record_at, lent_at}
use Rattle.table_strings.proofs.record_text.Goals as goal

without_text : (k : Kind) → ((t : Text) → k ≡ K.FreeText t → ⊥) → kind_text k ≡ no_text
without_text K.None h = refl
without_text (K.Daily a b c d) h = refl
without_text (K.FreeText t) h = absurd (h t refl)
without_text K.Single h = refl
without_text (K.Cyclic u d p) h = refl
without_text K.Sequence h = refl
without_text K.DosageOnly h = refl
without_text K.Times h = refl
without_text K.DaySegments h = refl
without_text (K.WeekDays s) h = refl
without_text (K.DaysOfMonth s) h = refl
without_text (K.Interval d u) h = refl
without_text (K.Dosage d) h = refl
without_text (K.PosologySequence d u) h = refl
without_text (K.Pause d u) h = refl
without_text (K.AtTime s) h = refl
without_text (K.InSegment s) h = refl

empty_part : (t : Text) (buffer : List ℕ) → t ≡ no_text → ([] ≡ lent t buffer) × (0 ≡ lent_at t buffer)
empty_part t buffer e = rw (e, leb-zero (length buffer)) (refl, refl)

pub returns-then-i-ge-RECORDS : goal.returns-then-i-ge-RECORDS
unfolding record_text record_at
returns-then-i-ge-RECORDS c =
    let e : length c.args.t.records ≡ 64 = c.well_formed.0.1.1.1.1.1.0.1.0.1 in
    let l : length c.args.t.records ≤ c.args.i = omega arith in
    let n = empty_part (kind_text (get_or c.args.t.records c.args.i no_record).kind) c.args.strings.now (rw (get_or-eq_default c.args.t.records no_record {n = c.args.i} l)) in
    record { bytes = n.0; place = (refl, omega (arith, n.1)) }

pub returns-in-FreeText : goal.returns-in-FreeText
unfolding record_text record_at
returns-in-FreeText c =
    rw c.in-FreeText.is (record { bytes = c.part.ensures.bytes; place = c.part.ensures.place })

pub returns-in_default : goal.returns-in_default
unfolding record_text record_at
returns-in_default c =
    let n = empty_part (kind_text (get_or c.args.t.records c.args.i no_record).kind) c.args.strings.now (without_text (get_or c.args.t.records c.args.i no_record).kind c.in_default.not-FreeText) in
    record { bytes = n.0; place = (refl, omega (arith, n.1)) }
