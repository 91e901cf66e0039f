-- Document 01, "Answers by number", the writer: 17, 18, 19; and handing out the text of a record or head field.
use Rattle.std.specs.Prelude.{◌≡◌, List, [], Bool, Result, cond, ◌&&◌, ℕ, ◌+◌, leb, length, take, drop, get_or}
use Rattle.json_grammar.specs.Rows.{choose}
use Rattle.document.specs.Lookup.{same}
use Rattle.document.specs.Posology.{Posology}
use Rattle.document.specs.Valid.{is_use, valid, strings}
use Rattle.document.specs.Table.{table_of, no_record}
use Rattle.document.specs.Words.{table_words}
use Rattle.document.specs.Untable.{posology_of}
use Rattle.document.specs.Plain.{plain, plain_then}
use Rattle.document.specs.Answer.{laid}
use Rattle.document.specs.Values.{Values, ends, number, length_values}
use Rattle.document.specs.declared.terms.Terms.{Terms}
use Rattle.document.specs.declared.table.Table.{Table}
use Rattle.document.specs.declared.table.Head.{Head}
use Rattle.document.specs.declared.table.Text.{Text}
use Rattle.document.specs.declared.table.Kind.{Kind}
use Rattle.document.specs.declared.table.Kind.TheVariants as K
use Rattle.document.specs.declared.refusal.Refusal.{Refusal}
use Rattle.document.specs.declared.table.HeadText.{HeadText}
use Rattle.document.specs.declared.table.HeadText.TheVariants as H

abbrev pub greatest_room : ℕ
greatest_room = 2048

abbrev pub in_greatest_room : ℕ → Terms
in_greatest_room purpose = record { purpose = purpose; room = greatest_room }

-- A table is that of p, with p's strings first in the text buffer, and p can be read.
abbrev pub is_table_of : ℕ → Table → List ℕ → Posology → Bool
is_table_of purpose t text p =
    valid purpose p && leb (length (strings p)) greatest_room
    && same (table_words (table_of p)) (table_words t) && same (strings p) (take (length (strings p)) text)

-- 18 fails this test: "no text reads to this table and these text bytes for this use"
unfoldable pub readable : ℕ → Table → List ℕ → Bool
unfolding valid strings table_of table_words posology_of
readable purpose t text = is_table_of purpose t text (posology_of t text)

-- What writing comes to: the plain text, or a refusal.
pub data Write : Type 0 where
  writes : List ℕ → Write
  refuses : ℕ → ℕ → Write

abbrev pub fitting : ℕ → List ℕ → Write
fitting room bytes = cond (leb (length bytes) room) (writes bytes) (refuses 19 (length bytes))

unfoldable pub write : ℕ → Table → List ℕ → ℕ → Write
unfolding readable posology_of plain_then
write purpose t text room =
    choose (is_use purpose) (λ _.
    choose (readable purpose t text) (λ _. fitting room (plain (posology_of t text))) λ _.
    refuses 18 0) λ _.
    refuses 17 0

abbrev pub write_values : Write → Values
write_values (writes bytes) = ends (length bytes)
write_values (refuses n place) = number n place

abbrev pub buffer_after : Write → List ℕ → List ℕ
buffer_after (writes bytes) buffer = laid bytes buffer
buffer_after (refuses n place) buffer = buffer

-- The promise of writing.
pub record Writes (purpose : ℕ) (t : Table) (text before : List ℕ) (r : Result ℕ Refusal) (after : List ℕ) : Type 0 where
  pub answer : length_values r ≡ write_values (write purpose t text (length before))
  pub left : after ≡ buffer_after (write purpose t text (length before)) before

-- "the answer is that part of the lent text buffer itself"; where start and length don't lie in the buffer, the empty part at its start.
abbrev pub lent : Text → List ℕ → List ℕ
lent t buffer = cond (leb (t.start + t.len) (length buffer)) (take t.len (drop t.start buffer)) []

abbrev pub no_text : Text
no_text = record { start = 0; len = 0 }

abbrev pub kind_text : Kind → Text
kind_text K.None = no_text
kind_text (K.Daily a b c d) = no_text
kind_text (K.FreeText t) = t
kind_text K.Single = no_text
kind_text (K.Cyclic unit du per) = no_text
kind_text K.Sequence = no_text
kind_text K.DosageOnly = no_text
kind_text K.Times = no_text
kind_text K.DaySegments = no_text
kind_text (K.WeekDays days) = no_text
kind_text (K.DaysOfMonth days) = no_text
kind_text (K.Interval du unit) = no_text
kind_text (K.Dosage d) = no_text
kind_text (K.PosologySequence du unit) = no_text
kind_text (K.Pause du unit) = no_text
kind_text (K.AtTime second) = no_text
kind_text (K.InSegment s) = no_text

-- A record number outside the table names a record without text.
unfoldable pub record_text : Table → ℕ → List ℕ → List ℕ
record_text t i buffer = lent (kind_text (get_or t.records i no_record).kind) buffer

abbrev pub head_field : Head → HeadText → Text
head_field h H.Unit = h.unit
head_field h H.Instructions = h.instructions
head_field h H.Roa = h.roa
head_field h H.Moa = h.moa

unfoldable pub head_text : Table → HeadText → List ℕ → List ℕ
head_text t f buffer = lent (head_field t.head f) buffer
