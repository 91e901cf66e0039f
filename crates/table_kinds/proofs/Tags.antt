-- The kind of a tag that is known, and the record at a place that lies in the words.
use Prim.Native.Nat.{ℕ, ◌+◌, ◌≤◌, ◌<◌, ◌%◌}
use mathlib.Core.Path.{◌≡◌, sym}
use mathlib.Core.List.{List}
use native.Mathlib.Nat.{add-zero}
use borrow.Author.Tests.{le-leb, lt-leb}
use lib.ListN.{length, get_or, drop, get_or-eq_default}
use lib.Seq.{get_or-drop}
use Rattle.document.specs.Table.{no_record}
use Rattle.document.specs.Words.{width}
use Rattle.document.specs.declared.table.Kind.{Kind}
use Rattle.document.specs.declared.table.Kind.TheVariants as K
use Rattle.document.specs.declared.table.Record.{Record}
use Rattle.table_kinds.specs.Kinds.{kinds, kind_of, record_in, record_at}

module _ (a b c d : ℕ) where
  -- From the last tag on.
  pub last_kind : (tag : ℕ) → 18 ≤ tag → K.InSegment (a % 256) ≡ kind_of tag a b c d
  unfolding kind_of
  last_kind tag h = sym (get_or-eq_default (kinds a b c d) _ h)

-- The record of the six words at a place.
pub record_here : (ws : List ℕ) (at : ℕ) {k : Kind} → k ≡ kind_of (get_or ws at 0) (get_or ws (at + 2) 0) (get_or ws (at + 3) 0) (get_or ws (at + 4) 0) (get_or ws (at + 5) 0) → ◌≡◌ {A = Record} (record { kind = k; below = get_or ws (at + 1) 0 }) (record_in (drop at ws))
unfolding record_in
record_here ws at e = rw e (simp (get_or-drop, add-zero))

pub record_inside : (ws : List ℕ) (at : ℕ) → at + width ≤ length ws → record_at ws at ≡ record_in (drop at ws)
unfolding record_at
record_inside ws at h = rw (le-leb (at + width) (length ws) h)

pub record_outside : (ws : List ℕ) (at : ℕ) → length ws < at + width → record_at ws at ≡ no_record
unfolding record_at
record_outside ws at h = rw (lt-leb (at + width) (length ws) h)
