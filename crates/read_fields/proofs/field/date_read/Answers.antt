-- The bytes of a date are judged, or are too many.
use mathlib.Core.Path.{refl}
use lib.ListN.{replicate, drop}
use Rattle.json_move.specs.Read.{decoded}
use mathlib.Core.Option.{none}
use Rattle.read_fields.proofs.DateFields.{lies, lies_size, date_too_long, date_empty, date_told}
use Rattle.read_fields.proofs.field.date_read.Goals as goal

pub returns-in_default : goal.returns-in_default
returns-in_default c =
    (date_too_long (replicate 25 0) (decoded (drop c.args.quote c.args.text.now)) refl c.in_default.ensures.value, refl)

pub returns-then-len-eq0 : goal.returns-then-len-eq0
returns-then-len-eq0 c =
    (none, date_empty (lies (replicate 25 0) (decoded (drop c.args.quote c.args.text.now)) refl c.in-Some.len c.in-Some.ensures.value c.lay.new.buffer c.lay.ensures.buffer_after) c.if-len-eq0.true, refl)

pub slice_bounds-date_of-end : goal.slice_bounds-date_of-end
slice_bounds-date_of-end c =
    lies_size (lies (replicate 25 0) (decoded (drop c.args.quote c.args.text.now)) refl c.in-Some.len c.in-Some.ensures.value c.lay.new.buffer c.lay.ensures.buffer_after)

pub returns : goal.returns
returns c =
    rw c.ok_or.ensures.value (date_told (lies (replicate 25 0) (decoded (drop c.args.quote c.args.text.now)) refl c.in-Some.len c.in-Some.ensures.value c.lay.new.buffer c.lay.ensures.buffer_after) c.if-len-eq0.false c.args.quote c.date_of.result c.date_of.ensures)
