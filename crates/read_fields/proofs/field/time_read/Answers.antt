-- The bytes of a time are judged, or are too many.
use mathlib.Core.Path.{refl}
use lib.ListN.{replicate, drop}
use Rattle.json_move.specs.Read.{decoded}
use Rattle.read_fields.proofs.DateFields.{lies, lies_size, time_too_long, time_empty, time_told}
use Rattle.read_fields.proofs.field.time_read.Goals as goal

pub returns-in_default : goal.returns-in_default
returns-in_default c =
    time_too_long (replicate 25 0) (decoded (drop c.args.quote c.args.text.now)) refl c.args.brace c.args.quote c.in_default.ensures.value

pub returns-then-len-eq0 : goal.returns-then-len-eq0
returns-then-len-eq0 c =
    time_empty (lies (replicate 25 0) (decoded (drop c.args.quote c.args.text.now)) refl c.in-Some.len c.in-Some.ensures.value c.lay.new.buffer c.lay.ensures.buffer_after) c.args.brace c.args.quote c.if-len-eq0.true

pub slice_bounds-time_of-end : goal.slice_bounds-time_of-end
slice_bounds-time_of-end c =
    lies_size (lies (replicate 25 0) (decoded (drop c.args.quote c.args.text.now)) refl c.in-Some.len c.in-Some.ensures.value c.lay.new.buffer c.lay.ensures.buffer_after)

pub returns : goal.returns
returns c =
    rw c.ok_or.ensures.value (time_told (lies (replicate 25 0) (decoded (drop c.args.quote c.args.text.now)) refl c.in-Some.len c.in-Some.ensures.value c.lay.new.buffer c.lay.ensures.buffer_after) c.if-len-eq0.false c.args.brace c.args.quote c.time_of.result c.time_of.ensures)
