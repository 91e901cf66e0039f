-- The part that the head field names.
use Rattle.document.specs.Write.{head_text}
use Rattle.table_strings.specs.Handing.{head_at}
use Rattle.table_strings.proofs.head_text.Goals as goal

pub returns : goal.returns
unfolding head_text head_at
returns c =
    let e = c.field_text.ensures in
    record { bytes = rw (← e) c.part.ensures.bytes; place = rw (← e) c.part.ensures.place }
