use mathlib.Core.Path.{sym}
use Rattle.json_same.proofs.Pairs.{ends_over, ends_here, begins_here}
use Rattle.json_same.proofs.first_at.Goals as goal

pub returns-in_default : goal.returns-in_default
returns-in_default c =
    ends_over _ _ c.in_default.ensures.lookup.3

pub returns-in-Ascii : goal.returns-in-Ascii
returns-in-Ascii c =
    let h = c.in-Some.ensures.lookup in
    begins_here _ _ h.3.0 _ h.1 (sym c.in-Ascii.ensures)

pub returns-in-Quote : goal.returns-in-Quote
returns-in-Quote c =
    let h = c.in-Some.ensures.lookup in
    ends_here _ _ h.3.0 _ h.1 (sym c.in-Quote.ensures)
