-- A date by its bytes.
use borrow.Author.Rules.{rules}
use mathlib.Core.Path.{refl}
use Rattle.document.specs.Posology.{bare}
use Rattle.read_fields.specs.DateParts.{day_read}
use Rattle.read_fields.proofs.DateLaws.{no_date, a_bare_date, a_moment}
use Rattle.read_fields.proofs.date.date_of.Goals as goal

pub returns-in_err-day : goal.returns-in_err-day
returns-in_err-day c =
    search (rules, no_date)

pub returns-then-bytes-eq10 : goal.returns-then-bytes-eq10
returns-then-bytes-eq10 c =
    (bare (day_read c.in_ok-day.day), a_bare_date _ _ c.in_ok-day.ensures c.if-bytes-eq10.true, refl)

pub returns : goal.returns
returns c =
    rw (a_moment _ _ c.in_ok-day.ensures c.if-bytes-eq10.false) c.moment_of.ensures
