-- Four decimals, each in turn.
use Rattle.read_fields.proofs.Fours.{morning_refused, noon_refused, evening_refused, night_refused, four_read}
use Rattle.read_fields.proofs.Refusals.{raised}
use Rattle.read_fields.proofs.four.four_in.Goals as goal

pub returns-in_err-morning : goal.returns-in_err-morning
returns-in_err-morning c =
    rw (raised c.from_residual.result c.from_residual.ensures.1) (morning_refused c.first_in-e.ensures c.in_err-morning.field-0.0 c.in_err-morning.ensures)

pub returns-in_err-noon : goal.returns-in_err-noon
returns-in_err-noon c =
    rw (raised c.from_residual-in_err-noon.result c.from_residual-in_err-noon.ensures.1) (noon_refused c.first_in-e.ensures c.in_ok-morning.ensures c.next_after-e.ensures c.in_err-noon.field-0.0 c.in_err-noon.ensures)

pub returns-in_err-evening : goal.returns-in_err-evening
returns-in_err-evening c =
    rw (raised c.from_residual-in_err-evening.result c.from_residual-in_err-evening.ensures.1)
    (evening_refused c.first_in-e.ensures c.in_ok-morning.ensures c.next_after-e.ensures c.in_ok-noon.ensures c.next_after-e-2.ensures c.in_err-evening.field-0.0 c.in_err-evening.ensures)

pub returns-in_err-night : goal.returns-in_err-night
returns-in_err-night c =
    rw (raised c.from_residual-in_err-night.result c.from_residual-in_err-night.ensures.1)
    (night_refused c.first_in-e.ensures c.in_ok-morning.ensures c.next_after-e.ensures c.in_ok-noon.ensures c.next_after-e-2.ensures c.in_ok-evening.ensures c.next_after-e-3.ensures c.in_err-night.field-0.0 c.in_err-night.ensures)

pub returns : goal.returns
returns c =
    four_read c.first_in-e.ensures c.in_ok-morning.ensures c.next_after-e.ensures c.in_ok-noon.ensures c.next_after-e-2.ensures c.in_ok-evening.ensures c.next_after-e-3.ensures c.in_ok-night.ensures
