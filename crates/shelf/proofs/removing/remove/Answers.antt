-- A refusal, or the gap closed.
use Rattle.shelf.proofs.Surveyed.{raised, sought, place_of}
use Rattle.shelf.proofs.Serving.{removes_none, removes}
use Rattle.shelf.proofs.removing.remove.Goals as goal

pub returns-in_err-record : goal.returns-in_err-record
returns-in_err-record c = rw (raised c.from_residual.result c.from_residual.ensures.1) (removes_none (sought c.in_err-record.ensures))

pub returns : goal.returns
returns c = removes (place_of (sought c.in_ok-record.ensures)) c.close_gap.ensures
