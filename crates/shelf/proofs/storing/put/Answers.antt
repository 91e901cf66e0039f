-- Each refusal in its turn, or the record behind the last.
use Rattle.rewriter.proofs.Reread.{read_refused, read_taken}
use Rattle.shelf.proofs.Surveyed.{raised, asked_of, shelf_of}
use Rattle.shelf.proofs.Serving.{puts_nowhere, puts_no_other, puts_unread, puts_as}
use Rattle.shelf.proofs.storing.put.Goals as goal

pub returns-in_err-s : goal.returns-in_err-s
returns-in_err-s c =
    rw (raised c.from_residual.result c.from_residual.ensures.1)
    (puts_nowhere c.args.purpose c.args.text.now (asked_of c.go_over.ensures c.in_err-s.ensures))

pub returns-then-is_some : goal.returns-then-is_some
returns-then-is_some c =
    puts_no_other c.args.purpose c.args.text.now (shelf_of (asked_of c.go_over.ensures c.in_ok-s.ensures)) c.if-is_some.ensures

pub returns-in_err-length : goal.returns-in_err-length
returns-in_err-length c =
    rw (raised c.from_residual-in_err-length.result c.from_residual-in_err-length.ensures.1)
    (puts_unread c.args.purpose c.args.text.now (shelf_of (asked_of c.go_over.ensures c.in_ok-s.ensures)) c.if-is_some.ensures
    (read_refused c.in_err-length.ensures))

pub returns : goal.returns
returns c =
    puts_as c.args.purpose c.args.text.now (shelf_of (asked_of c.go_over.ensures c.in_ok-s.ensures)) c.if-is_some.ensures
    (read_taken c.in_ok-length.ensures) c.store.ensures
