-- The answer to the run's first text, by what is settled of the run.
use Rattle.std.specs.Prelude.{Ok}
use mathlib.Core.Path.{ap, sym, ◌∙◌}
use Rattle.read_fields.proofs.Refusals.{raised}
use Rattle.posology.proofs.Runs.{reads_next, run_walked, blank_made, next_refused_made}
use Rattle.posology.proofs.next.next_words.Goals as goal

pub returns-in_err-end : goal.returns-in_err-end
returns-in_err-end c =
    rw (raised c.from_residual.result c.from_residual.ensures.1)
    (reads_next c.args.purpose c.args.run.now c.args.strings.now _ (sym c.in_err-end.was ∙ c.first_text.ensures) (next_refused_made c.in_err-end.field-0.0 _ _))

pub taken-requires : goal.taken-requires
taken-requires c =
    run_walked c.args.purpose c.args.run.now _ (sym (c.in_ok-end.was ∙ ap Ok c.in-Taken.is) ∙ c.first_text.ensures)

pub returns-in-Taken : goal.returns-in-Taken
returns-in-Taken c =
    reads_next c.args.purpose c.args.run.now c.args.strings.now _ (sym (c.in_ok-end.was ∙ ap Ok c.in-Taken.is) ∙ c.first_text.ensures) c.taken.ensures

pub returns-in-Blank : goal.returns-in-Blank
returns-in-Blank c =
    reads_next c.args.purpose c.args.run.now c.args.strings.now _ (sym (c.in_ok-end.was ∙ ap Ok c.in-Blank.is) ∙ c.first_text.ensures) (blank_made _ _ _)
