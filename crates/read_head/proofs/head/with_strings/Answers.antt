-- The head's strings, one after another, then the dates' order.
use mathlib.Core.Path.{sym, ◌∙◌}
use Rattle.document.proofs.Untabled.{order_back}
use Rattle.read_fields.proofs.Refusals.{raised}
use Rattle.read_head.proofs.HeadStrings.{unit_stops, instr_stops, roa_stops, moa_stops, out_of_order, strings_read}
use Rattle.read_head.proofs.head.with_strings.Goals as goal

pub returns-in_err-unit : goal.returns-in_err-unit
returns-in_err-unit c es once u from to reserve po meal before words begun s tells =
    rw (raised c.from_residual.result c.from_residual.ensures.1) (record {
      answers = unit_stops c.args.at once begun tells c.at.ensures c.in_err-unit.field-0.0 c.in_err-unit.ensures.reads_unit;
      size = begun.whole;
    })

pub returns-in_err-instructions : goal.returns-in_err-instructions
returns-in_err-instructions c es once u from to reserve po meal before words begun s tells =
    rw (raised c.from_residual-in_err-instructions.result c.from_residual-in_err-instructions.ensures.1) (record {
      answers = instr_stops c.args.at once begun tells c.at.ensures c.in_ok-unit.unit c.in_ok-unit.ensures.reads_unit c.at-2.ensures c.in_err-instructions.field-0.0 c.in_err-instructions.ensures.reads_optional_text;
      size = begun.whole;
    })

pub returns-in_err-roa : goal.returns-in_err-roa
returns-in_err-roa c es once u from to reserve po meal before words begun s tells =
    rw (raised c.from_residual-in_err-roa.result c.from_residual-in_err-roa.ensures.1) (record {
      answers = roa_stops c.args.at once begun tells c.at.ensures c.in_ok-unit.unit c.in_ok-unit.ensures.reads_unit c.at-2.ensures c.in_ok-instructions.instructions c.in_ok-instructions.ensures.reads_optional_text c.at-3.ensures c.in_err-roa.field-0.0 c.in_err-roa.ensures.reads_optional_text;
      size = begun.whole;
    })

pub returns-in_err-moa : goal.returns-in_err-moa
returns-in_err-moa c es once u from to reserve po meal before words begun s tells =
    rw (raised c.from_residual-in_err-moa.result c.from_residual-in_err-moa.ensures.1) (record {
      answers = moa_stops c.args.at once begun tells c.at.ensures c.in_ok-unit.unit c.in_ok-unit.ensures.reads_unit c.at-2.ensures c.in_ok-instructions.instructions c.in_ok-instructions.ensures.reads_optional_text c.at-3.ensures c.in_ok-roa.roa c.in_ok-roa.ensures.reads_optional_text c.at-4.ensures c.in_err-moa.field-0.0 c.in_err-moa.ensures.reads_optional_text;
      size = begun.whole;
    })

pub returns-then-not-in_order : goal.returns-then-not-in_order
returns-then-not-in_order c es once u from to reserve po meal before words begun s tells =
    record {
      answers = out_of_order c.args.at once begun tells c.at.ensures c.in_ok-unit.unit c.in_ok-unit.ensures.reads_unit c.at-2.ensures c.in_ok-instructions.instructions c.in_ok-instructions.ensures.reads_optional_text c.at-3.ensures c.in_ok-roa.roa c.in_ok-roa.ensures.reads_optional_text c.at-4.ensures c.in_ok-moa.moa c.in_ok-moa.ensures.reads_optional_text (sym (order_back from to begun.from begun.to) ∙ sym c.in_order.ensures ∙ c.if-not-in_order.true) c.requires.0;
      size = begun.whole;
    }

pub returns : goal.returns
returns c es once u from to reserve po meal before words begun s tells =
    strings_read c.args.at once begun tells c.at.ensures c.in_ok-unit.unit c.in_ok-unit.ensures.reads_unit c.at-2.ensures c.in_ok-instructions.instructions c.in_ok-instructions.ensures.reads_optional_text c.at-3.ensures c.in_ok-roa.roa c.in_ok-roa.ensures.reads_optional_text c.at-4.ensures c.in_ok-moa.moa c.in_ok-moa.ensures.reads_optional_text
    c.piece_at.ensures c.piece_at-2.ensures c.piece_at-3.ensures c.piece_at-4.ensures
    c.in_ok-unit.ensures.takes_text c.in_ok-instructions.ensures.takes_text c.in_ok-roa.ensures.takes_text c.in_ok-moa.ensures.takes_text
    c.requires.1 (sym (order_back from to begun.from begun.to) ∙ sym c.in_order.ensures ∙ c.if-not-in_order.false)
