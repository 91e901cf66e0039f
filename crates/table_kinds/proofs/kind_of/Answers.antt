use Rattle.table_kinds.proofs.kind_of.Goals as goal

pub returns-in-6-to-11 : goal.returns-in-6-to-11
returns-in-6-to-11 c =
    c.timed_of.ensures _ _

pub returns-in_default : goal.returns-in_default
returns-in_default c =
    c.other_of.ensures _ _
