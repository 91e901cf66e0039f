use Rattle.write_bytes.proofs.Laid.{behind_first}
use Rattle.write_bytes.proofs.plain_end.Goals as goal

pub returns-then-not-is_plain-clause-first : goal.returns-then-not-is_plain-clause-first
returns-then-not-is_plain-clause-first c h p =
    behind_first c.args.bytes.now c.loop-i.i c.is_plain.ensures c.if-not-is_plain.true p
