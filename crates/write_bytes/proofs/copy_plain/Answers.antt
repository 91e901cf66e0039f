use native.Mathlib.Omega.{arith}
use borrow.Author.Rules.{rules}
use Rattle.write_bytes.proofs.Laid.{stored_one, behind_first}
use Rattle.write_bytes.proofs.copy_plain.Goals as goal

pub loop-i-preserved : goal.loop-i-preserved
loop-i-preserved c = record {
  plain = search rules;
  stored = rw c.loop-i.invariant.stored (stored_one c.args.out.now c.args.bytes.now c.args.at c.loop-i.i (omega arith));
}

pub returns-then-not-is_plain-clause-first : goal.returns-then-not-is_plain-clause-first
returns-then-not-is_plain-clause-first c h p =
    behind_first c.args.bytes.now c.loop-i.i c.is_plain.ensures c.if-not-is_plain.true p
