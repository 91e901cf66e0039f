use Prim.Native.Nat.{ℕ, ◌*◌, ◌-◌}
use mathlib.Core.Path.{◌≡◌, refl, ap, ◌∙◌}
use mathlib.Core.List.{List, ◌++◌}
use native.Mathlib.Omega.{arith}
use lib.ListN.{set, replicate}
use Rattle.document.specs.Table.{no_record}
use Rattle.document.specs.declared.table.Record.{Record}
use Rattle.document.specs.Words.{width}
use Rattle.read_table.specs.Built.{records_of}
use Rattle.table_kinds.specs.Kinds.{record_in, groups}
use Rattle.table_kinds.proofs.Fill.{groups_set}
use Rattle.table_kinds.proofs.Tags.{record_inside}
use Rattle.read_table.proofs.records_of.Goals as goal

pub loop-i-init : goal.loop-i-init
unfolding groups
loop-i-init c =
    refl

pub loop-i-preserved : goal.loop-i-preserved
loop-i-preserved c =
    ap (λ (rs : List Record). set rs c.loop-i.i c.record_at.result) c.loop-i.invariant
    ∙ groups_set width record_in 64 c.loop-i.i c.args.words.now no_record c.record_at.result (omega arith) (c.record_at.ensures ∙ record_inside c.args.words.now (c.loop-i.i * width) (omega arith))

pub returns : goal.returns
returns c =
    let all : c.loop-i.i ≡ c.args.count = omega arith in
    c.loop-i.invariant ∙ ap (λ (n : ℕ). records_of n c.args.words.now ++ replicate (64 - n) no_record) all
