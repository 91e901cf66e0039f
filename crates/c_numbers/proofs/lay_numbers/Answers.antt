use mathlib.Core.Path.{sym, ap, ◌∙◌}
use mathlib.Core.List.{List, []}
use Prim.Native.Nat.{ℕ, ◌+◌, ◌*◌}
use lib.ListN.{length, get_or, drop_of_length-le}
use lib.Seq.{sets, length-sets}
use Rattle.c_numbers.specs.Eights.{bytes_of, all_bytes}
use Rattle.c_numbers.proofs.Bytes.{number_next}
use Rattle.c_numbers.proofs.lay_numbers.Goals as goal

pub loop-i-preserved : goal.loop-i-preserved
loop-i-preserved c =
    let a = c.args in
    let l = c.loop-i in
    let p = c.put in (
      ap length p.ensures ∙ length-sets l.bytes (a.from + l.i * 8) (bytes_of 8 (get_or a.numbers.now l.i 0) []) ∙ l.invariant.0,
      number_next a.numbers.now l.bytes p.new.bytes a.from l.i c.loop-i-test.true p.ensures ∙ l.invariant.1,
    )

pub returns : goal.returns
unfolding all_bytes
returns c h =
    let l = c.loop-i in
    ap (λ (ws : List ℕ). sets l.bytes (c.args.from + l.i * 8) (all_bytes ws)) (sym (drop_of_length-le c.args.numbers.now c.loop-i-test.false)) ∙ l.invariant.1
