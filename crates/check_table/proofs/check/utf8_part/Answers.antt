use mathlib.Core.Path.{◌≡◌, ap, ◌∙◌}
use Prim.Native.Nat.{◌+◌, ◌-◌}
use native.Mathlib.Omega.{arith}
use lib.ListN.{take, drop}
use Rattle.document.specs.Utf8.{is_utf8}
use Rattle.check_table.proofs.Utf8Chars.{same_test}
use Rattle.check_table.proofs.check.utf8_part.Goals as goal

pub returns : goal.returns
returns c =
    let e : c.args.text + c.args.len - c.args.text ≡ c.args.len = omega arith in
    c.is_ok.ensures.value ∙ same_test c.from_utf8.result _ _ _ c.from_utf8.ensures.cases ∙ ap (λ n. is_utf8 (take n (drop c.args.text c.args.buffer.now))) e
