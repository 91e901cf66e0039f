use mathlib.Core.Path.{◌≡◌, sym, ◌∙◌}
use native.Mathlib.Nat.{add-zero, add_assoc}
use native.Mathlib.Omega.{arith}
use Rattle.json_grammar.specs.Part.{string_stop}
use Rattle.json_grammar.specs.declared.string.InString.TheVariants.{Plain}
use Rattle.json_grammar.proofs.Passes.{passes_none, passes_one, skips}
use Rattle.json_grammar.proofs.Truth.{and_left, and_right}
use Rattle.json_scan.proofs.Strings.{ascii_goes}
use Rattle.json_scan.proofs.string.sixteen_ascii.Goals as goal

pub loop-k-init : goal.loop-k-init
loop-k-init c =
    λ h. rw add-zero (passes_none (string_stop Plain) _ _)

pub loop-k-preserved : goal.loop-k-preserved
loop-k-preserved c =
    let l = c.loop-k in
    λ h.
    rw (← add_assoc) (passes_one (l.invariant (and_left l.all c.is_ascii-all.result h)) (omega arith)
    (ascii_goes _ (sym c.is_ascii-all.ensures ∙ and_right l.all c.is_ascii-all.result h)))

pub returns : goal.returns
returns c =
    let e : c.loop-k.k ≡ 16 = omega arith in λ h. skips (rw e at (c.loop-k.invariant h))
