use Rattle.json_grammar.specs.Part.{string_stop}
use Rattle.json_grammar.specs.declared.string.InString.TheVariants.{Plain}
use Rattle.json_grammar.proofs.Passes.{passes_none, skipped}
use Rattle.json_scan.proofs.string.sixteens_end.Goals as goal

pub loop-i-init : goal.loop-i-init
loop-i-init c =
    passes_none (string_stop Plain) _ _

pub loop-i-preserved : goal.loop-i-preserved
loop-i-preserved c =
    skipped c.loop-i.invariant (c.sixteen_ascii.ensures c.if-sixteen_ascii.true)
