-- One skip behind another.
use Rattle.json_grammar.specs.Part.{string_stop}
use Rattle.json_grammar.specs.declared.string.InString.TheVariants.{Plain}
use Rattle.json_grammar.proofs.Passes.{passes_none, skipped, skips}
use Rattle.json_scan.proofs.string.ascii_end.Goals as goal

pub returns : goal.returns
returns c =
    let i = skipped (passes_none (string_stop Plain) _ _) c.ascii_upto-i.ensures in
    skips (skipped (skipped i c.sixteens_end.ensures) c.ascii_upto-2.ensures)
