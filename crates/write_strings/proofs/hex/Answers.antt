use Rattle.json_grammar.proofs.Rows.{rows}
use Rattle.write_strings.proofs.hex.Goals as goal

pub returns-then-n-lt10 : goal.returns-then-n-lt10
returns-then-n-lt10 c =
    search rows depth 20

pub returns-else-n-lt10 : goal.returns-else-n-lt10
returns-else-n-lt10 c =
    search rows depth 20
