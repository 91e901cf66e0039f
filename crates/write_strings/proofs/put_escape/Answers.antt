use Rattle.write_strings.proofs.put_escape.Goals as goal

pub returns : goal.returns
returns c k =
    c.put_pair.ensures k
