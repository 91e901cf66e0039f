-- All four tests hold.
use mathlib.Core.Path.{sym, ◌∙◌}
use mathlib.Core.Bool.{◌&&◌}
use Rattle.json_grammar.proofs.Truth.{and_left, and_right}
use Rattle.json_scan.proofs.escape.four_hex.Goals as goal

pub returns : goal.returns
returns c =
    let p = c.is_hex in
    let q = c.is_hex-2 in
    let r = c.is_hex-3 in
    let t = c.is_hex-4 in
    λ h.
    let f = and_left ((p.result && q.result) && r.result) t.result h in
    let e = and_left (p.result && q.result) r.result f in
    record {
      first = sym p.ensures ∙ and_left p.result q.result e;
      second = sym q.ensures ∙ and_right p.result q.result e;
      third = sym r.ensures ∙ and_right (p.result && q.result) r.result f;
      fourth = sym t.ensures ∙ and_right ((p.result && q.result) && r.result) t.result h;
    }
