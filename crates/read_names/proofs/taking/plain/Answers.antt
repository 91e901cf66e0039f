use mathlib.Core.Path.{sym, ap, ◌∙◌}
use mathlib.Core.Bool.{not}
use Rattle.json_decode.proofs.Ahead.{behind_inside, plain_ends}
use Rattle.read_names.proofs.Letters.{ahead_none, ahead_end, ahead_more, plain_on, value_start, value_on, value_behind}
use Rattle.read_names.proofs.taking.plain.Goals as goal

pub loop-i-init : goal.loop-i-init
loop-i-init g c =
    (ahead_none (λ done. g.T.Takes.took c.args.start done c.args.start) (g.met.T.Takes.took_none c.args.start) (behind_inside _ _ c.if-text-quote.false), value_start _ _ c.if-text-quote.false)

pub returns-then-b-eq34 : goal.returns-then-b-eq34
returns-then-b-eq34 g c = (
  ahead_end (λ done. g.T.Takes.took c.args.start done c.loop-i.t) c.loop-i.invariant.0 (plain_ends _ _ c.loop-i-test.true c.if-b-eq34.true),
  value_behind c.loop-i.invariant.1 c.loop-i-test.true c.if-b-eq34.true,
)

pub loop-i-preserved : goal.loop-i-preserved
loop-i-preserved g c =
    let ascii = ap not (sym c.is_ascii.ensures) ∙ (ap not c.if-not-is_ascii.false) in (
      ahead_more (λ done. g.T.Takes.took c.args.start done c.loop-i.t) (λ done. g.T.Takes.took c.args.start done c.with-t.result) _
          c.loop-i.invariant.0 (plain_on _ _ c.loop-i-test.true ascii) (c.with-t.ensures c.args.start),
      value_on c.loop-i.invariant.1 c.loop-i-test.true c.if-b-eq34.false ascii,
    )
