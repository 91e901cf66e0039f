use mathlib.Core.Path.{◌≡◌, refl, ap, sym, ◌∙◌}
use lib.Dec.{eqb}
use borrow.Author.Tests.{eqb-false}
use Rattle.std.specs.Option.{option_eq}
use Rattle.std.specs.Prelude.{Some}
use Rattle.check_table.proofs.Heads.{laid_text}
use Rattle.check_table.proofs.check_head.is_laid.Goals as goal

pub returns-else-eq : goal.returns-else-eq
returns-else-eq c =
    let text = c.args.text in
    record {
      yes = λ e. absurd (cc);
      no = λ e p.
          let f = c.strings.ensures.only text (laid_text c.detail.ensures c.in-Some.is p) in
          let g : c.eq.result ≡ eqb text text = c.eq.ensures ∙ ap (λ r. option_eq eqb r (Some text)) f in
          eqb-false text text (sym g ∙ e) refl;
    }
