-- Plain texts one behind the other are a run of one text for each posology, and no other list has them.
use mathlib.Core.Path.{◌≡◌, refl, ap, sym, subst, ◌∙◌}
use mathlib.Core.List.{List, [], ◌∷◌}
use mathlib.Core.Bool.{true}
use mathlib.Core.Option.{some}
use Prim.Native.Nat.{ℕ, ◌+◌}
use native.Mathlib.Omega.{arith}
use lib.ListN.{length}
use Rattle.json_grammar.specs.Grammar.{here}
use Rattle.document.specs.Posology.{Posology}
use Rattle.document.specs.Plain.{plain}
use Rattle.document.specs.Valid.{is_use}
use Rattle.document.specs.declared.terms.Terms.{Terms}
use Rattle.document_meaning.proofs.PlainTexts.{reordered_plain_next, plain_short, plain_place, plain_spells}
use Rattle.demands.specs.Runs.{plain_texts, posologies, read_all, endings, AllValid, no_posology, next_posology, RunOf, only_blanks, Reorders}
use Rattle.demands.proofs.WholeRuns.{TakesFirst, run_read, text_ends}

pub takes_reordered : (terms : Terms) → TakesFirst Reorders terms
takes_reordered terms s r t p v f o l near = reordered_plain_next terms p v f o.1 o.2 l near

pub texts_run : (terms : Terms) (from : ℕ) {ps : List Posology} → AllValid terms ps → RunOf Reorders from (plain_texts ps) (endings from ps)
unfolding plain_texts endings
texts_run terms from no_posology = only_blanks here
texts_run terms from (next_posology {p = p} {ps = ps} v f g w) =
    let s = plain_spells terms.purpose p (plain_texts ps) v.1 in
    text_ends (plain_place p (plain_texts ps)) (s.0, s.2, s.3) s.4 (plain_short terms.purpose p (plain_texts ps) v.1 f) (texts_run terms (from + length (plain p)) w)

those_ending : (from : ℕ) (ps : List Posology) → posologies (endings from ps) ≡ ps
unfolding endings
those_ending from [] = refl
those_ending from (p ∷ ps) = ap (λ (qs : List Posology). p ∷ qs) (those_ending (from + length (plain p)) ps)

pub texts_read : (terms : Terms) {ps : List Posology} → is_use terms.purpose ≡ true → AllValid terms ps → read_all terms (plain_texts ps) ≡ some (endings 0 ps)
texts_read terms {ps} u v =
    run_read Reorders terms u (takes_reordered terms) (length (plain_texts ps)) (texts_run terms 0 v) (subst (AllValid terms) (sym (those_ending 0 ps)) v) (omega arith)

pub texts_one : (terms : Terms) (ps qs : List Posology) → is_use terms.purpose ≡ true → AllValid terms ps → AllValid terms qs → plain_texts ps ≡ plain_texts qs → ps ≡ qs
texts_one terms ps qs u v w e =
    let a : some (endings 0 ps) ≡ some (endings 0 qs) = sym (texts_read terms u v) ∙ ap (read_all terms) e ∙ texts_read terms u w in
    let b : endings 0 ps ≡ endings 0 qs = cc a in
    sym (those_ending 0 ps) ∙ ap posologies b ∙ those_ending 0 qs
