-- The first text of a run, with blanks elsewhere between the tokens of the run.
use mathlib.Core.Path.{◌≡◌, sym, ap, subst, ◌∙◌}
use mathlib.Core.List.{List}
use mathlib.Core.Bool.{true}
use Prim.Native.Nat.{ℕ, ◌≤◌}
use lib.ListN.{drop}
use Rattle.json_grammar.specs.Tree.{place_in}
use Rattle.json_move.specs.Read.{tree_of}
use Rattle.json_laws.specs.Depth.{depth}
use Rattle.json_laws.proofs.Spells.{run_sound}
use Rattle.document.specs.Posology.{Posology}
use Rattle.document.specs.Same.{Reordered}
use Rattle.document.specs.Answer.{text_at_most, taken_to, read_next}
use Rattle.document.specs.declared.terms.Terms.{Terms}
use Rattle.document_meaning.proofs.Moves.{moved, reordered_depth}
use Rattle.document_meaning.proofs.Reorder.{visit_reordered}
use Rattle.document_meaning.proofs.NextTexts.{next_taken, taken_next, behind_leading}
use Rattle.demands.specs.Blanks.{bare, whole}
use Rattle.demands.proofs.Respaced.{respaced_leading}

-- Read alike up to e', and behind it again the same but for blanks.
pub record NextAlike (terms : Terms) (run run' : List ℕ) (p : Posology) (e e' : ℕ) : Type 0 where
  pub taken : e' ≤ text_at_most → read_next terms run' ≡ taken_to p e'
  pub same : bare (drop e run) ≡ bare (drop e' run')
  pub unparted : whole (drop e' run') ≡ true

pub respaced_next : (terms : Terms) (run run' : List ℕ) (p : Posology) (e : ℕ) → bare run ≡ bare run' → whole run' ≡ true → read_next terms run ≡ taken_to p e
    → (e' : ℕ) × NextAlike terms run run' p e e'
respaced_next terms run run' p e same w h =
    let k = next_taken terms run p e h in
    let j = run_sound k.walked in
    let i = respaced_leading j.0 run' same w in
    let o : Reordered (tree_of run) i.tree = moved (tree_of run) i.tree (sym i.like) in
    let shallow : depth i.tree ≤ 20 = subst (λ (n : ℕ). n ≤ 20) (reordered_depth o) j.1 in
    let v = visit_reordered o terms k.is in
    let there : drop (place_in run' i.rest) run' ≡ i.rest = behind_leading i.leads shallow in
    let here : drop e run ≡ k.rest = ap (λ n. drop n run) (sym k.ends) ∙ behind_leading j.0 j.1 in (
      place_in run' i.rest,
      record {
        taken = λ near. taken_next terms run' i.tree i.rest p v.state k.for_use i.leads shallow near v.is;
        same = ap bare here ∙ i.same ∙ ap bare (sym there);
        unparted = ap whole there ∙ i.unparted;
      },
    )
