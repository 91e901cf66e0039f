-- The object of a walked text stands behind its blanks, and its tree is the text's.
use Prim.Native.Nat.{ℕ}
use mathlib.Core.Path.{◌≡◌, refl, sym, ap, subst, ◌∙◌}
use mathlib.Core.List.{List}
use native.Mathlib.Omega.{arith}
use lib.ListN.{drop, length-drop}
use Rattle.json_grammar.specs.Byte.{blanked}
use Rattle.json_grammar.specs.Tree.{Place, Tree, Members, object}
use Rattle.json_grammar.specs.Walk.{end, first_object}
use Rattle.json_grammar.specs.Grammar as G
use Rattle.json_move.specs.Read.{tree_of}
use Rattle.json_laws.specs.Leading.{Leading, leading}
use Rattle.json_laws.proofs.Blanks.{over_blanks}
use Rattle.json_laws.proofs.Shorter.{value_shorter}
use Rattle.json_laws.proofs.Spells.{run_sound}
use Rattle.document.specs.Schema.{a_posology}
use Rattle.document.specs.Visit.{entries_of, members, start, visit}
use Rattle.document.specs.declared.terms.Terms.{Terms}
use Rattle.document_meaning.proofs.Sound.{Utf8Tree}
use Rattle.document_meaning.proofs.Utf8Texts.{value_utf8}
use Rattle.document.specs.At.{At}

-- What the walk tells of a text.
pub record Standing (text : List ℕ) (brace : ℕ) : Type 0 where
  pub place : Place
  pub inner : Members
  pub tree : tree_of text ≡ object place inner
  pub stands : At text brace (object place inner)
  pub utf8 : Utf8Tree (tree_of text)

-- A brace is no blank.
object_sharp : {p : Place} {ms : Members} {s r : List ℕ} → G.Value (object p ms) s r → blanked s ≡ s
unfolding blanked
object_sharp (G.an_empty_object b) = refl
object_sharp (G.an_object b n) = refl

behind_blanks : (text : List ℕ) (brace : ℕ) (t : Tree) (r : List ℕ) → tree_of text ≡ t → drop brace text ≡ blanked text → Leading t text r → Standing text brace
behind_blanks text brace t r e d (leading {p} {ms} {s} {m} bl v) =
    let here : drop brace text ≡ m = d ∙ over_blanks bl ∙ object_sharp v in
    let spelled = subst (λ (x : List ℕ). G.Value (object p ms) x r) (sym here) v in
    let some = value_shorter spelled in
    let left = length-drop brace text in
    record {
      place = p;
      inner = ms;
      tree = e;
      stands = record { rest = r; spelled = spelled; inside = omega arith };
      utf8 = subst (λ (x : Tree). Utf8Tree x) (sym e) (value_utf8 v);
    }

pub standing : (text : List ℕ) (brace : ℕ) (behind : List ℕ) → first_object text ≡ end behind → drop brace text ≡ blanked text → Standing text brace
standing text brace behind w d = behind_blanks text brace (tree_of text) behind refl d (run_sound w).0

-- Visiting the tree is visiting the object's members.
pub visit_is : (terms : Terms) (text : List ℕ) (brace : ℕ) (s : Standing text brace)
    → visit terms (tree_of text) ≡ members (a_posology terms.purpose) s.place (entries_of s.inner) (start terms)
unfolding visit
visit_is terms text brace s = ap (λ (t : Tree). visit terms t) s.tree
