-- Document 01, "Answers by number", rows 2 and 3 and the last paragraph: what the walk accepts is what JSON's grammar spells,
-- at most 20 brackets deep, and the tree that is read is the one that is spelled.
use Prim.Native.Nat.{ℕ, ◌≤◌}
use mathlib.Core.Path.{◌≡◌, sym, ◌∙◌}
use mathlib.Core.List.{List, []}
use mathlib.Core.Logic.{◌↔◌}
use native.Mathlib.Omega.{arith}
use Rattle.json_grammar.specs.Tree.{Tree}
use Rattle.json_grammar.specs.Grammar.{Blanks, Text}
use Rattle.json_grammar.specs.Walk.{end, first_object, one_object}
use Rattle.json_move.specs.Read.{tree_of}
use Rattle.json_laws.specs.Depth.{depth}
use Rattle.json_laws.specs.Leading.{Leading}
use Rattle.json_laws.proofs.Objects.{first_through, end_leading, one_end, one_is_first}
use Rattle.json_laws.proofs.Trees.{leading_tree, leading_behind, text_leading, leading_text}

-- A text spells one tree.
pub one_tree : {t u : Tree} {s : List ℕ} → Text t s → Text u s → t ≡ u
one_tree a b = sym (leading_tree (text_leading a).1) ∙ leading_tree (text_leading b).1

-- So do the first bytes of a run, and they end at one place.
pub one_leading : {t u : Tree} {s r q : List ℕ} → Leading t s r → Leading u s q → (t ≡ u) × (r ≡ q)
one_leading a b = (sym (leading_tree a) ∙ leading_tree b, sym (leading_behind a) ∙ leading_behind b)

-- A run begins with an object, at most 20 deep, exactly when the walk comes to its end; its tree is the one that is read, and r is what is behind it.
pub run_complete : {t : Tree} {run r : List ℕ} → Leading t run r → depth t ≤ 20 → (first_object run ≡ end r) × (tree_of run ≡ t)
run_complete l d = ((first_through l).fits (omega arith), leading_tree l)

pub run_sound : {run r : List ℕ} → first_object run ≡ end r → Leading (tree_of run) run r × (depth (tree_of run) ≤ 20)
run_sound e = let h = end_leading e in rw (leading_tree h.1) (h.1, h.2)

-- The same of a text, which has blanks alone behind its object.
pub complete : {t : Tree} {s : List ℕ} → Text t s → depth t ≤ 20 → (r : List ℕ) × Leading t s r × Blanks r [] × (one_object s ≡ end r) × (tree_of s ≡ t)
complete {s = s} h d = let l = text_leading h in let c = run_complete l.1 d in (l.0, l.1, l.2, one_end s l.0 c.0 l.2, c.1)

pub sound : {s r : List ℕ} → one_object s ≡ end r → Text (tree_of s) s × Leading (tree_of s) s r × Blanks r [] × (depth (tree_of s) ≤ 20)
sound {s} {r} e = let f = one_is_first s r e in let l = run_sound f.0 in (leading_text l.0 f.1, l.0, f.1, l.1)

-- Accepted is what spells a tree at most 20 deep.
pub accepted : (s : List ℕ) → ((r : List ℕ) × (one_object s ≡ end r)) ↔ ((t : Tree) × Text t s × (depth t ≤ 20))
accepted s = (λ h. let g = sound h.1 in (tree_of s, g.0, g.3), λ h. let g = complete h.1 h.2 in (g.0, g.3))
