-- Runs (document 01, "What the part does" and the last paragraph of "Answers by number"): posologies written one after another, and a run read to its end.
use Rattle.std.specs.Prelude.{List, [], ◌∷◌, ◌++◌, map, ℕ, zero, suc, ◌+◌, ◌≤◌, length, drop}
use Rattle.std.proofs.Math.Option.{Option, none, some}
use Rattle.json_grammar.specs.Tree.{place_in, Tree}
use Rattle.json_grammar.specs.Grammar.{Blanks, Text}
use Rattle.json_laws.specs.Depth.{depth}
use Rattle.json_laws.specs.Leading.{Leading}
use Rattle.document.specs.Posology.{Posology}
use Rattle.document.specs.Same.{Reordered}
use Rattle.document.specs.Table.{table_of}
use Rattle.document.specs.Plain.{plain, plain_then}
use Rattle.document.specs.Valid.{Valid, Fits, strings}
use Rattle.document.specs.Spells.{Means, open_at_most}
use Rattle.document.specs.Write.{Write, writes, refuses, write, greatest_room}
use Rattle.document.specs.Answer.{ReadNext, taken_to, blank_to, refused_at, read_next, text_at_most}
use Rattle.document.specs.declared.terms.Terms.{Terms}

-- Writing one after another, with nothing between, each into a buffer of so many bytes: nothing where one is refused.
abbrev pub in_front : Write → Option (List ℕ) → Option (List ℕ)
in_front (writes bytes) (some run) = some (bytes ++ run)
in_front (writes bytes) none = none
in_front (refuses n place) rest = none

unfoldable pub write_all : ℕ → ℕ → List Posology → Option (List ℕ)
unfolding write table_of strings
write_all purpose buffer [] = some []
write_all purpose buffer (p ∷ ps) = in_front (write purpose (table_of p) (strings p) buffer) (write_all purpose buffer ps)

-- A posology of a run, and the place behind its last byte, counted from the run's start.
pub record Ended : Type 0 where
  pub posology : Posology
  pub ends : ℕ

abbrev pub ended : Posology → ℕ → Ended
ended p e = record { posology = p; ends = e }

abbrev pub posologies : List Ended → List Posology
posologies es = map (λ e. e.posology) es

-- Reading one after another, until only blanks remain: nothing where a text is refused.
abbrev pub and_then : Ended → Option (List Ended) → Option (List Ended)
and_then e (some es) = some (e ∷ es)
and_then e none = none

abbrev pub onward : ℕ → ReadNext → (ℕ → Option (List Ended)) → Option (List Ended)
onward from (taken_to p e) more = and_then (ended p (from + e)) (more e)
onward from (blank_to n) more = some []
onward from (refused_at n place) more = none

-- What is left of a run from a place on, if it has fewer than n texts.
unfoldable pub read_from : ℕ → Terms → ℕ → List ℕ → Option (List Ended)
unfolding read_next
read_from zero terms from rest = none
read_from (suc n) terms from rest = onward from (read_next terms rest) (λ e. read_from n terms (from + e) (drop e rest))

-- No text is empty, so a run has no more texts than bytes.
abbrev pub read_all : Terms → List ℕ → Option (List Ended)
read_all terms run = read_from (suc (length run)) terms 0 run

-- Plain texts one behind the other, and where each ends if the first begins at a place.
unfoldable pub plain_texts : List Posology → List ℕ
unfolding plain_then
plain_texts [] = []
plain_texts (p ∷ ps) = plain_then p (plain_texts ps)

unfoldable pub endings : ℕ → List Posology → List Ended
unfolding plain_then
endings from [] = []
endings from (p ∷ ps) = ended p (from + length (plain p)) ∷ endings (from + length (plain p)) ps

-- All of a list are valid and their strings fit.
pub data AllValid (terms : Terms) : List Posology → Type 0 where
  no_posology : AllValid terms []
  next_posology : {p : Posology} {ps : List Posology} → Valid terms.purpose p → Fits greatest_room p → Fits terms.room p → AllValid terms ps → AllValid terms (p ∷ ps)

-- The plain texts of a list have each at most so many bytes.
pub data AllWithin (most : ℕ) : List Posology → Type 0 where
  no_text : AllWithin most []
  next_text : {p : Posology} {ps : List Posology} → length (plain p) ≤ most → AllWithin most ps → AllWithin most (p ∷ ps)

-- What is left of a run from a place on: for each posology p blanks and a spelling of a tree t with Is p t, together at most 32,768 bytes; behind the last only blanks.
pub data RunOf (Is : Posology → Tree → Type 0) : ℕ → List ℕ → List Ended → Type 0 where
  only_blanks : {from : ℕ} {s : List ℕ} → Blanks s [] → RunOf Is from s []
  text_then : {from : ℕ} {p : Posology} {t : Tree} {s r : List ℕ} {es : List Ended}
      → Is p t → Leading t s r → place_in s r ≤ text_at_most → RunOf Is (from + place_in s r) r es → RunOf Is from s (ended p (from + place_in s r) ∷ es)

-- The tree that the plain text spells, but for the order of members in any object.
abbrev pub Reorders : Posology → Tree → Type 0
Reorders p t = (u : Tree) × Text u (plain p) × Reordered u t

-- A tree that means the posology, as what is accepted in demand 2.
abbrev pub Says : Posology → Tree → Type 0
Says p t = (depth t ≤ open_at_most) × Means t p
