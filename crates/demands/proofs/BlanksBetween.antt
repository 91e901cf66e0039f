-- Demand 3, on the bytes: the blanks between tokens say nothing ("JSON is RFC 8259; blanks are its four whitespace bytes").
-- Two texts are the same but for blanks outside strings when their bare bytes are the same.
use mathlib.Core.Path.{◌≡◌, sym, ap, ◌∙◌}
use mathlib.Core.List.{List, ◌∷◌, ◌++◌}
use mathlib.Core.Bool.{true}
use mathlib.Core.Logic.{◌↔◌}
use Prim.Native.Nat.{ℕ, ◌≤◌}
use lib.ListN.{length, drop}
use Rattle.json_grammar.specs.Byte.{is_blank}
use Rattle.json_grammar.specs.Tree.{Tree}
use Rattle.json_grammar.specs.Grammar.{Text}
use Rattle.json_laws.proofs.Spells.{one_tree, sound}
use Rattle.document.specs.Posology.{Posology}
use Rattle.document.specs.Same.{unplaced}
use Rattle.document.specs.Answer.{text_at_most, taken, read, taken_to, read_next}
use Rattle.document.specs.declared.terms.Terms.{Terms}
use Rattle.document_meaning.proofs.Texts.{read_taken}
use Rattle.document_meaning.proofs.Spelled.{reordered_taken}
use Rattle.document_meaning.proofs.Moves.{moved}
use Rattle.demands.specs.Blanks.{bare, whole, between}
use Rattle.demands.proofs.BareAgain.{bare_again, bare_whole}
use Rattle.demands.proofs.WholeTexts.{text_whole}
use Rattle.demands.proofs.Respaced.{respaced_text}
use Rattle.demands.proofs.BlankPut.{blank_put}
use Rattle.demands.proofs.RespacedRuns.{respaced_next}

-- The bare bytes of a text are a text, with the same tree but for places.
pub bare_spells : {t : Tree} {s : List ℕ} → Text t s → (u : Tree) × Text u (bare s) × (unplaced u ≡ unplaced t)
bare_spells {s = s} x = respaced_text x (bare s) (sym (bare_again s)) (bare_whole s)

-- So are other bytes with the bare bytes of a text exactly when blanks part no number and no word in them.
pub respaced_spells : {t : Tree} {s : List ℕ} (s' : List ℕ) → Text t s → bare s ≡ bare s' → ((u : Tree) × Text u s' × (unplaced u ≡ unplaced t)) ↔ (whole s' ≡ true)
respaced_spells s' x e = (λ h. text_whole h.1, λ w. respaced_text x s' e w)

-- Texts with the same bare bytes have the same tree, but for places.
pub bare_one : {t t' : Tree} {s s' : List ℕ} → Text t s → Text t' s' → bare s ≡ bare s' → unplaced t ≡ unplaced t'
bare_one {s' = s'} x y e = let h = respaced_text x s' e (text_whole y) in sym h.2 ∙ ap unplaced (one_tree h.1 y)

-- And they are read alike.
pub bare_same : (terms : Terms) {s s' : List ℕ} {t t' : Tree} (p : Posology) → Text t s → Text t' s' → bare s ≡ bare s' → length s' ≤ text_at_most
    → read terms s ≡ taken p → read terms s' ≡ taken p
bare_same terms {t = t} {t' = t'} p x y e h r = reordered_taken terms p x y (moved t t' (bare_one x y e)) h r

-- A text that is taken is taken as the same with blanks elsewhere between its tokens: none between two bytes of a number or of a word.
pub respaced_same : (terms : Terms) (s s' : List ℕ) (p : Posology) → bare s ≡ bare s' → whole s' ≡ true → length s' ≤ text_at_most → read terms s ≡ taken p
    → read terms s' ≡ taken p
respaced_same terms s s' p e w h r =
    let x = (sound (read_taken terms s p r).walked).0 in
    bare_same terms p x (respaced_text x s' e w).1 e h r

-- And with one blank put between two tokens.
pub blank_spells : {t : Tree} (u v : List ℕ) (b : ℕ) → is_blank b ≡ true → between u v ≡ true → Text t (u ++ v) → (t' : Tree) × Text t' (u ++ (b ∷ v)) × (unplaced t' ≡ unplaced t)
blank_spells u v b is m x = let h = blank_put b v is u m (text_whole x) in respaced_text x (u ++ (b ∷ v)) h.0 h.1

pub blank_same : (terms : Terms) (u v : List ℕ) (b : ℕ) (p : Posology) → is_blank b ≡ true → between u v ≡ true → length (u ++ (b ∷ v)) ≤ text_at_most
    → read terms (u ++ v) ≡ taken p → read terms (u ++ (b ∷ v)) ≡ taken p
blank_same terms u v b p is m h r =
    let x = (sound (read_taken terms (u ++ v) p r).walked).0 in
    let k = blank_put b v is u m (text_whole x) in
    respaced_same terms (u ++ v) (u ++ (b ∷ v)) p k.0 k.1 h r

-- The first text of a run, with blanks elsewhere between the tokens of the run: it is taken as the same, if it ends in the first 32,768 bytes,
-- and what is behind it is again the same but for blanks between tokens.
pub respaced_same_in_run : (terms : Terms) (run run' : List ℕ) (p : Posology) (e : ℕ) → bare run ≡ bare run' → whole run' ≡ true → read_next terms run ≡ taken_to p e
    → (e' : ℕ) × (e' ≤ text_at_most → read_next terms run' ≡ taken_to p e') × (bare (drop e run) ≡ bare (drop e' run')) × (whole (drop e' run') ≡ true)
respaced_same_in_run terms run run' p e s w h = let k = respaced_next terms run run' p e s w h in (k.0, k.1.taken, k.1.same, k.1.unparted)
