-- Demand 3: runs come back; the order of members and the blanks between tokens say nothing.
use mathlib.Core.Path.{◌≡◌, ap, ◌∙◌, sym}
use mathlib.Core.List.{List, ◌++◌}
use mathlib.Core.Bool.{true}
use mathlib.Core.Option.{some}
use mathlib.Core.Logic.{◌↔◌}
use Prim.Native.Nat.{ℕ, suc, ◌≤◌}
use native.Mathlib.Omega.{arith}
use lib.ListN.{length}
use Rattle.json_grammar.specs.Tree.{place_in, Tree}
use Rattle.json_grammar.specs.Grammar.{Text}
use Rattle.json_laws.specs.Depth.{depth}
use Rattle.json_laws.specs.Leading.{Leading}
use Rattle.document.specs.Posology.{Posology}
use Rattle.document.specs.Plain.{plain}
use Rattle.document.specs.Valid.{Valid, Fits, is_use}
use Rattle.document.specs.Spells.{Means, open_at_most}
use Rattle.document.specs.Same.{Reordered, unplaced}
use Rattle.document.specs.Answer.{taken, read, text_at_most, taken_to, read_next}
use Rattle.document.specs.Write.{greatest_room}
use Rattle.document.specs.Length.{greatest_length}
use Rattle.document.specs.declared.terms.Terms.{Terms}
use Rattle.document_meaning.proofs.Spelled.{reordered_taken, next_spells, spelled_next}
use Rattle.document_meaning.proofs.Moves.{moved}
use Rattle.document_meaning.proofs.NextTexts.{reordered_next}
use Rattle.document_meaning.proofs.PlainThen.{plain_then_lem}
use Rattle.document_meaning.proofs.PlainTexts.{plain_next}
use Rattle.demands.specs.Runs.{write_all, plain_texts, Ended, posologies, read_all, endings, AllValid, AllWithin, RunOf, Reorders, Says}
use Rattle.demands.proofs.WholeRuns.{run_read, run_made, takes_spelled}
use Rattle.demands.proofs.PlainRuns.{takes_reordered, texts_run, texts_read, texts_one}
use Rattle.demands.proofs.WrittenRuns.{texts_written, written_texts, all_within}

-- Posologies written one after another come back, one by one, each ending at its own last byte.
pub written_comes_back : (terms : Terms) (buffer : ℕ) (ps : List Posology) (run : List ℕ)
    → is_use terms.purpose ≡ true → AllValid terms ps → write_all terms.purpose buffer ps ≡ some run → read_all terms run ≡ some (endings 0 ps)
written_comes_back terms buffer ps run u v e = ap (read_all terms) (sym (written_texts terms buffer run v e)) ∙ texts_read terms u v

-- No other list is written to the same bytes.
pub written_is_one : (terms : Terms) (buffer other : ℕ) (ps qs : List Posology) (run : List ℕ)
    → is_use terms.purpose ≡ true → AllValid terms ps → AllValid terms qs → write_all terms.purpose buffer ps ≡ some run → write_all terms.purpose other qs ≡ some run → ps ≡ qs
written_is_one terms buffer other ps qs run u v w e f =
    texts_one terms ps qs u v w (written_texts terms buffer run v e ∙ sym (written_texts terms other run w f))

-- They are written where the buffer holds each, so always in one of 20,736 bytes; what is written is their plain texts, one behind the other.
pub run_is_written : (terms : Terms) (buffer : ℕ) (ps : List Posology) → AllValid terms ps → AllWithin buffer ps → write_all terms.purpose buffer ps ≡ some (plain_texts ps)
run_is_written terms buffer ps v h = texts_written terms buffer v h

pub run_is_written_in_20736 : (terms : Terms) (ps : List Posology) → AllValid terms ps → write_all terms.purpose greatest_length ps ≡ some (plain_texts ps)
run_is_written_in_20736 terms ps v = texts_written terms greatest_length v (all_within terms v)

-- The same of the plain texts, whoever laid them.
pub run_comes_back : (terms : Terms) (ps : List Posology) → is_use terms.purpose ≡ true → AllValid terms ps → read_all terms (plain_texts ps) ≡ some (endings 0 ps)
run_comes_back terms ps u v = texts_read terms u v

pub run_is_one : (terms : Terms) (ps qs : List Posology) → is_use terms.purpose ≡ true → AllValid terms ps → AllValid terms qs → plain_texts ps ≡ plain_texts qs → ps ≡ qs
run_is_one terms ps qs u v w e = texts_one terms ps qs u v w e

-- With anything behind it, also what is no text, a plain text ends at its own last byte.
pub first_ends_at_its_last_byte : (terms : Terms) (p : Posology) (behind : List ℕ)
    → Valid terms.purpose p → Fits greatest_room p → Fits terms.room p → read_next terms (plain p ++ behind) ≡ taken_to p (length (plain p))
first_ends_at_its_last_byte terms p behind v f g = ap (read_next terms) (sym (plain_then_lem p behind)) ∙ plain_next terms p behind v f g

-- Members in another order, in any object at any depth: the same posology, so the same table and strings.
pub reordered_same : (terms : Terms) {s s' : List ℕ} {t t' : Tree} (p : Posology)
    → Text t s → Text t' s' → Reordered t t' → length s' ≤ text_at_most → read terms s ≡ taken p → read terms s' ≡ taken p
reordered_same terms p a b r h e = reordered_taken terms p a b r h e

-- Blanks elsewhere between the tokens: the same.
pub blanks_same : (terms : Terms) {s s' : List ℕ} {t t' : Tree} (p : Posology)
    → Text t s → Text t' s' → unplaced t ≡ unplaced t' → length s' ≤ text_at_most → read terms s ≡ taken p → read terms s' ≡ taken p
blanks_same terms {t = t} {t' = t'} p a b r h e = reordered_taken terms p a b (moved t t' r) h e

-- The same for the first text of a run, with blanks before it and anything behind it, if it ends in the first 32,768 bytes: r' is what follows, so it ends at its own last byte.
pub reordered_same_in_run : (terms : Terms) {run run' r r' : List ℕ} {t t' : Tree} (p : Posology) (e : ℕ) → Leading t run r → Leading t' run' r'
    → Reordered t t' → place_in run' r' ≤ text_at_most → read_next terms run ≡ taken_to p e → read_next terms run' ≡ taken_to p (place_in run' r')
reordered_same_in_run terms p e a b o near h = reordered_next terms p e a b near o h

pub blanks_same_in_run : (terms : Terms) {run run' r r' : List ℕ} {t t' : Tree} (p : Posology) (e : ℕ) → Leading t run r → Leading t' run' r'
    → unplaced t ≡ unplaced t' → place_in run' r' ≤ text_at_most → read_next terms run ≡ taken_to p e → read_next terms run' ≡ taken_to p (place_in run' r')
blanks_same_in_run terms {t = t} {t' = t'} p e a b u near h = reordered_next terms p e a b near (moved t t' u) h

-- And for a whole run: a text for each posology, its members in any order at any depth, blanks before it, in it and behind the last, none past 32,768 bytes.
pub whole_run_comes_back : (terms : Terms) (run : List ℕ) (es : List Ended)
    → is_use terms.purpose ≡ true → AllValid terms (posologies es) → RunOf Reorders 0 run es → read_all terms run ≡ some es
whole_run_comes_back terms run es u v h = run_read Reorders terms u (takes_reordered terms) (length run) h v (omega arith)

-- The plain texts are such a run.
pub plain_run : (terms : Terms) (ps : List Posology) → AllValid terms ps → RunOf Reorders 0 (plain_texts ps) (endings 0 ps)
plain_run terms ps v = texts_run terms 0 v

-- Over demand 2's meaning of a text: the first posology of a run is taken exactly when the run begins with a text that spells it, valid and with strings that fit,
-- and to that text's end.
pub first_iff_spells : (terms : Terms) (run : List ℕ) (p : Posology) (e : ℕ) → (read_next terms run ≡ taken_to p e)
    ↔ (Valid terms.purpose p × Fits terms.room p × (t : Tree) × (r : List ℕ) × Leading t run r × (depth t ≤ open_at_most) × Means t p × (place_in run r ≡ e) × (e ≤ text_at_most))
first_iff_spells terms run p e = (next_spells terms run p e, λ h. spelled_next terms p e h.0 h.1 h.4 h.5 h.6 h.7 h.8)

-- A run is read to its end exactly when it has such a text for each posology, one behind the other, and only blanks behind the last.
pub run_iff_spells : (terms : Terms) (run : List ℕ) (es : List Ended) → is_use terms.purpose ≡ true → terms.room ≤ greatest_room
    → (read_all terms run ≡ some es) ↔ (AllValid terms (posologies es) × RunOf Says 0 run es)
run_iff_spells terms run es u small =
    (run_made terms small (suc (length run)) 0 run es, λ h. run_read Says terms u (takes_spelled terms) (length run) h.1 h.0 (omega arith))
