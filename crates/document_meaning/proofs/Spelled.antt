-- A text is taken as what it spells.
use mathlib.Core.Path.{◌≡◌, ap, sym, subst, ◌∙◌}
use mathlib.Core.List.{List}
use Prim.Native.Nat.{ℕ, ◌≤◌}
use native.Mathlib.Omega.{arith}
use lib.ListN.{length}
use Rattle.json_grammar.specs.Tree.{place_in, Tree}
use Rattle.json_move.specs.Read.{tree_of}
use Rattle.json_grammar.specs.Grammar.{Text}
use Rattle.json_laws.specs.Depth.{depth}
use Rattle.json_laws.specs.Leading.{Leading}
use Rattle.json_laws.proofs.Spells as J
use Rattle.document.specs.Posology.{Posology}
use Rattle.document.specs.Visit.{done, visit}
use Rattle.document.specs.Valid.{Valid, Fits}
use Rattle.document.specs.Spells.{Spells, Means, open_at_most}
use Rattle.document.specs.Answer.{taken, read, text_at_most, taken_to, read_next}
use Rattle.document_meaning.proofs.Texts.{read_taken, taken_read}
use Rattle.document_meaning.proofs.NextTexts.{next_taken, taken_next}
use Rattle.document_meaning.proofs.Accepts.{taken_means, means_taken}
use Rattle.document_meaning.proofs.Utf8Texts.{text_utf8, leading_utf8}
use Rattle.document_meaning.proofs.OneMeaning.{means_one}
use Rattle.document_meaning.proofs.Reorder.{visit_reordered}
use Rattle.document_meaning.proofs.Moves.{reordered_depth}
use Rattle.document.specs.Same.{Reordered}
use Rattle.document.specs.declared.terms.Terms.{Terms}

pub accepted_spells : (terms : Terms) (text : List ℕ) (p : Posology) → read terms text ≡ taken p → (length text ≤ text_at_most) × Valid terms.purpose p × Spells text p × Fits terms.room p
accepted_spells terms text p e =
    let t = read_taken terms text p e in
    let j = J.sound t.walked in
    let m = taken_means (tree_of text) (text_utf8 j.0) terms p t.state t.is in
    (t.short, (t.for_use, m.1), (tree_of text, j.0, j.3, m.0), m.2)

pub spelled_accepted : (terms : Terms) (text : List ℕ) (p : Posology) → length text ≤ text_at_most → Valid terms.purpose p → Spells text p → Fits terms.room p → read terms text ≡ taken p
spelled_accepted terms text p short v s f =
    let c = J.complete s.1 s.2 in
    let k = means_taken s.0 terms p s.3 v.1 f in
    taken_read terms text p (record { for_use = v.0; short = short; rest = c.0; walked = c.3; state = k.0; is = ap (λ (t : Tree). visit terms t) c.4 ∙ k.1 })

-- So is the first text of a run.
pub next_spells : (terms : Terms) (run : List ℕ) (p : Posology) (e : ℕ) → read_next terms run ≡ taken_to p e
    → Valid terms.purpose p × Fits terms.room p × (t : Tree) × (r : List ℕ) × Leading t run r × (depth t ≤ open_at_most) × Means t p × (place_in run r ≡ e) × (e ≤ text_at_most)
next_spells terms run p e h =
    let k = next_taken terms run p e h in
    let j = J.run_sound k.walked in
    let m = taken_means (tree_of run) (leading_utf8 j.0) terms p k.state k.is in
    ((k.for_use, m.1), m.2, tree_of run, k.rest, j.0, j.1, m.0, k.ends, k.near)

pub spelled_next : (terms : Terms) {run r : List ℕ} {t : Tree} (p : Posology) (e : ℕ)
    → Valid terms.purpose p → Fits terms.room p → Leading t run r → depth t ≤ open_at_most → Means t p → place_in run r ≡ e → e ≤ text_at_most → read_next terms run ≡ taken_to p e
spelled_next terms {run} {r} {t} p e v f b d m ends near =
    let k = means_taken t terms p m v.1 f in
    taken_next terms run t r p k.0 v.0 b d (omega arith) k.1 ∙ ap (taken_to p) ends

pub one_posology : (text : List ℕ) (p q : Posology) → Spells text p → Spells text q → p ≡ q
one_posology text p q a b = means_one a.0 p q a.3 (subst (λ (t : Tree). Means t q) (sym (J.one_tree a.1 b.1)) b.3)

-- A text whose tree is a reordered one.
pub reordered_taken : (terms : Terms) {s s' : List ℕ} {t t' : Tree} (p : Posology) → Text t s → Text t' s' → Reordered t t' → length s' ≤ text_at_most → read terms s ≡ taken p → read terms s' ≡ taken p
reordered_taken terms {s} {s'} {t} {t'} p a b r h e =
    let k = read_taken terms s p e in
    let j = J.sound k.walked in
    let same : tree_of s ≡ t = J.one_tree j.0 a in
    let shallow : depth t' ≤ 20 = subst (λ (n : ℕ). n ≤ 20) (ap depth same ∙ reordered_depth r) j.3 in
    let c = J.complete b shallow in
    let v = visit_reordered r terms (subst (λ (u : Tree). visit terms u ≡ done p k.state) same k.is) in
    taken_read terms s' p (record { for_use = k.for_use; short = h; rest = c.0; walked = c.3; state = v.state; is = ap (λ (u : Tree). visit terms u) c.4 ∙ v.is })
