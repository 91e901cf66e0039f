-- Plain texts read back, alone and one behind the other.
use mathlib.Core.Path.{◌≡◌, ap, subst, ◌∙◌}
use mathlib.Core.List.{List, []}
use mathlib.Core.Bool.{true}
use Prim.Native.Nat.{ℕ, ◌≤◌}
use native.Mathlib.Omega.{arith}
use lib.ListN.{length, length-append}
use Rattle.json_grammar.specs.Tree.{place_in, Tree, object}
use Rattle.json_grammar.specs.Grammar as G
use Rattle.json_grammar.specs.Grammar.{Text}
use Rattle.json_laws.specs.Depth.{depth}
use Rattle.json_laws.specs.Leading.{Leading, leading}
use Rattle.json_laws.proofs.Trees.{leading_text}
use Rattle.json_laws.proofs.Spells as J
use Rattle.document.specs.Posology.{Posology}
use Rattle.document.specs.Same.{Reordered, an_object}
use Rattle.document.specs.Visit.{State, done, visit}
use Rattle.document.specs.Valid.{Valid, Fits, valid}
use Rattle.document.specs.Spell.{spell}
use Rattle.document.specs.Plain.{plain, plain_then, plain_tree, members_of, head_slots}
use Rattle.document.specs.Answer.{taken, read, text_at_most, taken_to, read_next}
use Rattle.document.specs.Write.{greatest_room}
use Rattle.document.specs.declared.terms.Terms.{Terms}
use Rattle.document_meaning.proofs.Accepts.{means_taken}
use Rattle.document_meaning.proofs.Reorder.{visit_reordered}
use Rattle.document_meaning.proofs.PlainHead.{plain_means}
use Rattle.document_meaning.proofs.PlainDepth.{plain_depth}
use Rattle.document_meaning.proofs.PlainSpells.{spelled_object}
use Rattle.document_meaning.proofs.PlainSpellable.{plain_spellable}
use Rattle.document_meaning.proofs.Lengths.{plain_at_most}
use Rattle.document_meaning.proofs.PlainThen.{plain_then_lem}
use Rattle.document_meaning.proofs.Moves.{reordered_depth, reordered_then, reordered_back}
use Rattle.document_meaning.proofs.Texts.{taken_read}
use Rattle.document_meaning.proofs.NextTexts.{taken_next}

-- A plain text is a spelling of its plain tree, with anything behind it.
pub plain_leading : (purpose : ℕ) (p : Posology) (k : List ℕ) → valid purpose p ≡ true → (t : Tree) × Leading t (plain_then p k) k × Reordered (plain_tree p) t
unfolding plain_then plain_tree spell
plain_leading purpose p k v =
    let o = spelled_object (members_of (head_slots p)) k (plain_spellable purpose p v) in
    (object o.0 o.1, leading G.here o.2, an_object o.3)

-- It is short.
pub plain_short : (purpose : ℕ) (p : Posology) (k : List ℕ) → valid purpose p ≡ true → Fits greatest_room p → place_in (plain_then p k) k ≤ text_at_most
plain_short purpose p k v f = let a = plain_at_most purpose p k v f in omega arith

-- In front of k it ends at its own last byte.
pub plain_place : (p : Posology) (k : List ℕ) → place_in (plain_then p k) k ≡ length (plain p)
plain_place p k = let a = ap length (plain_then_lem p k) in omega (arith, length-append (plain p) k)

-- Its tree, and any reordered one, is not deep and is visited to its posology.
plain_visited : (terms : Terms) {t : Tree} (p : Posology) → valid terms.purpose p ≡ true → Fits terms.room p → Reordered (plain_tree p) t → (depth t ≤ 20) × (l : State) × (visit terms t ≡ done p l)
plain_visited terms p v f o =
    let m = means_taken (plain_tree p) terms p (plain_means terms.purpose p v) v f in
    let d = reordered_depth o in
    let e = plain_depth terms.purpose p v in
    let r = visit_reordered o terms m.1 in
    (omega arith, r.state, r.is)

pub plain_reads : (terms : Terms) (p : Posology) → Valid terms.purpose p → Fits greatest_room p → Fits terms.room p → read terms (plain p) ≡ taken p
plain_reads terms p v f g =
    let t = plain_leading terms.purpose p [] v.1 in
    let m = plain_visited terms p v.1 g t.2 in
    let s = plain_short terms.purpose p [] v.1 f in
    let c = J.complete (leading_text t.1 G.here) m.0 in
    taken_read terms (plain p) p (record { for_use = v.0; short = omega arith; rest = c.0; walked = c.3; state = m.1; is = ap (λ (u : Tree). visit terms u) c.4 ∙ m.2 })

-- At the beginning of a run.
tree_next : (terms : Terms) {s r : List ℕ} {t : Tree} (p : Posology)
    → Valid terms.purpose p → Fits terms.room p → Reordered (plain_tree p) t → Leading t s r → place_in s r ≤ text_at_most → read_next terms s ≡ taken_to p (place_in s r)
tree_next terms {s} {r} {t} p v g o b near = let m = plain_visited terms p v.1 g o in taken_next terms s t r p m.1 v.0 b m.0 near m.2

pub plain_next : (terms : Terms) (p : Posology) (k : List ℕ)
    → Valid terms.purpose p → Fits greatest_room p → Fits terms.room p → read_next terms (plain_then p k) ≡ taken_to p (length (plain p))
plain_next terms p k v f g =
    let t = plain_leading terms.purpose p k v.1 in
    tree_next terms p v g t.2 t.1 (plain_short terms.purpose p k v.1 f) ∙ ap (taken_to p) (plain_place p k)

-- Any spelling of a tree that is a reordered one of what the plain text spells.
pub reordered_plain_next : (terms : Terms) {s r : List ℕ} {u t : Tree} (p : Posology)
    → Valid terms.purpose p → Fits terms.room p → Text u (plain p) → Reordered u t → Leading t s r → place_in s r ≤ text_at_most → read_next terms s ≡ taken_to p (place_in s r)
reordered_plain_next terms {u = u} p v g x o b near =
    let l = plain_leading terms.purpose p [] v.1 in
    let same : l.0 ≡ u = J.one_tree (leading_text l.1 G.here) x in
    tree_next terms p v g (reordered_then (subst (λ (w : Tree). Reordered (plain_tree p) w) same l.2) o) b near

-- So is what the plain text itself spells in front of k: the places differ.
pub plain_spells : (purpose : ℕ) (p : Posology) (k : List ℕ)
    → valid purpose p ≡ true → (u : Tree) × (t : Tree) × Text u (plain p) × Reordered u t × Leading t (plain_then p k) k
plain_spells purpose p k v =
    let a = plain_leading purpose p [] v in
    let b = plain_leading purpose p k v in
    (a.0, b.0, leading_text a.1 G.here, reordered_then (reordered_back a.2) b.2, b.1)
