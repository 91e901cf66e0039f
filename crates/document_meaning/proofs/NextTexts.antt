-- The cases of a run's answer, and the first text of a run reordered.
use mathlib.Core.Path.{◌≡◌, refl, ap, sym, subst, ◌∙◌}
use mathlib.Core.List.{List, [], ◌∷◌, ◌++◌}
use mathlib.Core.Bool.{Bool, true, false, cond, ◌||◌}
use Prim.Native.Nat.{ℕ, ◌-◌, ◌≤◌}
use native.Mathlib.Omega.{arith}
use lib.Dec.{leb, ltb}
use lib.ListN.{length, drop, length-append}
use lib.Seq.{drop_at}
use borrow.Author.Tests.{leb-true, le-leb}
use Rattle.json_grammar.specs.Rows.{choose}
use Rattle.json_grammar.specs.Byte.{blanked}
use Rattle.json_grammar.specs.Tree.{Place, place_in, Tree}
use Rattle.json_grammar.specs.Grammar as G
use Rattle.json_grammar.specs.Walk.{Walked, end, refused2, refused3, first_object}
use Rattle.json_move.specs.Read.{tree_of}
use Rattle.json_laws.specs.Depth.{depth}
use Rattle.json_laws.specs.Leading.{Leading, leading}
use Rattle.json_laws.proofs.Spells as J
use Rattle.json_laws.proofs.Shorter.{to_sharp, value_sharp}
use Rattle.json_laws.proofs.Shortest.{taken_text}
use Rattle.document.specs.Posology.{Posology}
use Rattle.document.specs.Same.{Reordered}
use Rattle.document.specs.Visit.{State, Outcome, done, refuse, visit}
use Rattle.document.specs.Valid.{is_use}
use Rattle.document.specs.Answer.{visited, read_walked, taken_to, blank_to, refused_at, up_to, not_ended, next_walked, next_begun, read_next, text_at_most}
use Rattle.document.specs.declared.terms.Terms.{Terms}
use Rattle.document_meaning.proofs.Reorder.{visit_reordered}
use Rattle.document_meaning.proofs.Moves.{reordered_depth}
use Rattle.json_grammar.proofs.Truth.{choose_true, never}

pub record NextTaken (terms : Terms) (run : List ℕ) (p : Posology) (e : ℕ) : Type 0 where
  pub for_use : is_use terms.purpose ≡ true
  pub rest : Place
  pub walked : first_object run ≡ end rest
  pub ends : place_in run rest ≡ e
  pub near : e ≤ text_at_most
  pub state : State
  pub is : visit terms (tree_of run) ≡ done p state

refused_not_taken : {A : Type 0} (n place e : ℕ) (p : Posology) → refused_at n place ≡ taken_to p e → A
refused_not_taken n place e p h = never (cc h)

blank_not_taken : {A : Type 0} (n e : ℕ) (p : Posology) → blank_to n ≡ taken_to p e → A
blank_not_taken n e p h = never (cc h)

up_taken : (run : List ℕ) (o : Outcome Posology) (at e : ℕ) (p : Posology) → up_to at (visited run o) ≡ taken_to p e → (at ≡ e) × ((l : State) × (o ≡ done p l))
up_taken run (done q l) at e p h = let a : at ≡ e = cc h in let b : q ≡ p = cc h in (a, (l, ap (λ (x : Posology). done x l) b))
up_taken run (refuse n q) at e p h = refused_not_taken n (place_in run q) e p h

not_ended_lem : {A : Type 0} (n : ℕ) (run : List ℕ) (place e : ℕ) (p : Posology) → not_ended n run place ≡ taken_to p e → A
not_ended_lem {A} n run place e p h = go (leb (length run) text_at_most || ltb place text_at_most) h
  where
    go : (b : Bool) → cond b (refused_at n place) (refused_at 1 text_at_most) ≡ taken_to p e → A
    go true g = refused_not_taken n place e p g
    go false g = refused_not_taken 1 text_at_most e p g

walked_taken : (terms : Terms) (run : List ℕ) (w : Walked) (p : Posology) (e : ℕ) → first_object run ≡ w → is_use terms.purpose ≡ true → next_walked terms run w ≡ taken_to p e → NextTaken terms run p e
walked_taken terms run (end r) p e f u h = go (leb (place_in run r) text_at_most) refl h
  where
    go : (b : Bool) → leb (place_in run r) text_at_most ≡ b → choose b (λ _. up_to (place_in run r) (read_walked terms run)) (λ _. refused_at 1 text_at_most) ≡ taken_to p e → NextTaken terms run p e
    go true k g =
        let t = up_taken run (visit terms (tree_of run)) (place_in run r) e p g in
        record { for_use = u; rest = r; walked = f; ends = t.0; near = subst (λ (n : ℕ). n ≤ text_at_most) t.0 (leb-true (place_in run r) text_at_most k); state = t.1.0; is = t.1.1 }
    go false k g = refused_not_taken 1 text_at_most e p g
walked_taken terms run (refused2 q) p e f u h = not_ended_lem 2 run (place_in run q) e p h
walked_taken terms run (refused3 q) p e f u h = not_ended_lem 3 run (place_in run q) e p h

begun_taken : (terms : Terms) (run b : List ℕ) (p : Posology) (e : ℕ) → is_use terms.purpose ≡ true → next_begun terms run b ≡ taken_to p e → NextTaken terms run p e
begun_taken terms run [] p e u h = blank_not_taken (length run) e p h
begun_taken terms run (b ∷ s) p e u h = walked_taken terms run (first_object run) p e refl u h

pub next_taken : (terms : Terms) (run : List ℕ) (p : Posology) (e : ℕ) → read_next terms run ≡ taken_to p e → NextTaken terms run p e
unfolding read_next
next_taken terms run p e h = go (is_use terms.purpose) refl h
  where
    go : (b : Bool) → is_use terms.purpose ≡ b → choose b (λ _. next_begun terms run (blanked run)) (λ _. refused_at 17 0) ≡ taken_to p e → NextTaken terms run p e
    go true u g = begun_taken terms run (blanked run) p e u g
    go false u g = refused_not_taken 17 0 e p g

-- A run that begins with an object is not all blanks.
begins_with : {t : Tree} {run r : List ℕ} → Leading t run r → (s : List ℕ) × (blanked run ≡ 123 ∷ s)
begins_with (leading b (G.an_empty_object {s = s} c)) = (s, to_sharp b (value_sharp (G.an_empty_object c)))
begins_with (leading b (G.an_object {s = s} c n)) = (s, to_sharp b (value_sharp (G.an_object c n)))

pub taken_next : (terms : Terms) (run : List ℕ) (t : Tree) (r : List ℕ) (p : Posology) (l : State) → is_use terms.purpose ≡ true → Leading t run r → depth t ≤ 20 → place_in run r ≤ text_at_most → visit terms t ≡ done p l → read_next terms run ≡ taken_to p (place_in run r)
unfolding read_next
taken_next terms run t r p l u b d near v =
    let j = J.run_complete b d in
    let c = begins_with b in
    choose_true (is_use terms.purpose) _ _ u
    ∙ ap (λ (s : List ℕ). next_begun terms run s) c.1
    ∙ ap (λ (w : Walked). next_walked terms run w) j.0
    ∙ choose_true (leb (place_in run r) text_at_most) _ _ (le-leb (place_in run r) text_at_most near)
    ∙ ap (λ (k : Tree). up_to (place_in run r) (visited run (visit terms k))) j.1
    ∙ ap (λ (o : Outcome Posology). up_to (place_in run r) (visited run o)) v

behind_place : (w r : List ℕ) → drop (place_in (w ++ r) r) (w ++ r) ≡ r
behind_place w r =
    let e : length (w ++ r) - length r ≡ length w = omega (arith, length-append w r) in
    drop_at w r (length (w ++ r) - length r) (sym e)

pub behind_leading : {t : Tree} {run r : List ℕ} → Leading t run r → depth t ≤ 20 → drop (place_in run r) run ≡ r
behind_leading {run = run} {r = r} b d =
    let w = taken_text (J.run_complete b d).0 in
    subst (λ (s : List ℕ). drop (place_in s r) s ≡ r) (sym w.1) (behind_place w.0 r)

-- What follows the text that was taken.
pub behind_next : (terms : Terms) {run r : List ℕ} {t : Tree} (p : Posology) (e : ℕ) → Leading t run r → read_next terms run ≡ taken_to p e → drop e run ≡ r
behind_next terms {run} p e a h =
    let k = next_taken terms run p e h in
    let j = J.run_sound k.walked in
    ap (λ (n : ℕ). drop n run) (sym k.ends) ∙ behind_leading j.0 j.1 ∙ (J.one_leading j.0 a).1

pub reordered_next : (terms : Terms) {run run' r r' : List ℕ} {t t' : Tree} (p : Posology) (e : ℕ) → Leading t run r → Leading t' run' r'
    → place_in run' r' ≤ text_at_most → Reordered t t' → read_next terms run ≡ taken_to p e → read_next terms run' ≡ taken_to p (place_in run' r')
reordered_next terms {run} {run'} {r} {r'} {t} {t'} p e a b near o h =
    let k = next_taken terms run p e h in
    let j = J.run_sound k.walked in
    let same : tree_of run ≡ t = (J.one_leading j.0 a).0 in
    let shallow : depth t' ≤ 20 = subst (λ (n : ℕ). n ≤ 20) (ap depth same ∙ reordered_depth o) j.1 in
    let v = visit_reordered o terms (subst (λ (u : Tree). visit terms u ≡ done p k.state) same k.is) in
    taken_next terms run' t' r' p v.state k.for_use b shallow near v.is
