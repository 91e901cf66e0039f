-- An answer's cases: what a text or a run that is taken was walked and visited to, and back.
use mathlib.Core.Path.{◌≡◌, refl, ap, ◌∙◌}
use mathlib.Core.List.{List}
use mathlib.Core.Bool.{Bool, true, false}
use Prim.Native.Nat.{ℕ, ◌≤◌}
use lib.Dec.{leb}
use lib.ListN.{length}
use borrow.Author.Tests.{leb-true, le-leb}
use Rattle.json_grammar.specs.Rows.{choose}
use Rattle.json_grammar.specs.Tree.{Place}
use Rattle.json_grammar.specs.Walk.{Walked, end, refused2, refused3, one_object}
use Rattle.json_move.specs.Read.{tree_of}
use Rattle.document.specs.Posology.{Posology}
use Rattle.document.specs.Visit.{State, Outcome, done, refuse, visit}
use Rattle.document.specs.Valid.{is_use}
use Rattle.document.specs.Answer.{taken, refused, visited, after_walk, read, text_at_most}
use Rattle.document.specs.declared.terms.Terms.{Terms}
use Rattle.json_grammar.proofs.Truth.{choose_true, never}

pub refused_not_taken : {A : Type 0} {n place : ℕ} {p : Posology} → refused n place ≡ taken p → A
refused_not_taken e = never (cc e)

pub taken_same : {p q : Posology} → taken p ≡ taken q → p ≡ q
taken_same e = cc e

visited_taken : (text : List ℕ) (o : Outcome Posology) (p : Posology) → visited text o ≡ taken p → (l : State) × (o ≡ done p l)
visited_taken text (done q l) p e = (l, ap (λ (x : Posology). done x l) (taken_same e))
visited_taken text (refuse n q) p e = refused_not_taken e

pub record Taken (terms : Terms) (text : List ℕ) (p : Posology) : Type 0 where
  pub for_use : is_use terms.purpose ≡ true
  pub short : length text ≤ text_at_most
  pub rest : Place
  pub walked : one_object text ≡ end rest
  pub state : State
  pub is : visit terms (tree_of text) ≡ done p state

after_taken : (terms : Terms) (text : List ℕ) (w : Walked) (p : Posology) → one_object text ≡ w → is_use terms.purpose ≡ true → length text ≤ text_at_most → after_walk terms text w ≡ taken p → Taken terms text p
after_taken terms text (end r) p e u s h = let v = visited_taken text (visit terms (tree_of text)) p h in record { for_use = u; short = s; rest = r; walked = e; state = v.0; is = v.1 }
after_taken terms text (refused2 q) p e u s h = refused_not_taken h
after_taken terms text (refused3 q) p e u s h = refused_not_taken h

pub read_taken : (terms : Terms) (text : List ℕ) (p : Posology) → read terms text ≡ taken p → Taken terms text p
unfolding read
read_taken terms text p h = go (is_use terms.purpose) (leb (length text) text_at_most) refl refl h
  where
    go : (a b : Bool) → is_use terms.purpose ≡ a → leb (length text) text_at_most ≡ b → choose a (λ _. choose b (λ _. after_walk terms text (one_object text)) λ _. refused 1 text_at_most) (λ _. refused 17 0) ≡ taken p → Taken terms text p
    go true true e f g = after_taken terms text (one_object text) p refl e (leb-true (length text) text_at_most f) g
    go true false e f g = refused_not_taken g
    go false b e f g = refused_not_taken g

pub taken_read : (terms : Terms) (text : List ℕ) (p : Posology) → Taken terms text p → read terms text ≡ taken p
unfolding read
taken_read terms text p t =
    choose_true (is_use terms.purpose) _ _ t.for_use
    ∙ choose_true (leb (length text) text_at_most) _ _ (le-leb (length text) text_at_most t.short)
    ∙ ap (λ (w : Walked). after_walk terms text w) t.walked
    ∙ ap (λ (o : Outcome Posology). visited text o) t.is
