-- A refusal of reading stands at one of the first 32,768 bytes or behind them, one of writing at no more than the longest plain text.
use mathlib.Core.Path.{◌≡◌, refl}
use mathlib.Core.List.{List}
use mathlib.Core.Bool.{Bool, true, false}
use Prim.Native.Nat.{ℕ, ◌≤◌}
use native.Mathlib.Omega.{arith}
use borrow.Author.Tests.{leb-true}
use lib.Dec.{leb}
use lib.ListN.{length}
use Rattle.json_grammar.specs.Rows.{choose}
use Rattle.json_grammar.specs.Tree.{place_in}
use Rattle.json_grammar.specs.Walk.{Walked, end, refused2, refused3, one_object}
use Rattle.json_move.specs.Read.{tree_of}
use Rattle.document.specs.Posology.{Posology}
use Rattle.document.specs.Visit.{Outcome, done, refuse, visit}
use Rattle.document.specs.declared.terms.Terms.{Terms}
use Rattle.document.specs.Valid.{is_use}
use Rattle.document.specs.Answer.{text_at_most, refused, visited, after_walk, read}

pub read_near : (terms : Terms) (text : List ℕ) {n place : ℕ} → read terms text ≡ refused n place → place ≤ text_at_most
unfolding read
read_near terms text {n} {place} h = go (is_use terms.purpose) (leb (length text) text_at_most) refl h
  where
    visited_near : (o : Outcome Posology) → length text ≤ text_at_most → visited text o ≡ refused n place → place ≤ text_at_most
    visited_near (done p l) s g = let z : ◌≡◌ {A = ℕ} 0 1 = cc g in omega arith
    visited_near (refuse m p) s g = let e : place_in text p ≡ place = cc g in omega arith

    walked_near : (w : Walked) → length text ≤ text_at_most → after_walk terms text w ≡ refused n place → place ≤ text_at_most
    walked_near (end r) s g = visited_near (visit terms (tree_of text)) s g
    walked_near (refused2 p) s g = let e : place_in text p ≡ place = cc g in omega arith
    walked_near (refused3 p) s g = let e : place_in text p ≡ place = cc g in omega arith

    go : (a b : Bool) → leb (length text) text_at_most ≡ b → choose a (λ _. choose b (λ _. after_walk terms text (one_object text)) λ _. refused 1 text_at_most) (λ _. refused 17 0) ≡ refused n place → place ≤ text_at_most
    go true true f g = walked_near (one_object text) (leb-true (length text) text_at_most f) g
    go true false f g = let e : text_at_most ≡ place = cc g in omega arith
    go false b f g = let e : 0 ≡ place = cc g in omega arith
