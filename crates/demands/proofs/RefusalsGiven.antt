-- Where a refusal of a text or of a run is met, it is given.
use mathlib.Core.Path.{◌≡◌, refl, ap, ◌∙◌}
use mathlib.Core.List.{List, [], ◌∷◌}
use mathlib.Core.Bool.{true, false, or-true}
use mathlib.Core.Logic.{inl, inr}
use Prim.Native.Nat.{ℕ, ◌≤◌, ◌<◌}
use lib.ListN.{length}
use borrow.Author.Tests.{le-leb, lt-leb, lt-ltb, le-ltb}
use Rattle.json_grammar.specs.Byte.{blanked}
use Rattle.json_grammar.specs.Tree.{Place, place_in}
use Rattle.json_grammar.specs.Grammar.{Blanks}
use Rattle.json_grammar.specs.Walk.{refused2, refused3, first_object, one_object}
use Rattle.json_laws.proofs.Blanks.{over_blanks, blanks_blanked}
use Rattle.document.specs.Valid.{is_use}
use Rattle.document.specs.Answer.{text_at_most, refused, after_walk, read, blank_to, refused_at, not_ended, next_walked, next_begun, read_next}
use Rattle.document.specs.declared.terms.Terms.{Terms}
use Rattle.demands.specs.Refusals.{Met}
use Rattle.demands.proofs.RefusalCases.{Cut, ended_behind, refused_behind}

module _ (terms : Terms) (text : List ℕ) where
  pub no_use : is_use terms.purpose ≡ false → read terms text ≡ refused 17 0
  unfolding read
  no_use u = rw u

  module _ (u : is_use terms.purpose ≡ true) where
    pub too_long : text_at_most < length text → read terms text ≡ refused 1 text_at_most
    unfolding read
    too_long h = rw (u, lt-leb (length text) text_at_most h)

    walked : length text ≤ text_at_most → read terms text ≡ after_walk terms text (one_object text)
    unfolding read
    walked h = rw (u, le-leb (length text) text_at_most h)

    pub no_object_lem : length text ≤ text_at_most → {n : ℕ} (p : Place) → one_object text ≡ refused2 p → place_in text p ≡ n → read terms text ≡ refused 2 n
    no_object_lem h p e i = walked h ∙ ap (after_walk terms text) e ∙ ap (refused 2) i

    pub too_deep_lem : length text ≤ text_at_most → {n : ℕ} (p : Place) → one_object text ≡ refused3 p → place_in text p ≡ n → read terms text ≡ refused 3 n
    too_deep_lem h p e i = walked h ∙ ap (after_walk terms text) e ∙ ap (refused 3) i

met_not_ended : (m : ℕ) (run : List ℕ) (n : ℕ) → Met run n → not_ended m run n ≡ refused_at m n
met_not_ended m run n (inl h) = rw (le-leb (length run) text_at_most h)
met_not_ended m run n (inr h) = rw (lt-ltb n text_at_most h, or-true)

cut_not_ended : (m : ℕ) (run : List ℕ) (n : ℕ) → text_at_most < length run → text_at_most ≤ n → not_ended m run n ≡ refused_at 1 text_at_most
cut_not_ended m run n l h = rw (lt-leb (length run) text_at_most l, le-ltb n text_at_most h)

module _ (terms : Terms) (run : List ℕ) where
  pub no_use_next : is_use terms.purpose ≡ false → read_next terms run ≡ refused_at 17 0
  unfolding read_next
  no_use_next u = rw u

  module _ (u : is_use terms.purpose ≡ true) where
    begun : read_next terms run ≡ next_begun terms run (blanked run)
    unfolding read_next
    begun = rw u

    pub only_blanks : Blanks run [] → read_next terms run ≡ blank_to (length run)
    unfolding blanked
    only_blanks h = begun ∙ ap (next_begun terms run) (over_blanks h)

    module _ (some : Blanks run [] → ⊥) where
      walked_next : read_next terms run ≡ next_walked terms run (first_object run)
      walked_next = begun ∙ which (blanked run) refl
        where
          which : (m : List ℕ) → blanked run ≡ m → next_begun terms run m ≡ next_walked terms run (first_object run)
          which [] e = absurd (some (rw e at (blanks_blanked run)))
          which (b ∷ s) e = refl

      pub no_object_next : {n : ℕ} (p : Place) → first_object run ≡ refused2 p → place_in run p ≡ n → Met run n → read_next terms run ≡ refused_at 2 n
      no_object_next {n} p e i m = walked_next ∙ ap (next_walked terms run) e ∙ ap (not_ended 2 run) i ∙ met_not_ended 2 run n m

      pub too_deep_next : {n : ℕ} (p : Place) → first_object run ≡ refused3 p → place_in run p ≡ n → Met run n → read_next terms run ≡ refused_at 3 n
      too_deep_next {n} p e i m = walked_next ∙ ap (next_walked terms run) e ∙ ap (not_ended 3 run) i ∙ met_not_ended 3 run n m

      pub cut_next : Cut run → read_next terms run ≡ refused_at 1 text_at_most
      cut_next (ended_behind r e h) = walked_next ∙ ap (next_walked terms run) e ∙ rw (lt-leb (place_in run r) text_at_most h)
      cut_next (refused_behind p (inl e) l h) = walked_next ∙ ap (next_walked terms run) e ∙ cut_not_ended 2 run (place_in run p) l h
      cut_next (refused_behind p (inr e) l h) = walked_next ∙ ap (next_walked terms run) e ∙ cut_not_ended 3 run (place_in run p) l h
