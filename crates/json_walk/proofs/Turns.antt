-- What one byte does: brackets opened and shut.
use Prim.Native.Nat.{ℕ, zero, suc, ◌+◌, ◌-◌, ◌/◌, ◌<◌, ◌≤◌}
use mathlib.Core.Path.{◌≡◌, refl}
use mathlib.Core.List.{List, ◌∷◌}
use mathlib.Core.Bool.{false}
use lib.ListN.{length, get_or, drop}
use lib.Dec.{eqb}
use native.Mathlib.Numerals.{add-one, sub-one}
use native.Mathlib.Omega.{arith}
use borrow.Author.Tests.{lt-ltb, le-ltb}
use Rattle.json_grammar.specs.Walk as W
use Rattle.json_grammar.specs.Walk.{Frame, go, step, walk, end, refused2, refused3}
use Rattle.json_grammar.specs.Rows.{choose}
use Rattle.json_grammar.specs.Byte.{is_blank}
use Rattle.json_walk.specs.Frames.{frame_of, closer_of, frames}
use Rattle.json_walk.specs.Turn.{mode_of, after_comma, steps}
use Rattle.json_walk.specs.declared.brackets.Bracket.{Bracket}
use Rattle.json_walk.specs.declared.brackets.Bracket.TheVariants.{Square, Curly}
use Rattle.json_walk.proofs.Walks.{walk_at}
use Rattle.json_walk.proofs.Frames.{length_frames}

module _ (text : List ℕ) (at : ℕ) where
  module _ (f : Frame) (m : W.Mode) (d n : ℕ) where
    pub opens : {k : List Frame} → d < 20 → k ≡ f ∷ frames d n → steps text at (W.opened f m (frames d n)) ≡ walk m k (drop (at + 1) text)
    opens h e = rw (length_frames, lt-ltb d 20 h, e, add-one)

    pub too_deep_lem : 20 ≤ d → steps text at (W.opened f m (frames d n)) ≡ refused3 (drop at text)
    too_deep_lem h = rw (length_frames, le-ltb d 20 h)

  pub shuts_none : (d n : ℕ) → d ≡ 0 → steps text at (W.shut (frames d n)) ≡ refused2 (drop at text)
  unfolding frames
  shuts_none zero n h = refl
  shuts_none (suc d) n h = absurd (omega arith)

  pub shuts_last : (d n : ℕ) → d ≡ 1 → steps text at (W.shut (frames d n)) ≡ end (drop (at + 1) text)
  unfolding frames
  shuts_last zero n h = absurd (omega arith)
  shuts_last (suc zero) n h = rw add-one
  shuts_last (suc (suc d)) n h = absurd (omega arith)

  pub shuts : (d n : ℕ) → 1 < d → steps text at (W.shut (frames d n)) ≡ walk W.behind (frames (d - 1) (n / 2)) (drop (at + 1) text)
  unfolding frames
  shuts zero n h = absurd (omega arith)
  shuts (suc zero) n h = absurd (omega arith)
  shuts (suc (suc d)) n h = rw (add-one, sub-one (suc (suc d)))

-- behind a value, in a bracket
pub behind_in : (text : List ℕ) (at : ℕ) → at < length text → (f : Bracket) {o k : List Frame} → o ≡ frame_of f ∷ k → is_blank (get_or text at 0) ≡ false
    → walk W.behind o (drop at text)
    ≡ steps text at (choose (eqb (get_or text at 0) 44) (λ _. go (mode_of (after_comma f)) o) λ _.
    choose (eqb (get_or text at 0) (closer_of f)) (λ _. W.shut o) λ _. W.wrong)
unfolding step
behind_in text at h Square e blank = rw (walk_at text at h W.behind _, e, blank)
behind_in text at h Curly e blank = rw (walk_at text at h W.behind _, e, blank)
