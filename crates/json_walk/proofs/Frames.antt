-- The open brackets as the bits of a number: one more, and the innermost.
use Prim.Native.Nat.{ℕ, zero, suc, ◌+◌, ◌-◌, ◌*◌, ◌/◌, ◌%◌, ◌<◌}
use mathlib.Core.Path.{◌≡◌, refl, ap}
use mathlib.Core.List.{◌∷◌}
use lib.ListN.{length}
use native.Mathlib.Numerals.{add-one, sub-one}
use native.Mathlib.Omega.{arith}
use Rattle.json_walk.specs.Frames.{kind, frames}

pub length_frames : (d n : ℕ) → length (frames d n) ≡ d
unfolding frames
length_frames zero n = refl
length_frames (suc d) n = ap suc (length_frames d (n / 2))

pub frames_pushed : (d n bit : ℕ) → bit < 2 → frames (d + 1) (n * 2 + bit) ≡ kind bit ∷ frames d n
unfolding frames
frames_pushed d n bit h =
    let low : (n * 2 + bit) % 2 ≡ bit = omega arith in
    let high : (n * 2 + bit) / 2 ≡ n = omega arith in
    rw (add-one, low, high)

pub frames_top : (d n : ℕ) → 0 < d → frames d n ≡ kind (n % 2) ∷ frames (d - 1) (n / 2)
unfolding frames
frames_top zero n h = absurd (omega arith)
frames_top (suc d) n h = rw (sub-one (suc d))
