-- A record's bytes, put one behind the other.
use mathlib.Core.Path.{◌≡◌, ap, sym, ◌∙◌}
use mathlib.Core.List.{List, [], ◌∷◌, ◌++◌, append-nil}
use Prim.Native.Nat.{ℕ, ◌≤◌}
use lib.ListN.{length}
use lib.Seq.{sets}
use Rattle.write_bytes.specs.Puts.{greatest_place, Puts}
use Rattle.shelf_bytes.specs.Layout.{low_bytes, record_bytes}

pub record_laid : {before after : List ℕ} {from r : ℕ} (number : ℕ) (text : List ℕ) → from ≤ greatest_place → length before ≤ greatest_place
    → Puts before from (0x50 ∷ 0x6F ∷ low_bytes number (low_bytes (length text) (text ++ []))) [] r after
    → after ≡ sets before from (record_bytes number text)
record_laid {before} {from = from} number text f l p =
    let e : p.bytes ≡ record_bytes number text =
    sym (append-nil p.bytes) ∙ sym p.in_front
    ∙ ap (λ (t : List ℕ). 0x50 ∷ 0x6F ∷ low_bytes number (low_bytes (length text) t)) (append-nil text) in
    p.laid f l ∙ ap (sets before from) e
