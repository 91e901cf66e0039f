-- Bytes moved down, and zeros behind them.
use mathlib.Core.Path.{◌≡◌, ap, sym, ◌∙◌}
use mathlib.Core.List.{List, ◌++◌, append_assoc, append-nil}
use Prim.Native.Nat.{ℕ, ◌+◌, ◌-◌, ◌≤◌}
use native.Mathlib.Omega.{arith}
use lib.Dec.{leb}
use lib.ListN.{length, take, drop, replicate, length-drop, length-append, drop_of_length-le}
use lib.Seq.{take_at, length-take-le}
use borrow.Author.Tests.{le-leb}
use borrow.Rule.Slice.PartMut.{put_mid}
use Rattle.std.proofs.lemmas.List.Edits.{paste_all}
use Rattle.std.specs.List.{copy_within}
use Rattle.json_grammar.proofs.Truth.{cond_true}
use Rattle.shelf_bytes.specs.Layout.{closed, gap_closed}

-- The bytes behind the gap copied down over it, and zeros laid over the last of them.
pub closed_up : (a mid zeros : List ℕ) (from size : ℕ) → from + size ≤ length a → length mid ≡ length a
    → mid ≡ copy_within a (from + size) (length a) from
    → zeros ≡ replicate (length (take (length mid - (length mid - size)) (drop (length mid - size) mid))) 0
    → put_mid (length mid - size) (length mid - (length mid - size)) mid zeros ≡ gap_closed a from size
closed_up a mid zeros from size l m e z =
    let behind = drop (from + size) a in
    let rest = drop (from + (length a - (from + size))) a in
    let last = drop (length mid - size) mid in
    let d = length-drop (from + size) a in
    let d' = length-drop (length mid - size) mid in
    let t = length-take-le from a (omega arith) in
    let whole : mid ≡ (take from a ++ behind) ++ rest =
    e ∙ paste_all a from behind (length a - (from + size)) (sym d) ∙ sym (append_assoc (take from a) behind rest) in
    let n : length (take from a ++ behind) ≡ length mid - size = length-append (take from a) behind ∙ omega arith in
    let k : length (take (length mid - (length mid - size)) last) ≡ size = length-take-le (length mid - (length mid - size)) last (omega arith) ∙ omega arith in
    ap (λ (r : List ℕ). take (length mid - size) mid ++ (zeros ++ r)) (drop_of_length-le last (omega arith))
    ∙ ap (λ (r : List ℕ). take (length mid - size) mid ++ r) (append-nil zeros)
    ∙ ap (λ (r : List ℕ). r ++ zeros) (ap (take (length mid - size)) whole ∙ take_at (take from a ++ behind) rest (length mid - size) n)
    ∙ append_assoc (take from a) behind zeros
    ∙ ap (λ (r : List ℕ). take from a ++ (behind ++ r)) (z ∙ ap (λ (q : ℕ). replicate q 0) k)
    ∙ sym (cond_true (leb (from + size) (length a)) (closed a from size) a (le-leb (from + size) (length a) l))
