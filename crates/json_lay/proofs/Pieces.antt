-- Decoded bytes laid piece by piece.
use Prim.Native.Nat.{ℕ, ◌+◌, ◌<◌, ◌≤◌}
use mathlib.Core.Path.{◌≡◌, sym, ap, ◌∙◌}
use mathlib.Core.List.{List, ◌++◌}
use lib.ListN.{length, get_or, drop, set, length-append, length-drop, length-set}
use lib.Seq.{sets, length-sets, drop-cons}
use native.Mathlib.Numerals.{add-one}
use native.Mathlib.Omega.{arith}
use Rattle.json_grammar.proofs.Stores.{sets_append}

-- Laid into a buffer that was `before`, up to the place k: the rest is still to be laid.
pub record Puts (before : List ℕ) (to : ℕ) (bytes buffer : List ℕ) (k : ℕ) (rest : List ℕ) : Type 0 where
  pub room : k + length rest ≡ to + length bytes
  pub sized : length buffer ≡ length before
  pub answer : sets buffer k rest ≡ sets before to bytes

module _ {before : List ℕ} {to : ℕ} {bytes buffer : List ℕ} {k : ℕ} {rest : List ℕ} (p : Puts before to bytes buffer k rest)
    (front more : List ℕ) (e : rest ≡ front ++ more) where
  pub put_fits : to + length bytes ≤ length before → k + length front ≤ length buffer
  put_fits h = omega (arith, p.room, p.sized, ap length e, length-append front more)

  pub put_on : {m : ℕ} {after : List ℕ} → m ≡ k + length front → after ≡ sets buffer k front → Puts before to bytes after m more
  put_on n f = record {
    room = omega (arith, n, p.room, ap length e, length-append front more);
    sized = rw f (length-sets buffer k front ∙ p.sized);
    answer = rw (f, n) (sym (sets_append front more buffer k) ∙ rw e at p.answer);
  }

-- ---- byte by byte
pub put_one : {before : List ℕ} {to : ℕ} {bytes buffer : List ℕ} {i : ℕ} → Puts before to bytes buffer (to + i) (drop i bytes) → i < length bytes
    → Puts before to bytes (set buffer (to + i) (get_or bytes i 0)) (to + (i + 1)) (drop (i + 1) bytes)
put_one {before} {to} {bytes} {buffer} {i} p h =
    let e : to + (i + 1) ≡ to + i + 1 = omega arith in
    record {
      room = simp length-drop (omega arith);
      sized = length-set buffer (to + i) (get_or bytes i 0) ∙ p.sized;
      answer = rw (e, add-one (to + i), add-one i) (rw (drop-cons bytes i 0 h) at p.answer);
    }
