-- Bytes of the text that are the string's, passed over as they stand, and escapes, each passed as a whole.
use Prim.Native.Nat.{ℕ, ◌+◌, ◌-◌, ◌<◌, ◌≤◌}
use mathlib.Core.Path.{◌≡◌, refl, sym, ap, ◌∙◌}
use mathlib.Core.Bool.{true}
use mathlib.Core.List.{List, [], ◌∷◌, ◌++◌, append_assoc}
use Rattle.std.proofs.lemmas.Slice.{between_is}
use lib.ListN.{length, get_or, take, drop, length-append, length-take, length-drop}
use lib.Seq.{slice, slice_empty, drop-cons, take-add, drop-append-le, length-take-le}
use native.Mathlib.Omega.{arith}
use Rattle.json_grammar.specs.String.{chars, after, given, gather, is_ascii, point}
use Rattle.json_grammar.specs.declared.string.InString.TheVariants.{Plain}
use Rattle.json_scan.specs.Chars.{Char, Escapes, width_of}
use Rattle.json_scan.specs.declared.escape.Escape.{Escape}
use Rattle.json_scan.specs.declared.escape.Escape.TheVariants.{Letter, Digits}
use Rattle.json_scan.proofs.Strings.{ascii_lead}
use Rattle.json_decode.specs.Characters.{plain_from, left, spot_at, behind_run, meant_by, Run}
use Rattle.json_decode.specs.declared.Spot.{Spot}
use Rattle.json_decode.proofs.Lengths.{utf8_size}
use Rattle.json_decode.proofs.Ascii.{ascii_from}

-- Where a character may stand, digits that were gathered do not count.
plain_any : (v : ℕ) (l : List ℕ) → chars Plain v l ≡ chars Plain 0 l
unfolding chars after given gather
plain_any v [] = refl
plain_any v (b ∷ l) = refl

pub left_any : (text : List ℕ) (s : Spot) → s.state ≡ Plain → left text s ≡ plain_from text s.at
unfolding left
left_any text s e = rw e (ap (λ d. d.bytes) (plain_any s.v (drop s.at text)))

module _ {text : List ℕ} {at n : ℕ} {bytes : List ℕ} (c : Char text at n bytes) where
  pub char_from : plain_from text at ≡ bytes ++ plain_from text (at + n)
  char_from = ap (λ d. d.bytes) (c.decodes 0)

  pub char_length : length bytes + length (plain_from text (at + n)) ≡ length (plain_from text at)
  char_length = omega (arith, ap length char_from, length-append bytes (plain_from text (at + n)))

-- ---- a run
slice_more : (text : List ℕ) (at i n : ℕ) → at ≤ i → i ≤ length text → slice at (i + n) text ≡ slice at i text ++ take n (drop i text)
slice_more text at i n h l =
    let t = length-take-le i text l in
    rw (take-add i n text) (drop-append-le at (take i text) (take n (drop i text)) (omega arith))

pub run_none : (text : List ℕ) (s : Spot) → Run text s s.at
run_none text s = record { ahead = omega arith; inside = omega arith; bytes = rw (slice_empty s.at text) }

module _ {text : List ℕ} {s : Spot} {i : ℕ} (r : Run text s i) where
  pub run_size : length (slice s.at i text) ≡ i - s.at
  run_size = simp (length-drop, length-take) (omega (arith, r.ahead, r.inside))

  pub run_length : i - s.at + length (left text (behind_run s i)) ≡ length (left text s)
  run_length = omega (arith, run_size, ap length r.bytes, length-append (slice s.at i text) (left text (behind_run s i)))

module _ {text : List ℕ} {at i : ℕ} (r : Run text (spot_at at) i) where
  pub run_from : plain_from text at ≡ slice at i text ++ plain_from text i
  unfolding left
  run_from = r.bytes

  pub run_from_length : i - at + length (plain_from text i) ≡ length (plain_from text at)
  unfolding left
  run_from_length = run_length r

  run_more : (n : ℕ) → i + n ≤ length text → plain_from text i ≡ take n (drop i text) ++ plain_from text (i + n)
      → Run text (spot_at at) (i + n)
  unfolding left
  run_more n h e = record {
    ahead = omega (arith, r.ahead);
    inside = omega arith;
    bytes = rw (slice_more text at i n r.ahead (omega arith), append_assoc)
        (run_from ∙ ap (λ l. slice at i text ++ l) e);
  }

  pub run_ascii : i < length text → is_ascii (get_or text i 0) ≡ true → Run text (spot_at at) (i + 1)
  run_ascii h e = run_more 1 (omega arith) (rw (drop-cons text i 0 h) (ascii_from text i h (ascii_lead _ e)))

  pub run_char : {n : ℕ} → Char text i n (take n (drop i text)) → Run text (spot_at at) (i + n)
  run_char {n} c = run_more n c.passes.inside (char_from c)

-- the same from a spot where a character may stand
pub run_at : {text : List ℕ} {i : ℕ} (s : Spot) → s.state ≡ Plain → Run text (spot_at s.at) i → Run text s i
run_at {text} {i} s e r = record {
  ahead = r.ahead;
  inside = r.inside;
  bytes = left_any text s e ∙ run_from r ∙ ap (λ l. slice s.at i text ++ l) (sym (left_any text (behind_run s i) e));
}

-- ---- an escape
pub escape_char : {text : List ℕ} {at : ℕ} (e : Escape) → Escapes text at e → Char text at (width_of e) (meant_by e)
escape_char (Letter m) c = c
escape_char (Digits v n) c = c

-- none stands for nothing
pub meant_some : (e : Escape) → 0 < length (meant_by e)
meant_some (Letter m) = omega arith
meant_some (Digits v n) = (utf8_size (point v)).0

pub escape_piece : (text : List ℕ) (s : Spot) (e : Escape) (w : ℕ) (out rest : List ℕ) → s.state ≡ Plain → Escapes text s.at e → w ≡ width_of e
    → out ≡ meant_by e → rest ≡ plain_from text (s.at + w) → (left text s ≡ out ++ rest) × (0 < length out)
escape_piece text s e w out rest p c i o r = rw (o, r, i) (left_any text s p ∙ char_from (escape_char e c), meant_some e)

-- A run that is not empty, as a part of the text.
pub run_piece : {text : List ℕ} {s : Spot} {r : ℕ} → Run text s r → s.at < r
    → (left text s ≡ take (r - s.at) (drop s.at text) ++ left text (behind_run s r)) × (0 < length (take (r - s.at) (drop s.at text)))
run_piece {text} {s} {r} u h =
    let p : take (r - s.at) (drop s.at text) ≡ slice s.at r text = between_is text s.at r in
    let n : length (slice s.at r text) ≡ r - s.at = run_size u in
    rw p (u.bytes, omega arith)
