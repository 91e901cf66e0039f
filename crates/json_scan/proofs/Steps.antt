-- Through one character of a string, byte by byte.
use Prim.Native.Nat.{ℕ, ◌+◌, ◌<◌, ◌≤◌}
use mathlib.Core.Path.{◌≡◌, refl, ap, ◌∙◌}
use mathlib.Core.List.{List, [], ◌∷◌, ◌++◌, append_assoc}
use lib.ListN.{length, get_or, drop}
use native.Mathlib.Nat.{add-zero}
use native.Mathlib.Omega.{arith}
use Rattle.json_grammar.specs.String.{chars, prepend, Decoded, after, gather, given}
use Rattle.json_grammar.specs.Part.{string_stop}
use Rattle.json_grammar.specs.declared.string.InString.{InString}
use Rattle.json_grammar.specs.declared.string.InString.TheVariants.{Plain}
use Rattle.json_grammar.specs.declared.string.CharStep.TheVariants.{Goes}
use Rattle.json_grammar.proofs.Moves.{byte_here}
use Rattle.json_scan.specs.Chars.{Char}
use Rattle.json_scan.specs.Reached.{Reached}
use Rattle.json_scan.proofs.Strings.{string_goes}

chars_goes : (s : InString) {t : InString} (v b : ℕ) (l : List ℕ) → after s b ≡ Goes t
    → chars s v (b ∷ l) ≡ prepend (given s v b) (chars t (gather s v b) l)
unfolding chars
chars_goes s v b l e = rw (e, chars)

prepend_twice : (a b : List ℕ) (d : Decoded) → prepend a (prepend b d) ≡ prepend (a ++ b) d
prepend_twice a b d = rw append_assoc

-- Where a character may stand nothing is gathered.
plain_any : (w : ℕ) (l : List ℕ) → chars Plain w l ≡ chars Plain 0 l
unfolding chars gather given
plain_any w [] = refl
plain_any w (b ∷ l) = refl

pub starts : (text : List ℕ) (at : ℕ) → at ≤ length text → Reached text at 0 [] Plain 0
starts text at h = record { inside = omega arith; same = rw add-zero; decodes = λ w. rw add-zero (plain_any w (drop at text)) }

-- The byte at p takes the string on.
module _ {text : List ℕ} {at n : ℕ} {bytes : List ℕ} {s : InString} {v : ℕ} (r : Reached text at n bytes s v) (p : ℕ)
    (e : p ≡ at + n) (h : p < length text) where
  behind : drop (at + n) text ≡ get_or text p 0 ∷ drop (at + (n + 1)) text
  behind = let q : p + 1 ≡ at + (n + 1) = omega arith in rw (← e, ← q) (byte_here text p h)

  pub goes : {t : InString} → after s (get_or text p 0) ≡ Goes t
      → Reached text at (n + 1) (bytes ++ given s v (get_or text p 0)) t (gather s v (get_or text p 0))
  goes g = record {
    inside = omega arith;
    same = r.same ∙ ap (string_stop s) behind ∙ string_goes s _ g _;
    decodes = λ w. r.decodes w ∙ ap (λ l. prepend bytes (chars s v l)) behind ∙ ap (prepend bytes) (chars_goes s v _ _ g)
        ∙ prepend_twice bytes _ _;
  }

pub whole : {text : List ℕ} {at n : ℕ} {bytes : List ℕ} → Reached text at n bytes Plain 0 → 0 < n → Char text at n bytes
whole r f = record { passes = record { forward = f; inside = r.inside; same = r.same }; decodes = r.decodes }
