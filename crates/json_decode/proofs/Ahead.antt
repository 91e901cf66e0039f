-- What a string has ahead of a place, a spot or a cursor, and how a byte of the text takes it on.
use Prim.Native.Nat.{ℕ, ◌+◌, ◌<◌, ◌≤◌}
use mathlib.Core.Logic.{◌⊎◌, inl, inr}
use mathlib.Core.Path.{◌≡◌, refl, sym, ap, ◌∙◌}
use mathlib.Core.List.{List, [], ◌∷◌, ◌++◌, tail}
use lib.ListN.{length, get_or, drop, length-append, drop_of_length-le}
use lib.Seq.{drop-cons}
use lib.Dec.{ltb}
use mir.Val.{bool_byte}
use native.Mathlib.Decide.{dec_lt}
use native.Mathlib.Numerals.{add-one}
use Rattle.std.proofs.Common.{add-zero}
use Rattle.std.proofs.lemmas.List.{get_or_default, nil_from_length}
use native.Mathlib.Omega.{arith}
use borrow.Author.Tests.{lt-ltb, le-ltb}
use Rattle.json_grammar.specs.String.{chars, after, given, gather}
use Rattle.json_scan.proofs.Strings.{quote_closes}
use Rattle.json_move.specs.Read.{decoded}
use Rattle.json_decode.specs.Characters.{plain_from, left, Steps, GivesBytes}
use Rattle.json_decode.specs.declared.Spot.{Spot}
use Rattle.json_decode.specs.declared.NextBytes.{NextBytes}
use Rattle.json_grammar.specs.declared.string.InString.{InString}
use Rattle.json_grammar.specs.declared.string.InString.TheVariants.{Plain}
use Rattle.json_grammar.specs.declared.string.CharStep.TheVariants.{Goes, Closes, Refuses}

-- The decoded rest of a string from a place on.
abbrev pub rest : List ℕ → InString → ℕ → ℕ → List ℕ
rest text s v i = (chars s v (drop i text)).bytes

-- ---- one byte of the text
module _ (s : InString) (v b : ℕ) (l : List ℕ) where
  pub byte_goes : {n : InString} → after s b ≡ Goes n → (chars s v (b ∷ l)).bytes ≡ given s v b ++ (chars n (gather s v b) l).bytes
  unfolding chars
  byte_goes e = rw (e, chars)

  pub byte_closes : after s b ≡ Closes → (chars s v (b ∷ l)).bytes ≡ []
  unfolding chars
  byte_closes e = rw (e, chars)

  pub byte_refuses : after s b ≡ Refuses → (chars s v (b ∷ l)).bytes ≡ []
  unfolding chars
  byte_refuses e = rw (e, chars)

module _ (text : List ℕ) (s : InString) (v i : ℕ) where
  abbrev from : List ℕ → List ℕ
  from l = (chars s v l).bytes

  module _ (h : i < length text) where
    pub rest_goes : {n : InString} → after s (get_or text i 0) ≡ Goes n → rest text s v i ≡ given s v (get_or text i 0) ++ rest text n (gather s v (get_or text i 0)) (i + 1)
    rest_goes e = ap from (drop-cons text i 0 h) ∙ rw add-one (byte_goes s v _ _ e)

    pub rest_closes : after s (get_or text i 0) ≡ Closes → rest text s v i ≡ []
    rest_closes e = ap from (drop-cons text i 0 h) ∙ byte_closes s v _ _ e

    pub rest_refuses : after s (get_or text i 0) ≡ Refuses → rest text s v i ≡ []
    rest_refuses e = ap from (drop-cons text i 0 h) ∙ byte_refuses s v _ _ e

  pub rest_ends : length text ≤ i → rest text s v i ≡ []
  unfolding chars
  rest_ends h = ap from (drop_of_length-le text h)

-- ---- at the closing quote
pub plain_ends : (text : List ℕ) (i : ℕ) → i < length text → get_or text i 0 ≡ 34 → plain_from text i ≡ []
plain_ends text i h e = rest_closes text Plain 0 i h (quote_closes _ e)

-- ---- behind the opening quote
module _ (text : List ℕ) (q : ℕ) where
  tail_inside : q < length text → tail (drop q text) ≡ drop (q + 1) text
  tail_inside h = rw (drop-cons text q 0 h, add-one)

  tail_outside : length text ≤ q → tail (drop q text) ≡ drop q text
  tail_outside h = rw (drop_of_length-le text h)

  pub behind_inside : q < length text → plain_from text (q + 1) ≡ decoded (drop q text)
  unfolding decoded
  behind_inside h = ap (from text Plain 0 q) (sym (tail_inside h))

  behind_outside : length text ≤ q → plain_from text q ≡ decoded (drop q text)
  unfolding decoded
  behind_outside h = ap (from text Plain 0 q) (sym (tail_outside h))

  pub behind_quote : (n : ℕ) → n ≡ bool_byte (ltb q (length text)) → plain_from text (q + n) ≡ decoded (drop q text)
  behind_quote n e = elim (dec_lt q (length text)) [
    | yes h ↦ rw (e, lt-ltb q (length text) h) (behind_inside h)
    | no h ↦ rw (e, le-ltb q (length text) (omega arith), add-zero q) (behind_outside (omega arith))
  ]

-- ---- a spot
pub left_plain : (i : ℕ) (text : List ℕ) → left text (record { at = i; state = Plain; v = 0 }) ≡ plain_from text i
unfolding left
left_plain i text = refl

module _ (text : List ℕ) (s : Spot) where
  pub left_over : length text ≤ s.at → left text s ≡ []
  unfolding left
  left_over h = rest_ends text s.state s.v s.at h

  module _ (h : s.at < length text) (b : ℕ) (e : b ≡ get_or text s.at b) where
    here : get_or text s.at 0 ≡ b
    here = sym (e ∙ get_or_default text s.at b 0 h)

    pub left_ends : (after s.state b ≡ Closes) ⊎ (after s.state b ≡ Refuses) → left text s ≡ []
    unfolding left
    left_ends (inl g) = rest_closes text s.state s.v s.at h (rw here g)
    left_ends (inr g) = rest_refuses text s.state s.v s.at h (rw here g)

    pub steps_on : (n : InString) (r : NextBytes) → Goes n ≡ after s.state b → r.out ≡ given s.state s.v b
        → r.spot ≡ record { at = s.at + 1; state = n; v = gather s.state s.v b } → Steps text s r
    unfolding left
    steps_on n r g o p =
        let e : after s.state (get_or text s.at 0) ≡ Goes n = rw here (sym g) in
        record { bytes = rw (o, p) (rw here at (rest_goes text s.state s.v s.at h e)); on = rw p; inside = h }

module _ {text : List ℕ} {t : Spot} {r : NextBytes} (g : Steps text t r) where
  pub steps_gives : (s : Spot) → left text s ≡ left text t → 0 < length r.out → GivesBytes text s r
  steps_gives s e p = record { bytes = e ∙ g.bytes; some = p }

  -- nothing was given
  pub steps_over : length r.out ≡ 0 → left text t ≡ left text r.spot
  steps_over z = let n : r.out ≡ [] = nil_from_length r.out z in g.bytes ∙ rw n

module _ {text : List ℕ} {s : Spot} {r : NextBytes} where
  pub left_length : GivesBytes text s r → length (left text s) ≡ length r.out + length (left text r.spot)
  left_length g = omega (arith, ap length g.bytes, length-append r.out (left text r.spot))
