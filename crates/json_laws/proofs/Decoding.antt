-- Decoding gives the bytes that the grammar says.
use Prim.Native.Nat.{ℕ}
use mathlib.Core.Path.{◌≡◌, refl, ap, ◌∙◌}
use mathlib.Core.List.{List, [], ◌∷◌}
use mathlib.Core.Bool.{true}
use Rattle.json_grammar.specs.Byte.{is_d, is_8_to_b, is_c_to_f, digit, utf8}
use Rattle.json_grammar.specs.String.{lead, after, after_lead, after_letter, gather, given, chars, prepend, one_more, point}
use Rattle.json_grammar.specs.declared.string.Lead.{Lead}
use Rattle.json_grammar.specs.declared.string.InString.{InString}
use Rattle.json_grammar.specs.declared.string.InString.TheVariants.{Plain, Escape, Unit as AUnit, UnitD, Digit3, Digit2, Digit1, High2, High1, Slash, LetterU, SecondD, SecondC, Tail3, Tail2, Tail1, AfterE0, AfterEd, AfterF0, AfterF4}
use Rattle.json_grammar.specs.declared.string.CharStep.TheVariants.{Goes}
use Rattle.json_grammar.specs.Grammar.{four, paired, Char, ascii, two, three, three_e0, three_ed, fourth, four_f0, four_f4, short, unit, unit_d, pair, Chars, close, char}
use Rattle.json_laws.proofs.Bytes.{apart, high_not_low}
use Rattle.json_laws.proofs.Strings.{passed, taken, passed_second, spells}
use Rattle.json_laws.proofs.Digits.{four_gathered, four_small, eight_gathered, point_small, point_pair, high_half, low_half}

-- One byte.
decode : (c : InString) (v b : ℕ) (s : List ℕ) {n : InString} → after c b ≡ Goes n → chars c v (b ∷ s) ≡ prepend (given c v b) (chars n (gather c v b) s)
unfolding chars
decode c v b s e = rw (e, chars)

-- The first byte of a character that is spelled as it is.
lead_one : (b v : ℕ) (s : List ℕ) {n : InString} {x : Lead} → lead b ≡ x → spells x ≡ true → after_lead x ≡ Goes n → chars Plain v (b ∷ s) ≡ prepend (b ∷ []) (chars n 0 s)
unfolding after given gather
lead_one b v s e h g = decode Plain v b s (ap after_lead e ∙ g) ∙ rw (apart (λ c. spells (lead c)) b 92 (ap spells e ∙ h) refl)

-- Four digits, and the four of the second half behind them.
unit_point : (h i j k : ℕ) → utf8 (point (one_more (one_more (one_more (digit h) i) j) k)) ≡ utf8 (four h i j k)
unit_point h i j k = rw (four_gathered h i j k, point_small (four h i j k) (four_small h i j k))

pair_point : (h i j k l m n o : ℕ) → is_d h ≡ true → is_8_to_b i ≡ true → is_d l ≡ true → is_c_to_f m ≡ true
    → utf8 (point (one_more (one_more (one_more (one_more (one_more (one_more (one_more (digit h) i) j) k) l) m) n) o)) ≡ utf8 (paired (four h i j k) (four l m n o))
pair_point h i j k l m n o a b c d =
    let x = high_half h i j k a b in
    let y = low_half l m n o c d in
    rw (four_gathered h i j k, eight_gathered (four h i j k) l m n o (four_small h i j k), point_pair (four h i j k) (four l m n o) x.0 x.1 y.0 y.1)

char_decoded : {u s m : List ℕ} → Char u s m → (v : ℕ) → chars Plain v s ≡ prepend u (chars Plain 0 m)
unfolding after given gather
char_decoded (ascii {b = b} {r = r} e) v = lead_one b v r e refl refl
char_decoded (two {b = b} {c = c} {r = r} e t) v = rw (lead_one b v (c ∷ r) e refl refl, decode Tail1 0 c r (passed t))
char_decoded (three {b = b} {c = c} {d = d} {r = r} e t u) v = rw (lead_one b v (c ∷ d ∷ r) e refl refl, decode Tail2 0 c (d ∷ r) (passed t), decode Tail1 0 d r (passed u))
char_decoded (three_e0 {b = b} {c = c} {d = d} {r = r} e t u) v = rw (lead_one b v (c ∷ d ∷ r) e refl refl, decode AfterE0 0 c (d ∷ r) (passed t), decode Tail1 0 d r (passed u))
char_decoded (three_ed {b = b} {c = c} {d = d} {r = r} e t u) v = rw (lead_one b v (c ∷ d ∷ r) e refl refl, decode AfterEd 0 c (d ∷ r) (passed t), decode Tail1 0 d r (passed u))
char_decoded (fourth {b = b} {c = c} {d = d} {e = f} {r = r} e t u w) v =
    rw (lead_one b v (c ∷ d ∷ f ∷ r) e refl refl, decode Tail3 0 c (d ∷ f ∷ r) (passed t), decode Tail2 0 d (f ∷ r) (passed u), decode Tail1 0 f r (passed w))
char_decoded (four_f0 {b = b} {c = c} {d = d} {e = f} {r = r} e t u w) v =
    rw (lead_one b v (c ∷ d ∷ f ∷ r) e refl refl, decode AfterF0 0 c (d ∷ f ∷ r) (passed t), decode Tail2 0 d (f ∷ r) (passed u), decode Tail1 0 f r (passed w))
char_decoded (four_f4 {b = b} {c = c} {d = d} {e = f} {r = r} e t u w) v =
    rw (lead_one b v (c ∷ d ∷ f ∷ r) e refl refl, decode AfterF4 0 c (d ∷ f ∷ r) (passed t), decode Tail2 0 d (f ∷ r) (passed u), decode Tail1 0 f r (passed w))
char_decoded (short {e = x} {r = r} e) v = rw (decode Plain v 92 (x ∷ r) refl, decode Escape 0 x r (ap after_letter e), e)
char_decoded (unit {h = h} {i = i} {j = j} {k = k} {r = r} d a b c f) v =
    rw (
      decode Plain v 92 (117 ∷ h ∷ i ∷ j ∷ k ∷ r) refl,
      decode Escape 0 117 (h ∷ i ∷ j ∷ k ∷ r) refl,
      decode AUnit 0 h (i ∷ j ∷ k ∷ r) (passed_second _ d a),
      decode Digit3 (digit h) i (j ∷ k ∷ r) (passed b),
      decode Digit2 (one_more (digit h) i) j (k ∷ r) (passed c),
      decode Digit1 (one_more (one_more (digit h) i) j) k r (passed f),
      unit_point h i j k,
    )
char_decoded (unit_d {h = h} {i = i} {j = j} {k = k} {r = r} d b c f) v =
    rw (
      decode Plain v 92 (117 ∷ h ∷ i ∷ j ∷ k ∷ r) refl,
      decode Escape 0 117 (h ∷ i ∷ j ∷ k ∷ r) refl,
      decode AUnit 0 h (i ∷ j ∷ k ∷ r) (taken _ _ d),
      decode UnitD (digit h) i (j ∷ k ∷ r) (taken _ _ b),
      decode Digit2 (one_more (digit h) i) j (k ∷ r) (passed c),
      decode Digit1 (one_more (one_more (digit h) i) j) k r (passed f),
      unit_point h i j k,
    )
char_decoded (pair {h = h} {i = i} {j = j} {k = k} {l = l} {m = m} {n = n} {o = o} {r = r} d b c f d' b' c' f') v =
    let w : ℕ = one_more (one_more (one_more (digit h) i) j) k in
    rw (
      decode Plain v 92 (117 ∷ h ∷ i ∷ j ∷ k ∷ 92 ∷ 117 ∷ l ∷ m ∷ n ∷ o ∷ r) refl,
      decode Escape 0 117 (h ∷ i ∷ j ∷ k ∷ 92 ∷ 117 ∷ l ∷ m ∷ n ∷ o ∷ r) refl,
      decode AUnit 0 h (i ∷ j ∷ k ∷ 92 ∷ 117 ∷ l ∷ m ∷ n ∷ o ∷ r) (taken _ _ d),
      decode UnitD (digit h) i (j ∷ k ∷ 92 ∷ 117 ∷ l ∷ m ∷ n ∷ o ∷ r) {n = High2} (passed_second _ (high_not_low i b) b),
      decode High2 (one_more (digit h) i) j (k ∷ 92 ∷ 117 ∷ l ∷ m ∷ n ∷ o ∷ r) (passed c),
      decode High1 (one_more (one_more (digit h) i) j) k (92 ∷ 117 ∷ l ∷ m ∷ n ∷ o ∷ r) (passed f),
      decode Slash w 92 (117 ∷ l ∷ m ∷ n ∷ o ∷ r) refl,
      decode LetterU w 117 (l ∷ m ∷ n ∷ o ∷ r) refl,
      decode SecondD w l (m ∷ n ∷ o ∷ r) (passed d'),
      decode SecondC (one_more w l) m (n ∷ o ∷ r) (passed b'),
      decode Digit2 (one_more (one_more w l) m) n (o ∷ r) (passed c'),
      decode Digit1 (one_more (one_more (one_more w l) m) n) o r (passed f'),
      pair_point h i j k l m n o d b d' b',
    )

pub decoded_chars : {cs s r : List ℕ} → Chars cs s r → (v : ℕ) → chars Plain v s ≡ record { bytes = cs; rest = r }
unfolding chars
decoded_chars close v = refl
decoded_chars (char c cs e) v = rw (char_decoded c v, decoded_chars cs 0, e)
