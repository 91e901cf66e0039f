-- JSON's grammar (RFC 8259) over bytes. `Value t s r`: the bytes s begin with a spelling of the tree t, and r is what is left.
use Rattle.std.specs.Prelude.{ℕ, ◌+◌, ◌*◌, ◌-◌, ◌≡◌, List, [], ◌∷◌, ◌++◌, true, false, Some}
use Rattle.json_grammar.specs.Byte.{is_blank, is_numeric, is_hex, is_d, is_to_7, is_8_to_b, is_c_to_f, is_tail, within, digit, utf8}
use Rattle.json_grammar.specs.Tree.{Place, Tree, object, list, string, number, bool, null, Members, no_member, member, Elements, no_element, element}
use Rattle.json_grammar.specs.String.{lead, letter}
use Rattle.json_grammar.specs.declared.string.Lead.TheVariants.{Ascii, Two, E0, Three, Ed, F0, Four, F4}
use Rattle.json_grammar.specs.declared.string.Letter.TheVariants.{Means}
use Rattle.json_grammar.specs.declared.number.InNumber.{InNumber}
use Rattle.json_grammar.specs.declared.number.InNumber.TheVariants.{Start}
use Rattle.json_grammar.specs.Number.{onward, may_end}

pub data Blanks : List ℕ → List ℕ → Type 0 where
  here : {s : List ℕ} → Blanks s s
  blank : {b : ℕ} {s r : List ℕ} → is_blank b ≡ true → Blanks s r → Blanks (b ∷ s) r

-- The number of four hexadecimal digits, and the code point of a surrogate pair.
unfoldable pub four : ℕ → ℕ → ℕ → ℕ → ℕ
four h i j k = ((digit h * 16 + digit i) * 16 + digit j) * 16 + digit k

abbrev pub paired : ℕ → ℕ → ℕ
paired high low = 0x10000 + (high - 0xD800) * 0x400 + (low - 0xDC00)

-- One character. `Char u s r`: its bytes in UTF-8 are u.
pub data Char : List ℕ → List ℕ → List ℕ → Type 0 where
  ascii : {b : ℕ} {r : List ℕ} → lead b ≡ Ascii → Char (b ∷ []) (b ∷ r) r
  two : {b c : ℕ} {r : List ℕ} → lead b ≡ Two → is_tail c ≡ true → Char (b ∷ c ∷ []) (b ∷ c ∷ r) r
  three : {b c d : ℕ} {r : List ℕ} → lead b ≡ Three → is_tail c ≡ true → is_tail d ≡ true → Char (b ∷ c ∷ d ∷ []) (b ∷ c ∷ d ∷ r) r
  three_e0 : {b c d : ℕ} {r : List ℕ} → lead b ≡ E0 → within 0xA0 0xC0 c ≡ true → is_tail d ≡ true → Char (b ∷ c ∷ d ∷ []) (b ∷ c ∷ d ∷ r) r
  three_ed : {b c d : ℕ} {r : List ℕ} → lead b ≡ Ed → within 0x80 0xA0 c ≡ true → is_tail d ≡ true → Char (b ∷ c ∷ d ∷ []) (b ∷ c ∷ d ∷ r) r
  fourth : {b c d e : ℕ} {r : List ℕ} → lead b ≡ Four → is_tail c ≡ true → is_tail d ≡ true → is_tail e ≡ true → Char (b ∷ c ∷ d ∷ e ∷ []) (b ∷ c ∷ d ∷ e ∷ r) r
  four_f0 : {b c d e : ℕ} {r : List ℕ} → lead b ≡ F0 → within 0x90 0xC0 c ≡ true → is_tail d ≡ true → is_tail e ≡ true → Char (b ∷ c ∷ d ∷ e ∷ []) (b ∷ c ∷ d ∷ e ∷ r) r
  four_f4 : {b c d e : ℕ} {r : List ℕ} → lead b ≡ F4 → within 0x80 0x90 c ≡ true → is_tail d ≡ true → is_tail e ≡ true → Char (b ∷ c ∷ d ∷ e ∷ []) (b ∷ c ∷ d ∷ e ∷ r) r
  -- a backslash and a letter
  short : {e m : ℕ} {r : List ℕ} → letter e ≡ Some (Means m) → Char (m ∷ []) (92 ∷ e ∷ r) r
  -- \u and four digits that are no surrogate: the first is no D, or 0 to 7 follow it
  unit : {h i j k : ℕ} {r : List ℕ} → is_d h ≡ false → is_hex h ≡ true → is_hex i ≡ true → is_hex j ≡ true → is_hex k ≡ true
      → Char (utf8 (four h i j k)) (92 ∷ 117 ∷ h ∷ i ∷ j ∷ k ∷ r) r
  unit_d : {h i j k : ℕ} {r : List ℕ} → is_d h ≡ true → is_to_7 i ≡ true → is_hex j ≡ true → is_hex k ≡ true
      → Char (utf8 (four h i j k)) (92 ∷ 117 ∷ h ∷ i ∷ j ∷ k ∷ r) r
  -- the two halves of a surrogate pair
  pair : {h i j k l m n o : ℕ} {r : List ℕ} → is_d h ≡ true → is_8_to_b i ≡ true → is_hex j ≡ true → is_hex k ≡ true
      → is_d l ≡ true → is_c_to_f m ≡ true → is_hex n ≡ true → is_hex o ≡ true
      → Char (utf8 (paired (four h i j k) (four l m n o))) (92 ∷ 117 ∷ h ∷ i ∷ j ∷ k ∷ 92 ∷ 117 ∷ l ∷ m ∷ n ∷ o ∷ r) r

-- The characters of a string up to its closing quote.
pub data Chars : List ℕ → List ℕ → List ℕ → Type 0 where
  close : {r : List ℕ} → Chars [] (34 ∷ r) r
  char : {u cs bs s m r : List ℕ} → Char u s m → Chars cs m r → bs ≡ u ++ cs → Chars bs s r

-- The rest of a number, as it is written. What follows a number in a text is never a byte that numbers are written with.
pub data Digits : InNumber → List ℕ → List ℕ → List ℕ → Type 0 where
  over : {n : InNumber} → may_end n ≡ true → Digits n [] [] []
  stop : {n : InNumber} {b : ℕ} {r : List ℕ} → may_end n ≡ true → is_numeric b ≡ false → Digits n [] (b ∷ r) (b ∷ r)
  next : {n m : InNumber} {b : ℕ} {ds s r : List ℕ} → onward n b ≡ Some m → Digits m ds s r → Digits n (b ∷ ds) (b ∷ s) r

mutual
  pub data Value : Tree → List ℕ → List ℕ → Type 0 where
    an_empty_object : {s r : List ℕ} → Blanks s (125 ∷ r) → Value (object (123 ∷ s) no_member) (123 ∷ s) r
    an_object : {ms : Members} {s m r : List ℕ} → Blanks s m → Named ms m r → Value (object (123 ∷ s) ms) (123 ∷ s) r
    an_empty_list : {s r : List ℕ} → Blanks s (93 ∷ r) → Value (list (91 ∷ s) no_element) (91 ∷ s) r
    a_list : {ts : Elements} {s m r : List ℕ} → Blanks s m → Listed ts m r → Value (list (91 ∷ s) ts) (91 ∷ s) r
    a_string : {cs s r : List ℕ} → Chars cs s r → Value (string (34 ∷ s) cs) (34 ∷ s) r
    a_number : {ds s r : List ℕ} → Digits Start ds s r → Value (number s ds) s r
    a_true : {r : List ℕ} → Value (bool (116 ∷ 114 ∷ 117 ∷ 101 ∷ r) true) (116 ∷ 114 ∷ 117 ∷ 101 ∷ r) r
    a_false : {r : List ℕ} → Value (bool (102 ∷ 97 ∷ 108 ∷ 115 ∷ 101 ∷ r) false) (102 ∷ 97 ∷ 108 ∷ 115 ∷ 101 ∷ r) r
    a_null : {r : List ℕ} → Value (null (110 ∷ 117 ∷ 108 ∷ 108 ∷ r)) (110 ∷ 117 ∷ 108 ∷ 108 ∷ r) r

  -- an element, and what stands behind it: the closing bracket (93), or a comma (44) and the next element
  pub data Listed : Elements → List ℕ → List ℕ → Type 0 where
    first : {t : Tree} {ts : Elements} {s m n r : List ℕ} → Value t s m → Blanks m n → Behind ts n r → Listed (element t ts) s r

  pub data Behind : Elements → List ℕ → List ℕ → Type 0 where
    bracket : {r : List ℕ} → Behind no_element (93 ∷ r) r
    next_element : {ts : Elements} {s m r : List ℕ} → Blanks s m → Listed ts m r → Behind ts (44 ∷ s) r

  -- a name, a colon (58) and a value, and what stands behind them: the closing brace (125), or a comma and the next member
  pub data Named : Members → List ℕ → List ℕ → Type 0 where
    name : {n : List ℕ} {t : Tree} {ms : Members} {s a b c d e r : List ℕ} → Chars n s a → Blanks a (58 ∷ b) → Blanks b c → Value t c d → Blanks d e → Follows ms e r
        → Named (member (34 ∷ s) n t ms) (34 ∷ s) r

  pub data Follows : Members → List ℕ → List ℕ → Type 0 where
    brace : {r : List ℕ} → Follows no_member (125 ∷ r) r
    next_member : {ms : Members} {s m r : List ℕ} → Blanks s m → Named ms m r → Follows ms (44 ∷ s) r

-- A text: one object, with blanks around it.
pub data Text : Tree → List ℕ → Type 0 where
  text : {p : Place} {ms : Members} {s m r : List ℕ} → Blanks s m → Value (object p ms) m r → Blanks r [] → Text (object p ms) s
