-- UTF-8 (RFC 3629, section 4: the syntax of UTF-8 byte sequences), in its order.
use Rattle.std.specs.Prelude.{ℕ, ◌≤◌, List, [], ◌∷◌}

-- From lo to hi, both counted.
abbrev pub In : ℕ → ℕ → ℕ → Type 0
In lo hi b = (lo ≤ b) × (b ≤ hi)

abbrev pub Tail : ℕ → Type 0
Tail b = In 0x80 0xBF b

pub data Utf8 : List ℕ → Type 0 where
  none : Utf8 []
  one : {b : ℕ} {s : List ℕ} → In 0x00 0x7F b → Utf8 s → Utf8 (b ∷ s)
  two : {b c : ℕ} {s : List ℕ} → In 0xC2 0xDF b → Tail c → Utf8 s → Utf8 (b ∷ c ∷ s)
  three_e0 : {b c d : ℕ} {s : List ℕ} → In 0xE0 0xE0 b → In 0xA0 0xBF c → Tail d → Utf8 s → Utf8 (b ∷ c ∷ d ∷ s)
  three_e1 : {b c d : ℕ} {s : List ℕ} → In 0xE1 0xEC b → Tail c → Tail d → Utf8 s → Utf8 (b ∷ c ∷ d ∷ s)
  three_e_d : {b c d : ℕ} {s : List ℕ} → In 0xED 0xED b → In 0x80 0x9F c → Tail d → Utf8 s → Utf8 (b ∷ c ∷ d ∷ s)
  three_e_e : {b c d : ℕ} {s : List ℕ} → In 0xEE 0xEF b → Tail c → Tail d → Utf8 s → Utf8 (b ∷ c ∷ d ∷ s)
  four_f0 : {b c d e : ℕ} {s : List ℕ} → In 0xF0 0xF0 b → In 0x90 0xBF c → Tail d → Tail e → Utf8 s → Utf8 (b ∷ c ∷ d ∷ e ∷ s)
  four_f1 : {b c d e : ℕ} {s : List ℕ} → In 0xF1 0xF3 b → Tail c → Tail d → Tail e → Utf8 s → Utf8 (b ∷ c ∷ d ∷ e ∷ s)
  four_f4 : {b c d e : ℕ} {s : List ℕ} → In 0xF4 0xF4 b → In 0x80 0x8F c → Tail d → Tail e → Utf8 s → Utf8 (b ∷ c ∷ d ∷ e ∷ s)
