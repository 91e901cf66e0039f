-- Bytes by their kinds: RFC 8259 names them by number, and so does this page.
use Rattle.std.specs.Prelude.{ℕ, ◌+◌, ◌-◌, ◌/◌, ◌%◌, List, [], ◌∷◌, Bool, true, false}
use Rattle.json_grammar.specs.Rows.{else, below, look, choose}

-- from lo on, and below hi
unfoldable pub within : ℕ → ℕ → ℕ → Bool
unfolding look
within lo hi b = look b (below lo false (below hi true (else false)))

-- Blanks: tab, line feed, carriage return and space.
unfoldable pub is_blank : ℕ → Bool
unfolding look
is_blank b = look b (below 9 false (below 11 true (below 13 false (below 14 true (below 32 false (below 33 true (else false)))))))

-- What is left behind blanks.
unfoldable pub blanked : List ℕ → List ℕ
unfolding is_blank
blanked [] = []
blanked (b ∷ s) = choose (is_blank b) (λ _. blanked s) λ _. b ∷ s

-- The bytes that numbers are written with: + - . 0 to 9 E e.
unfoldable pub is_numeric : ℕ → Bool
unfolding look
is_numeric b =
    look b (below 43 false (below 44 true (below 45 false (below 47 true (below 48 false (below 58 true
    (below 69 false (below 70 true (below 101 false (below 102 true (else false)))))))))))

-- Hexadecimal digits, at either case of their letters.
unfoldable pub is_hex : ℕ → Bool
unfolding look
is_hex b = look b (below 48 false (below 58 true (below 65 false (below 71 true (below 97 false (below 103 true (else false)))))))

-- D, with which each half of a surrogate pair begins; behind it 0 to 7 make no surrogate, 8 to B the first half, C to F the second.
unfoldable pub is_d : ℕ → Bool
unfolding look
is_d b = look b (below 68 false (below 69 true (below 100 false (below 101 true (else false)))))

unfoldable pub is_to_7 : ℕ → Bool
unfolding within
is_to_7 b = within 48 56 b

unfoldable pub is_8_to_b : ℕ → Bool
unfolding look
is_8_to_b b = look b (below 56 false (below 58 true (below 65 false (below 67 true (below 97 false (below 99 true (else false)))))))

unfoldable pub is_c_to_f : ℕ → Bool
unfolding look
is_c_to_f b = look b (below 67 false (below 71 true (below 99 false (below 103 true (else false)))))

-- What a hexadecimal digit counts; any other byte counts 0.
unfoldable pub digit : ℕ → ℕ
unfolding look
digit b = look b (below 48 0 (below 58 (b - 48) (below 65 0 (below 71 (b - 55) (below 97 0 (below 103 (b - 87) (else 0)))))))

-- A byte of a UTF-8 sequence behind its first.
unfoldable pub is_tail : ℕ → Bool
unfolding within
is_tail b = within 0x80 0xC0 b

-- The bytes of a code point in UTF-8 (RFC 3629).
unfoldable pub utf8 : ℕ → List ℕ
unfolding look
utf8 c =
    look c (below 0x80 (c ∷ [])
    (below 0x800 ((0xC0 + c / 64) ∷ (0x80 + c % 64) ∷ [])
    (below 0x10000 ((0xE0 + c / 4096) ∷ (0x80 + c / 64 % 64) ∷ (0x80 + c % 64) ∷ [])
    (else ((0xF0 + c / 262144 % 8) ∷ (0x80 + c / 4096 % 64) ∷ (0x80 + c / 64 % 64) ∷ (0x80 + c % 64) ∷ [])))))
