-- Numbers in bytes: one store after another, and back.
use Prim.Native.Nat.{ℕ, zero, suc, ◌+◌, ◌*◌, ◌/◌, ◌%◌, ◌<◌, ◌≤◌}
use mathlib.Core.Path.{◌≡◌, refl, sym, ap, ◌∙◌}
use mathlib.Core.List.{List, [], ◌∷◌, ◌++◌, append-nil}
use native.Mathlib.Omega.{arith}
use native.Mathlib.Nat.{add-zero}
use lib.ListN.{length, drop, get_or, set, drop_of_length-le}
use lib.Seq.{sets, sets-eq, get_or-drop, get_or-set_same, get_or-set_other, drop-drop, drop-length}
use borrow.Author.Count.{below_more}
use Rattle.json_grammar.proofs.Moves.{byte_here}
use Rattle.json_grammar.proofs.Stores.{sets_append}
use Rattle.c_numbers.specs.Eights.{bytes_of, all_bytes, number_in}

pub bytes_front : (n x : ℕ) (k : List ℕ) → bytes_of n x k ≡ bytes_of n x [] ++ k
unfolding bytes_of
bytes_front zero x k = refl
bytes_front (suc n) x k = ap (λ (l : List ℕ). x % 256 ∷ l) (bytes_front n (x / 256) k)

pub bytes_length : (n x : ℕ) (k : List ℕ) → length (bytes_of n x k) ≡ n + length k
unfolding bytes_of
bytes_length zero x k = omega arith
bytes_length (suc n) x k = let e = bytes_length n (x / 256) k in omega arith

pub all_length : (ws : List ℕ) → length (all_bytes ws) ≡ length ws * 8
unfolding all_bytes
all_length [] = refl
all_length (w ∷ ws) = let e = all_length ws in bytes_length 8 w (all_bytes ws) ∙ omega arith

pub all_append : (xs ys : List ℕ) → all_bytes (xs ++ ys) ≡ all_bytes xs ++ all_bytes ys
unfolding all_bytes bytes_of
all_append [] ys = refl
all_append (x ∷ xs) ys = ap (bytes_of 8 x) (all_append xs ys)

-- A number in front of the others is stored first.
pub number_first : (w : ℕ) (ws l : List ℕ) (at : ℕ) → sets l at (all_bytes (w ∷ ws)) ≡ sets (sets l at (bytes_of 8 w [])) (at + 8) (all_bytes ws)
unfolding all_bytes
number_first w ws l at =
    ap (sets l at) (bytes_front 8 w (all_bytes ws)) ∙ sets_append (bytes_of 8 w []) (all_bytes ws) l at
    ∙ ap (λ (n : ℕ). sets (sets l at (bytes_of 8 w [])) (at + n) (all_bytes ws)) (bytes_length 8 w [])

-- Bytes as many as the list has take its place.
pub sets_whole : (vs l : List ℕ) → length vs ≡ length l → sets l 0 vs ≡ vs
sets_whole vs l e =
    let n : 0 + length vs ≡ length l = omega arith in
    sets-eq vs l 0 (omega arith)
    ∙ ap (λ (k : ℕ). vs ++ drop k l) n
    ∙ ap (λ (r : List ℕ). vs ++ r) (drop-length l)
    ∙ append-nil vs

-- The number at a place, by its first byte.
pub number_at_lem : (n at : ℕ) (bytes : List ℕ) → number_in (suc n) (drop at bytes) ≡ get_or bytes at 0 + 256 * number_in n (drop (at + 1) bytes)
unfolding number_in
number_at_lem n at bytes = simp (get_or-drop, add-zero, drop-drop)

-- How many numbers n bytes hold.
abbrev pub room : ℕ → ℕ
room zero = 1
room (suc n) = 256 * room n

pub number_back : (n x : ℕ) (k : List ℕ) → x < room n → number_in n (bytes_of n x k) ≡ x
unfolding number_in bytes_of
number_back zero x k h = omega arith
number_back (suc n) x k h = let e = number_back n (x / 256) k (omega arith) in rw e (omega arith)

pub bytes_behind : (n x : ℕ) (k : List ℕ) → drop n (bytes_of n x k) ≡ k
unfolding bytes_of
bytes_behind zero x k = refl
bytes_behind (suc n) x k = bytes_behind n (x / 256) k

-- The first four bytes of a number.
pub four_first : (n at : ℕ) (bytes : List ℕ) → number_in (suc (suc (suc (suc n)))) (drop at bytes) ≡ get_or bytes at 0 + get_or bytes (at + 1) 0 * 256 + get_or bytes (at + 2) 0 * 65536 + get_or bytes (at + 3) 0 * 16777216 + number_in n (drop (at + 4) bytes) * 4294967296
four_first n at bytes =
    let a = number_at_lem (suc (suc (suc n))) at bytes in
    let b = number_at_lem (suc (suc n)) (at + 1) bytes in
    let two : at + 1 + 1 ≡ at + 2 = omega arith in
    let three : at + 2 + 1 ≡ at + 3 = omega arith in
    let four : at + 3 + 1 ≡ at + 4 = omega arith in
    let c = number_at_lem (suc n) (at + 2) bytes in
    let d = number_at_lem n (at + 3) bytes in
    let p = ap (λ (m : ℕ). number_in (suc (suc n)) (drop m bytes)) two in
    let q = ap (λ (m : ℕ). number_in (suc n) (drop m bytes)) three in
    let r = ap (λ (m : ℕ). number_in n (drop m bytes)) four in
    omega arith

pub no_bytes : (at : ℕ) (bytes : List ℕ) → number_in 0 (drop (at + 4) bytes) ≡ 0
unfolding number_in
no_bytes at bytes = refl

-- Behind the end there is 0.
pub number_past : (at : ℕ) (bytes : List ℕ) → length bytes ≤ at → number_in 8 (drop at bytes) ≡ 0
unfolding number_in
number_past at bytes h = ap (number_in 8) (drop_of_length-le bytes h)

-- What is still to be stored, once the next number is.
pub number_next : (ws l m : List ℕ) (from i : ℕ) → i < length ws → m ≡ sets l (from + i * 8) (bytes_of 8 (get_or ws i 0) [])
    → sets m (from + (i + 1) * 8) (all_bytes (drop (i + 1) ws)) ≡ sets l (from + i * 8) (all_bytes (drop i ws))
number_next ws l m from i h e =
    let at : from + (i + 1) * 8 ≡ from + i * 8 + 8 = omega arith in
    rw (e, at)
    (sym (number_first (get_or ws i 0) (drop (i + 1) ws) l (from + i * 8)) ∙ ap (λ (s : List ℕ). sets l (from + i * 8) (all_bytes s)) (sym (byte_here ws i h)))

-- What is taken so far, once the next number is.
pub taken_next : (f : ℕ → ℕ) (ns : List ℕ) (i x : ℕ) → i < length ns → ((k : ℕ) → k < i → get_or ns k 0 ≡ f k) → x ≡ f i
    → (k : ℕ) → k < i + 1 → get_or (set ns i x) k 0 ≡ f k
taken_next f ns i x h all e =
    below_more (λ (k : ℕ). get_or (set ns i x) k 0 ≡ f k) i
    (λ k l. get_or-set_other ns i k x 0 (λ g. omega arith) ∙ all k l)
    (get_or-set_same ns i x 0 h ∙ e)
