-- A number's eight bytes one by one, as they are stored and read.
use Prim.Native.Nat.{ℕ, ◌+◌, ◌*◌, ◌≤◌}
use mathlib.Core.Path.{◌≡◌, refl, sym, ◌∙◌}
use mathlib.Core.List.{List, [], append_assoc}
use native.Mathlib.Omega.{arith}
use native.Mathlib.Nat.{div-div-eq-div-mul}
use lib.ListN.{length, take, drop, get_or}
use lib.Seq.{sets, sets-eq}
use borrow.Rule.Slice.PartMut.{put_mid}
use Rattle.std.specs.Int.{w64, to_le_bytes}
use Rattle.std.proofs.lemmas.Slice.{put_mid-paste}
use Rattle.std.proofs.lemmas.List.Edits.{paste_all}
use Rattle.c_numbers.specs.Eights.{bytes_of, number_in}
use Rattle.c_numbers.proofs.Bytes.{four_first, no_bytes, bytes_length}

le_eight : (x : ℕ) → to_le_bytes w64 x ≡ bytes_of 8 x []
unfolding bytes_of
le_eight x = simp div-div-eq-div-mul refl

-- Eight bytes copied over a part of the others.
pub eight_copied : (x at : ℕ) (l : List ℕ) {n : ℕ} {copied : List ℕ} → copied ≡ to_le_bytes w64 x → n ≡ 8 → at + 8 ≤ length l → put_mid at n l copied ≡ sets l at (bytes_of 8 x [])
eight_copied x at l {n} {copied} e f fits =
    let bytes = bytes_of 8 x [] in
    let size : length bytes ≡ 8 = bytes_length 8 x [] in
    put_mid-paste at n l copied bytes (length bytes) (e ∙ le_eight x) (size ∙ sym f) refl
    ∙ paste_all l at bytes (length bytes) refl
    ∙ sym (append_assoc (take at l) bytes (drop (at + length bytes) l))
    ∙ sym (sets-eq bytes l at (omega arith))

-- The number of eight bytes is their sum, each by its factor.
pub eight_first : (at : ℕ) (bytes : List ℕ)
    → number_in 8 (drop at bytes)
    ≡ get_or bytes at 0
    + get_or bytes (at + 1) 0 * 0x100
    + get_or bytes (at + 2) 0 * 0x10000
    + get_or bytes (at + 3) 0 * 0x1000000
    + get_or bytes (at + 4) 0 * 0x100000000
    + get_or bytes (at + 5) 0 * 0x10000000000
    + get_or bytes (at + 6) 0 * 0x1000000000000
    + get_or bytes (at + 7) 0 * 0x100000000000000
eight_first at bytes =
    let five : at + 4 + 1 ≡ at + 5 = omega arith in
    let six : at + 4 + 2 ≡ at + 6 = omega arith in
    let seven : at + 4 + 3 ≡ at + 7 = omega arith in
    let low = four_first 4 at bytes in
    let high = rw (five, six, seven) at (four_first 0 (at + 4) bytes) in
    let none = no_bytes (at + 4) bytes in
    omega arith
