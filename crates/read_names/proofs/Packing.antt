-- A name's bytes in two numbers, byte by byte; and that these numbers tell names apart.
use Prim.Native.Nat.{ℕ, zero, suc, ◌+◌, ◌*◌, ◌%◌, ◌<◌, ◌≤◌}
use mathlib.Core.Path.{◌≡◌, refl, sym, ap, ◌∙◌}
use mathlib.Core.List.{List, [], ◌∷◌, ◌++◌, append-nil}
use mathlib.Core.Bool.{Bool, true, false}
use lib.ListN.{length, drop, take, length-append, length-drop, drop_of_length-le, take-append-drop}
use lib.Seq.{take_all, take-append-le, drop-append-le}
use lib.Dec.{leb}
use native.Mathlib.Nat.{mod-eq_of_lt}
use native.Mathlib.Omega.{arith}
use borrow.Author.Tests.{le-leb, lt-leb, leb-true}
use Rattle.read_names.specs.Names.{pack, head_of, tail_of, Bytes, Packs}
use Rattle.read_names.specs.declared.packed.Packed.{Packed}

-- ---- one byte more
pack_one : (v : ℕ) (s : List ℕ) (b : ℕ) → pack v (s ++ b ∷ []) ≡ pack v s * 256 + b
unfolding pack
pack_one v [] b = refl
pack_one v (a ∷ s) b = pack_one (v * 256 + a) s b

-- Fewer than seven bytes leave room for one more.
pack_room : (s : List ℕ) → Bytes s → length s < 7 → pack 1 s < 0x100000000000000
unfolding pack
pack_room [] h l = omega arith
pack_room (a ∷ []) h l = omega arith
pack_room (a ∷ b ∷ []) h l = omega arith
pack_room (a ∷ b ∷ c ∷ []) h l = omega arith
pack_room (a ∷ b ∷ c ∷ d ∷ []) h l = omega arith
pack_room (a ∷ b ∷ c ∷ d ∷ e ∷ []) h l = omega arith
pack_room (a ∷ b ∷ c ∷ d ∷ e ∷ f ∷ []) h l = omega arith
pack_room (a ∷ b ∷ c ∷ d ∷ e ∷ f ∷ g ∷ s) h l = absurd (omega arith)

pack_on : (s : List ℕ) (b : ℕ) → Bytes s → length s < 7 → pack 1 s % 0x100000000000000 * 256 + b ≡ pack 1 (s ++ b ∷ [])
pack_on s b h l = let e = mod-eq_of_lt (pack_room s h l) in let o = pack_one 1 s b in omega arith

bytes_drop : (n : ℕ) (s : List ℕ) → Bytes s → Bytes (drop n s)
bytes_drop zero s h = h
bytes_drop (suc n) [] h = h
bytes_drop (suc n) (b ∷ s) h = bytes_drop n s h.1

bytes_take : (n : ℕ) (s : List ℕ) → Bytes s → Bytes (take n s)
bytes_take zero s h = tt
bytes_take (suc n) [] h = tt
bytes_take (suc n) (b ∷ s) h = (h.0, bytes_take n s h.1)

bytes_one : (n : ℕ) (s : List ℕ) (b : ℕ) → Bytes (take n s) → b < 256 → Bytes (take n (s ++ b ∷ []))
bytes_one zero s b h l = tt
bytes_one (suc n) [] b h l = (l, bytes_take n [] tt)
bytes_one (suc n) (a ∷ s) b h l = (h.0, bytes_one n s b h.1 l)

-- Of at most fourteen bytes the first fourteen are all.
bytes_all : (s : List ℕ) → Bytes (take 14 s) → length s ≤ 14 → Bytes s
bytes_all s h l = rw (take_all 14 s l) at h

length_one : (s : List ℕ) (b : ℕ) → length (s ++ b ∷ []) ≡ length s + 1
length_one s b = length-append s (b ∷ [])

-- ---- the two numbers
pub no_letter : Packs [] (record { head = 1; tail = 1; letters = 0 })
unfolding head_of tail_of pack
no_letter = record { head = refl; tail = refl; letters = refl; small = tt }

tail_none : (s : List ℕ) → length s ≤ 7 → tail_of s ≡ 1
unfolding tail_of pack
tail_none s h = let l : length s ≤ 14 = omega arith in rw (le-leb (length s) 14 l, drop_of_length-le s h)

tail_some : (s : List ℕ) → length s ≤ 14 → tail_of s ≡ pack 1 (drop 7 s)
unfolding tail_of
tail_some s h = rw (le-leb (length s) 14 h)

tail_over : (s : List ℕ) → 14 < length s → tail_of s ≡ 0
unfolding tail_of
tail_over s h = rw (lt-leb (length s) 14 h)

module _ (p : Packed) (b : ℕ) (small : b < 256) (name : List ℕ) (k : Packs name p) where
  pub letter_first : (w : ℕ) → w ≡ b → p.letters < 7 → Packs (name ++ b ∷ []) (record { head = p.head % 0x100000000000000 * 256 + w; tail = p.tail; letters = p.letters + 1 })
  unfolding head_of
  letter_first w e h =
      let few : length name < 7 = omega (arith, k.letters) in
      let whole = take_all 7 name (omega arith) in
      let all = take_all 7 (name ++ b ∷ []) (omega (arith, length_one name b)) in
      record {
        head = rw (e, k.head, whole, all) (pack_on name b (bytes_all name k.small (omega arith)) few);
        tail = k.tail ∙ tail_none name (omega arith) ∙ sym (tail_none (name ++ b ∷ []) (omega (arith, length_one name b)));
        letters = omega (arith, k.letters, length_one name b);
        small = bytes_one 14 name b k.small small;
      }

  pub letter_second : (w : ℕ) → w ≡ b → 7 ≤ p.letters → p.letters < 14 → Packs (name ++ b ∷ []) (record { head = p.head; tail = p.tail % 0x100000000000000 * 256 + w; letters = p.letters + 1 })
  unfolding head_of
  letter_second w e g h =
      let far : 7 ≤ length name = omega (arith, k.letters) in
      let near : length name < 14 = omega (arith, k.letters) in
      let few : length (drop 7 name) < 7 = rw length-drop (omega arith) in
      record {
        head = k.head ∙ rw (take-append-le 7 name (b ∷ []) far);
        tail =
            rw (e, k.tail, tail_some name (omega arith), tail_some (name ++ b ∷ []) (omega (arith, length_one name b)), drop-append-le 7 name (b ∷ []) far)
            (pack_on (drop 7 name) b (bytes_drop 7 name (bytes_all name k.small (omega arith))) few);
        letters = omega (arith, k.letters, length_one name b);
        small = bytes_one 14 name b k.small small;
      }

  pub letter_over : 14 ≤ p.letters → Packs (name ++ b ∷ []) (record { head = p.head; tail = 0; letters = 15 })
  unfolding head_of
  letter_over h =
      let far : 14 ≤ length name = omega (arith, k.letters) in
      record {
        head = k.head ∙ rw (take-append-le 7 name (b ∷ []) (omega arith));
        tail = sym (tail_over (name ++ b ∷ []) (omega (arith, length_one name b)));
        letters = omega (arith, length_one name b);
        small = bytes_one 14 name b k.small small;
      }

-- Fifteen letters stand for any number of them, and nothing is told of those behind the first fourteen.
pub letters_full : (name more : List ℕ) (p : Packed) → Packs name p → p.letters ≡ 15 → Packs (name ++ more) p
unfolding head_of
letters_full name more p k h =
    let far : 14 < length name = omega (arith, k.letters) in
    record {
      head = k.head ∙ rw (take-append-le 7 name more (omega arith));
      tail = k.tail ∙ tail_over name far ∙ sym (tail_over (name ++ more) (omega (arith, length-append name more)));
      letters = omega (arith, k.letters, length-append name more);
      small = rw (take-append-le 14 name more (omega arith)) k.small;
    }

-- ---- apart: the same numbers are of the same bytes. From the last byte on:
packed : List ℕ → ℕ
packed [] = 1
packed (b ∷ s) = packed s * 256 + b

over : List ℕ → List ℕ → List ℕ
over [] t = t
over (b ∷ s) t = over s (b ∷ t)

pack_over : (s t : List ℕ) → pack (packed t) s ≡ packed (over s t)
unfolding pack packed over
pack_over [] t = refl
pack_over (b ∷ s) t = pack_over s (b ∷ t)

over_over : (s t u : List ℕ) → over (over s t) u ≡ over t (s ++ u)
unfolding over
over_over [] t u = refl
over_over (b ∷ s) t u = over_over s (b ∷ t) u

bytes_over : (s t : List ℕ) → Bytes s → Bytes t → Bytes (over s t)
unfolding over
bytes_over [] t h k = k
bytes_over (b ∷ s) t h k = bytes_over s (b ∷ t) h.1 (h.0, k)

packed_some : (s : List ℕ) → 1 ≤ packed s
unfolding packed
packed_some [] = omega arith
packed_some (b ∷ s) = omega (arith, packed_some s)

packed_apart : (s t : List ℕ) → Bytes s → Bytes t → packed s ≡ packed t → s ≡ t
unfolding packed
packed_apart [] [] h k e = refl
packed_apart [] (c ∷ t) h k e = absurd (omega (arith, packed_some t))
packed_apart (b ∷ s) [] h k e = absurd (omega (arith, packed_some s))
packed_apart (b ∷ s) (c ∷ t) h k e =
    let low : b ≡ c = omega arith in
    let high : packed s ≡ packed t = omega arith in
    rw (low, packed_apart s t h.1 k.1 high)

back : (s : List ℕ) → over (over s []) [] ≡ s
unfolding over
back s = over_over s [] [] ∙ append-nil s

pack_apart : (s t : List ℕ) → Bytes s → Bytes t → pack 1 s ≡ pack 1 t → s ≡ t
unfolding packed over
pack_apart s t h k e =
    sym (back s) ∙ ap (λ x. over x []) (packed_apart (over s []) (over t []) (bytes_over s [] h tt) (bytes_over t [] k tt) (sym (pack_over s []) ∙ e ∙ pack_over t [])) ∙ back t

pack_some : (s : List ℕ) → 1 ≤ pack 1 s
unfolding packed over
pack_some s = omega (arith, pack_over s [], packed_some (over s []))

-- Of names of which one has at most fourteen bytes.
pub names_apart : (s t : List ℕ) → Bytes (take 14 s) → Bytes t → length t ≤ 14 → head_of s ≡ head_of t → tail_of s ≡ tail_of t → s ≡ t
unfolding head_of tail_of
names_apart s t h k l e f = go (leb (length s) 14) refl
  where
    go : (b : Bool) → leb (length s) 14 ≡ b → s ≡ t
    go true z =
        let all = bytes_all s h (leb-true _ _ z) in
        let last : pack 1 (drop 7 s) ≡ pack 1 (drop 7 t) = rw (z, tail_some t l) at f in
        sym (take-append-drop 7 s)
        ∙ rw (
          pack_apart (take 7 s) (take 7 t) (bytes_take 7 s all) (bytes_take 7 t k) e,
          pack_apart (drop 7 s) (drop 7 t) (bytes_drop 7 s all) (bytes_drop 7 t k) last,
        )
        (take-append-drop 7 t)
    go false z =
        let none : 0 ≡ pack 1 (drop 7 t) = rw (z, tail_some t l) at f in
        absurd (omega (arith, pack_some (drop 7 t)))
