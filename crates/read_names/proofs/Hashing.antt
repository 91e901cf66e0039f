-- A hash, byte by byte.
use Prim.Native.Nat.{ℕ}
use mathlib.Core.Path.{◌≡◌, refl}
use mathlib.Core.List.{List, [], ◌∷◌, ◌++◌}
use Rattle.read_names.specs.Names.{hash_on, hash_from}

pub hash_append : (seed h : ℕ) (part s : List ℕ) → hash_from seed h (part ++ s) ≡ hash_from seed (hash_from seed h part) s
unfolding hash_from
hash_append seed h [] s = refl
hash_append seed h (b ∷ part) s = hash_append seed (hash_on seed h b) part s

pub hash_more : (seed h : ℕ) (part : List ℕ) (b : ℕ) → hash_from seed h (part ++ b ∷ []) ≡ hash_on seed (hash_from seed h part) b
unfolding hash_from
hash_more seed h part b = rw hash_append
