-- Two lists of bytes compared as `eq` of two iterators over them compares: in turn, up to the first place where they differ or one ends.
use Prim.Native.Nat.{ℕ}
use mathlib.Core.Path.{◌≡◌}
use mathlib.Core.List.{List, [], ◌∷◌}
use mathlib.Core.Bool.{Bool, true, false}
use lib.Dec.{eqb}
use Rattle.std.specs.Prelude.{Option, Some, None, MatchOption, IfSome}
use Rattle.std.specs.List.{AllZip}
use Rattle.std.specs.Iterator.{YieldsFirst, Yields, ComparesItemsByEq}
use Rattle.json_move.specs.Read.{same}

module _ {S : Type 0} (rest : S → List ℕ) (r : Bool) where
  ends : (o p : Option ℕ) (s s' t t' : S) → YieldsFirst rest s o s' → YieldsFirst rest t p t'
      → MatchOption o (MatchOption p (r ≡ true) (λ _. r ≡ false)) (λ x. (r ≡ false) × IfSome p (λ y. eqb x y ≡ false))
      → r ≡ same (rest s) (rest t)
  ends None None s s' t t' e f l = rw (e.0, f.0) l
  ends None (Some y) s s' t t' e f l = rw (e.0, f) l
  ends (Some x) None s s' t t' e f l = rw (e, f.0) l.0
  ends (Some x) (Some y) s s' t t' e f l = rw (e, f, l.1) l.0

  goes : (xs ys : List ℕ) (s t u v : S) → Yields (YieldsFirst rest) s xs u → Yields (YieldsFirst rest) t ys v
      → AllZip (λ x y. eqb x y ≡ true) xs ys → r ≡ same (rest u) (rest v) → r ≡ same (rest s) (rest t)
  goes [] [] s t u v e f z h = rw (e, f) h
  goes [] (y ∷ ys) s t u v e f z h = absurd z
  goes (x ∷ xs) [] s t u v e f z h = absurd z
  goes (x ∷ xs) (y ∷ ys) s t u v (j, a, k) (i, b, l) z h = rw (a, b, z.0) (goes xs ys j i u v k l z.1 h)

  pub compared : (s t : S) → ComparesItemsByEq (YieldsFirst rest) (λ a b. b ≡ a) (YieldsFirst rest) s t eqb r → r ≡ same (rest s) (rest t)
  compared s t (i, xs, ys, o, p, u, v, e, (s', a, b), (t', c, d), z, l) =
      let k : r ≡ same (rest s) (rest i) = goes xs ys s i s' t' a c z (ends o p s' u t' v b d l) in rw (← e) k
