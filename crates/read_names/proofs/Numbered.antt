-- The numbers of document 01's names.
use Prim.Native.Nat.{ℕ, ◌≤◌}
use mathlib.Core.Path.{◌≡◌, refl, sym, ap, ◌∙◌}
use mathlib.Core.List.{List, [], ◌∷◌}
use mathlib.Core.Bool.{Bool, true, false, ◌&&◌, false≢true}
use lib.ListN.{length}
use lib.Dec.{eqb, leb, ltb}
use native.Mathlib.Omega.{arith}
use borrow.Author.Tests.{eqb-true, eq-eqb, ne_eqb, leb-true, ltb-true}
use Rattle.document.specs.Lookup.{same}
use Rattle.json_grammar.proofs.Truth.{and_left, and_right}
use Rattle.document.proofs.Same.{same_refl, same_equal}
use Rattle.std.specs.Prelude.{Some, None}
use Rattle.std.specs.List.{find as first_of}
use borrow.Author.Rules.{rules}
use Rattle.read_names.specs.Names.{names, name_at, number_of, spelled, all_names, name_of, pack, head_of, tail_of, Bytes, is_packed, short_name, Packs}
use Rattle.read_names.specs.declared.names.Name.{Name}
use Rattle.read_names.specs.declared.names.Name.TheVariants as N
use Rattle.read_names.proofs.Naming.{numbered, numbered_is}
use Rattle.read_names.specs.declared.packed.Packed.{Packed}
use Rattle.read_names.proofs.Packing.{names_apart}

-- ---- by packed bytes
abbrev all_bytes : List ℕ → Bool
all_bytes [] = true
all_bytes (b ∷ s) = ltb b 256 && all_bytes s

all_bytes_lem : (s : List ℕ) → all_bytes s ≡ true → Bytes s
all_bytes_lem [] e = tt
all_bytes_lem (b ∷ s) e = (ltb-true b 256 (and_left _ _ e), all_bytes_lem s (and_right (ltb b 256) _ e))

fits : (m : Name) → all_bytes (spelled m) && leb (length (spelled m)) 14 ≡ true
unfolding names name_at
fits m = search rules

first_same : (p q : Name → Bool) → ((m : Name) → p m ≡ q m) → (ms : List Name) → first_of p ms ≡ first_of q ms
first_same p q h [] = refl
first_same p q h (m ∷ ms) = rw (h m, first_same p q h ms)

module _ (name : List ℕ) (p : Packed) (k : Packs name p) where
  same_packed : (m : List ℕ) → Bytes m → length m ≤ 14 → eqb p.tail (tail_of m) && eqb p.head (head_of m) ≡ same name m
  same_packed m h l = go (same name m) refl
    where
      other : (same name m ≡ false) → p.tail ≡ tail_of m → p.head ≡ head_of m → ⊥
      other e t u =
          let n : name ≡ m = names_apart name m k.small h l (sym k.head ∙ u) (sym k.tail ∙ t) in
          let f : true ≡ false = sym (same_refl m) ∙ rw n at e in
          let z : ◌≡◌ {A = ℕ} 0 1 = cc in
          omega arith

      apart : same name m ≡ false → (x : Bool) → eqb p.tail (tail_of m) ≡ x → eqb p.tail (tail_of m) && eqb p.head (head_of m) ≡ false
      apart e true t = rw t (ne_eqb p.head (head_of m) (other e (eqb-true _ _ t)))
      apart e false t = rw t

      go : (x : Bool) → same name m ≡ x → eqb p.tail (tail_of m) && eqb p.head (head_of m) ≡ x
      go true e = let n = same_equal name m e in rw (eq-eqb p.tail (tail_of m) (k.tail ∙ ap tail_of n), eq-eqb p.head (head_of m) (k.head ∙ ap head_of n))
      go false e = apart e (eqb p.tail (tail_of m)) refl

  by_packed : first_of (is_packed p.head p.tail) all_names ≡ name_of name
  unfolding name_of
  by_packed = first_same (is_packed p.head p.tail) (λ m. same name (spelled m)) (λ m. same_packed (spelled m) (all_bytes_lem (spelled m) (and_left _ _ (fits m))) (leb-true (length (spelled m)) 14 (and_right (all_bytes (spelled m)) _ (fits m)))) all_names

  pub short_packed : p.tail ≡ 1 → short_name p.head ≡ name_of name
  unfolding short_name
  short_packed e = rw e at by_packed

  pub long_packed : p.head ≡ 0x16170706C496E73 → p.tail ≡ 0x17472 → Some N.ApplInstr ≡ name_of name
  unfolding names name_at head_of tail_of pack
  long_packed e f = rw (e, f) at by_packed

  module _ (e : p.tail ≡ 1 → ⊥) where
    pub other_tail : (p.tail ≡ 0x17472 → ⊥) → None ≡ name_of name
    unfolding names name_at head_of tail_of pack
    other_tail f = rw (ne_eqb p.tail 1 e, ne_eqb p.tail 0x17472 f) at by_packed

    pub other_head : (p.head ≡ 0x16170706C496E73 → ⊥) → None ≡ name_of name
    unfolding names name_at head_of tail_of pack
    other_head f = go (eqb p.tail 0x17472) refl
      where
        go : (x : Bool) → eqb p.tail 0x17472 ≡ x → None ≡ name_of name
        go true t = rw (ne_eqb p.tail 1 e, t, ne_eqb p.head 0x16170706C496E73 f) at by_packed
        go false t = rw (ne_eqb p.tail 1 e, t) at by_packed

-- ---- a name and how it is spelled
spells : (m : Name) → name_of (spelled m) ≡ Some m
unfolding names name_at name_of
spells m = search rules

first_holds : (p : Name → Bool) (ms : List Name) {m : Name} → first_of p ms ≡ Some m → p m ≡ true
first_holds p [] e = let z : ◌≡◌ {A = ℕ} 0 1 = cc in absurd (omega arith)
first_holds p (x ∷ ms) {m} e = go (p x) refl (λ z. first_holds p ms z)
  where
    go : (b : Bool) → p x ≡ b → (first_of p ms ≡ Some m → p m ≡ true) → p m ≡ true
    go true h r = let z : Some x ≡ Some m = rw h at e in let y : x ≡ m = cc in rw (← y) h
    go false h r = let z : first_of p ms ≡ Some m = rw h at e in r z

pub name_is : (n : List ℕ) {m : Name} → name_of n ≡ Some m → n ≡ spelled m
unfolding name_of
name_is n {m} e = same_equal n (spelled m) (first_holds (λ x. same n (spelled x)) all_names e)

module _ (m : Name) (n : List ℕ) where
  number_same : n ≡ spelled m → number_of m ≡ numbered (name_of n)
  number_same e = rw (e, spells m)

  same_number : number_of m ≡ numbered (name_of n) → n ≡ spelled m
  same_number e = name_is n (numbered_is m (name_of n) e)

  -- A name is the one of a number if that is its own.
  pub named_same : same (spelled m) n ≡ eqb (number_of m) (numbered (name_of n))
  named_same = go (same (spelled m) n) refl
    where
      go : (x : Bool) → same (spelled m) n ≡ x → x ≡ eqb (number_of m) (numbered (name_of n))
      go true e = sym (eq-eqb (number_of m) (numbered (name_of n)) (number_same (sym (same_equal (spelled m) n e))))
      go false e = sym (ne_eqb (number_of m) (numbered (name_of n)) (λ z. false≢true (sym e ∙ rw (← same_number z) (same_refl n))))

  pub same_named : same n (spelled m) ≡ eqb (numbered (name_of n)) (number_of m)
  same_named = go (same n (spelled m)) refl
    where
      go : (x : Bool) → same n (spelled m) ≡ x → x ≡ eqb (numbered (name_of n)) (number_of m)
      go true e = sym (eq-eqb (numbered (name_of n)) (number_of m) (sym (number_same (same_equal n (spelled m) e))))
      go false e = sym (ne_eqb (numbered (name_of n)) (number_of m) (λ z. false≢true (sym e ∙ rw (← same_number (sym z)) (same_refl n))))
