-- The strings of a posology, one behind the other, and how many bytes they have; and whether a string is empty, by how many it has.
use Prim.Native.Nat.{ℕ, ◌+◌}
use mathlib.Core.Path.{◌≡◌, refl, sym, ap, ◌∙◌}
use mathlib.Core.List.{List, [], ◌∷◌, ◌++◌, append_assoc, append-nil}
use mathlib.Core.Bool.{true, false}
use mathlib.Core.Option.{Option, none, some}
use native.Mathlib.Omega.{arith}
use lib.ListN.{length, length-append}
use Rattle.document.specs.Posology.{Posology}
use Rattle.document.specs.Table.{length_of}
use Rattle.document.specs.Visit.{is_empty}
use Rattle.document.specs.Valid.{given, strings, detail_strings}
use Rattle.document.proofs.Untables.{joined_append, detail_append}

pub empty_of_length : (cs : List ℕ) → length cs ≡ 0 → is_empty cs ≡ true
empty_of_length [] e = refl
empty_of_length (c ∷ cs) e = absurd (omega arith)

pub some_of_length : (cs : List ℕ) → (length cs ≡ 0 → ⊥) → is_empty cs ≡ false
some_of_length [] e = absurd (e refl)
some_of_length (c ∷ cs) e = refl

given_is : (o : Option (List ℕ)) (k : List ℕ) → given o k ≡ given o [] ++ k
given_is none k = refl
given_is (some cs) k = joined_append cs k ∙ ap (λ (l : List ℕ). l ++ k) (sym (joined_append cs [] ∙ append-nil cs))

pub given_length : (o : Option (List ℕ)) → length (given o []) ≡ length_of o
given_length none = refl
given_length (some cs) = ap length (joined_append cs [] ∙ append-nil cs)

pub strings_parts : (p : Posology) → strings p ≡ detail_strings p.po [] ++ given p.unit [] ++ given p.appl_instr [] ++ given p.roa [] ++ given p.moa []
unfolding strings
strings_parts p =
    let D = detail_strings p.po [] in
    let U = given p.unit [] in
    let I = given p.appl_instr [] in
    let M = given p.moa [] in
    detail_append p.po (given p.unit (given p.appl_instr (given p.roa M)))
    ∙ ap (λ (l : List ℕ). D ++ l)
    (given_is p.unit (given p.appl_instr (given p.roa M))
    ∙ ap (λ (l : List ℕ). U ++ l) (given_is p.appl_instr (given p.roa M) ∙ ap (λ (l : List ℕ). I ++ l) (given_is p.roa M)))
    ∙ sym (simp append_assoc)

pub strings_size : (p : Posology) → length (strings p) ≡ length (detail_strings p.po []) + length_of p.unit + length_of p.appl_instr + length_of p.roa + length_of p.moa
strings_size p =
    ap length (strings_parts p)
    ∙ simp (length-append, given_length p.unit, given_length p.appl_instr, given_length p.roa, given_length p.moa)
