-- What a field tells whatever stands in the text: a value that was found stands in it, and an integer lies in its range.
use Prim.Native.Nat.{ℕ, ◌<◌, ◌≤◌}
use mathlib.Core.Path.{◌≡◌, refl, sym, ap, ◌∙◌}
use mathlib.Core.List.{List, []}
use mathlib.Core.Logic.{◌≢◌}
use mathlib.Core.Bool.{Bool, true, false, cond, ◌&&◌}
use native.Mathlib.Omega.{arith}
use native.Mathlib.Decide.{dec_le}
use lib.ListN.{length, drop_of_length-le}
use lib.Dec.{leb}
use borrow.Author.Tests.{leb-true}
use Rattle.std.specs.Prelude.{Result, Ok, Err}
use Rattle.json_grammar.specs.Rows.{look, choose}
use Rattle.json_move.specs.Moving.{kind_of}
use Rattle.json_move.specs.declared.Kind.{Kind}
use Rattle.json_move.specs.declared.Kind.TheVariants as K
use Rattle.document_numbers.specs.Number.{Integer, integer_in, carried, negative, rounded, all_zero, behind_point}
use Rattle.document_numbers.specs.declared.Whole.{Whole}
use Rattle.document_numbers.specs.declared.NumberError.TheVariants as N
use Rattle.document.specs.declared.refusal.Refusal.{Refusal}
use Rattle.read_fields.specs.Fields.{Inside}
use Rattle.read_fields.specs.Reading.{OfKind}

kind_none : kind_of [] ≡ K.Number
unfolding kind_of look
kind_none = refl

-- A value of a kind that no end of a text has stands in the text.
found_inside : (text : List ℕ) (v : ℕ) {k : Kind} → K.Number ≢ k → (r : Result ℕ Refusal) → OfKind text v k r → Inside text r
found_inside text v n (Ok at) e = rw e.1 (go (dec_le (length text) v))
  where
    go : Dec (length text ≤ v) → v < length text
    go (yes h) = absurd (n (sym kind_none ∙ ap kind_of (sym (drop_of_length-le text h)) ∙ e.0))
    go (no h) = omega arith
found_inside text v n (Err r) e = tt

-- An integer.
pub whole_within : (lo hi : ℕ) (raw : List ℕ) {i : Whole} → Ok i ≡ integer_in lo hi raw → (lo ≤ i.value) × (i.value ≤ hi)
unfolding integer_in
whole_within lo hi raw {i} e = go (carried raw) (negative raw) (leb lo (rounded raw)) refl (leb (rounded raw) hi) refl (sym e)
  where
    go : (a b x : Bool) → leb lo (rounded raw) ≡ x → (y : Bool) → leb (rounded raw) hi ≡ y
        → ◌≡◌ {A = Integer} (choose a (λ _. cond b (Err N.Outside) (cond (x && y) (Ok (record { value = rounded raw; exact = all_zero (behind_point raw) })) (Err N.Outside))) λ _. Err N.NotCarried) (Ok i) → (lo ≤ i.value) × (i.value ≤ hi)
    go true false true f true g e =
        let k : rounded raw ≡ i.value = cc in
        (omega (arith, leb-true lo (rounded raw) f), omega (arith, leb-true (rounded raw) hi g))
    go true false true f false g e = cc
    go true false false f y g e = cc
    go true true x f y g e = cc
    go false b x f y g e = cc

pub object_inside : (text : List ℕ) (v : ℕ) (r : Result ℕ Refusal) → OfKind text v K.Object r → Inside text r
object_inside text v r e = found_inside text v (λ k. cc) r e

pub array_inside : (text : List ℕ) (v : ℕ) (r : Result ℕ Refusal) → OfKind text v K.Array r → Inside text r
array_inside text v r e = found_inside text v (λ k. cc) r e
