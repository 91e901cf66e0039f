-- The states of a string in which a byte does what it does in no other.
use Prim.Native.Nat.{ℕ, ◌+◌, ◌*◌, ◌%◌, ◌<◌}
use mathlib.Core.Path.{◌≡◌, refl}
use mathlib.Core.List.{[]}
use native.Mathlib.Omega.{arith}
use Rattle.json_grammar.specs.String.{gather, given}
use Rattle.json_grammar.specs.declared.string.InString.{InString}
use Rattle.json_grammar.specs.declared.string.InString.TheVariants.{Plain, Escape, Unit, UnitD, Digit3, Digit2, Digit1, High2, High1, Slash, LetterU, SecondD, SecondC, Tail3, Tail2, Tail1, AfterE0, AfterEd, AfterF0, AfterF4}

pub gathers_nothing : (s : InString) (v b : ℕ) → (s ≡ Unit → ⊥) → (s ≡ UnitD → ⊥) → (s ≡ Digit3 → ⊥) → (s ≡ Digit2 → ⊥) → (s ≡ High2 → ⊥) → (s ≡ High1 → ⊥) → (s ≡ Slash → ⊥) → (s ≡ LetterU → ⊥) → (s ≡ SecondD → ⊥) → (s ≡ SecondC → ⊥) → 0 ≡ gather s v b
unfolding gather
gathers_nothing Plain v b _ _ _ _ _ _ _ _ _ _ = refl
gathers_nothing Escape v b _ _ _ _ _ _ _ _ _ _ = refl
gathers_nothing Unit v b n _ _ _ _ _ _ _ _ _ = absurd (n refl)
gathers_nothing UnitD v b _ n _ _ _ _ _ _ _ _ = absurd (n refl)
gathers_nothing Digit3 v b _ _ n _ _ _ _ _ _ _ = absurd (n refl)
gathers_nothing Digit2 v b _ _ _ n _ _ _ _ _ _ = absurd (n refl)
gathers_nothing Digit1 v b _ _ _ _ _ _ _ _ _ _ = refl
gathers_nothing High2 v b _ _ _ _ n _ _ _ _ _ = absurd (n refl)
gathers_nothing High1 v b _ _ _ _ _ n _ _ _ _ = absurd (n refl)
gathers_nothing Slash v b _ _ _ _ _ _ n _ _ _ = absurd (n refl)
gathers_nothing LetterU v b _ _ _ _ _ _ _ n _ _ = absurd (n refl)
gathers_nothing SecondD v b _ _ _ _ _ _ _ _ n _ = absurd (n refl)
gathers_nothing SecondC v b _ _ _ _ _ _ _ _ _ n = absurd (n refl)
gathers_nothing Tail3 v b _ _ _ _ _ _ _ _ _ _ = refl
gathers_nothing Tail2 v b _ _ _ _ _ _ _ _ _ _ = refl
gathers_nothing Tail1 v b _ _ _ _ _ _ _ _ _ _ = refl
gathers_nothing AfterE0 v b _ _ _ _ _ _ _ _ _ _ = refl
gathers_nothing AfterEd v b _ _ _ _ _ _ _ _ _ _ = refl
gathers_nothing AfterF0 v b _ _ _ _ _ _ _ _ _ _ = refl
gathers_nothing AfterF4 v b _ _ _ _ _ _ _ _ _ _ = refl

pub gives_nothing : (s : InString) (v b : ℕ) → (s ≡ Plain → ⊥) → (s ≡ Escape → ⊥) → (s ≡ Digit1 → ⊥) → (s ≡ Tail3 → ⊥) → (s ≡ Tail2 → ⊥) → (s ≡ Tail1 → ⊥) → (s ≡ AfterE0 → ⊥) → (s ≡ AfterEd → ⊥) → (s ≡ AfterF0 → ⊥) → (s ≡ AfterF4 → ⊥) → [] ≡ given s v b
unfolding given
gives_nothing Plain v b n _ _ _ _ _ _ _ _ _ = absurd (n refl)
gives_nothing Escape v b _ n _ _ _ _ _ _ _ _ = absurd (n refl)
gives_nothing Unit v b _ _ _ _ _ _ _ _ _ _ = refl
gives_nothing UnitD v b _ _ _ _ _ _ _ _ _ _ = refl
gives_nothing Digit3 v b _ _ _ _ _ _ _ _ _ _ = refl
gives_nothing Digit2 v b _ _ _ _ _ _ _ _ _ _ = refl
gives_nothing Digit1 v b _ _ n _ _ _ _ _ _ _ = absurd (n refl)
gives_nothing High2 v b _ _ _ _ _ _ _ _ _ _ = refl
gives_nothing High1 v b _ _ _ _ _ _ _ _ _ _ = refl
gives_nothing Slash v b _ _ _ _ _ _ _ _ _ _ = refl
gives_nothing LetterU v b _ _ _ _ _ _ _ _ _ _ = refl
gives_nothing SecondD v b _ _ _ _ _ _ _ _ _ _ = refl
gives_nothing SecondC v b _ _ _ _ _ _ _ _ _ _ = refl
gives_nothing Tail3 v b _ _ _ n _ _ _ _ _ _ = absurd (n refl)
gives_nothing Tail2 v b _ _ _ _ n _ _ _ _ _ = absurd (n refl)
gives_nothing Tail1 v b _ _ _ _ _ n _ _ _ _ = absurd (n refl)
gives_nothing AfterE0 v b _ _ _ _ _ _ n _ _ _ = absurd (n refl)
gives_nothing AfterEd v b _ _ _ _ _ _ _ n _ _ = absurd (n refl)
gives_nothing AfterF0 v b _ _ _ _ _ _ _ _ n _ = absurd (n refl)
gives_nothing AfterF4 v b _ _ _ _ _ _ _ _ _ n = absurd (n refl)

pub seven_kept : (v d : ℕ) → d < 16 → v % 0x10000000 * 16 + d ≡ (v * 16 + d) % 0x100000000
seven_kept v d h = omega arith
