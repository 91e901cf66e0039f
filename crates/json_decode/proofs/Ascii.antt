-- A plain ASCII character of a string stands for itself.
use Prim.Native.Nat.{ℕ, ◌+◌, ◌<◌}
use mathlib.Core.Path.{◌≡◌, refl}
use mathlib.Core.List.{List, [], ◌∷◌}
use lib.ListN.{length, get_or}
use native.Mathlib.Omega.{arith}
use borrow.Author.Tests.{ne_eqb}
use Rattle.json_grammar.specs.Rows.{look}
use Rattle.json_grammar.specs.String.{lead, after, given, gather}
use Rattle.json_grammar.specs.declared.string.Lead.TheVariants.{Ascii}
use Rattle.json_grammar.specs.declared.string.InString.TheVariants.{Plain}
use Rattle.json_grammar.specs.declared.string.CharStep.TheVariants.{Goes}
use Rattle.json_decode.specs.Characters.{plain_from}
use Rattle.json_decode.proofs.Ahead.{rest_goes}

module _ (b : ℕ) (e : lead b ≡ Ascii) where
  ascii_goes : after Plain b ≡ Goes Plain
  unfolding after
  ascii_goes = rw e

  pub no_backslash : b ≡ 92 → ⊥
  unfolding lead look
  no_backslash h = let z : lead 92 ≡ Ascii = rw h at e in let n : ◌≡◌ {A = ℕ} 0 1 = cc in omega arith

  ascii_gives : given Plain 0 b ≡ b ∷ []
  unfolding given
  ascii_gives = rw (ne_eqb b 92 no_backslash)

  ascii_gathers : gather Plain 0 b ≡ 0
  unfolding gather
  ascii_gathers = refl

pub ascii_from : (text : List ℕ) (i : ℕ) → i < length text → lead (get_or text i 0) ≡ Ascii → plain_from text i ≡ get_or text i 0 ∷ plain_from text (i + 1)
ascii_from text i h e = rw (ascii_gives (get_or text i 0) e, ascii_gathers (get_or text i 0) e) at (rest_goes text Plain 0 i h (ascii_goes (get_or text i 0) e))
