-- Strings: what one byte does.
use Prim.Native.Nat.{ℕ, ◌≤◌}
use mathlib.Core.Path.{◌≡◌, refl, ◌∙◌}
use mathlib.Core.List.{List, [], ◌∷◌}
use mathlib.Core.Bool.{true}
use native.Mathlib.Omega.{arith}
use Rattle.std.proofs.lemmas.Bool.Decides.{nat_tests}
use Rattle.std.specs.Prelude.{Result, Ok, Err}
use Rattle.json_grammar.specs.Rows.{look}
use Rattle.json_grammar.specs.String.{after, lead, is_ascii}
use Rattle.json_grammar.specs.Part.{Stop, past, torn, string_stop, Stops}
use Rattle.json_grammar.specs.declared.part.Torn.{Torn}
use Rattle.json_grammar.specs.declared.string.Lead.TheVariants.{Ascii}
use Rattle.json_grammar.specs.declared.string.InString.{InString}
use Rattle.json_grammar.specs.declared.string.InString.TheVariants.{Plain}
use Rattle.json_grammar.specs.declared.string.CharStep.TheVariants.{Goes, Closes, Refuses}

module _ (c : InString) (b : ℕ) where
  pub string_goes : {n : InString} → after c b ≡ Goes n → (s : List ℕ) → string_stop c (b ∷ s) ≡ string_stop n s
  unfolding string_stop
  string_goes e s = rw (e, string_stop)

  pub string_closes : after c b ≡ Closes → (s : List ℕ) → string_stop c (b ∷ s) ≡ past s
  unfolding string_stop
  string_closes e s = rw (e, string_stop)

  pub string_refuses : after c b ≡ Refuses → (s : List ℕ) → string_stop c (b ∷ s) ≡ torn (b ∷ s)
  unfolding string_stop
  string_refuses e s = rw (e, string_stop)

pub string_none : (c : InString) → string_stop c [] ≡ torn []
unfolding string_stop
string_none c = refl

-- the closing quote
pub quote_closes : (b : ℕ) → b ≡ 34 → after Plain b ≡ Closes
unfolding after lead look
quote_closes b e = rw e

-- a byte that is plain ASCII is a character
pub ascii_lead : (b : ℕ) → is_ascii b ≡ true → lead b ≡ Ascii
unfolding is_ascii lead look
ascii_lead b h = grind (arith, nat_tests)

is_plain : (b : ℕ) → is_ascii b ≡ true → after Plain b ≡ Goes Plain
unfolding after
is_plain b h = rw (ascii_lead b h)

pub ascii_goes : (b : ℕ) → is_ascii b ≡ true → (s : List ℕ) → string_stop Plain (b ∷ s) ≡ string_stop Plain s
ascii_goes b h = string_goes Plain b (is_plain b h)

-- Where a string stops is said of a place before.
pub stops_from : (text : List ℕ) (at i : ℕ) (r : Result ℕ Torn) {u w : Stop} → u ≡ w → at ≤ i → Stops text i w r → Stops text at u r
stops_from text at i (Ok e) p l s = (p ∙ s.0, omega (arith, s.1), s.2)
stops_from text at i (Err q) p l s = (p ∙ s.0, s.1)
