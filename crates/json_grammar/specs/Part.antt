-- Where a part of a text ends, a string, a number or a word: the place behind it, or the first byte that breaks it.
use Rattle.std.specs.Prelude.{ℕ, ◌≤◌, ◌≡◌, List, [], ◌∷◌, cond, length, drop, eqb, Some, None, Result, Ok, Err}
use Rattle.json_grammar.specs.Rows.{choose}
use Rattle.json_grammar.specs.Tree.{Place}
use Rattle.json_grammar.specs.String.{after}
use Rattle.json_grammar.specs.Number.{onward, may_end}
use Rattle.json_grammar.specs.declared.string.InString.{InString}
use Rattle.json_grammar.specs.declared.string.CharStep.TheVariants.{Goes, Closes, Refuses}
use Rattle.json_grammar.specs.declared.number.InNumber.{InNumber}
use Rattle.json_grammar.specs.declared.part.Torn.{Torn}

pub data Stop : Type 0 where
  past : Place → Stop
  torn : Place → Stop

-- From `at` the code skips to `r`, of which f says the same.
pub record Skips {A : Type 0} (f : Place → A) (text : List ℕ) (at r : ℕ) : Type 0 where
  pub same : f (drop r text) ≡ f (drop at text)
  pub ahead : at ≤ r
  pub inside : at ≤ length text → r ≤ length text

unfoldable pub string_stop : InString → List ℕ → Stop
unfolding after
string_stop c [] = torn []
string_stop c (b ∷ s) = elim (after c b) [ Goes n ↦ string_stop n s | Closes ↦ past s | Refuses ↦ torn (b ∷ s) ]

abbrev pub if_may_end : InNumber → Place → Stop
if_may_end n p = cond (may_end n) (past p) (torn p)

unfoldable pub number_stop : InNumber → List ℕ → Stop
unfolding onward
number_stop n [] = if_may_end n []
number_stop n (b ∷ s) = elim (onward n b) [ Some m ↦ number_stop m s | None ↦ if_may_end n (b ∷ s) ]

unfoldable pub word_stop : List ℕ → List ℕ → Stop
word_stop [] s = past s
word_stop (w ∷ ws) [] = torn []
word_stop (w ∷ ws) (b ∷ s) = choose (eqb b w) (λ _. word_stop ws s) λ _. torn (b ∷ s)

-- The code's answer to a part that begins at `at`: it is at a place of the text.
abbrev pub Stops : List ℕ → ℕ → Stop → Result ℕ Torn → Type 0
Stops text at w (Ok e) = (w ≡ past (drop e text)) × (at ≤ e) × (e ≤ length text)
Stops text at w (Err t) = (w ≡ torn (drop t.0 text)) × (t.0 ≤ length text)
