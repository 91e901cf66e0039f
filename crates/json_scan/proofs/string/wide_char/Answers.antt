-- Each first byte leads to a state in which a byte stands for itself, and which says from where to where the second may be.
use mathlib.Core.Path.{refl, sym, ◌∙◌}
use native.Mathlib.Omega.{arith}
use Rattle.json_grammar.specs.Byte.{is_tail}
use Rattle.json_grammar.specs.String.{after, given, gather}
use Rattle.json_scan.proofs.Wide.{opens}
use Rattle.json_scan.proofs.string.wide_char.Goals as goal

pub two_bytes-requires : goal.two_bytes-requires
unfolding after given gather is_tail
two_bytes-requires c =
    opens _ _ (omega arith) (sym c.lead_of.ensures ∙ c.in-Two.is) refl (λ b. (refl, refl)) λ b. refl

pub three_bytes-requires : goal.three_bytes-requires
unfolding after given gather is_tail
three_bytes-requires c =
    opens _ _ (omega arith) (sym c.lead_of.ensures ∙ c.in-E0.is) refl (λ b. (refl, refl)) λ b. refl

pub three_bytes-requires-in-Three : goal.three_bytes-requires-in-Three
unfolding after given gather is_tail
three_bytes-requires-in-Three c =
    opens _ _ (omega arith) (sym c.lead_of.ensures ∙ c.in-Three.is) refl (λ b. (refl, refl)) λ b. refl

pub three_bytes-requires-in-Ed : goal.three_bytes-requires-in-Ed
unfolding after given gather is_tail
three_bytes-requires-in-Ed c =
    opens _ _ (omega arith) (sym c.lead_of.ensures ∙ c.in-Ed.is) refl (λ b. (refl, refl)) λ b. refl

pub four_bytes-requires : goal.four_bytes-requires
unfolding after given gather is_tail
four_bytes-requires c =
    opens _ _ (omega arith) (sym c.lead_of.ensures ∙ c.in-F0.is) refl (λ b. (refl, refl)) λ b. refl

pub four_bytes-requires-in-Four : goal.four_bytes-requires-in-Four
unfolding after given gather is_tail
four_bytes-requires-in-Four c =
    opens _ _ (omega arith) (sym c.lead_of.ensures ∙ c.in-Four.is) refl (λ b. (refl, refl)) λ b. refl

pub four_bytes-requires-in-F4 : goal.four_bytes-requires-in-F4
unfolding after given gather is_tail
four_bytes-requires-in-F4 c =
    opens _ _ (omega arith) (sym c.lead_of.ensures ∙ c.in-F4.is) refl (λ b. (refl, refl)) λ b. refl
