-- Two answers that the promise allows are equal, and so is each byte of the buffer.
use Prim.Native.Nat.{ℕ}
use mathlib.Core.Path.{◌≡◌, sym, ◌∙◌}
use mathlib.Core.List.{List}
use Rattle.std.specs.Prelude.{Result}
use Rattle.document.specs.declared.refusal.Refusal.{Refusal}
use Rattle.document_meaning.proofs.Numbered.{length_one}
use Rattle.rewriter.specs.Rewriting.{Rewrites}

pub determined_rewrite : {purpose : ℕ} {text before after after' : List ℕ} {r r' : Result ℕ Refusal} → Rewrites purpose text before r after
    → Rewrites purpose text before r' after' → (r ≡ r') × (after ≡ after')
determined_rewrite a b = (length_one _ _ (a.answer ∙ sym b.answer), a.left ∙ sym b.left)
