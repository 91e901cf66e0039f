-- A number's last digit but one.
use Rattle.std.specs.Prelude.{List, ◌∷◌, ℕ, ◌+◌, ◌/◌, ◌%◌, leb}
use Rattle.json_grammar.specs.Rows.{choose}

-- In front of k, where the number has one.
unfoldable pub tens : ℕ → List ℕ → List ℕ
tens n k = choose (leb n 9) (λ _. k) (λ _. (48 + n / 10 % 10) ∷ k)
