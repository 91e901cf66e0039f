-- The head and the words of a table that a posology makes are put as its plain text.
use Prim.Native.Nat.{ℕ}
use mathlib.Core.Path.{◌≡◌, ap, subst, ◌∙◌}
use mathlib.Core.List.{List, [], ◌++◌}
use mathlib.Core.Bool.{true}
use native.Mathlib.Omega.{arith}
use lib.ListN.{length}
use Rattle.json_grammar.specs.Tree.{Tree}
use Rattle.document.specs.Posology.{Posology}
use Rattle.document.specs.Valid.{Fits, valid, strings}
use Rattle.document.specs.Table.{table_of}
use Rattle.document.specs.Words.{all_words, rows}
use Rattle.document.specs.Untable.{posology_of}
use Rattle.document.specs.Plain.{plain, detail_tree}
use Rattle.document.specs.Answer.{laid}
use Rattle.document.specs.Write.{greatest_room, readable}
use Rattle.document.specs.Length.{greatest_length}
use Rattle.document.specs.declared.table.Head.{Head}
use Rattle.document.specs.declared.table.Table.{Table}
use Rattle.document_meaning.proofs.Lengths.{plain_within}
use Rattle.document.proofs.Tables.{own_readable}
use Rattle.document.proofs.Untabled.{untabled}
use Rattle.write_bytes.specs.Puts.{Puts}
use Rattle.write_details.specs.Prints.{DetailPrints}
use Rattle.write_posology.specs.Heads.{head_fields, Writable}
use Rattle.writer.proofs.Written.{measured, stored, writable, prints, plainly}

-- What printing a head and words promises.
abbrev pub Printed : Head → List ℕ → List ℕ → List ℕ → ℕ → List ℕ → Type 0
Printed h ws buffer before r after =
    (d : Tree) → Writable buffer h → DetailPrints ws buffer 3 0 d → Puts before 0 (head_fields buffer h d []) [] r after

module _ (purpose : ℕ) (p : Posology) (v : valid purpose p ≡ true) (f : Fits greatest_room p) (t : Table) (buffer behind : List ℕ)
    (made : t ≡ table_of p) (first : buffer ≡ strings p ++ behind) where
  stands : readable purpose t buffer ≡ true
  stands = ap (λ (u : Table). readable purpose u buffer) made ∙ ap (readable purpose (table_of p)) first ∙ own_readable purpose p behind v f

  stands_for : posology_of t buffer ≡ p
  stands_for = ap (λ (u : Table). posology_of u buffer) made ∙ ap (posology_of (table_of p)) first ∙ untabled purpose p behind v

  -- A buffer of 20,736 bytes holds every plain text.
  pub plain_put : {before after : List ℕ} {r : ℕ} → length t.records ≡ 64 → length before ≡ greatest_length
      → Printed t.head (rows (all_words t.records)) buffer before r after → (r ≡ length (plain p)) × (after ≡ laid (plain p) before)
  plain_put {before} {after} {r} n size printed =
      let most = plain_within purpose p v f in
      let puts = printed (detail_tree (posology_of t buffer).po) (writable purpose t buffer n stands) (prints purpose t buffer n stands) in
      let all = subst (λ (s : List ℕ). Puts before 0 s [] r after) (plainly purpose t buffer n stands ∙ ap plain stands_for) puts in
      (measured all (omega arith), stored all (omega arith) (omega arith))
