-- Words laid record by record.
use mathlib.Core.Path.{◌≡◌, ap, sym, ◌∙◌}
use mathlib.Core.List.{List, [], ◌∷◌, ◌++◌}
use Prim.Native.Nat.{ℕ, ◌+◌, ◌<◌}
use native.Mathlib.Omega.{arith}
use native.Mathlib.Numerals.{add-one}
use lib.ListN.{length, take, get_or}
use lib.Seq.{take-suc}
use Rattle.document.specs.Table.{no_record}
use Rattle.document.specs.Words.{Words, record_words, all_words, row, rows}
use Rattle.document.specs.declared.table.Record.{Record}
use Rattle.table_words.specs.Laying.{Upto}
use Rattle.document.proofs.WordRows.{records_append}
use Rattle.table_rows.specs.Storing.{written}
use Rattle.table_rows.proofs.Storing.{stored_length, front_stored}

pub one_more : (rs : List Record) (out : List ℕ) (i : ℕ) (v : Words) → length rs ≡ 64 → i < 64 → Upto rs out i → v ≡ record_words (get_or rs i no_record) → Upto rs (written out i v) (i + 1)
one_more rs out i v l h u e =
    let r = get_or rs i no_record in
    let same : rows (all_words (r ∷ [])) ≡ row v [] = ap (λ v. row v []) (sym e) in (
      omega arith,
      stored_length out i v u.1 h,
      front_stored out i v u.1 h
          ∙ ap (λ xs. xs ++ row v []) u.2
          ∙ ap (λ xs. rows (all_words (take i rs)) ++ xs) (sym same)
          ∙ sym (records_append (take i rs) (r ∷ []))
          ∙ ap (λ xs. rows (all_words xs)) (sym (take-suc rs i no_record (omega arith)))
          ∙ ap (λ m. rows (all_words (take m rs))) (sym (add-one i)),
    )
