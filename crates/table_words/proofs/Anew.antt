-- Words made anew record by record, in place.
use Prim.Native.Nat.{ℕ, ◌+◌, ◌*◌, ◌≤◌, ◌<◌}
use mathlib.Core.Path.{◌≡◌, refl, ap, sym, ◌∙◌}
use mathlib.Core.List.{List}
use lib.ListN.{length, drop, get_or}
use lib.Seq.{drop-drop}
use Rattle.document.specs.Table.{no_record}
use Rattle.document.specs.Words.{Words, width, record_words}
use Rattle.document.specs.declared.table.Record.{Record}
use Rattle.table_words.specs.Laying.{Upto, Unused}
use Rattle.document.proofs.WordRows.{next_row}
use Rattle.table_rows.specs.Storing.{written}
use Rattle.table_words.proofs.Laid.{one_more}

module _ (rs : List Record) (out : List ℕ) (i : ℕ) (h : i < 64) (u : Upto rs out i) where
  pub made_more : (w : Words) (r : Record) → length rs ≡ 64 → r ≡ get_or rs i no_record → w ≡ record_words r → Upto rs (written out i w) (i + 1)
  made_more w r n e f = one_more rs out i w n h u (f ∙ ap record_words e)

  pub unused_more : (from : ℕ) → Unused rs from → from ≤ i → Upto rs (written out i (record_words no_record)) (i + 1)
  unused_more from z f = made_more (record_words no_record) no_record z.size (sym (z.each i f h)) refl

pub one_behind : (out before : List ℕ) (i : ℕ) → drop (i * width) out ≡ drop (i * width) before → drop ((i + 1) * width) out ≡ drop ((i + 1) * width) before
one_behind out before i e =
    ap (λ n. drop n out) (next_row i) ∙ sym (drop-drop width (i * width) out) ∙ ap (drop width) e ∙ drop-drop width (i * width) before ∙ ap (λ n. drop n before) (sym (next_row i))
