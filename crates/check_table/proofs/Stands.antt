-- What a readable table is: that of one valid posology, whose words and strings stand first.
use mathlib.Core.Path.{◌≡◌, refl, ap, sym, subst, ◌∙◌}
use mathlib.Core.List.{List, [], ◌++◌}
use mathlib.Core.Bool.{true}
use Prim.Native.Nat.{ℕ, ◌-◌, ◌≤◌}
use native.Mathlib.Omega.{arith}
use lib.ListN.{length, drop, replicate, take-append-drop}
use Rattle.document.specs.Posology.{Posology}
use Rattle.document.specs.Valid.{valid, detail_records, strings}
use Rattle.document.specs.Table.{no_record, detail_rows, table_of}
use Rattle.document.specs.Words.{all_words, rows}
use Rattle.document.specs.Untable.{posology_of}
use Rattle.document.specs.Write.{readable}
use Rattle.document.specs.declared.table.Table.{Table}
use Rattle.document.proofs.ValidParts.{few_records}
use Rattle.document.proofs.Untabled.{detail_length, filled_is}
use Rattle.document.proofs.Tables.{stands_for}
use Rattle.table_rows.specs.Standing.{Lies}
use Rattle.document.proofs.WordRows.{all_length, all_append}
use Rattle.table_rows.proofs.Standing.{rows_lie, front_lies}

pub record Standing (purpose : ℕ) (t : Table) (buffer : List ℕ) : Type 0 where
  pub is : Posology
  pub valid : valid purpose is ≡ true
  pub table : t ≡ table_of is
  pub read : posology_of t buffer ≡ is
  pub fits : length (strings is) ≤ 2048
  pub behind : List ℕ
  pub strings_first : buffer ≡ strings is ++ behind
  pub lies : Lies (rows (all_words t.records)) 0 (all_words (detail_rows is.po 0 []))
  pub few : detail_records is.po ≤ 64

-- The records of its table: those of the detail, and unused ones.
pub records_of_lem : (p : Posology) → detail_records p.po ≤ 64 → (table_of p).records ≡ detail_rows p.po 0 [] ++ replicate (64 - length (detail_rows p.po 0 [])) no_record
unfolding table_of
records_of_lem p few = let n = detail_length p.po 0 [] in filled_is 64 (detail_rows p.po 0 []) (omega arith)

pub readable_stands : (purpose : ℕ) (t : Table) (buffer : List ℕ) → length t.records ≡ 64 → readable purpose t buffer ≡ true → Standing purpose t buffer
readable_stands purpose t buffer n h =
    let s = stands_for purpose t buffer h in
    let p = s.is in
    let few = few_records purpose p s.valid in
    let rs = detail_rows p.po 0 [] in
    let rest = replicate (64 - length rs) no_record in
    let all : Lies (rows (all_words t.records)) 0 (all_words t.records) = rows_lie (rows (all_words t.records)) (all_words t.records) [] 0 refl refl (omega (arith, all_length t.records)) in
    record {
      is = p;
      valid = s.valid;
      table = sym s.table;
      read = s.read;
      fits = s.fits;
      behind = drop (length (strings p)) buffer;
      strings_first = sym (ap (λ x. x ++ drop (length (strings p)) buffer) (sym s.strings_first) ∙ take-append-drop (length (strings p)) buffer);
      lies = front_lies (rows (all_words t.records)) 0 (all_words rs) (all_words rest) (subst (λ x. Lies (rows (all_words t.records)) 0 x) (ap (λ u. all_words u.records) (sym s.table) ∙ ap all_words (records_of_lem p few) ∙ all_append rs rest) all);
      few = few;
    }
